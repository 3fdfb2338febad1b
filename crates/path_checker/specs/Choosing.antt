-- The identities that are told with a path.
use Rattle.std.specs.Prelude.{◌<◌, ℕ, List}
use Rattle.std.specs.List.{AllByRecursion}
use Rattle.path_model.specs.declared.identity.Identity.{Identity}
use Rattle.path_model.specs.Path.{IsIdentity}
use Rattle.path_checker.specs.declared.judge_plan.facts.Knowledge.{Knowledge}
use Rattle.path_checker.specs.Exploring.{In}
use Rattle.path_checker.specs.Knowing.{Allows}

-- the least number that is not in the list
pub record IsLeastOutside (numbers : List ℕ) (number : ℕ) : Type 0 where
  pub outside : In number numbers → ⊥
  pub least : (other : ℕ) → other < number → In other numbers

-- the facts allow these identities, and each of them is well formed
pub record IsChosen (facts : List Knowledge) (identities : List Identity) : Type 0 where
  pub allowed : Allows facts identities
  pub bounds : AllByRecursion IsIdentity identities
