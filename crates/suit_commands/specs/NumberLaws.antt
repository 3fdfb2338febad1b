-- Laws of the numbers of all procedures of the grammar.
use Rattle.std.specs.Prelude.{◌≡◌, ◌≤◌, ◌<◌, ◌*◌, ℕ}
use Rattle.suit_commands.specs.Tree.{PlanTree}
use Rattle.suit_commands.specs.Allowed.{IsPlan}
use Rattle.suit_commands.specs.Numbers.{work_number, spread_number, width_number, on_number}
use Rattle.suit_commands.specs.Targets.{IsTarget}

pub record HasWays (plan : PlanTree) : Type 0 where
  -- each sequence may complete
  pub shared : 1 ≤ on_number plan plan.shared
  pub first : 1 ≤ on_number plan plan.first
  pub second : 1 ≤ on_number plan plan.second
  pub third : 1 ≤ on_number plan plan.third
  pub spread : 1 ≤ spread_number plan
  pub width : width_number plan ≡ work_number plan * spread_number plan
  pub least : work_number plan ≤ width_number plan

abbrev pub NumberLaws : Type 0
NumberLaws = (plan : PlanTree) → IsPlan plan → HasWays plan

-- a component that a procedure of the grammar may write is one of the manifest
abbrev pub TargetLaws : Type 0
TargetLaws =
    (plan : PlanTree) → IsPlan plan → (component : ℕ) → IsTarget plan component
    → component < plan.count
