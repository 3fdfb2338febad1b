-- How many events a path has (this project's own bound).
use Rattle.std.specs.Prelude.{◌≡◌, ◌≢◌, ◌≤◌, ◌+◌, ◌*◌, ℕ, suc, List, [], ◌∷◌, ◌++◌}
use Rattle.suit_params.specs.declared.param.Param.{Param}
use Rattle.path_model.specs.declared.identity.Identity.{Identity}
use Rattle.path_model.specs.declared.event.Event.{Event}
use Rattle.path_model.specs.declared.event.Event.TheVariants.{Set}
use Rattle.suit_commands.specs.Tree.{PlanTree}
use Rattle.suit_commands.specs.Numbers.{work_number}
use Rattle.path_model.specs.Path.{Path}

-- how many of these events are not `Set`
abbrev pub told_number : List Event → ℕ
told_number [] = 0
told_number (Set component param ∷ events) = told_number events
told_number (_ ∷ events) = suc (told_number events)

-- this number counts one by one: it is the sum of two parts, 0 for an event that sets a parameter, and 1 for any other
pub record CountsEvents : Type 0 where
  pub parts : (front rest : List Event)
      → told_number (front ++ rest) ≡ told_number front + told_number rest
  pub setting : (component : ℕ) (param : Param) → told_number (Set component param ∷ []) ≡ 0
  pub other : (event : Event) → ((component : ℕ) (param : Param) → event ≢ Set component param)
      → told_number (event ∷ []) ≡ 1

-- on a path this number is at most three times the work of the procedure
abbrev pub PathsBounded : Type 0
PathsBounded =
    (plan : PlanTree) (identities : List Identity) (events : List Event)
    → Path plan identities events
    → told_number events ≤ 3 * work_number plan
