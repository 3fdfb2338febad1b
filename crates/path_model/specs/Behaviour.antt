-- The events that may follow a state, and how they may end.
use Rattle.std.specs.Prelude.{◌≡◌, ℕ, ◌⊎◌, Bool, List, [], ◌∷◌, ◌++◌}
use Rattle.path_model.specs.declared.event.Event.{Event}
use Rattle.suit_params.specs.InForce.{Parameters}

-- the parameters in force, the selected components in order, and soft failure; that soft failure belongs to the running
-- sequence, and not to a component, is this project's own choice
pub record State : Type 0 where
  pub parameters : Parameters
  pub selection : List ℕ
  pub soft_failure : Bool

-- done, with a state; a failed condition, with its place and the soft failure of its sequence; or a failed directive,
-- with its place
pub data Ending : Type 0 where
  Done : (state : State) → Ending
  Condition : (place : ℕ) (soft_failure : Bool) → Ending
  Directive : (place : ℕ) → Ending

-- the ending is a failed condition or a failed directive
abbrev pub IsFailure : Ending → Type 0
IsFailure (Done state) = ⊥
IsFailure (Condition place soft_failure) = Unit {0}
IsFailure (Directive place) = Unit {0}

-- the events and the endings that may follow each state
abbrev pub Behaviour : Type 1
Behaviour = State → List Event → Ending → Type 0

-- no event comes, and this state follows
abbrev pub Becomes : State → List Event → Ending → Type 0
Becomes next events ending = (events ≡ []) × (ending ≡ Done next)

-- the first behaviour, and then the second from where the first is done; a failure of the first ends both
abbrev pub Then : Behaviour → Behaviour → Behaviour
Then first second state events ending =
    (IsFailure ending × first state events ending)
    ⊎ ((middle : State) × (before : List Event) × (after : List Event) × (events ≡ before ++ after)
    × first state before (Done middle) × second middle after ending)

-- the behaviour at each of these components, in order
abbrev pub Each : (ℕ → Behaviour) → List ℕ → Behaviour
Each at [] state = Becomes state
Each at (component ∷ components) state = Then (at component) (Each at components) state

-- the behaviour at each selected component, in order
abbrev pub EachSelected : (ℕ → Behaviour) → Behaviour
EachSelected at state = Each at state.selection state
