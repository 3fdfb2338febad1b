-- Runs in order, and endings with another selection, as the laws of runs say them.
use Rattle.std.specs.Prelude.{◌≡◌, ℕ, ◌⊎◌, Bool, List, ◌++◌}
use Rattle.path_model.specs.declared.event.Event.{Event}
use Rattle.path_model.specs.Behaviour.{State, Ending, Done, Condition, Directive}

-- the events and the endings that are possible
abbrev pub Course : Type 1
Course = List Event → Ending → Type 0

-- the first course fails, by a condition or a directive, and so does the whole, whatever soft failure is
abbrev pub FirstFails : Course → Course
FirstFails first events ending =
    ((place : ℕ) × (soft_failure : Bool) × first events (Condition place soft_failure)
    × (ending ≡ Condition place soft_failure))
    ⊎ ((place : ℕ) × first events (Directive place) × (ending ≡ Directive place))

-- the first course is done, and the second begins in the state that it left
abbrev pub BothInTurn : Course → (State → Course) → Course
BothInTurn first second events ending =
    (middle : State) × (before : List Event) × (after : List Event) × (events ≡ before ++ after)
    × first before (Done middle) × second middle after ending

-- the first course, and then the second from where the first is done
abbrev pub InTurn : Course → (State → Course) → Course
InTurn first second events ending =
    FirstFails first events ending ⊎ BothInTurn first second events ending

-- a state with another selection
abbrev pub with_selected : State → List ℕ → State
with_selected state selection =
    record {
      parameters = state.parameters;
      selection = selection;
      soft_failure = state.soft_failure;
    }

-- the ending with this selection
abbrev pub putting_back : List ℕ → Ending → Ending
putting_back selection (Done state) = Done (with_selected state selection)
putting_back selection (Condition place soft_failure) = Condition place soft_failure
putting_back selection (Directive place) = Directive place
