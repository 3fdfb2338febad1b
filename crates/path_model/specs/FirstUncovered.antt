-- The first invoke of a list of events that is not covered.
use Rattle.std.specs.Prelude.{◌≡◌, ◌≢◌, ◌<◌, ℕ, List, Option, Some, None, length}
use Rattle.suit_params.specs.declared.digest.Digest.{Digest}
use Rattle.path_model.specs.declared.event.Event.{Event}
use Rattle.path_model.specs.declared.event.Event.TheVariants.{Matched, Wrote}
use Rattle.path_model.specs.declared.cover.Bearing.{Bearing}
use Rattle.path_model.specs.declared.cover.Bearing.TheVariants as bearings
use Rattle.path_model.specs.Safe.{Covered, AllCovered}

-- the event at this index is not covered, and all before it are
pub record IsUncoveredFirst (events : List Event) (index : ℕ) : Type 0 where
  pub within : index < length events
  pub uncovered : Covered events index → ⊥
  pub earlier : (i : ℕ) → i < index → Covered events i

-- the index of the first uncovered event, or none if all are covered
abbrev pub IsFirstUncovered : List Event → Option ℕ → Type 0
IsFirstUncovered events None = AllCovered events
IsFirstUncovered events (Some index) = IsUncoveredFirst events index

-- what an event does to the match of a component under a digest and a size
abbrev pub Bears : Event → ℕ → Digest → Option ℕ → Bearing → Type 0
Bears event component digest size bearings.Matches = event ≡ Matched component digest size
Bears event component digest size bearings.Ends = event ≡ Wrote component
Bears event component digest size bearings.Leaves =
    (event ≢ Matched component digest size) × (event ≢ Wrote component)
