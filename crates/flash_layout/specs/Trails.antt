-- The outcomes of free steps that a trail keeps across power losses and recalls (this project's own choices).
use Rattle.std.specs.Prelude.{◌≡◌, ◌≤◌, ◌+◌, ℕ, Bool, List, [], ◌∷◌, ◌++◌, Option, Some, None}
use Rattle.std.specs.List.{AllByRecursion}
use Rattle.suit_edge.specs.declared.edge.Edge.{Edge}
use Rattle.suit_edge.specs.declared.edge.Edge.TheVariants as edge
use Rattle.suit_edge.specs.Flash.{Flash, Now}
use Rattle.suit_edge.specs.Ranges.{Range}

-- the next outcome was taken from those that were left, if any was left
abbrev pub IsTaken : Option Bool → List Bool → List Bool → Type 0
IsTaken None before after = (before ≡ []) × (after ≡ [])
IsTaken (Some outcome) before after = before ≡ outcome ∷ after

-- the list after an outcome was recalled, if there was one
abbrev pub list_with : List Bool → Option Bool → List Bool
list_with list None = list
list_with list (Some outcome) = list ++ outcome ∷ []

-- the list after an outcome was to be kept
abbrev pub list_after : List Bool → Edge → Bool → List Bool
list_after list edge.Done passed = list ++ passed ∷ []
list_after list edge.Failed passed = list

-- this holds of each image that a power loss now may leave, and so of what reads return
abbrev pub HoldsNow : (List ℕ → Type 0) → Flash → Type 0
HoldsNow Holds flash = (image : List ℕ) → Now flash image → Holds image

-- the ranges are inside a flash of this size
abbrev pub LieWithin : ℕ → List Range → Type 0
LieWithin size ranges = AllByRecursion (λ (range : Range). range.place + range.size ≤ size) ranges
