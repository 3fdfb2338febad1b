-- Where the components of a manifest are in a layout.
use Rattle.std.specs.Prelude.{◌≡◌, ◌≢◌, ◌<◌, ◌≤◌, ℕ, List, length, slice_index, slice_index_or}
use Rattle.flash_layout.specs.declared.layout.Entry.{Entry}
use Rattle.flash_layout.specs.declared.place.Places.{Places}

-- the component with this identifier has this index in the layout
abbrev pub HasPlace : List Entry → List (List ℕ) → ℕ → Type 0
HasPlace layout id i =
    (i < length layout) × ((d : Entry) → (slice_index_or layout i d).identifier ≡ id)

-- no component of the layout has this identifier
abbrev pub IsUnknown : List Entry → List (List ℕ) → Type 0
IsUnknown layout id = (i : ℕ) → HasPlace layout id i → ⊥

-- each component has its index in the layout, and the entries after the last one are 0
pub record ArePlaces (layout : List Entry) (ids : List (List (List ℕ))) (p : Places) : Type 0 where
  pub count : p.count ≡ length ids
  pub each : (k : ℕ) (d : List (List ℕ)) → k < length ids
      → HasPlace layout (slice_index_or ids k d) (slice_index p.layout_index k)
  pub rest : (k : ℕ) → length ids ≤ k → slice_index p.layout_index k ≡ 0

-- components with different identifiers have different places
abbrev pub HaveOtherPlaces : List (List (List ℕ)) → Places → Type 0
HaveOtherPlaces ids p =
    (j k : ℕ) (d : List (List ℕ)) → j < k → k < length ids
    → slice_index_or ids j d ≢ slice_index_or ids k d
    → slice_index p.layout_index j ≢ slice_index p.layout_index k

-- this is the first component that the layout does not have
pub record IsFirstUnknown (layout : List Entry) (ids : List (List (List ℕ))) (component : ℕ)
    : Type 0 where
  pub inside : component < length ids
  pub lacks : (d : List (List ℕ)) → IsUnknown layout (slice_index_or ids component d)
  pub before : (k : ℕ) (d : List (List ℕ)) → k < component
      → (i : ℕ) × HasPlace layout (slice_index_or ids k d) i
