-- The indices that a selection in bytes names.
use Rattle.std.specs.Prelude.{◌<◌, ◌+◌, ◌^◌, ℕ, List, [], ◌∷◌, length}
use Rattle.std.specs.List.{range_with_len}
use Rattle.det_cbor.specs.Position.{Position}
use Rattle.suit_cursor.specs.declared.index_view.Chosen.{Chosen}
use Rattle.suit_cursor.specs.declared.index_view.Chosen.TheVariants.{One, All, Listed}
use Rattle.suit_cursor.specs.declared.index_view.ListedIndices.{ListedIndices}
use Rattle.suit_cursor.specs.LentParts.{lent_indices, AreIndices}

-- the position of the first index
abbrev pub list_position : ListedIndices → Position
list_position l = record { left = l.bytes.now; place = l.place }

-- the indices of the list
abbrev pub listed_in : ListedIndices → List ℕ
listed_in l = lent_indices l.count l.list l.elements (list_position l)

-- the indices that the selection names, in order
abbrev pub chosen_indices : Chosen → List ℕ
chosen_indices (One component) = component ∷ []
chosen_indices (All count) = range_with_len 0 count
chosen_indices (Listed l) = listed_in l

-- the indices of the list can be read, and its places are 64-bit numbers
pub record IsListed (l : ListedIndices) : Type 0 where
  pub indices : AreIndices l.count l.list l.elements (list_position l)
  pub places : l.place + length l.bytes.now < 2 ^ 64

-- the same for a selection that is a list
abbrev pub IsChosen : Chosen → Type 0
IsChosen (Listed l) = IsListed l
IsChosen _ = Unit {0}
