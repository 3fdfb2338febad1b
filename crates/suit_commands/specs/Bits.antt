-- Sets of components as bits of a number.
use Rattle.std.specs.Prelude.{◌≡◌, ℕ, ◌-◌, ◌^◌, List, [], ◌∷◌, bit_or}
use Rattle.std.specs.Int.{bit_at}
use Rattle.suit_commands.specs.declared.selection.Selection.{Selection}
use Rattle.suit_commands.specs.declared.selection.Selection.TheVariants.{One, All, Listed}

-- the component is in the set
abbrev pub HasBit : ℕ → ℕ → Type 0
HasBit bits component = bit_at bits component ≡ 1

-- the bits, with those of the listed components set too
abbrev pub listed_bits : List ℕ → ℕ → ℕ
listed_bits [] bits = bits
listed_bits (i ∷ is) bits = listed_bits is (bit_or bits (2 ^ i))

-- the components that a selection names, given the number of components
abbrev pub selection_bits : Selection → ℕ → ℕ
selection_bits (One component) count = 2 ^ component
selection_bits All count = 2 ^ count - 1
selection_bits (Listed components) count = listed_bits components 0
