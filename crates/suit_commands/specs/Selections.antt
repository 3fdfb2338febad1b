-- Which components a selection names (draft-ietf-suit-manifest-25, section 8.4.10.1).
use Rattle.std.specs.Prelude.{◌≡◌, ◌⊎◌, ℕ, List, [], ◌∷◌}
use Rattle.std.specs.List.{range_with_len}
use Rattle.suit_commands.specs.declared.selection.Selection.{Selection}
use Rattle.suit_commands.specs.declared.selection.Selection.TheVariants.{One, All, Listed}
use Rattle.suit_commands.specs.Tree.{CommandTree, Index}

-- the indices that the selection names, in order, given the number of components
abbrev pub selected_by : Selection → ℕ → List ℕ
selected_by (One component) count = component ∷ []
selected_by All count = range_with_len 0 count
selected_by (Listed components) count = components

-- the components selected after a command
abbrev pub selected_after : CommandTree → ℕ → List ℕ → List ℕ
selected_after (Index selection) count selected = selected_by selection count
selected_after _ count selected = selected

-- the index is in the list
abbrev pub Among : ℕ → List ℕ → Type 0
Among i [] = ⊥
Among i (x ∷ xs) = (i ≡ x) ⊎ Among i xs
