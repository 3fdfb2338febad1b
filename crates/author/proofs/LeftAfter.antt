-- What is left of so many bytes, length by length.
use Rattle.std.proofs.Common.{◌≡◌, ◌<◌, ◌≤◌, ℕ, ◌+◌, ◌-◌, Bool, true, false, List, length, drop, Option, Some, None, refl, sym, ap, ◌∙◌, arith}
use Rattle.std.specs.Prelude.{nat_le}
use Rattle.std.proofs.lemmas.Bool.Decides.{nat_tests}
use Rattle.std.proofs.lemmas.List.{drop_all}
use Rattle.serde_json.specs.Data.{Data, array, Items, no_items, item}
use Rattle.serde_json.specs.View.{items_view}
use Rattle.serde_json.specs.declared.value.Value.{Value}
use Rattle.author.specs.Contents.{left_after, sequence_length, tries_length, command_by_name, argument_length, command_length}
use Rattle.author.specs.Elements.{items_in, pair_in}

fits : (n left : ℕ) → nat_le n left ≡ true → n ≤ left
fits n left e = grind (arith, nat_tests)

exceeds : (n left : ℕ) → nat_le n left ≡ false → left < n
exceeds n left e = grind (arith, nat_tests)

pub left_fits : (left n : ℕ) → n ≤ left → left_after left n ≡ Some (left - n)
left_fits left n h = grind (arith, nat_tests)

abbrev is_there : Option ℕ → Bool
is_there (Some m) = true
is_there None = false

-- ---- which of the two it is

-- ---- two lengths

pub left_zero : (left : ℕ) → left_after left 0 ≡ Some left
left_zero left = left_fits left 0 (omega arith) ∙ ap Some (omega arith)

-- ---- loops over the elements of a value

module _ (one : Data → ℕ) (total : Items → ℕ) (step : (d : Data) (ds : Items) → total (item d ds) ≡ one d + total ds) (vs : List Value) (i : ℕ) where
  pub left_end : (left : ℕ) (whole : Option ℕ) → total no_items ≡ 0 → length vs ≤ i → whole ≡ left_after left (total (items_view (drop i vs))) → Some left ≡ whole
  left_end left whole none h so_far =
      sym (so_far ∙ ap (λ xs. left_after left (total (items_view xs))) (drop_all i vs h) ∙ ap (left_after left) none ∙ left_zero left)

-- ---- by the elements of a value

abbrev pub pair_length : List (List ℕ × List ℕ) → ℕ → Option (Data × Data) → ℕ
pair_length files levels (Some p) = argument_length files (command_by_name p.0) p.1 (sequence_length files levels p.1) (tries_length files levels p.1)
pair_length files levels None = 0

pub command_paired : (files : List (List ℕ × List ℕ)) (levels : ℕ) (d : Data) → command_length files levels d ≡ pair_length files levels (pair_in (items_in d))
command_paired files levels (array (item name (item d no_items))) = refl
command_paired files levels _ = refl
