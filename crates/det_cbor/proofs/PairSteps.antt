-- A step of a loop over the pairs of two maps.
use Rattle.std.proofs.Common.{◌≡◌, ℕ, ◌+◌, ◌<◌, Ordering, Equal, List, ◌∷◌, length, get_or, drop, drop-cons, add-one, refl, sym, ap, subst, ◌∙◌, ◌↔◌, Option, Some}
use Rattle.std.specs.Ordering.{ordering_then}
use Rattle.det_cbor.specs.declared.item.Item.{Item}
use Rattle.det_cbor.specs.DataItem.{spell, IsAbove, IsValid, IsValidWithin, ArePairsWithin}
use Rattle.det_cbor.specs.DataLists.{pairs_of}
use Rattle.det_cbor.specs.ItemOrder.{pairs_order, pair_order}
use Rattle.det_cbor.specs.ItemTree.{tree_of, pair_of, pair_trees_of}
use Rattle.det_cbor.proofs.Cuts.{first_decides}
use Rattle.det_cbor.specs.LevelLaws.{valid_alone}

step : (xs : List (Item × Item)) (i : ℕ) (x : Item × Item) → i < length xs → x ≡ get_or xs i x → drop i xs ≡ x ∷ drop (i + 1) xs
step xs i x lt is = rw (add-one, drop-cons xs i x, ← is) refl

-- the first two pairs that differ decide
pub pair_decides : (xs ys : List (Item × Item)) (i : ℕ) (x y : Item × Item) (o whole : Ordering) → i < length xs → i < length ys → x ≡ get_or xs i x → y ≡ get_or ys i y
    → o ≡ pair_order (pair_of x) (pair_of y) → (o ≡ Equal → ⊥) → pairs_order (pairs_of (pair_trees_of (drop i xs))) (pairs_of (pair_trees_of (drop i ys))) ≡ whole → o ≡ whole
pair_decides xs ys i x y o whole x-lt y-lt x-is y-is e other h =
    let rest = pairs_order (pairs_of (pair_trees_of (drop (i + 1) xs))) (pairs_of (pair_trees_of (drop (i + 1) ys))) in
    let now : pairs_order (pairs_of (pair_trees_of (drop i xs))) (pairs_of (pair_trees_of (drop i ys))) ≡ ordering_then (pair_order (pair_of x) (pair_of y)) rest = rw (step xs i x x-lt x-is, step ys i y y-lt y-is) refl in
    sym (first_decides o rest other) ∙ ap (λ (p : Ordering). ordering_then p rest) e ∙ sym now ∙ h

-- if a pair is valid after those before it, the rest decides
pub pair_kept : (levels : ℕ) (before : Option (List ℕ)) (x : Item × Item) (xs : List (Item × Item)) (i : ℕ) (Whole : Type 0) → i < length xs → x ≡ get_or xs i x
    → IsValidWithin levels (tree_of x.0) → IsAbove before (spell (tree_of x.0)) → IsValidWithin levels (tree_of x.1)
    → (ArePairsWithin levels before (pairs_of (pair_trees_of (drop i xs))) ↔ Whole)
    → IsValid (tree_of x.0) × (ArePairsWithin levels (Some (spell (tree_of x.0))) (pairs_of (pair_trees_of (drop (i + 1) xs))) ↔ Whole)
pair_kept levels before x xs i Whole lt is key above value h =
    let opened = subst (λ (ys : List (Item × Item)). ArePairsWithin levels before (pairs_of (pair_trees_of ys)) ↔ Whole) (step xs i x lt is) h in
    (valid_alone levels (tree_of x.0) key, (λ rest. opened.0 (key, above, value, rest), λ whole. (opened.1 whole).3))
