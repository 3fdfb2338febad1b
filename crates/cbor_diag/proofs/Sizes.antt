-- A part is smaller than the whole.
use Rattle.std.proofs.Common.{◌≡◌, ℕ, zero, suc, ◌+◌, ◌*◌, ◌<◌, ◌≤◌, List, [], ◌∷◌, length, get_or, sym, ap, subst, arith}
use Rattle.det_cbor.specs.DataLists.{item_size, list_size, pair_list_size}
use Rattle.det_cbor.specs.ItemTree.{tree_of, trees_of, pair_trees_of}
use Rattle.det_cbor.specs.declared.item.Item.{Item}

item_within : (later : List Item) (i : ℕ) (d : Item) → i < length later → item_size (tree_of (get_or later i d)) ≤ list_size (trees_of later)
item_within [] i d lt = absurd (omega arith)
item_within (x ∷ later) zero d lt = omega arith
item_within (x ∷ later) (suc i) d lt = omega (arith, item_within later i d (omega arith))

pub item_falls_in : (items : List Item) (first : Item) (later : List Item) (i : ℕ) (x : Item) → items ≡ first ∷ later → i < length later → x ≡ get_or later i x
    → 3 * item_size (tree_of x) < 3 * list_size (trees_of items) + 1
item_falls_in items first later i x parts lt is =
    let within : item_size (tree_of x) ≤ list_size (trees_of later) = subst (λ (y : Item). item_size (tree_of y) ≤ list_size (trees_of later)) (sym is) (item_within later i x lt) in
    let whole : list_size (trees_of items) ≡ item_size (tree_of first) + list_size (trees_of later) = ap (λ (l : List Item). list_size (trees_of l)) parts in
    omega (arith, within, whole)

abbrev pub pair_size : Item × Item → ℕ
pair_size p = item_size (tree_of p.0) + item_size (tree_of p.1)

pair_within : (later : List (Item × Item)) (i : ℕ) (d : Item × Item) → i < length later → pair_size (get_or later i d) ≤ pair_list_size (pair_trees_of later)
pair_within [] i d lt = absurd (omega arith)
pair_within (p ∷ later) zero d lt = omega arith
pair_within (p ∷ later) (suc i) d lt = omega (arith, pair_within later i d (omega arith))

pub pair_falls_in : (pairs : List (Item × Item)) (first : Item × Item) (later : List (Item × Item)) (i : ℕ) (p : Item × Item) → pairs ≡ first ∷ later → i < length later → p ≡ get_or later i p
    → 3 * pair_size p + 1 < 3 * pair_list_size (pair_trees_of pairs) + 2
pair_falls_in pairs first later i p parts lt is =
    let within : pair_size p ≤ pair_list_size (pair_trees_of later) = subst (λ (q : Item × Item). pair_size q ≤ pair_list_size (pair_trees_of later)) (sym is) (pair_within later i p lt) in
    let whole : pair_list_size (pair_trees_of pairs) ≡ pair_size first + pair_list_size (pair_trees_of later) = ap (λ (l : List (Item × Item)). pair_list_size (pair_trees_of l)) parts in
    omega (arith, within, whole)
