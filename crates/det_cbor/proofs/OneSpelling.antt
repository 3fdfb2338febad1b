-- A spelling belongs to one item only, and is not the beginning of another spelling.
use Rattle.std.proofs.Common.{◌≡◌, ℕ, ◌^◌, ◌<◌, Equal, true, false, List, [], ◌∷◌, ◌++◌, length, refl, sym, ap, ◌∙◌, arith, inl, inr}
use Rattle.std.specs.Ordering.{ordering_then, nat_cmp}
use Rattle.std.proofs.lemmas.Bool.{cases_lt, le-ltb, lt-ltb}
use Rattle.std.proofs.lemmas.List.{length-append}
use Rattle.det_cbor.specs.Heads.{head_bytes}
use Rattle.det_cbor.specs.DataItem.{DataItem, UnsignedInteger, NegativeInteger, ByteString, TextString, ArrayOf, MapOf, TaggedItem, Boolean, NullItem, DataItems, NoItems, ItemThen, DataPairs, NoPairs, PairThen, item_count, pair_count, spell, IsValidWithin}
use Rattle.det_cbor.specs.ItemOrder.{major_type, head_argument, spell_parts, head_order, parts_order, items_order, pairs_order, item_order}
use Rattle.det_cbor.proofs.Cuts.{bytewise, cmp_same}
use Rattle.det_cbor.specs.ItemHeads.{head_and_parts}
use Rattle.det_cbor.proofs.ItemCuts.{then_both, same_number, items_cut_apart}

pub bytewise_itself : (xs : List ℕ) → bytewise xs xs ≡ Equal
bytewise_itself [] = refl
bytewise_itself (x ∷ xs) = rw (cmp_same x) (bytewise_itself xs)

pub bytewise_same : (xs ys : List ℕ) → bytewise xs ys ≡ Equal → xs ≡ ys
bytewise_same [] [] e = refl
bytewise_same [] (y ∷ ys) e = absurd cc
bytewise_same (x ∷ xs) [] e = absurd cc
bytewise_same (x ∷ xs) (y ∷ ys) e =
    let both = then_both (nat_cmp x y) (bytewise xs ys) e in
    let first : x ≡ y = same_number x y both.0 in
    let rest : xs ≡ ys = bytewise_same xs ys both.1 in
    cc

-- ---- items that compare as equal are equal

record SameHead (x y : DataItem) : Type 0 where
  pub major : major_type x ≡ major_type y
  pub argument : head_argument x ≡ head_argument y
  pub parts : parts_order x y ≡ Equal

same_head : (x y : DataItem) → item_order x y ≡ Equal → SameHead x y
same_head x y e =
    let both = then_both (head_order x y) (parts_order x y) e in
    let head = then_both (nat_cmp (major_type x) (major_type y)) (nat_cmp (head_argument x) (head_argument y)) both.0 in
    record { major = same_number (major_type x) (major_type y) head.0; argument = same_number (head_argument x) (head_argument y) head.1; parts = both.1 }

mutual
  parts_same : (x y : DataItem) → SameHead x y → x ≡ y
  parts_same (UnsignedInteger m) (UnsignedInteger n) h = ap UnsignedInteger h.argument
  parts_same (NegativeInteger m) (NegativeInteger n) h = ap NegativeInteger h.argument
  parts_same (ByteString a) (ByteString b) h = ap ByteString (bytewise_same a b h.parts)
  parts_same (TextString a) (TextString b) h = ap TextString (bytewise_same a b h.parts)
  parts_same (ArrayOf xs) (ArrayOf ys) h = ap ArrayOf (items_same xs ys h.argument h.parts)
  parts_same (MapOf ps) (MapOf qs) h = ap MapOf (pairs_same ps qs h.argument h.parts)
  parts_same (TaggedItem m x) (TaggedItem n y) h =
      let tag : m ≡ n = h.argument in
      let inner : x ≡ y = parts_same x y (same_head x y h.parts) in
      λ i. TaggedItem (tag i) (inner i)
  parts_same (Boolean false) (Boolean false) h = refl
  parts_same (Boolean true) (Boolean true) h = refl
  parts_same NullItem NullItem h = refl
  parts_same NullItem (Boolean false) h = absurd (omega (arith, h.argument))
  parts_same NullItem (Boolean true) h = absurd (omega (arith, h.argument))
  parts_same (Boolean false) NullItem h = absurd (omega (arith, h.argument))
  parts_same (Boolean true) NullItem h = absurd (omega (arith, h.argument))
  parts_same (Boolean false) (Boolean true) h = absurd (omega (arith, h.argument))
  parts_same (Boolean true) (Boolean false) h = absurd (omega (arith, h.argument))
  parts_same x y h = absurd (omega (arith, h.major))

  items_same : (xs ys : DataItems) → item_count xs ≡ item_count ys → items_order xs ys ≡ Equal → xs ≡ ys
  items_same NoItems NoItems count e = refl
  items_same NoItems (ItemThen y ys) count e = absurd (omega arith)
  items_same (ItemThen x xs) NoItems count e = absurd (omega arith)
  items_same (ItemThen x xs) (ItemThen y ys) count e =
      let both = then_both (item_order x y) (items_order xs ys) e in
      let first : x ≡ y = parts_same x y (same_head x y both.0) in
      let rest : xs ≡ ys = items_same xs ys (omega arith) both.1 in
      λ i. ItemThen (first i) (rest i)

  pairs_same : (ps qs : DataPairs) → pair_count ps ≡ pair_count qs → pairs_order ps qs ≡ Equal → ps ≡ qs
  pairs_same NoPairs NoPairs count e = refl
  pairs_same NoPairs (PairThen l w qs) count e = absurd (omega arith)
  pairs_same (PairThen k v ps) NoPairs count e = absurd (omega arith)
  pairs_same (PairThen k v ps) (PairThen l w qs) count e =
      let both = then_both (ordering_then (item_order k l) (item_order v w)) (pairs_order ps qs) e in
      let first = then_both (item_order k l) (item_order v w) both.0 in
      let key : k ≡ l = parts_same k l (same_head k l first.0) in
      let value : v ≡ w = parts_same v w (same_head v w first.1) in
      let rest : ps ≡ qs = pairs_same ps qs (omega arith) both.1 in
      λ i. PairThen (key i) (value i) (rest i)

-- ---- the laws

-- bytes that begin with two spellings begin with one and the same, and the rests are equal
pub one_spelling : (j k : ℕ) (x y : DataItem) (r s : List ℕ) → IsValidWithin j x → IsValidWithin k y → spell x ++ r ≡ spell y ++ s → (x ≡ y) × (r ≡ s)
one_spelling j k x y r s v w e =
    let cut : bytewise (spell x ++ r) (spell y ++ s) ≡ ordering_then (item_order x y) (bytewise r s) = (items_cut_apart j k x y v w).cut r s in
    let itself : bytewise (spell x ++ r) (spell y ++ s) ≡ Equal = ap (bytewise (spell x ++ r)) (sym e) ∙ bytewise_itself (spell x ++ r) in
    let both = then_both (item_order x y) (bytewise r s) (sym cut ∙ itself) in
    (parts_same x y (same_head x y both.0), bytewise_same r s both.1)

head_not_empty : (major n : ℕ) → 0 < length (head_bytes major n)
unfolding head_bytes
head_not_empty major n =
    elim (cases_lt n 24) [
      | inl a ↦ rw (lt-ltb n 24 a) (omega arith)
      | inr a ↦ elim (cases_lt n (2 ^ 8)) [
        | inl b ↦ rw (le-ltb n 24 a, lt-ltb n (2 ^ 8) b) (omega arith)
        | inr b ↦ elim (cases_lt n (2 ^ 16)) [
          | inl c ↦ rw (le-ltb n 24 a, le-ltb n (2 ^ 8) b, lt-ltb n (2 ^ 16) c) (omega arith)
          | inr c ↦ elim (cases_lt n (2 ^ 32)) [
            | inl d ↦ rw (le-ltb n 24 a, le-ltb n (2 ^ 8) b, le-ltb n (2 ^ 16) c, lt-ltb n (2 ^ 32) d) (omega arith)
            | inr d ↦ rw (le-ltb n 24 a, le-ltb n (2 ^ 8) b, le-ltb n (2 ^ 16) c, le-ltb n (2 ^ 32) d) (omega arith)
          ]
        ]
      ]
    ]

-- no item has an empty spelling
pub not_empty : (x : DataItem) → 0 < length (spell x)
not_empty x = rw (head_and_parts x) (omega (arith, length-append (head_bytes (major_type x) (head_argument x)) (spell_parts x), head_not_empty (major_type x) (head_argument x)))
