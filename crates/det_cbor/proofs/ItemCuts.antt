-- Valid items are ordered by heads and parts just as their spellings are bytewise.
use Rattle.std.proofs.Common.{◌≡◌, ℕ, ◌+◌, ◌^◌, ◌<◌, Ordering, Equal, true, false, Option, Some, None, List, ◌++◌, refl, append_assoc, arith, inl, inr}
use Rattle.std.proofs.lemmas.Bool.{cases_lt}
use Rattle.std.specs.Ordering.{ordering_then, nat_cmp}
use Rattle.det_cbor.specs.Heads.{head_bytes}
use Rattle.det_cbor.specs.DataItem.{DataItem, UnsignedInteger, NegativeInteger, ByteString, TextString, ArrayOf, MapOf, TaggedItem, Boolean, NullItem, DataItems, NoItems, ItemThen, DataPairs, NoPairs, PairThen, item_count, pair_count, spell, spell_items, spell_pairs, IsValidWithin, AreValidWithin, ArePairsWithin}
use Rattle.det_cbor.specs.ItemHeads.{head_and_parts, value_fits}
use Rattle.det_cbor.specs.ItemOrder.{major_type, head_argument, spell_parts, head_order, parts_order, items_order, pairs_order, item_order}
use Rattle.det_cbor.proofs.Cuts.{Cuts, Cuts-nothing, Cuts-append, Cuts-string, then_assoc, cmp_less, cmp_greater}
use Rattle.det_cbor.proofs.HeadOrder.{Cuts-head}

argument_fits : (levels : ℕ) (x : DataItem) → IsValidWithin levels x → head_argument x < 2 ^ 64
argument_fits levels (Boolean false) v = omega arith
argument_fits levels (Boolean true) v = omega arith
argument_fits levels NullItem v = omega arith
argument_fits levels x v = value_fits levels x v

pub then_both : (a b : Ordering) → ordering_then a b ≡ Equal → (a ≡ Equal) × (b ≡ Equal)
then_both Equal b e = (refl, e)
then_both _ b e = absurd cc

pub same_number : (m n : ℕ) → nat_cmp m n ≡ Equal → m ≡ n
same_number m n e =
    elim (cases_lt m n) [
      | inl lt ↦ let less = cmp_less m n lt in absurd cc
      | inr ge ↦ elim (cases_lt n m) [
        | inl lt ↦ let greater = cmp_greater m n lt in absurd cc
        | inr le ↦ omega arith
      ]
    ]

head_then : (j k : ℕ) (x y : DataItem) → IsValidWithin j x → IsValidWithin k y
    → (major_type x ≡ major_type y → head_argument x ≡ head_argument y → Cuts (parts_order x y) (spell_parts x) (spell_parts y))
    → Cuts (item_order x y) (spell x) (spell y)
head_then j k x y v w parts =
    rw (head_and_parts x, head_and_parts y)
    (Cuts-append (head_order x y) (parts_order x y) (head_bytes (major_type x) (head_argument x)) (head_bytes (major_type y) (head_argument y)) (spell_parts x) (spell_parts y)
    (Cuts-head (major_type x) (major_type y) (head_argument x) (head_argument y) (argument_fits j x v) (argument_fits k y w))
    (λ e. let both = then_both (nat_cmp (major_type x) (major_type y)) (nat_cmp (head_argument x) (head_argument y)) e in
    parts (same_number (major_type x) (major_type y) both.0) (same_number (head_argument x) (head_argument y) both.1)))

mutual
  parts_cut : (j k : ℕ) (x y : DataItem) → IsValidWithin j x → IsValidWithin k y → major_type x ≡ major_type y → head_argument x ≡ head_argument y
      → Cuts (parts_order x y) (spell_parts x) (spell_parts y)
  parts_cut j k (UnsignedInteger m) (UnsignedInteger n) v w major argument = Cuts-nothing
  parts_cut j k (NegativeInteger m) (NegativeInteger n) v w major argument = Cuts-nothing
  parts_cut j k (ByteString a) (ByteString b) v w major argument = Cuts-string a b argument
  parts_cut j k (TextString a) (TextString b) v w major argument = Cuts-string a b argument
  parts_cut j k (ArrayOf xs) (ArrayOf ys) v w major argument = items_cut (j + 1) (k + 1) xs ys v.2 w.2 argument
  parts_cut j k (MapOf ps) (MapOf qs) v w major argument = pairs_cut (j + 1) (k + 1) None None ps qs v.2 w.2 argument
  parts_cut j k (TaggedItem m x) (TaggedItem n y) v w major argument = head_then (j + 1) (k + 1) x y v.2 w.2 (parts_cut (j + 1) (k + 1) x y v.2 w.2)
  parts_cut j k (Boolean a) (Boolean b) v w major argument = Cuts-nothing
  parts_cut j k (Boolean a) NullItem v w major argument = Cuts-nothing
  parts_cut j k NullItem (Boolean b) v w major argument = Cuts-nothing
  parts_cut j k NullItem NullItem v w major argument = Cuts-nothing
  parts_cut j k _ _ v w major argument = absurd (omega arith)

  items_cut : (j k : ℕ) (xs ys : DataItems) → AreValidWithin j xs → AreValidWithin k ys → item_count xs ≡ item_count ys → Cuts (items_order xs ys) (spell_items xs) (spell_items ys)
  items_cut j k NoItems NoItems v w count = Cuts-nothing
  items_cut j k NoItems (ItemThen y ys) v w count = absurd (omega arith)
  items_cut j k (ItemThen x xs) NoItems v w count = absurd (omega arith)
  items_cut j k (ItemThen x xs) (ItemThen y ys) v w count =
      Cuts-append (item_order x y) (items_order xs ys) (spell x) (spell y) (spell_items xs) (spell_items ys)
      (head_then j k x y v.0 w.0 (parts_cut j k x y v.0 w.0))
      (λ e. items_cut j k xs ys v.1 w.1 (omega arith))

  pairs_cut : (j k : ℕ) (before before' : Option (List ℕ)) (ps qs : DataPairs) → ArePairsWithin j before ps → ArePairsWithin k before' qs → pair_count ps ≡ pair_count qs
      → Cuts (pairs_order ps qs) (spell_pairs ps) (spell_pairs qs)
  pairs_cut j k before before' NoPairs NoPairs v w count = Cuts-nothing
  pairs_cut j k before before' NoPairs (PairThen l y qs) v w count = absurd (omega arith)
  pairs_cut j k before before' (PairThen h x ps) NoPairs v w count = absurd (omega arith)
  pairs_cut j k before before' (PairThen h x ps) (PairThen l y qs) v w count =
      rw (then_assoc (item_order h l) (item_order x y) (pairs_order ps qs))
      (Cuts-append (item_order h l) (ordering_then (item_order x y) (pairs_order ps qs)) (spell h) (spell l) (spell x ++ spell_pairs ps) (spell y ++ spell_pairs qs)
      (head_then j k h l v.0 w.0 (parts_cut j k h l v.0 w.0))
      (λ e. Cuts-append (item_order x y) (pairs_order ps qs) (spell x) (spell y) (spell_pairs ps) (spell_pairs qs)
      (head_then j k x y v.2 w.2 (parts_cut j k x y v.2 w.2))
      (λ f. pairs_cut j k (Some (spell h)) (Some (spell l)) ps qs v.3 w.3 (omega arith))))

pub items_cut_apart : (j k : ℕ) (x y : DataItem) → IsValidWithin j x → IsValidWithin k y → Cuts (item_order x y) (spell x) (spell y)
items_cut_apart j k x y v w = head_then j k x y v w (parts_cut j k x y v w)

-- after the head come the parts
pub after_head : (old out : List ℕ) (x : DataItem) → out ≡ old ++ head_bytes (major_type x) (head_argument x) → out ++ spell_parts x ≡ old ++ spell x
after_head old out x e = rw (e, head_and_parts x) (append_assoc old (head_bytes (major_type x) (head_argument x)) (spell_parts x))
