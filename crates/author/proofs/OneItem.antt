-- Bytes that are read as one item and nothing more are the spelling of an item.
use Rattle.std.proofs.Common.{◌≡◌, ℕ, ◌+◌, length, Bool, true, List, [], ◌∷◌, ◌++◌, Some, Result, Ok, Err, option_and_then, refl, sym, subst, ◌∙◌, append-nil, arith}
use Rattle.std.proofs.lemmas.Bool.Decides.{nat_tests}
use Rattle.std.specs.List.{AllByRecursion}
use Rattle.std.specs.Result.{result_ok}
use Rattle.det_cbor.specs.DataItem.{IsByte}
use Rattle.det_cbor.specs.ItemSkipping.{item_split}
use Rattle.det_cbor.specs.ItemSplitting.{ItemSplitting}
use Rattle.det_cbor.specs.OneReading.{IsItem}
use Rattle.det_cbor.specs.declared.reason.CborRefusal.{CborRefusal}
use Rattle.author.specs.Members.{ends_here, is_one_item}

-- the answer on the first item and the bytes after it
abbrev ends : Result (List ℕ × List ℕ) CborRefusal → Bool
ends r = ends_here (option_and_then (λ f. Some (f.0, record { left = f.1; place = 0 })) (result_ok r))

nothing_left : (bytes first rest : List ℕ) → bytes ≡ first ++ rest → ends (Ok (first, rest)) ≡ true → bytes ≡ first
nothing_left bytes first [] parts e = parts ∙ append-nil first
nothing_left bytes first (b ∷ rest) parts e =
    let none : length (b ∷ rest) ≡ 0 = grind (arith, nat_tests) in
    absurd (omega (arith, none))

whole_item : (bytes : List ℕ) (r : Result (List ℕ × List ℕ) CborRefusal) → ItemSplitting → AllByRecursion IsByte bytes → item_split bytes ≡ r → ends r ≡ true → IsItem bytes
whole_item bytes (Ok f) law fits is e =
    let split = law.item bytes f.0 f.1 fits is in
    subst IsItem (sym (nothing_left bytes f.0 f.1 split.1 e)) split.0
whole_item bytes (Err s) law fits is e = absurd cc

pub one_item_spelled : ItemSplitting → (bytes : List ℕ) → AllByRecursion IsByte bytes → is_one_item bytes ≡ true → IsItem bytes
one_item_spelled law bytes fits e = whole_item bytes (item_split bytes) law fits refl (ends_so bytes e)
  where
    ends_so : (bytes : List ℕ) → is_one_item bytes ≡ true → ends (item_split bytes) ≡ true
    ends_so bytes e = by_split (item_split bytes) e
      where
        by_split : (r : Result (List ℕ × List ℕ) CborRefusal) → ends_here (option_and_then (λ f. Some (f.0, record { left = f.1; place = 0 + length f.0 })) (result_ok r)) ≡ true → ends r ≡ true
        by_split (Ok f) e = e
        by_split (Err s) e = e
