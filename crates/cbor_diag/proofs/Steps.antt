-- The steps of reading, one turn of a loop at a time.
use Rattle.std.proofs.Common.{◌≡◌, ℕ, zero, suc, ◌+◌, ◌-◌, ◌<◌, ◌≤◌, ◌&&◌, Bool, true, false, cond, List, [], ◌∷◌, ◌++◌, length, take, drop, Option, Some, None, option_map, refl, sym, ap, ◌∙◌, append_assoc, arith}
use Rattle.std.specs.Prelude.{codes, nat_eq, MatchOption}
use Rattle.std.specs.Str.{IsUtf8, is_utf8}
use Rattle.std.proofs.lemmas.Str.{IsUtf8-from_is_utf8, is_utf8-from_IsUtf8}
use Rattle.std.proofs.lemmas.Bool.{false_from_ne_true}
use Rattle.std.proofs.lemmas.List.{append-nil}
use lib.Pointwise.{pointwise}
use Rattle.det_cbor.specs.DataItem.{DataItem}
use Rattle.cbor_diag.specs.declared.quoted.Quoted.{Quoted}
use Rattle.cbor_diag.specs.Reading.{◌>>=◌, Read, Reader, after, past, quote_of, piece_at, quoted_by, items_by, pairs_by, item_with, item_at, reader_at}

pub item_at_is : (levels : ℕ) (text : List ℕ) → item_at levels text ≡ item_with (reader_at levels) text
unfolding item_at
item_at_is zero text = refl
item_at_is (suc levels) text = refl

-- ---- marks

both_tests : {A : Type 0} (same others : Bool) (r : Option A) (x : A) → r ≡ cond others (Some x) None → cond same r None ≡ cond (same && others) (Some x) None
both_tests true others r x e = e
both_tests false others r x e = refl

compared : (mark text : List ℕ) → after mark text ≡ cond (pointwise nat_eq (take (length mark) text) mark) (Some (drop (length mark) text)) None
compared [] text = refl
compared (m ∷ mark) [] = refl
compared (m ∷ mark) (b ∷ text) = both_tests (nat_eq b m) (pointwise nat_eq (take (length mark) text) mark) (after mark text) (drop (length mark) text) (compared mark text)

pub stripped : {A : Type 0} (now : A → List ℕ) (mark text : List ℕ) (r : Option A)
    → MatchOption r (pointwise nat_eq (take (length mark) text) mark ≡ false) (λ x. (pointwise nat_eq (take (length mark) text) mark ≡ true) × (now x ≡ drop (length mark) text) × (length (now x) + length mark ≡ length text))
    → option_map now r ≡ after mark text
stripped now mark text None other = sym (compared mark text ∙ rw other refl)
stripped now mark text (Some x) same = ap Some same.1 ∙ sym (compared mark text ∙ rw same.0 refl)

-- ---- numbers

-- ---- what was read before, in front

abbrev pub with_front : {A : Type 0} → List A → Read (List A) → Read (List A)
with_front front r = r >>= λ o. Some (front ++ o.0, o.1)

one_more : {A : Type 0} (front : List A) (x : A) (r : Read (List A)) → with_front front (r >>= λ o. Some (x ∷ o.0, o.1)) ≡ with_front (front ++ x ∷ []) r
one_more {A} front x (Some o) = ap (λ (l : List A). Some (l, o.1)) (sym (append_assoc front (x ∷ []) o.0))
one_more front x None = refl

one_left : (count i : ℕ) → i < count → count - i ≡ suc (count - (i + 1))
one_left count i lt = omega arith

none_left : (count i : ℕ) → count ≤ i → count - i ≡ 0
none_left count i le = omega arith

at_end : {A : Type 0} (front : List A) (rest : List ℕ) → with_front front (Some ([], rest)) ≡ Some (front, rest)
at_end {A} front rest = ap (λ (l : List A). Some (l, rest)) (append-nil front)

-- ---- strings

pub quoted_end : (kind : Quoted) (front : List ℕ) (count i : ℕ) (text rest : List ℕ) (total : Read (List ℕ)) → i < count → Some rest ≡ after (quote_of kind) text
    → with_front front (quoted_by kind (count - i) text) ≡ total → total ≡ Some (front, rest)
quoted_end kind front count i text rest total lt e so_far = sym so_far ∙ rw (one_left count i lt, ← e) (at_end front rest)

pub quoted_step : (kind : Quoted) (front : List ℕ) (count i : ℕ) (text : List ℕ) (b : ℕ) (later : List ℕ) (total : Read (List ℕ)) → i < count → None ≡ after (quote_of kind) text
    → Some (b, later) ≡ piece_at kind text → with_front front (quoted_by kind (count - i) text) ≡ total → with_front (front ++ b ∷ []) (quoted_by kind (count - (i + 1)) later) ≡ total
quoted_step kind front count i text b later total lt unclosed e so_far =
    let step : with_front front (quoted_by kind (count - i) text) ≡ with_front (front ++ b ∷ []) (quoted_by kind (count - (i + 1)) later) = rw (one_left count i lt, ← unclosed, ← e) (one_more front b (quoted_by kind (count - (i + 1)) later)) in
    sym step ∙ so_far

-- ---- items

pub items_end : (read : Reader) (front : List DataItem) (count i : ℕ) (text rest : List ℕ) (total : Read (List DataItem)) → i < count → Some rest ≡ after (codes "]") text
    → with_front front (items_by read (count - i) text) ≡ total → total ≡ Some (front, rest)
items_end read front count i text rest total lt e so_far = sym so_far ∙ rw (one_left count i lt, ← e) (at_end front rest)

pub items_step : (read : Reader) (front : List DataItem) (count i : ℕ) (text : List ℕ) (x : DataItem) (behind later : List ℕ) (total : Read (List DataItem)) → i < count → None ≡ after (codes "]") text
    → read text ≡ Some (x, behind) → later ≡ past (codes ", ") behind → with_front front (items_by read (count - i) text) ≡ total
    → with_front (front ++ x ∷ []) (items_by read (count - (i + 1)) later) ≡ total
items_step read front count i text x behind later total lt unclosed e skips so_far =
    let step : with_front front (items_by read (count - i) text) ≡ with_front (front ++ x ∷ []) (items_by read (count - (i + 1)) later) = rw (one_left count i lt, ← unclosed, e, ← skips) (one_more front x (items_by read (count - (i + 1)) later)) in
    sym step ∙ so_far

-- ---- pairs

pub pairs_step : (read : Reader) (front : List (DataItem × DataItem)) (count i : ℕ) (text : List ℕ) (key value : DataItem) (after_key skipped behind later : List ℕ) (total : Read (List (DataItem × DataItem))) → i < count
    → None ≡ after (codes "}") text → read text ≡ Some (key, after_key) → skipped ≡ past (codes ": ") after_key → read skipped ≡ Some (value, behind) → later ≡ past (codes ", ") behind
    → with_front front (pairs_by read (count - i) text) ≡ total → with_front (front ++ (key, value) ∷ []) (pairs_by read (count - (i + 1)) later) ≡ total
pairs_step read front count i text key value after_key skipped behind later total lt unclosed first skips second skips_on so_far =
    let step : with_front front (pairs_by read (count - i) text) ≡ with_front (front ++ (key, value) ∷ []) (pairs_by read (count - (i + 1)) later) =
    rw (one_left count i lt, ← unclosed, first, ← skips, second, ← skips_on) (one_more front (key, value) (pairs_by read (count - (i + 1)) later)) in
    sym step ∙ so_far

-- ---- texts

pub good_utf8 : (bytes : List ℕ) → IsUtf8 bytes → is_utf8 bytes ≡ true
good_utf8 bytes text = is_utf8-from_IsUtf8 bytes text

pub bad_utf8 : (bytes : List ℕ) → (IsUtf8 bytes → ⊥) → is_utf8 bytes ≡ false
bad_utf8 bytes none = false_from_ne_true (is_utf8 bytes) (λ e. none (IsUtf8-from_is_utf8 bytes e))
