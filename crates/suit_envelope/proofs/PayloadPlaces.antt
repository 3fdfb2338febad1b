-- Payloads are put at their places in the order of their keys' spellings.
use Rattle.std.proofs.Common.{◌≡◌, ℕ, suc, ◌^◌, ◌<◌, zero, List, [], ◌∷◌, ◌++◌, length, get_or, take, drop, drop-cons, Option, Some, None, refl, sym, ap, ◌∙◌, arith}
use Rattle.std.specs.List.{AllByRecursion, slice_set}
use Rattle.std.specs.Str.{IsUtf8}
use Rattle.std.specs.declared.cmp.Ordering.{Ordering}
use Rattle.std.specs.declared.cmp.Ordering.TheVariants.{Less, Equal, Greater}
use Rattle.std.specs.Ordering.{is_lt, nat_cmp, match_ordering, ordering_then}
use Rattle.std.specs.Cmp.Lexicographic.{slice_cmp, nat_list_cmp_total}
use Rattle.det_cbor.specs.DataItem.{TextString, spell, IsByte, IsAbove}
use Rattle.det_cbor.specs.ItemOrder.{item_order}
use Rattle.det_cbor.proofs.Cuts.{Cuts-order, first_decides}
use Rattle.det_cbor.proofs.ItemCuts.{items_cut_apart}
use Rattle.det_cbor.proofs.KeyOrder.{above_is_below, below_is_above}
use Rattle.suit_envelope.specs.Making.{IsText}
use Rattle.suit_envelope.specs.PayloadOrder.{key_order, AreAscending, put_payload}
use Rattle.suit_envelope.proofs.EntryOrder.{above_trans}

bytes_fit : (bytes : List ℕ) → ((i : ℕ) → get_or bytes i 0 < 256) → AllByRecursion IsByte bytes
bytes_fit [] fits = tt
bytes_fit (b ∷ bytes) fits = (fits 0, bytes_fit bytes (λ i. fits (suc i)))

-- what the type of a text says
pub is_text : (text : List ℕ) → length text < 2 ^ 64 → ((i : ℕ) → get_or text i 0 < 256) → IsUtf8 text → IsText text
is_text text short fits utf8 = ((short, bytes_fit text fits), utf8)

-- the shorter text comes first, and texts of the same length are in bytewise order
text_order : (a b : List ℕ) → IsText a → IsText b → key_order a b ≡ ordering_then (nat_cmp (length a) (length b)) (slice_cmp nat_cmp a b)
text_order a b u v = Cuts-order (item_order (TextString a) (TextString b)) (spell (TextString a)) (spell (TextString b)) (items_cut_apart 0 0 (TextString a) (TextString b) u v)

pub by_bytes : (a b : List ℕ) → IsText a → IsText b → nat_cmp (length a) (length b) ≡ Equal → slice_cmp nat_cmp a b ≡ key_order a b
by_bytes a b u v e = sym (text_order a b u v ∙ ap (λ o. ordering_then o (slice_cmp nat_cmp a b)) e)

pub by_length : (a b : List ℕ) → IsText a → IsText b → (nat_cmp (length a) (length b) ≡ Equal → ⊥) → nat_cmp (length a) (length b) ≡ key_order a b
by_length a b u v other = sym (text_order a b u v ∙ first_decides (nat_cmp (length a) (length b)) (slice_cmp nat_cmp a b) other)

-- ---- keys still ascend

abbrev Payload : Type 0
Payload = List ℕ × List ℕ

abbrev key_bytes : Payload → List ℕ
key_bytes p = spell (TextString p.0)

-- payloads that ascend above a key ascend above an equal one
same_start : (p q : Payload) (qs : List Payload) → key_order p.0 q.0 ≡ Equal → AreAscending (Some (key_bytes q)) qs → AreAscending (Some (key_bytes p)) qs
same_start p q [] e ascend = tt
same_start p q (r ∷ rs) e ascend = (ap is_lt (nat_list_cmp_total.congr (key_bytes p) (key_bytes q) (key_bytes r) e) ∙ ascend.0, ascend.1)

put_by_order : (before : Option (List ℕ)) (p q : Payload) (qs : List Payload) (o : Ordering) → key_order p.0 q.0 ≡ o → IsAbove before (key_bytes p) → AreAscending before (q ∷ qs)
    → (IsAbove (Some (key_bytes q)) (key_bytes p) → AreAscending (Some (key_bytes q)) (put_payload p qs))
    → AreAscending before (match_ordering o (p ∷ q ∷ qs) (p ∷ qs) (q ∷ put_payload p qs))
put_by_order before p q qs Less e above ascend later = (above, (ap is_lt e, ascend.1))
put_by_order before p q qs Equal e above ascend later = (above, same_start p q qs e ascend.1)
put_by_order before p q qs Greater e above ascend later = (ascend.0, later (above_is_below (key_bytes p) (key_bytes q) e))

put_above : (before : Option (List ℕ)) (p : Payload) (list : List Payload) → IsAbove before (key_bytes p) → AreAscending before list → AreAscending before (put_payload p list)
put_above before p [] above ascend = (above, tt)
put_above before p (q ∷ qs) above ascend = put_by_order before p q qs (key_order p.0 q.0) refl above ascend (λ over. put_above (Some (key_bytes q)) p qs over ascend.1)

pub put_ascends : (p : Payload) (list : List Payload) → AreAscending None list → AreAscending None (put_payload p list)
put_ascends p list ascend = put_above None p list tt ascend

-- ---- where a key is put among keys that ascend

-- each key is above what the whole list is above
key_above : (a : List ℕ) (list : List Payload) (i : ℕ) (q : Payload) → i < length list → q ≡ get_or list i q → AreAscending (Some a) list → IsAbove (Some a) (key_bytes q)
key_above a [] i q h is ascend = absurd (omega arith)
key_above a (r ∷ rs) zero q h is ascend = rw is ascend.0
key_above a (r ∷ rs) (suc i) q h is ascend = above_trans a (key_bytes r) (key_bytes q) ascend.0 (key_above (key_bytes r) rs i q (omega arith) is ascend.1)

-- a key that equals another one, or is above it, is above everything that the other is above
over_equal : (p q r : Payload) → key_order p.0 q.0 ≡ Equal → IsAbove (Some (key_bytes r)) (key_bytes q) → key_order p.0 r.0 ≡ Greater
over_equal p q r e above = nat_list_cmp_total.congr (key_bytes p) (key_bytes q) (key_bytes r) e ∙ below_is_above (key_bytes q) (key_bytes r) above

over_above : (p q r : Payload) → key_order p.0 q.0 ≡ Greater → IsAbove (Some (key_bytes r)) (key_bytes q) → key_order p.0 r.0 ≡ Greater
over_above p q r e above = below_is_above (key_bytes p) (key_bytes r) (above_trans (key_bytes r) (key_bytes q) (key_bytes p) above (above_is_below (key_bytes p) (key_bytes q) e))

put_past : (p q : Payload) (qs : List Payload) → key_order p.0 q.0 ≡ Greater → put_payload p (q ∷ qs) ≡ q ∷ put_payload p qs
put_past p q qs e = ap (λ o. match_ordering o (p ∷ q ∷ qs) (p ∷ qs) (q ∷ put_payload p qs)) e

-- a key that is at a place is put after those before it
pub put_from : (before : Option (List ℕ)) (p q : Payload) (list : List Payload) (i : ℕ) → i < length list → q ≡ get_or list i q → key_order p.0 q.0 ≡ Equal → AreAscending before list
    → put_payload p list ≡ take i list ++ put_payload p (drop i list)
put_from before p q [] i h is e ascend = absurd (omega arith)
put_from before p q (r ∷ rs) zero h is e ascend = refl
put_from before p q (r ∷ rs) (suc i) h is e ascend =
    put_past p r rs (over_equal p q r e (key_above (key_bytes r) rs i q (omega arith) is ascend.1))
    ∙ ap (λ qs. r ∷ qs) (put_from (Some (key_bytes r)) p q rs i (omega arith) is e ascend.1)

-- a key above the one at a place is put after that one too
pub put_behind : (before : Option (List ℕ)) (p q : Payload) (list : List Payload) (i : ℕ) → i < length list → q ≡ get_or list i q → key_order p.0 q.0 ≡ Greater → AreAscending before list
    → put_payload p list ≡ take (suc i) list ++ put_payload p (drop (suc i) list)
put_behind before p q [] i h is e ascend = absurd (omega arith)
put_behind before p q (r ∷ rs) zero h is e ascend = put_past p r rs (ap (λ (s : Payload). key_order p.0 s.0) (sym is) ∙ e)
put_behind before p q (r ∷ rs) (suc i) h is e ascend =
    put_past p r rs (over_above p q r e (key_above (key_bytes r) rs i q (omega arith) is ascend.1))
    ∙ ap (λ qs. r ∷ qs) (put_behind (Some (key_bytes r)) p q rs i (omega arith) is e ascend.1)

-- ---- one that replaces another

set_at : {X : Type 0} (xs : List X) (i : ℕ) (x : X) → i < length xs → slice_set xs i x ≡ take i xs ++ x ∷ drop (suc i) xs
set_at [] i x h = absurd (omega arith)
set_at (y ∷ ys) zero x h = refl
set_at (y ∷ ys) (suc i) x h = ap (λ zs. y ∷ zs) (set_at ys i x (omega arith))

cut_at : (list : List Payload) (i : ℕ) (q : Payload) → i < length list → q ≡ get_or list i q → drop i list ≡ q ∷ drop (suc i) list
cut_at list i q h is = drop-cons list i q h ∙ ap (λ r. r ∷ drop (suc i) list) (sym is)

pub put_equal : (list : List Payload) (i : ℕ) (p q : Payload) → i < length list → q ≡ get_or list i q → key_order p.0 q.0 ≡ Equal
    → put_payload p list ≡ take i list ++ put_payload p (drop i list) → slice_set list i p ≡ put_payload p list
put_equal list i p q h is e so_far =
    let here : put_payload p (q ∷ drop (suc i) list) ≡ p ∷ drop (suc i) list = ap (λ o. match_ordering o (p ∷ q ∷ drop (suc i) list) (p ∷ drop (suc i) list) (q ∷ put_payload p (drop (suc i) list))) e in
    set_at list i p h ∙ sym (so_far ∙ ap (λ qs. take i list ++ qs) (ap (put_payload p) (cut_at list i q h is) ∙ here))
