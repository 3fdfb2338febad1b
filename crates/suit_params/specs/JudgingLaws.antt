-- Items that are read at a position and then judged: what is accepted is what is spelled there, and what is
-- refused has that refusal.
use Rattle.std.proofs.Common.{◌≡◌, ◌≢◌, ℕ, ◌+◌, ◌-◌, false, eqb, List, [], ◌++◌, length, Result, Ok, Err, refl, sym, ap, subst, ◌∙◌, arith, inl, inr}
use Rattle.std.proofs.lemmas.Bool.{eqb-true, eqb-false, ne_eqb}
use Rattle.std.proofs.lemmas.List.{append-nil, nil_from_length, length-append}
use Rattle.det_cbor.specs.declared.reason.Reason.{Reason}
use Rattle.det_cbor.specs.DataItem.{DataItem, spell, IsValid, IsValidWithin}
use Rattle.det_cbor.specs.Faults.{Faulty}
use Rattle.det_cbor.specs.HeadReading.{◌>>=◌}
use Rattle.det_cbor.specs.ItemReading.{Read, item_at}
use Rattle.det_cbor.specs.OneReading.{IsItem}
use Rattle.det_cbor.specs.Position.{Position, Takes, IsRefusal}
use Rattle.det_cbor.specs.declared.reason.CborRefusal.{CborRefusal}
use Rattle.det_cbor.specs.ResultLaws.{chosen, bind_ok, bind_err, ok_pair, same_err}
use Rattle.det_cbor.specs.ArgumentLaws.{IsBytes}
use Rattle.det_cbor.proofs.ItemTakes.{item_takes}
use Rattle.det_cbor.proofs.ItemAgain.{item_again}
use Rattle.det_cbor.proofs.ItemFaults.{item_fault}
use Rattle.det_cbor.proofs.ItemRefused.{item_refused}
use Rattle.suit_params.specs.declared.refusal.Refusal.{Refusal}
use Rattle.suit_params.specs.declared.refusal.Why.TheVariants.{Cbor, Trailing}
use Rattle.suit_params.specs.Refusing.{refused, Refuses, Says, RefusesNext, FaultyNext, RefusedNext, TakesNext, RefusesWhole, FaultyItem, BytesAfter, RefusedItem, SaysWhole}
use Rattle.suit_params.specs.Reading.{of_cbor, inside, inner_from, resting, found_item, item_from, next_judged, whole_judged}
use Rattle.suit_params.specs.HeadLaws.{after}

abbrev at_place : List ℕ → ℕ → Position
at_place left place = record { left = left; place = place }

-- ---- items

-- a valid item was taken between the two positions
pub record ItemTaken (p : Position) (x : DataItem) (q : Position) : Type 0 where
  pub valid : IsValid x
  pub taken : Takes p q (spell x)
  pub left : IsBytes q.left

pub item_ok : (p : Position) (x : DataItem) (q : Position) → IsBytes p.left
    → item_from p ≡ Ok (x, q) → ItemTaken p x q
unfolding item_from
item_ok p x q fits e = by_answer (item_at 16 p.left) refl e
  where
    by_answer : (r : Read DataItem) → item_at 16 p.left ≡ r → found_item p r ≡ Ok (x, q)
        → ItemTaken p x q
    by_answer (Ok y) is f =
        let starts = item_takes 16 0 refl p.left y.0 y.1 fits is in
        let parts = ok_pair y.0 x (resting p y.1) q f in
        let long : length p.left ≡ length (spell y.0) + length y.1 = ap length starts.parts ∙ length-append (spell y.0) y.1 in
        let all : ItemTaken p y.0 (resting p y.1) = record { valid = starts.valid; taken = record { parts = starts.parts; place = omega arith }; left = starts.left } in
        subst (λ (z : DataItem). ItemTaken p z q) parts.0 (subst (ItemTaken p y.0) parts.1 all)
    by_answer (Err s) is f = absurd cc

pub item_read : (p : Position) (x : DataItem) (rest : List ℕ) → IsValid x → p.left ≡ spell x ++ rest
    → item_from p ≡ Ok (x, after p (spell x) rest)
unfolding item_from
item_read p x rest valid is =
    let read : item_at 16 p.left ≡ Ok (x, rest) = ap (item_at 16) is ∙ item_again 16 0 refl x rest valid in
    let place : p.place + (length p.left - length rest) ≡ p.place + length (spell x) = omega (arith, ap length is, length-append (spell x) rest) in
    ap (found_item p) read ∙ ap (λ (n : ℕ). Ok (x, record { left = rest; place = n })) place

-- the refusal is that of the first fault in the bytes that are left
pub record ItemFault (p : Position) (r : Refusal) : Type 0 where
  pub at : ℕ
  pub reason : Reason
  pub faulty : Faulty 0 p.left at reason
  pub is : r ≡ refused (p.place + at) (Cbor reason)

pub item_err : (p : Position) (r : Refusal) → IsBytes p.left → item_from p ≡ Err r → ItemFault p r
unfolding item_from
item_err p r fits e = by_answer (item_at 16 p.left) refl e
  where
    by_answer : (a : Read DataItem) → item_at 16 p.left ≡ a → found_item p a ≡ Err r → ItemFault p r
    by_answer (Ok y) is f = absurd cc
    by_answer (Err s) is f =
        let fault = item_fault 16 0 refl p.left s fits is in
        let sum = fault.sum in
        let place : p.place + (length p.left - s.left) ≡ p.place + fault.place = omega arith in
        record { at = fault.place; reason = s.reason; faulty = fault.faulty; is = sym (same_err _ r f) ∙ ap (λ (n : ℕ). refused n (Cbor s.reason)) place }

pub item_faulty : (p : Position) (at : ℕ) (reason : Reason) → Faulty 0 p.left at reason
    → item_from p ≡ Err (refused (p.place + at) (Cbor reason))
unfolding item_from
item_faulty p at reason faulty =
    let stops = item_refused 16 0 refl p.left at reason faulty in
    let sum = stops.sum in
    let place : p.place + (length p.left - stops.left) ≡ p.place + at = omega arith in
    ap (found_item p) stops.is ∙ ap (λ (n : ℕ). Err (refused n (Cbor reason))) place

-- ---- skipping an item

abbrev on_item : Position → DataItem × Position → Result (Position × Position) Refusal
on_item p x = Ok (inside p x.0, x.1)

pub skip_ok : (p q : Position) (piece : List ℕ) → IsItem piece → Takes p q piece
    → inner_from p ≡ Ok (at_place piece p.place, q)
skip_ok p q piece item taken =
    let x = item.0 in
    let is : piece ≡ spell x = item.1.is in
    let whole : p.left ≡ spell x ++ q.left = taken.parts ∙ ap (λ (l : List ℕ). l ++ q.left) is in
    let place : p.place + length (spell x) ≡ q.place = ap (λ (l : List ℕ). p.place + length l) (sym is) ∙ sym taken.place in
    ap (λ (r : Result (DataItem × Position) Refusal). r >>= on_item p) (item_read p x q.left item.1.valid whole) ∙ ap (λ (n : ℕ). Ok (inside p x, at_place q.left n)) place ∙ ap (λ (l : List ℕ). Ok (at_place l p.place, q)) (sym is)

pub skip_err : (p : Position) (e : CborRefusal) → IsRefusal p (Faulty 0) e
    → inner_from p ≡ Err (of_cbor e)
skip_err p e refusal = ap (λ (r : Result (DataItem × Position) Refusal). r >>= on_item p) (item_faulty p refusal.at e.reason refusal.fault) ∙ ap (λ (n : ℕ). Err (refused n (Cbor e.reason))) (sym refusal.place)

-- ---- judgements

-- judging accepts just what the grammar says, and refuses just what the refusals say
pub record Judges {A : Type 0} (judge : ℕ → DataItem → Result A Refusal) (says : Says A)
    (form : Refuses) : Type 0 where
  pub ok : (levels place : ℕ) (x : DataItem) (a : A) → IsValidWithin levels x → judge place x ≡ Ok a
      → says place x a
  pub again : (place : ℕ) (x : DataItem) (a : A) → says place x a → judge place x ≡ Ok a
  pub err : (levels place : ℕ) (x : DataItem) (r : Refusal) → IsValidWithin levels x
      → judge place x ≡ Err r → form place x r
  pub refuses : (place : ℕ) (x : DataItem) (r : Refusal) → form place x r → judge place x ≡ Err r

-- ---- the next item

pub next_ok : {A : Type 0} (judge : ℕ → DataItem → Result A Refusal) (says : Says A)
    (form : Refuses)
    → Judges judge says form → (p : Position) (a : A) (q : Position) → IsBytes p.left
    → next_judged judge p ≡ Ok (a, q) → TakesNext says p q a
next_ok {A} judge says form law p a q fits e =
    bind_ok _ _ _ e (λ x x-is e. bind_ok _ _ _ e (λ b b-is e.
    let item = item_ok p x.0 x.1 fits x-is in
    let parts = ok_pair b a x.1 q e in
    let all : TakesNext says p x.1 b = record { item = x.0; valid = item.valid; says_so = law.ok 0 p.place x.0 b item.valid b-is; taken = item.taken } in
    subst (λ (c : A). TakesNext says p q c) parts.0 (subst (λ (r : Position). TakesNext says p r b) parts.1 all)))

pub next_err : {A : Type 0} (judge : ℕ → DataItem → Result A Refusal) (says : Says A)
    (form : Refuses)
    → Judges judge says form → (p : Position) (r : Refusal) → IsBytes p.left
    → next_judged judge p ≡ Err r → RefusesNext form p r
next_err judge says form law p r fits e =
    bind_err _ _ _ e
    (λ f. let fault = item_err p r fits f in subst (RefusesNext form p) (sym fault.is) (FaultyNext fault.at fault.reason fault.faulty))
    (λ x x-is e. bind_err _ _ _ e
    (λ f. let item = item_ok p x.0 x.1 fits x-is in RefusedNext x.0 x.1.left r item.valid item.taken.parts (law.err 0 p.place x.0 r item.valid f))
    (λ b b-is never. absurd cc))

pub next_read : {A : Type 0} (judge : ℕ → DataItem → Result A Refusal) (says : Says A)
    (form : Refuses)
    → Judges judge says form → (p : Position) (x : DataItem) (rest : List ℕ) (a : A) → IsValid x
    → p.left ≡ spell x ++ rest → says p.place x a
    → next_judged judge p ≡ Ok (a, after p (spell x) rest)
next_read judge says form law p x rest a valid is so = rw (item_read p x rest valid is, law.again p.place x a so) refl

pub next_refused : {A : Type 0} (judge : ℕ → DataItem → Result A Refusal) (says : Says A)
    (form : Refuses)
    → Judges judge says form → (p : Position) (r : Refusal) → RefusesNext form p r
    → next_judged judge p ≡ Err r
next_refused judge says form law p r (FaultyNext at reason faulty) = rw (item_faulty p at reason faulty) refl
next_refused judge says form law p r (RefusedNext x rest s valid is f) = rw (item_read p x rest valid is, law.refuses p.place x s f) refl

-- ---- the whole of some bytes

pub whole_ok : {A : Type 0} (judge : ℕ → DataItem → Result A Refusal) (says : Says A)
    (form : Refuses)
    → Judges judge says form → (place : ℕ) (bytes : List ℕ) (a : A) → IsBytes bytes
    → whole_judged judge place bytes ≡ Ok a → SaysWhole says place bytes a
whole_ok {A} judge says form law place bytes a fits e =
    bind_ok (item_from (at_place bytes place)) _ _ e (λ x x-is e. elim (chosen {A = Result A Refusal} (eqb (length x.1.left) 0) (judge place x.0) (Err (refused x.1.place Trailing)) (Ok a) e) [
      | inl (end, f) ↦
          let item = item_ok (at_place bytes place) x.0 x.1 fits x-is in
          let nothing : x.1.left ≡ [] = nil_from_length x.1.left (eqb-true _ _ end) in
          let is : bytes ≡ spell x.0 = item.taken.parts ∙ ap (λ (l : List ℕ). spell x.0 ++ l) nothing ∙ append-nil (spell x.0) in
          record { item = x.0; spells = record { valid = item.valid; is = is }; says_so = law.ok 0 place x.0 a item.valid f }
      | inr (more, f) ↦ absurd cc
    ])

pub whole_err : {A : Type 0} (judge : ℕ → DataItem → Result A Refusal) (says : Says A)
    (form : Refuses)
    → Judges judge says form → (place : ℕ) (bytes : List ℕ) (r : Refusal) → IsBytes bytes
    → whole_judged judge place bytes ≡ Err r → RefusesWhole form place bytes r
whole_err {A} judge says form law place bytes r fits e =
    let p = at_place bytes place in
    bind_err _ _ _ e
    (λ f. let fault = item_err p r fits f in subst (RefusesWhole form place bytes) (sym fault.is) (FaultyItem fault.at fault.reason fault.faulty))
    (λ x x-is e.
    let item = item_ok p x.0 x.1 fits x-is in
    elim (chosen {A = Result A Refusal} (eqb (length x.1.left) 0) (judge place x.0) (Err (refused x.1.place Trailing)) (Err r) e) [
      | inl (end, f) ↦
          let nothing : x.1.left ≡ [] = nil_from_length x.1.left (eqb-true _ _ end) in
          let is : bytes ≡ spell x.0 = item.taken.parts ∙ ap (λ (l : List ℕ). spell x.0 ++ l) nothing ∙ append-nil (spell x.0) in
          RefusedItem x.0 r (record { valid = item.valid; is = is }) (law.err 0 place x.0 r item.valid f)
      | inr (more, f) ↦
          let some : x.1.left ≢ [] = λ empty. eqb-false _ _ more (ap length empty) in
          let at : refused (place + length (spell x.0)) Trailing ≡ r = ap (λ (n : ℕ). refused n Trailing) (sym item.taken.place) ∙ same_err _ r f in
          subst (RefusesWhole form place bytes) at (BytesAfter x.0 x.1.left item.valid item.taken.parts some)
    ])

pub whole_read : {A : Type 0} (judge : ℕ → DataItem → Result A Refusal) (says : Says A)
    (form : Refuses)
    → Judges judge says form → (place : ℕ) (bytes : List ℕ) (a : A) → SaysWhole says place bytes a
    → whole_judged judge place bytes ≡ Ok a
whole_read judge says form law place bytes a so =
    let is : bytes ≡ spell so.item ++ [] = so.spells.is ∙ sym (append-nil (spell so.item)) in
    rw (item_read (at_place bytes place) so.item [] so.spells.valid is) (law.again place so.item a so.says_so)

pub whole_refused : {A : Type 0} (judge : ℕ → DataItem → Result A Refusal) (says : Says A)
    (form : Refuses)
    → Judges judge says form → (place : ℕ) (bytes : List ℕ) (r : Refusal)
    → RefusesWhole form place bytes r → whole_judged judge place bytes ≡ Err r
whole_refused judge says form law place bytes r (FaultyItem at reason faulty) = rw (item_faulty (at_place bytes place) at reason faulty) refl
whole_refused judge says form law place bytes r (BytesAfter x rest valid is some) =
    let more : eqb (length rest) 0 ≡ false = ne_eqb (length rest) 0 (λ e. some (nil_from_length rest e)) in
    rw (item_read (at_place bytes place) x rest valid is, more) refl
whole_refused judge says form law place bytes r (RefusedItem x s spells f) =
    let is : bytes ≡ spell x ++ [] = spells.is ∙ sym (append-nil (spell x)) in
    rw (item_read (at_place bytes place) x [] spells.valid is) (law.refuses place x s f)
