-- The first item of bytes, split off from those after it.
use Rattle.std.proofs.Common.{◌≡◌, ℕ, ◌+◌, ◌-◌, ◌≤◌, List, ◌++◌, length, take, drop, Result, Ok, Err, refl, sym, ap, subst, ◌∙◌, arith, Bor}
use Rattle.std.specs.Prelude.{IfOk, IfErr}
use Rattle.std.proofs.lemmas.List.{take-append-drop, length-append, length-drop}
use Rattle.det_cbor.specs.declared.reason.Reason.{Reason}
use Rattle.det_cbor.specs.declared.reason.CborRefusal.{CborRefusal}
use Rattle.det_cbor.specs.declared.reason.Stop.{Stop}
use Rattle.det_cbor.specs.DataItem.{DataItem}
use Rattle.det_cbor.specs.Faults.{Faulty}
use Rattle.det_cbor.specs.HeadReading.{map_ok}
use Rattle.det_cbor.specs.ItemSkipping.{rest_of, split_by, item_split, skip_at}
use Rattle.det_cbor.specs.OneReading.{IsItem, StartsWithItem}
use Rattle.det_cbor.specs.ResultLaws.{ok_pair, same_ok, same_err}
use Rattle.det_cbor.specs.ArgumentLaws.{IsBytes}
use Rattle.det_cbor.proofs.ItemTakes.{item_takes}
use Rattle.det_cbor.proofs.ItemFaults.{item_fault}
use Rattle.det_cbor.proofs.ItemRefused.{item_refused}
use Rattle.det_cbor.proofs.OneReadingLaw.{starts_from, read_again}
use Rattle.det_cbor.proofs.SkipLaws.{skip_as, answer_read, answer_refused}

pub record IsSplit (bytes : List ℕ) (f : List ℕ × List ℕ) : Type 0 where
  pub parts : bytes ≡ f.0 ++ f.1
  pub item : IsItem f.0

pub split_ok : (bytes : List ℕ) (f : List ℕ × List ℕ) → IsBytes bytes → item_split bytes ≡ Ok f → IsSplit bytes f
unfolding item_split
split_ok bytes f fits e = by_answer (skip_at 16 bytes) refl e
  where
    by_answer : (r : Result (List ℕ) Stop) → skip_at 16 bytes ≡ r → split_by bytes r ≡ Ok f → IsSplit bytes f
    by_answer (Ok rest) is e =
        let read = answer_read bytes rest (sym is) in
        let starts = starts_from bytes read.0 rest (item_takes 16 0 refl bytes read.0 rest fits read.1) in
        let used = length bytes - length rest in
        let split : IsSplit bytes (take used bytes, drop used bytes) = record { parts = sym (take-append-drop used bytes); item = (read.0, starts.spells) } in
        subst (λ (g : List ℕ × List ℕ). IsSplit bytes g) (same_ok (take used bytes, drop used bytes) f e) split
    by_answer (Err s) is e = absurd cc

pub record IsFaultAt (bytes : List ℕ) (e : CborRefusal) : Type 0 where
  pub fault : Faulty 0 bytes e.place e.reason
  pub within : e.place ≤ length bytes

pub split_err : (bytes : List ℕ) (r : CborRefusal) → IsBytes bytes → item_split bytes ≡ Err r → IsFaultAt bytes r
unfolding item_split
split_err bytes r fits e = by_answer (skip_at 16 bytes) refl e
  where
    by_answer : (a : Result (List ℕ) Stop) → skip_at 16 bytes ≡ a → split_by bytes a ≡ Err r → IsFaultAt bytes r
    by_answer (Ok rest) is e = absurd cc
    by_answer (Err s) is e =
        let fault = item_fault 16 0 refl bytes s fits (answer_refused bytes s (sym is)) in
        let sum = fault.sum in
        let place : fault.place ≡ length bytes - s.left = omega arith in
        let here : IsFaultAt bytes (record { place = length bytes - s.left; reason = s.reason }) = record { fault = subst (λ (n : ℕ). Faulty 0 bytes n s.reason) place fault.faulty; within = omega arith } in
        subst (λ (q : CborRefusal). IsFaultAt bytes q) (same_err (record { place = length bytes - s.left; reason = s.reason }) r e) here

pub split_again : (bytes : List ℕ) (x : DataItem) (used : ℕ) → StartsWithItem bytes x used → item_split bytes ≡ Ok (take used bytes, drop used bytes)
unfolding item_split
split_again bytes x used starts =
    let skipped : skip_at 16 bytes ≡ Ok (drop used bytes) = skip_as 16 bytes ∙ ap rest_of (read_again bytes x used starts) in
    let within : used ≤ length bytes = starts.within in
    let is : length bytes - length (drop used bytes) ≡ used = omega (arith, length-drop used bytes) in
    ap (split_by bytes) skipped ∙ ap (λ (n : ℕ). Ok (take n bytes, drop n bytes)) is

pub split_refused : (bytes : List ℕ) (at : ℕ) (reason : Reason) → Faulty 0 bytes at reason → item_split bytes ≡ Err (record { place = at; reason = reason })
unfolding item_split
split_refused bytes at reason faulty =
    let stops = item_refused 16 0 refl bytes at reason faulty in
    let sum = stops.sum in
    let skipped : skip_at 16 bytes ≡ Err (record { left = stops.left; reason = reason }) = skip_as 16 bytes ∙ ap rest_of stops.is in
    let place : length bytes - stops.left ≡ at = omega arith in
    ap (split_by bytes) skipped ∙ ap (λ (n : ℕ). Err (record { place = n; reason = reason })) place

-- ---- the answer of a call

abbrev pub Split : Type 0
Split = Result (Bor (List ℕ) × Bor (List ℕ)) CborRefusal

abbrev pub split_view : Split → Result (List ℕ × List ℕ) CborRefusal
split_view r = map_ok (λ f. (f.0.now, f.1.now)) r

pub answer_parts : (bytes : List ℕ) (r : Split) → IsBytes bytes → split_view r ≡ item_split bytes → IfOk r (λ f. bytes ≡ f.0.now ++ f.1.now)
answer_parts bytes (Ok f) fits e = (split_ok bytes (f.0.now, f.1.now) fits (sym e)).parts
answer_parts bytes (Err s) fits e = tt

pub answer_length : (bytes : List ℕ) (r : Split) → IfOk r (λ f. bytes ≡ f.0.now ++ f.1.now) → IfOk r (λ f. length bytes ≡ length f.0.now + length f.1.now)
answer_length bytes (Ok f) parts = ap length parts ∙ length-append f.0.now f.1.now
answer_length bytes (Err s) parts = tt

pub answer_item : (bytes : List ℕ) (r : Split) → IsBytes bytes → split_view r ≡ item_split bytes → IfOk r (λ f. IsItem f.0.now)
answer_item bytes (Ok f) fits e = (split_ok bytes (f.0.now, f.1.now) fits (sym e)).item
answer_item bytes (Err s) fits e = tt

pub answer_fault : (bytes : List ℕ) (r : Split) → IsBytes bytes → split_view r ≡ item_split bytes → IfErr r (λ s. Faulty 0 bytes s.place s.reason)
answer_fault bytes (Ok f) fits e = tt
answer_fault bytes (Err s) fits e = (split_err bytes s fits (sym e)).fault

pub answer_within : (bytes : List ℕ) (r : Split) → IsBytes bytes → split_view r ≡ item_split bytes → IfErr r (λ s. s.place ≤ length bytes)
answer_within bytes (Ok f) fits e = tt
answer_within bytes (Err s) fits e = (split_err bytes s fits (sym e)).within

pub answer_every_item : (bytes : List ℕ) (r : Split) → split_view r ≡ item_split bytes → (x : DataItem) (used : ℕ) → StartsWithItem bytes x used → map_ok (λ f. f.0.now) r ≡ Ok (take used bytes)
answer_every_item bytes r e x used starts = first_part r (take used bytes) (drop used bytes) (e ∙ split_again bytes x used starts)
  where
    first_part : (r : Split) (a b : List ℕ) → split_view r ≡ Ok (a, b) → map_ok (λ f. f.0.now) r ≡ Ok a
    first_part (Ok f) a b e = ap Ok (ok_pair f.0.now a f.1.now b e).0
    first_part (Err s) a b e = absurd cc

pub answer_every_fault : (bytes : List ℕ) (r : Split) → split_view r ≡ item_split bytes → (at : ℕ) (reason : Reason) → Faulty 0 bytes at reason → map_ok (λ f. f.0.now) r ≡ Err (record { place = at; reason = reason })
answer_every_fault bytes r e at reason faulty = refused r (record { place = at; reason = reason }) (e ∙ split_refused bytes at reason faulty)
  where
    refused : (r : Split) (s : CborRefusal) → split_view r ≡ Err s → map_ok (λ f. f.0.now) r ≡ Err s
    refused (Ok f) s e = absurd cc
    refused (Err t) s e = ap Err (same_err t s e)
