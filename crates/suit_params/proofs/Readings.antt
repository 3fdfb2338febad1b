-- The answers of a cursor's calls, in terms of the reading functions.
use Rattle.std.proofs.Common.{◌≡◌, ℕ, ◌+◌, ◌-◌, ◌<◌, true, ltb, List, length, Some, Result, Ok, Err, sym, ap, ◌∙◌, inl, inr}
use Rattle.std.specs.Prelude.{option_and_then}
use Rattle.std.specs.Result.{result_ok}
use Rattle.std.proofs.lemmas.Bool.{lt-ltb}
use Rattle.det_cbor.specs.declared.head.Head.{Head}
use Rattle.det_cbor.specs.declared.reason.Reason.{Reason}
use Rattle.det_cbor.specs.declared.reason.Reason.TheVariants.{Truncated}
use Rattle.det_cbor.specs.declared.reason.CborRefusal.{CborRefusal}
use Rattle.det_cbor.specs.Faults.{BadHead}
use Rattle.det_cbor.specs.HeadReading.{head_at, place_in}
use Rattle.det_cbor.specs.Position.{Position, IsRefusal, next_head, next_bytes, refusal_at}
use Rattle.det_cbor.specs.ResultLaws.{chosen}
use Rattle.det_cbor.proofs.BadHeads.{bad_head}
use Rattle.suit_params.specs.declared.refusal.Why.TheVariants.{Cbor}
use Rattle.suit_params.specs.Refusing.{refused}
use Rattle.suit_params.specs.Reading.{of_cbor, found_head, head_from, bytes_from}

-- ---- heads

pub head_ok : (p : Position) (h : Head) (q : Position) → next_head p ≡ Some (h, q) → head_from p ≡ Ok (h, q)
unfolding head_from
head_ok p h q e = by_answer (head_at p.left) e
  where
    by_answer : (r : Result (Head × List ℕ) Reason) → option_and_then {U = Head × Position} (λ x. Some (x.0, record { left = x.1; place = p.place + (length p.left - length x.1) })) (result_ok r) ≡ Some (h, q) → found_head p r ≡ Ok (h, q)
    by_answer (Ok x) e = cc
    by_answer (Err reason) e = absurd cc

pub head_err : (p : Position) (e : CborRefusal) → IsRefusal p BadHead e → head_from p ≡ Err (of_cbor e)
unfolding head_from
head_err p e refusal =
    let bad = bad_head p.left refusal.at e.reason refusal.fault in
    let read : head_at p.left ≡ Err e.reason = bad.read in
    let place : p.place + place_in p.left e.reason ≡ e.place = sym (refusal.place ∙ ap (λ (n : ℕ). p.place + n) bad.place) in
    rw read (ap (λ (n : ℕ). Err (refused n (Cbor e.reason))) place)

-- ---- strings

pub bytes_ok : (n : ℕ) (p : Position) (taken : List ℕ) (q : Position) → next_bytes n p ≡ Some (taken, q) → bytes_from n p ≡ Ok (taken, q)
unfolding bytes_from
bytes_ok n p taken q e =
    elim (chosen (ltb (length p.left) n) _ _ _ e) [
      | inl (short, never) ↦ absurd cc
      | inr (long, is) ↦ rw long cc
    ]

pub bytes_err : (n : ℕ) (p : Position) (e : CborRefusal) → length p.left < n → e ≡ refusal_at p (length p.left) Truncated → bytes_from n p ≡ Err (of_cbor e)
unfolding bytes_from
bytes_err n p e lt is = let short : ltb (length p.left) n ≡ true = lt-ltb _ _ lt in rw short (ap (λ (r : CborRefusal). Err (of_cbor r)) (sym is))
