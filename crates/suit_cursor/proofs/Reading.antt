-- Heads and bytes that are known to be read without a fault.
use Rattle.std.proofs.Common.{◌≡◌, ◌+◌, ◌≤◌, ℕ, Bool, true, false, cond, ltb, List, length, take, drop, Result, Ok, Err, refl, ap}
use Rattle.std.specs.Prelude.{IsOk}
use Rattle.std.proofs.lemmas.Bool.{ltb-false}
use Rattle.det_cbor.specs.declared.head.Head.{Head}
use Rattle.det_cbor.specs.declared.reason.Reason.{Reason}
use Rattle.det_cbor.specs.HeadReading.{head_at}
use Rattle.det_cbor.specs.Position.{Position}
use Rattle.suit_params.specs.declared.refusal.Refusal.{Refusal}
use Rattle.suit_params.specs.Reading.{found_head, head_from, bytes_from, resting}

found_ok : (p : Position) (r : Result (Head × List ℕ) Reason) → IsOk (found_head p r) → IsOk r
found_ok p (Ok x) ok = refl
found_ok p (Err reason) ok = absurd cc

pub head_goes : (p : Position) → IsOk (head_from p) → IsOk (head_at p.left)
unfolding head_from
head_goes p ok = found_ok p (head_at p.left) ok

pub head_is : (p : Position) (h : Head) (rest : List ℕ) → head_at p.left ≡ Ok (h, rest) → head_from p ≡ Ok (h, resting p rest)
unfolding head_from
head_is p h rest e = ap (found_head p) e

-- a test that did not refuse
untested : {A : Type 0} (b : Bool) (bad : Refusal) (r : Result A Refusal) → IsOk (cond b (Err bad) r) → b ≡ false
untested true bad r ok = absurd cc
untested false bad r ok = refl

pub bytes_long : (n : ℕ) (p : Position) → IsOk (bytes_from n p) → n ≤ length p.left
unfolding bytes_from
bytes_long n p ok = ltb-false (length p.left) n (untested (ltb (length p.left) n) _ _ ok)

pub bytes_are : (n : ℕ) (p : Position) → IsOk (bytes_from n p) → bytes_from n p ≡ Ok (take n p.left, record { left = drop n p.left; place = p.place + n })
unfolding bytes_from
bytes_are n p ok = let long = untested (ltb (length p.left) n) _ _ ok in rw long refl
