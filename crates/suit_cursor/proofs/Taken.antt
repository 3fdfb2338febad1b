-- Parameters that are known to be read without a fault.
use Rattle.std.proofs.Common.{◌≡◌, ◌∙◌, ℕ, Bool, true, false, cond, eqb, Option, Some, None, Result, Ok, Err, refl, sym, ap, subst}
use Rattle.std.specs.Prelude.{IsOk, IsSome}
use Rattle.std.proofs.lemmas.Bool.{eqb-true}
use Rattle.det_cbor.specs.declared.head.Head.{Head}
use Rattle.det_cbor.specs.declared.head.HeadKind.{HeadKind}
use Rattle.det_cbor.specs.declared.head.HeadKind.TheVariants as kinds
use Rattle.det_cbor.specs.HeadReading.{◌>>=◌}
use Rattle.det_cbor.specs.Position.{Position}
use Rattle.det_cbor.specs.ArgumentLaws.{IsBytes}
use Rattle.suit_params.specs.declared.refusal.Refusal.{Refusal}
use Rattle.suit_params.specs.declared.refusal.Why.TheVariants.{Shape, Algorithm, BadParam}
use Rattle.suit_params.specs.Refusing.{refused}
use Rattle.suit_params.specs.Reading.{head_from, kind_from, bytes_from, only_from, array_from}
use Rattle.suit_params.specs.declared.digest.Digest.{Digest}
use Rattle.suit_params.specs.declared.digest_kind.DigestKind.{DigestKind}
use Rattle.suit_params.specs.DigestKinds.{size_of, kind_of}
use Rattle.suit_params.specs.DigestReading.{digest_with, value_at, algorithm_by, algorithm_after, algorithm_at, elements_at, digest_at}
use Rattle.suit_params.specs.ParamReading.{id_from, held_from, digest_from}
use Rattle.suit_cursor.proofs.Known.{ok_is, first_ok, then_ok}
use Rattle.suit_cursor.proofs.ItsHead.{all_of_it}

-- a test that passed
tested : {A : Type 0} (b : Bool) (r : Result A Refusal) (bad : Refusal) → IsOk (cond b r (Err bad)) → b ≡ true
tested true r bad ok = refl
tested false r bad ok = absurd cc

-- ---- as many bytes as the head before them says

module _ {A : Type 0} (take : ℕ → Position → Result A Refusal) where
  abbrev sized_from : ℕ → Refusal → Result (ℕ × Position) Refusal → Result A Refusal
  sized_from size bad r = r >>= λ n. cond (eqb n.0 size) (take n.0 n.1) (Err bad)

  of_size : (size n : ℕ) (bad : Refusal) (q : Position) → IsOk (cond (eqb n size) (take n q) (Err bad)) → cond (eqb n size) (take n q) (Err bad) ≡ take size q
  of_size size n bad q ok =
      let is = tested (eqb n size) (take n q) bad ok in
      ap (λ (b : Bool). cond b (take n q) (Err bad)) is ∙ ap (λ (m : ℕ). take m q) (eqb-true n size is)

  sized : (size : ℕ) (bad : Refusal) (r : Result (ℕ × Position) Refusal) (n : ℕ) (q : Position) → r ≡ Ok (n, q) → IsOk (sized_from size bad r) → sized_from size bad r ≡ take size q
  sized size bad r n q e ok =
      let step = ap (sized_from size bad) e in
      step ∙ of_size size n bad q (subst (λ (s : Result A Refusal). IsOk s) step ok)

pub id_goes : (p : Position) (n : ℕ) (q : Position) → kind_from kinds.Bytes BadParam p ≡ Ok (n, q) → IsOk (id_from p) → id_from p ≡ bytes_from 16 q
unfolding id_from
id_goes p n q e ok = sized bytes_from 16 (refused p.place BadParam) (kind_from kinds.Bytes BadParam p) n q e ok

pub value_goes : (array : ℕ) (kind : DigestKind) (p : Position) (n : ℕ) (q : Position) → kind_from kinds.Bytes Shape p ≡ Ok (n, q) → IsOk (value_at array kind p)
    → value_at array kind p ≡ digest_with kind (size_of kind) q
unfolding value_at
value_goes array kind p n q e ok = sized (digest_with kind) (size_of kind) (refused array Algorithm) (kind_from kinds.Bytes Shape p) n q e ok

-- ---- digests

by_ok : (array : ℕ) (q : Position) (kind : Option DigestKind) → IsOk (algorithm_by array q kind) → IsSome kind
by_ok array q None ok = absurd cc
by_ok array q (Some kind) ok = refl

after_ok : (array place n : ℕ) (q : Position) (kind : HeadKind) → IsOk (algorithm_after array place n q kind)
    → IsSome (kind_of n) × (algorithm_after array place n q kind ≡ algorithm_by array q (kind_of n))
after_ok array place n q kinds.Negative ok = (by_ok array q (kind_of n) ok, refl)
after_ok array place n q kind ok = absurd cc

-- the item of an algorithm is its head

pub head_ok : (array : ℕ) (p : Position) → IsOk (algorithm_at array p) → IsOk (head_from p)
unfolding algorithm_at
head_ok array p ok = first_ok (head_from p) _ ok

algorithm_step : (array : ℕ) (p : Position) (h : Head) (q : Position) → head_from p ≡ Ok (h, q) → algorithm_at array p ≡ algorithm_after array p.place h.value q h.kind
unfolding algorithm_at
algorithm_step array p h q e = ap (λ (r : Result (Head × Position) Refusal). r >>= λ g. algorithm_after array p.place g.0.value g.1 g.0.kind) e

module _ (array : ℕ) (p : Position) (h : Head) (q : Position) (e : head_from p ≡ Ok (h, q)) (ok : IsOk (algorithm_at array p)) where
  known : IsSome (kind_of h.value) × (algorithm_after array p.place h.value q h.kind ≡ algorithm_by array q (kind_of h.value))
  known = after_ok array p.place h.value q h.kind (subst (λ (r : Result (DigestKind × Position) Refusal). IsOk r) (algorithm_step array p h q e) ok)

  pub kind_known : IsSome (kind_of h.value)
  kind_known = known.0

  pub algorithm_goes : (kind : DigestKind) → kind_of h.value ≡ Some kind → algorithm_at array p ≡ Ok (kind, q)
  algorithm_goes kind is = algorithm_step array p h q e ∙ known.1 ∙ ap (algorithm_by array q) is

abbrev both_at : ℕ → Position → Result Digest Refusal
both_at array q = algorithm_at array q >>= λ s. value_at array s.0 s.1 >>= λ d. Ok d.0

both_is : (place n : ℕ) (q : Position) → IsOk (elements_at place (n, q)) → elements_at place (n, q) ≡ both_at place q
both_is place n q ok = ap (λ (b : Bool). cond b (both_at place q) (Err (refused place Shape))) (tested (eqb n 2) (both_at place q) (refused place Shape) ok)

digest_goes : (p : Position) (n : ℕ) (q : Position) → kind_from kinds.Array Shape p ≡ Ok (n, q) → IsOk (digest_at p) → digest_at p ≡ both_at p.place q
unfolding digest_at array_from
digest_goes p n q e ok =
    let step = ap (λ (r : Result (ℕ × Position) Refusal). r >>= elements_at p.place) e in
    step ∙ both_is p.place n q (subst (λ (s : Result Digest Refusal). IsOk s) step ok)

pub array_ok : (p : Position) → IsOk (digest_at p) → IsOk (kind_from kinds.Array Shape p)
unfolding digest_at array_from
array_ok p ok = first_ok (kind_from kinds.Array Shape p) _ ok

-- the heads of a digest, as the code reads them

module _ (p : Position) (array n : ℕ) (q : Position) (place : array ≡ p.place) (e : kind_from kinds.Array Shape p ≡ Ok (n, q)) (ok : IsOk (digest_at p)) where
  goes : digest_at p ≡ both_at array q
  goes = digest_goes p n q e ok ∙ ap (λ (a : ℕ). both_at a q) (sym place)

  both_ok : IsOk (both_at array q)
  both_ok = subst (λ (r : Result Digest Refusal). IsOk r) goes ok

  pub algorithm_ok : IsOk (algorithm_at array q)
  algorithm_ok = first_ok (algorithm_at array q) _ both_ok

  pub value_ok : (kind : DigestKind) (r : Position) → algorithm_at array q ≡ Ok (kind, r) → IsOk (value_at array kind r)
  value_ok kind r f = first_ok (value_at array kind r) _ (then_ok (algorithm_at array q) _ (kind, r) f both_ok)

  pub digest_is : (kind : DigestKind) (r : Position) (d : Digest) (s : Position) → algorithm_at array q ≡ Ok (kind, r) → value_at array kind r ≡ Ok (d, s) → digest_at p ≡ Ok d
  digest_is kind r d s f g =
      goes ∙ ap (λ (a : Result (DigestKind × Position) Refusal). a >>= λ t. value_at array t.0 t.1 >>= λ v. Ok v.0) f
      ∙ ap (λ (a : Result (Digest × Position) Refusal). a >>= λ v. Ok v.0) g

-- the content of a byte string is one digest, and nothing more
abbrev in_content : Position × Position → Result (Digest × Position) Refusal
in_content c = only_from c.0 >>= λ item. digest_at item >>= λ d. Ok (d, c.1)

pub content_goes : (p c q : Position) → held_from p ≡ Ok (c, q) → IsBytes c.left → IsOk (digest_from p) → digest_from p ≡ (digest_at c >>= λ d. Ok (d, q))
content_goes p c q e bytes ok =
    let step : digest_from p ≡ in_content (c, q) = ap (λ (r : Result (Position × Position) Refusal). r >>= in_content) e in
    let goes = subst (λ (s : Result (Digest × Position) Refusal). IsOk s) step ok in
    let item = ok_is (only_from c) (first_ok (only_from c) _ goes) in
    step ∙ ap (λ (r : Result Position Refusal). r >>= λ i. digest_at i >>= λ d. Ok (d, q)) item.1 ∙ ap (λ (i : Position). digest_at i >>= λ d. Ok (d, q)) (all_of_it c item.0 bytes item.1)
