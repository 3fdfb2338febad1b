-- Verifying the blocks of a wrapper one by one, with the first difference so far.
use Rattle.std.proofs.Common.{◌≡◌, ◌≢◌, ℕ, suc, ◌+◌, ◌-◌, ◌<◌, ◌↔◌, List, [], ◌∷◌, Option, Some, None, Ok, Err, refl, sym, subst, ◌∙◌, arith}
use Rattle.std.specs.List.{AllByRecursion}
use Rattle.det_cbor.specs.HeadReading.{◌>>=◌}
use Rattle.det_cbor.specs.Position.{Position}
use Rattle.det_cbor.specs.ResultLaws.{bind_ok, same_ok, not_both}
use Rattle.hmac_mac0.specs.Mac0.{Verifies, Mismatches}
use Rattle.hmac_mac0.specs.Tags.{tag_bytes}
use Rattle.hmac_mac0.specs.Verdict.{IsJustified}
use Rattle.hmac_mac0.specs.declared.mac_tag.MacTag.{MacTag}
use Rattle.hmac_mac0.specs.declared.verdict.MacVerdict.{MacVerdict}
use Rattle.hmac_mac0.specs.declared.verdict.MacVerdict.TheVariants as verdict
use Rattle.suit_params.specs.declared.refusal.Refusal.{Refusal}
use Rattle.suit_params.specs.Reading.{content_from}
use Rattle.suit_envelope.specs.declared.macs.Difference.{Difference}
use Rattle.suit_envelope.specs.Macs.{FailsToVerify, SomeVerifies, ThisVerifies, ALaterVerifies, ThisDiffers, ALaterDiffers, BlocksSay, contents_from, kept, last_answer}

-- the answer for the blocks that are left, given the first difference so far
abbrev pub Ends : List ℕ → List ℕ → Option Difference → List (List ℕ) → MacVerdict → Type 0
Ends key payload None rest answer = BlocksSay key payload rest answer
Ends key payload (Some d) rest verdict.Verified = SomeVerifies key payload rest
Ends key payload (Some d) rest verdict.OtherKind = ⊥
Ends key payload (Some d) rest (verdict.Differs expected found) = AllByRecursion (FailsToVerify key payload) rest × (d.expected ≡ expected) × (d.found.now ≡ found.now)

-- the blocks that are left; what is answered for them is answered for all
pub record Left (key payload : List ℕ) (total : List (List ℕ)) (n : ℕ) (p : Position) (first : Option Difference) : Type 0 where
  pub rest : List (List ℕ)
  pub read : contents_from n p ≡ Ok rest
  pub answers : (answer : MacVerdict) → Ends key payload first rest answer → BlocksSay key payload total answer

pub next_first : Option Difference → MacVerdict → Option Difference
next_first (Some d) v = Some d
next_first None verdict.Verified = None
next_first None verdict.OtherKind = None
next_first None (verdict.Differs expected found) = Some (record { expected = expected; found = found })

-- one more block, which does not verify
pub ends_step : (key payload block : List ℕ) (rest : List (List ℕ)) (first : Option Difference) (v answer : MacVerdict) → v ≢ verdict.Verified → FailsToVerify key payload block → IsJustified v block key payload
    → Ends key payload (next_first first v) rest answer → Ends key payload first (block ∷ rest) answer
unfolding next_first
ends_step key payload block rest (Some d) v verdict.Verified other fails is e = ALaterVerifies block rest e
ends_step key payload block rest (Some d) v verdict.OtherKind other fails is e = e
ends_step key payload block rest (Some d) v (verdict.Differs expected found) other fails is e = ((fails, e.0), e.1, e.2)
ends_step key payload block rest None verdict.Verified answer other fails is e = absurd (other refl)
ends_step key payload block rest None verdict.OtherKind verdict.Verified other fails is e = ALaterVerifies block rest e
ends_step key payload block rest None verdict.OtherKind verdict.OtherKind other fails is e = (is, e)
ends_step key payload block rest None verdict.OtherKind (verdict.Differs expected found) other fails is e = ((fails, e.0), ALaterDiffers block rest is e.1)
ends_step key payload block rest None (verdict.Differs x f) verdict.Verified other fails is e = ALaterVerifies block rest e
ends_step key payload block rest None (verdict.Differs x f) verdict.OtherKind other fails is e = absurd e
ends_step key payload block rest None (verdict.Differs x f) (verdict.Differs expected found) other fails is e =
    ((fails, e.0), ThisDiffers block rest (subst (λ (t : MacTag). Mismatches block key payload (tag_bytes t) found.now) e.1 (subst (λ (t : List ℕ). Mismatches block key payload (tag_bytes x) t) e.2 is)))

-- one more block, which verifies
pub ends_verified : (key payload block : List ℕ) (rest : List (List ℕ)) (first : Option Difference) → Verifies block key payload → Ends key payload first (block ∷ rest) verdict.Verified
ends_verified key payload block rest (Some d) v = ThisVerifies block rest v
ends_verified key payload block rest None v = ThisVerifies block rest v

-- no blocks are left
pub ends_last : (key payload : List ℕ) (first : Option Difference) → Ends key payload first [] (last_answer first)
ends_last key payload None = tt
ends_last key payload (Some d) = (tt, refl, refl)

-- ---- turns of the loop

pub left_start : (key payload : List ℕ) (total : List (List ℕ)) (n : ℕ) (p : Position) → contents_from n p ≡ Ok total → Left key payload total n p None
left_start key payload total n p e = record { rest = total; read = e; answers = λ answer say. say }

-- the next block and those after it
pub record OneMore (n : ℕ) (q inner : Position) (rest : List (List ℕ)) : Type 0 where
  pub others : List (List ℕ)
  pub read : contents_from n q ≡ Ok others
  pub is : rest ≡ inner.left ∷ others

pub one_more : (n : ℕ) (p q inner : Position) (rest : List (List ℕ)) → Ok (inner, q) ≡ content_from p → contents_from (suc n) p ≡ Ok rest → OneMore n q inner rest
one_more n p q inner rest e read =
    let step : (contents_from n q >>= λ others. Ok (inner.left ∷ others)) ≡ Ok rest = sym (rw (← e) refl) ∙ read in
    bind_ok (contents_from n q) _ rest step (λ others others-is f. record { others = others; read = others-is; is = sym (same_ok _ rest f) })

pub left_step : (key payload : List ℕ) (total : List (List ℕ)) (count i : ℕ) (p q inner : Position) (first : Option Difference) (v : MacVerdict) → i < count → Ok (inner, q) ≡ content_from p
    → v ≢ verdict.Verified → FailsToVerify key payload inner.left → IsJustified v inner.left key payload → Left key payload total (count - i) p first → Left key payload total (count - (i + 1)) q (next_first first v)
left_step key payload total count i p q inner first v lt e other fails is left =
    let n = count - (i + 1) in
    let one : count - i ≡ suc n = omega arith in
    let more = one_more n p q inner left.rest e (subst (λ (k : ℕ). contents_from k p ≡ Ok left.rest) one left.read) in
    record {
      rest = more.others;
      read = more.read;
      answers = λ answer ends. left.answers answer (subst (λ (r : List (List ℕ)). Ends key payload first r answer) (sym more.is) (ends_step key payload inner.left more.others first v answer other fails is ends));
    }

pub left_verified : (key payload : List ℕ) (total : List (List ℕ)) (count i : ℕ) (p q inner : Position) (first : Option Difference) → i < count → Ok (inner, q) ≡ content_from p → Verifies inner.left key payload → Left key payload total (count - i) p first
    → BlocksSay key payload total verdict.Verified
left_verified key payload total count i p q inner first lt e v left =
    let n = count - (i + 1) in
    let one : count - i ≡ suc n = omega arith in
    let more = one_more n p q inner left.rest e (subst (λ (k : ℕ). contents_from k p ≡ Ok left.rest) one left.read) in
    left.answers verdict.Verified (subst (λ (r : List (List ℕ)). Ends key payload first r verdict.Verified) (sym more.is) (ends_verified key payload inner.left more.others first v))

pub left_refused : {P : Type 0} (key payload : List ℕ) (total : List (List ℕ)) (count i : ℕ) (p : Position) (r : Refusal) (first : Option Difference) → i < count → Err r ≡ content_from p → Left key payload total (count - i) p first → P
left_refused key payload total count i p r first lt e left =
    let n = count - (i + 1) in
    let one : count - i ≡ suc n = omega arith in
    let read = subst (λ (k : ℕ). contents_from k p ≡ Ok left.rest) one left.read in
    let never : contents_from (suc n) p ≡ Err r = rw (← e) refl in
    not_both (contents_from (suc n) p) left.rest r read never

pub left_last : (key payload : List ℕ) (total : List (List ℕ)) (p : Position) (first : Option Difference) → Left key payload total 0 p first → BlocksSay key payload total (last_answer first)
left_last key payload total p first left =
    let nothing : left.rest ≡ [] = sym (same_ok [] left.rest left.read) in
    left.answers (last_answer first) (subst (λ (r : List (List ℕ)). Ends key payload first r (last_answer first)) (sym nothing) (ends_last key payload first))

-- ---- turns of the loop, by the verdict on the block

fails_by : (key payload block : List ℕ) (v w : MacVerdict) → v ≡ w → w ≢ verdict.Verified → ((v ≡ verdict.Verified) ↔ Verifies block key payload) → FailsToVerify key payload block
fails_by key payload block v w is other iff verifies = other (sym is ∙ iff.1 verifies)

next_other : (first : Option Difference) → next_first first verdict.OtherKind ≡ first
unfolding next_first
next_other None = refl
next_other (Some d) = refl

next_differs : (first : Option Difference) (d : Difference) → next_first first (verdict.Differs d.expected d.found) ≡ Some (kept first d)
unfolding next_first
next_differs None d = refl
next_differs (Some f) d = refl

pub left_other : (key payload block : List ℕ) (total : List (List ℕ)) (count i : ℕ) (p q inner : Position) (first : Option Difference) (v : MacVerdict) → i < count → Ok (inner, q) ≡ content_from p → block ≡ inner.left
    → v ≡ verdict.OtherKind → ((v ≡ verdict.Verified) ↔ Verifies block key payload) → IsJustified v block key payload → Left key payload total (count - i) p first → Left key payload total (count - (i + 1)) q first
left_other key payload block total count i p q inner first v lt e same is iff so left =
    let other : verdict.OtherKind ≢ verdict.Verified = λ f. absurd cc in
    let fails = fails_by key payload block v verdict.OtherKind is other iff in
    let just = subst (λ (w : MacVerdict). IsJustified w block key payload) is so in
    let moved = left_step key payload total count i p q inner first verdict.OtherKind lt e other (subst (FailsToVerify key payload) same fails) (subst (λ (b : List ℕ). IsJustified verdict.OtherKind b key payload) same just) left in
    subst (Left key payload total (count - (i + 1)) q) (next_other first) moved

pub left_differs : (key payload block : List ℕ) (total : List (List ℕ)) (count i : ℕ) (p q inner : Position) (first : Option Difference) (v : MacVerdict) (d : Difference) → i < count → Ok (inner, q) ≡ content_from p → block ≡ inner.left
    → v ≡ verdict.Differs d.expected d.found → ((v ≡ verdict.Verified) ↔ Verifies block key payload) → IsJustified v block key payload → Left key payload total (count - i) p first → Left key payload total (count - (i + 1)) q (Some (kept first d))
left_differs key payload block total count i p q inner first v d lt e same is iff so left =
    let w = verdict.Differs d.expected d.found in
    let other : w ≢ verdict.Verified = λ f. absurd cc in
    let fails = fails_by key payload block v w is other iff in
    let just = subst (λ (u : MacVerdict). IsJustified u block key payload) is so in
    let moved = left_step key payload total count i p q inner first w lt e other (subst (FailsToVerify key payload) same fails) (subst (λ (b : List ℕ). IsJustified w b key payload) same just) left in
    subst (Left key payload total (count - (i + 1)) q) (next_differs first d) moved

pub left_found : (key payload block : List ℕ) (total : List (List ℕ)) (count i : ℕ) (p q inner : Position) (first : Option Difference) (v : MacVerdict) → i < count → Ok (inner, q) ≡ content_from p → block ≡ inner.left
    → v ≡ verdict.Verified → ((v ≡ verdict.Verified) ↔ Verifies block key payload) → Left key payload total (count - i) p first → BlocksSay key payload total verdict.Verified
left_found key payload block total count i p q inner first v lt e same is iff left =
    left_verified key payload total count i p q inner first lt e (subst (λ (b : List ℕ). Verifies b key payload) same (iff.0 is)) left
