-- The answer of a call that reads a digest, in terms of the grammar and the refusals.
use Rattle.std.proofs.Common.{◌≡◌, Result, Ok, Err, refl, sym, ap, ◌∙◌}
use Rattle.std.specs.Prelude.{IfOk, IfErr}
use Rattle.det_cbor.specs.DataItem.{DataItem}
use Rattle.det_cbor.specs.HeadReading.{◌>>=◌, map_ok}
use Rattle.det_cbor.specs.Position.{Position}
use Rattle.det_cbor.specs.ArgumentLaws.{IsBytes}
use Rattle.det_cbor.specs.ResultLaws.{ok_pair}
use Rattle.suit_params.specs.declared.digest.Digest.{Digest}
use Rattle.suit_params.specs.declared.refusal.Refusal.{Refusal}
use Rattle.suit_params.specs.Refusing.{RefusesNext, TakesNext}
use Rattle.suit_params.specs.Digests.{IsDigest, RefusesDigest}
use Rattle.suit_params.specs.Judging.{judge_digest}
use Rattle.suit_params.specs.Reading.{inside, item_from, next_judged}
use Rattle.suit_params.specs.DigestReading.{digest_at, next_digest}
use Rattle.suit_params.specs.JudgingLaws.{Judges, item_ok, next_ok, next_err, next_read, next_refused}
use Rattle.suit_params.proofs.DigestJudging.{digest_read, digest_ok, digest_again, digest_err, digest_refused}

pub digest_judges : Judges judge_digest IsDigest RefusesDigest
digest_judges = record { ok = λ levels place x d valid. digest_ok place x d; again = digest_again; err = λ levels place x r valid. digest_err place x r; refuses = digest_refused }

abbrev pub ReadsDigest : Position → Position → Result Digest Refusal → Type 0
ReadsDigest p q r = map_ok {B = Digest × Position} (λ d. (d, q)) r ≡ next_digest p

abbrev alone : Position → DataItem × Position → Result (Position × Position) Refusal
alone p x = Ok (inside p x.0, x.1)

abbrev as_digest : Position × Position → Result (Digest × Position) Refusal
as_digest y = digest_at y.0 >>= λ d. Ok (d, y.1)

abbrev by_judgement : Position → DataItem × Position → Result (Digest × Position) Refusal
by_judgement p x = judge_digest p.place x.0 >>= λ d. Ok (d, x.1)

judged : (p : Position) → IsBytes p.left → next_digest p ≡ next_judged judge_digest p
judged p fits = by_answer (item_from p) refl
  where
    by_answer : (a : Result (DataItem × Position) Refusal) → item_from p ≡ a → ((a >>= alone p) >>= as_digest) ≡ (a >>= by_judgement p)
    by_answer (Ok x) is = let valid = (item_ok p x.0 x.1 fits is).valid in rw (digest_read 0 x.0 p.place valid) refl
    by_answer (Err r) is = refl

pub ok_takes : (p q : Position) (r : Result Digest Refusal) → IsBytes p.left → ReadsDigest p q r → IfOk r (λ d. TakesNext IsDigest p q d)
ok_takes p q (Ok d) fits e = next_ok judge_digest IsDigest RefusesDigest digest_judges p d q fits (sym (judged p fits) ∙ sym e)
ok_takes p q (Err r) fits e = tt

pub err_refuses : (p q : Position) (r : Result Digest Refusal) → IsBytes p.left → ReadsDigest p q r → IfErr r (RefusesNext RefusesDigest p)
err_refuses p q (Ok d) fits e = tt
err_refuses p q (Err r) fits e = next_err judge_digest IsDigest RefusesDigest digest_judges p r fits (sym (judged p fits) ∙ sym e)

bytes_of : (q : Position) (r : Result Digest Refusal) (d : Digest) (s : Position) → map_ok {B = Digest × Position} (λ d. (d, q)) r ≡ Ok (d, s) → r ≡ Ok d
bytes_of q (Ok e) d s is = ap Ok (ok_pair e d q s is).0
bytes_of q (Err r) d s is = absurd cc

err_of : (q : Position) (a : Result Digest Refusal) (r : Refusal) → map_ok {B = Digest × Position} (λ d. (d, q)) a ≡ Err r → a ≡ Err r
err_of q (Ok e) r is = absurd cc
err_of q (Err s) r is = cc

pub every_digest : (p q : Position) (r : Result Digest Refusal) → IsBytes p.left → ReadsDigest p q r → (new : Position) (d : Digest) → TakesNext IsDigest p new d → r ≡ Ok d
every_digest p q r fits e new d takes =
    bytes_of q r d _ (e ∙ judged p fits ∙ next_read judge_digest IsDigest RefusesDigest digest_judges p takes.item new.left d takes.valid takes.taken.parts takes.says_so)

pub every_refusal : (p q : Position) (r : Result Digest Refusal) → IsBytes p.left → ReadsDigest p q r → (s : Refusal) → RefusesNext RefusesDigest p s → r ≡ Err s
every_refusal p q r fits e s refuses = err_of q r s (e ∙ judged p fits ∙ next_refused judge_digest IsDigest RefusesDigest digest_judges p s refuses)
