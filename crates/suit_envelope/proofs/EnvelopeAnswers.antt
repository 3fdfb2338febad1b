-- The answer of the call that decodes an envelope, in terms of the grammar and the refusals.
use Rattle.std.proofs.Common.{◌≡◌, ◌<◌, ◌^◌, ℕ, List, length, Result, Ok, Err, sym, ◌∙◌}
use Rattle.std.specs.Prelude.{IfOk, IfErr}
use Rattle.det_cbor.specs.HeadReading.{map_ok}
use Rattle.det_cbor.specs.ArgumentLaws.{IsBytes}
use Rattle.suit_params.specs.declared.refusal.Refusal.{Refusal}
use Rattle.suit_params.specs.Reading.{whole_judged}
use Rattle.suit_params.specs.JudgingLaws.{whole_ok, whole_err, whole_read, whole_refused}
use Rattle.suit_params.specs.HeldLaws.{whole_is}
use Rattle.suit_envelope.specs.declared.envelope.Envelope.{Envelope}
use Rattle.suit_envelope.specs.Envelopes.{EnvelopeSays, IsEnvelope, RefusesEnvelope}
use Rattle.suit_envelope.specs.Judging.{judge_envelope}
use Rattle.suit_envelope.specs.EnvelopeReading.{envelope_at, envelope_from}
use Rattle.suit_envelope.specs.Places.{PartsEndBelow}
use Rattle.suit_envelope.specs.Said.{said_by, EnvelopeOf, RefusesBytes}
use Rattle.suit_envelope.proofs.PartPlaces.{parts_end}
use Rattle.suit_envelope.proofs.EnvelopeReads.{envelope_read}
use Rattle.suit_envelope.proofs.EnvelopeJudging.{envelope_judges}

abbrev pub Reads : List ℕ → Result Envelope Refusal → Type 0
Reads bytes r = map_ok said_by r ≡ envelope_from bytes

judged : (bytes : List ℕ) → IsBytes bytes → envelope_from bytes ≡ whole_judged judge_envelope 0 bytes
judged bytes fits = whole_is envelope_at judge_envelope envelope_read (record { left = bytes; place = 0 }) fits

pub ok_says : (bytes : List ℕ) (r : Result Envelope Refusal) → IsBytes bytes → Reads bytes r → IfOk r (λ e. EnvelopeOf bytes (said_by e))
ok_says bytes (Ok e) fits is = whole_ok judge_envelope IsEnvelope RefusesEnvelope envelope_judges 0 bytes (said_by e) fits (sym (judged bytes fits) ∙ sym is)
ok_says bytes (Err r) fits is = tt

pub ok_ends : (bytes : List ℕ) (r : Result Envelope Refusal) → length bytes < 2 ^ 64 → IfOk r (λ e. EnvelopeOf bytes (said_by e)) → IfOk r (λ e. PartsEndBelow (2 ^ 64) (said_by e))
ok_ends bytes (Ok e) fits so = parts_end bytes (said_by e) (2 ^ 64) so fits
ok_ends bytes (Err r) fits so = tt

pub err_refuses : (bytes : List ℕ) (r : Result Envelope Refusal) → IsBytes bytes → Reads bytes r → IfErr r (RefusesBytes bytes)
err_refuses bytes (Ok e) fits is = tt
err_refuses bytes (Err r) fits is = whole_err judge_envelope IsEnvelope RefusesEnvelope envelope_judges 0 bytes r fits (sym (judged bytes fits) ∙ sym is)

pub every_envelope : (bytes : List ℕ) (r : Result Envelope Refusal) → IsBytes bytes → Reads bytes r → (said : EnvelopeSays) → EnvelopeOf bytes said → map_ok said_by r ≡ Ok said
every_envelope bytes r fits is said so = is ∙ judged bytes fits ∙ whole_read judge_envelope IsEnvelope RefusesEnvelope envelope_judges 0 bytes said so

err_of : (a : Result Envelope Refusal) (r : Refusal) → map_ok said_by a ≡ Err r → a ≡ Err r
err_of (Ok e) r is = absurd cc
err_of (Err s) r is = cc

pub every_refusal : (bytes : List ℕ) (a : Result Envelope Refusal) → IsBytes bytes → Reads bytes a → (r : Refusal) → RefusesBytes bytes r → a ≡ Err r
every_refusal bytes a fits is r bad = err_of a r (is ∙ judged bytes fits ∙ whole_refused judge_envelope IsEnvelope RefusesEnvelope envelope_judges 0 bytes r bad)
