use Rattle.suit_params.specs.OneWholeLaws.{one_answer}
use Rattle.suit_envelope.specs.Envelopes.{IsEnvelope, RefusesEnvelope}
use Rattle.suit_envelope.specs.Judging.{judge_envelope}
use Rattle.suit_envelope.proofs.EntryLaws.{entries_say}
use Rattle.suit_envelope.proofs.PartPlaces.{parts_end, parts_are_strings}
use Rattle.suit_envelope.proofs.EnvelopeJudging.{envelope_judges}
use Rattle.suit_envelope.proofs.PutWrapper.{says_wrapper}
use Rattle.suit_envelope.proofs.TrimSays.{trims}
use Rattle.suit_envelope.proofs.law.envelope_laws.Goals as goal

pub returns : goal.returns
returns c = record {
  whole = one_answer judge_envelope IsEnvelope RefusesEnvelope envelope_judges;
  entries = entries_say;
  wrapper = says_wrapper;
  ends = parts_end;
  strings = parts_are_strings;
  trims = trims;
}
