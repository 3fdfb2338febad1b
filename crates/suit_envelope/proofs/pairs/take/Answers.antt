use Rattle.std.proofs.Common.{sym, ap, ◌∙◌}
use Rattle.suit_envelope.specs.EnvelopeReading.{pair_more}
use Rattle.suit_envelope.specs.Said.{pairs_say}
use Rattle.suit_envelope.proofs.pairs.take.Goals as goal

pub returns-in_default : goal.returns-in_default
returns-in_default c = record {
  says = c.take_content.ensures.says c.args.place ∙ ap (pair_more (pairs_say c.args.found.now) c.args.key c.args.place) (sym c.in-Some.is);
  whole = c.take_content.ensures.whole;
}
