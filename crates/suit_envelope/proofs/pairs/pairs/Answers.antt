use Rattle.std.proofs.Common.{◌∙◌}
use Rattle.suit_envelope.specs.Said.{pairs_say}
use Rattle.suit_envelope.proofs.Loops.{pairs_step}
use Rattle.suit_envelope.proofs.pairs.pairs.Goals as goal

pub loop-preserved : goal.loop-preserved
loop-preserved c = (
  pairs_step c.args.count c.loop.counter c.loop.map c.pair_turn.new.map (pairs_say c.loop.found) (pairs_say c.pair_turn.new.found) _ c.loop-test.true c.in_ok-pair_turn.ensures.says c.loop.invariant.0,
  c.pair_turn.ensures.whole ∙ c.loop.invariant.1,
)
