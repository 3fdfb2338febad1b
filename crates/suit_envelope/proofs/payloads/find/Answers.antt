use Rattle.suit_envelope.proofs.PayloadLaws.{found_step}
use Rattle.suit_envelope.proofs.payloads.find.Goals as goal

pub loop-preserved : goal.loop-preserved
loop-preserved c =
    found_step (λ s. s.now) c.args.key.now c.args.count c.loop.counter c.loop.map c.pair.new.map c.in_ok-content.field-0 _ c.loop-test.true c.in_default.is c.in_ok-content.ensures c.loop.invariant
