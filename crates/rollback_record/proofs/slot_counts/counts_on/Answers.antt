use Rattle.std.proofs.Common.{◌∙◌, arith, rules}
use Rattle.std.proofs.lemmas.List.{length-set}
use Rattle.rollback_record.specs.RecordPage.{HasSecondSlot}
use Rattle.rollback_record.proofs.SlotCounts.{more}
use Rattle.rollback_record.proofs.slot_counts.counts_on.Goals as goal

pub loop-i-init : goal.loop-i-init
loop-i-init c = record { size = search rules; each = λ k lt. absurd (omega (arith, lt)) }

pub loop-i-preserved : goal.loop-i-preserved
loop-i-preserved c = record {
  size = length-set c.loop-i.slots c.loop-i.i c.slots_on.result ∙ c.loop-i.invariant.size;
  each = more (λ k. HasSecondSlot c.args.config.now k) c.loop-i.slots c.loop-i.i c.slots_on.result (omega (arith, c.loop-i-test.true, c.loop-i.invariant.size, c.most-i-end.ensures.few)) c.loop-i.invariant.each c.slots_on.ensures;
}

pub returns : goal.returns
returns c i low = c.loop-i.invariant.each i (omega (arith, low, c.loop-i-test.false, c.most-i-end.ensures.is))
