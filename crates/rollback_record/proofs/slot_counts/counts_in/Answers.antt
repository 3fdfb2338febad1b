use Rattle.std.proofs.Common.{◌≡◌, ◌↔◌, ◌<◌, ◌∙◌, List, get_or, length, subst, arith, rules}
use Rattle.std.proofs.lemmas.List.{length-set}
use Rattle.flash_layout.specs.declared.layout.Entry.{Entry}
use Rattle.rollback_record.proofs.SlotCounts.{more}
use Rattle.rollback_record.proofs.slot_counts.counts_in.Goals as goal

pub loop-i-init : goal.loop-i-init
loop-i-init c = record { size = search rules; each = λ k lt. absurd (omega (arith, lt)) }

pub loop-i-preserved : goal.loop-i-preserved
loop-i-preserved c =
    let i = c.loop-i.i in
    let n = c.slots_in.result in
    let here = subst (λ (l : List Entry). (n ≡ 2) ↔ ((i < length l) × ((d : Entry) → (get_or l i d).slots ≡ 2))) c.as_slice-entries.ensures c.slots_in.ensures in
    record {
      size = length-set c.loop-i.slots i n ∙ c.loop-i.invariant.size;
      each = more (λ k. (k < length c.args.layout.now) × ((d : Entry) → (get_or c.args.layout.now k d).slots ≡ 2)) c.loop-i.slots i n (omega (arith, c.loop-i-test.true, c.loop-i.invariant.size)) c.loop-i.invariant.each here;
    }

pub returns : goal.returns
returns c i low = c.loop-i.invariant.each i (omega (arith, low, c.loop-i-test.false))
