use Rattle.std.proofs.Common.{rules}
use Rattle.suit_edge.specs.FlashLaws.{grows_then}
use Rattle.flash_layout.proofs.Zeros.{entry_clear, entry_kept, zeros_then}
use Rattle.flash_layout.proofs.formatting.empty_each.Goals as goal

pub returns-in-Failed-clause-keeps : goal.returns-in-Failed-clause-keeps
returns-in-Failed-clause-keeps g c t =
    entry_kept _ _ _ _ c.args.entries.now c.loop-entry.entry-index _ _ (g.met.D.Disk.obeys c.loop-entry.disk t) c.loop-entry-test.true c.entry-item.is (c.loop-entry.invariant.keeps t) (c.empty_slots.ensures.keeps t)

pub loop-entry-preserved : goal.loop-entry-preserved
loop-entry-preserved g c =
    let old = g.D.Disk.flash c.loop-entry.disk in
    let new = g.D.Disk.flash c.empty_slots.new.disk in
    record {
      size = search rules;
      faults = search rules;
      clear = λ t. entry_clear old.reads new.reads c.args.entries.now c.loop-entry.entry-index c.entry-item.result c.entry-item.result c.loop-entry-test.true c.entry-item.is (c.in-Done.ensures.zeros t) (c.in-Done.ensures.clear t) (c.loop-entry.invariant.clear t);
      zeros = λ t. zeros_then _ _ _ (c.loop-entry.invariant.zeros t) (c.in-Done.ensures.zeros t);
      keeps = λ t. entry_kept _ old new _ c.args.entries.now c.loop-entry.entry-index _ _ (g.met.D.Disk.obeys c.loop-entry.disk t) c.loop-entry-test.true c.entry-item.is (c.loop-entry.invariant.keeps t) (c.empty_slots.ensures.keeps t);
      grows = λ t. grows_then (g.D.Disk.flash c.args.disk.now) old new (c.loop-entry.invariant.keeps t).images.later (c.loop-entry.invariant.grows t) (c.empty_slots.ensures.grows t);
    }
