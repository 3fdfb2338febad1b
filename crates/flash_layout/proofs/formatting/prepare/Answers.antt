use Rattle.std.proofs.Common.{List, IsTrue, subst, ◌∙◌, arith}
use Rattle.suit_edge.specs.Flash.{Keeps}
use Rattle.suit_edge.specs.FlashLaws.{keeps_fewer, keeps_then}
use Rattle.flash_layout.specs.Frames.{record_place}
use Rattle.flash_layout.specs.declared.layout.Entry.{Entry}
use Rattle.flash_layout.specs.Formats.{AreAllClearAt, OutsideAllLengths, OutsidePrepared, OutsideRecordGates, OutsideWorkGates}
use Rattle.flash_layout.proofs.Gating.{gates_apart}
use Rattle.flash_layout.proofs.formatting.prepare.Given as given
use Rattle.flash_layout.proofs.formatting.prepare.Goals as goal
use Rattle.flash_layout.proofs.formatting.prepare.Goals.{After-close_work, After-empty_each}

pub returns-in-Failed-clause-keeps : goal.returns-in-Failed-clause-keeps
returns-in-Failed-clause-keeps g c t = keeps_fewer (OutsidePrepared c.args.frame c.args.layout.now) (OutsideRecordGates c.args.frame) (λ i o. o.0) _ _ (c.close_records.ensures.keeps t)

closed : (g : given.Over) (c : After-close_work g) → IsTrue g.D.Disk.told → Keeps (OutsidePrepared c.args.frame c.args.layout.now) (g.D.Disk.flash c.args.disk.now) (g.D.Disk.flash c.close_work.new.disk)
closed g c t =
    let K = OutsidePrepared c.args.frame c.args.layout.now in
    let b = g.D.Disk.flash c.close_records.new.disk in
    let d = g.D.Disk.flash c.close_work.new.disk in
    keeps_then K _ b d _ (g.met.D.Disk.obeys c.close_records.new.disk t)
    (keeps_fewer K (OutsideRecordGates c.args.frame) (λ i o. o.0) _ b (c.close_records.ensures.keeps t))
    (keeps_fewer K (OutsideWorkGates c.args.frame) (λ i o. o.1) b d (c.close_work.ensures.keeps t))

pub returns-in-Failed-close_work-clause-keeps : goal.returns-in-Failed-close_work-clause-keeps
returns-in-Failed-close_work-clause-keeps g c = closed g (goal.at.returns-in-Failed-close_work-clause-keeps g c).After-close_work

kept : (g : given.Over) (c : After-empty_each g) → IsTrue g.D.Disk.told → Keeps (OutsidePrepared c.args.frame c.args.layout.now) (g.D.Disk.flash c.args.disk.now) (g.D.Disk.flash c.close_work.new.disk)
    → Keeps (OutsidePrepared c.args.frame c.args.layout.now) (g.D.Disk.flash c.args.disk.now) (g.D.Disk.flash c.empty_each.new.disk)
kept g c t before =
    let layout = c.args.layout.now in
    let K = OutsidePrepared c.args.frame layout in
    let b = g.D.Disk.flash c.close_work.new.disk in
    let d = g.D.Disk.flash c.empty_each.new.disk in
    keeps_then K _ b d _ (g.met.D.Disk.obeys c.close_work.new.disk t) before
    (keeps_fewer K (OutsideAllLengths layout) (λ i o. o.2) b d (subst (λ (l : List Entry). Keeps (OutsideAllLengths l) b d) c.as_slice.ensures (c.empty_each.ensures.keeps t)))

pub returns-in-Failed-empty_each-clause-keeps : goal.returns-in-Failed-empty_each-clause-keeps
returns-in-Failed-empty_each-clause-keeps g c t =
    let at = goal.at.returns-in-Failed-empty_each-clause-keeps g c in
    kept g at.After-empty_each t (closed g at.After-close_work t)

pub returns-in-Done-empty_each-clause-keeps : goal.returns-in-Done-empty_each-clause-keeps
returns-in-Done-empty_each-clause-keeps g c t =
    let at = goal.at.returns-in-Done-empty_each-clause-keeps g c in
    kept g at.After-empty_each t (closed g at.After-close_work t)

pub returns-in-Done-empty_each-clause-prepared : goal.returns-in-Done-empty_each-clause-prepared
returns-in-Done-empty_each-clause-prepared g c t =
    let zeros = c.in-Done-empty_each.ensures.zeros t in
    let closed = c.in-Done.ensures.closed t in
    let same = (c.close_work.ensures.keeps t).reads.same in
    let apart = gates_apart (g.D.Disk.extent c.args.disk.now) c.args.frame c.requires.frame in
    record {
      closed = (
        zeros (record_place c.args.frame 0) (same (record_place c.args.frame 0) (apart 0 (omega arith)) ∙ closed.0),
        zeros (record_place c.args.frame 1) (same (record_place c.args.frame 1) (apart 1 (omega arith)) ∙ closed.1),
      );
      work = λ two. let work = c.in-Done-close_work.ensures.closed t two in (zeros _ work.0, zeros _ work.1);
      clear = subst (λ (l : List Entry). AreAllClearAt l (g.D.Disk.flash c.empty_each.new.disk).reads) c.as_slice.ensures (c.in-Done-empty_each.ensures.clear t);
    }
