use Rattle.std.proofs.Common.{◌∙◌}
use Rattle.suit_edge.specs.FlashLaws.{keeps_fewer, keeps_then}
use Rattle.suit_edge.specs.Ranges.{Outside}
use Rattle.flash_layout.specs.Frames.{record_place}
use Rattle.rollback_record.specs.Moved.{OutsideFirstPage, OutsideRecords}
use Rattle.rollback_record.proofs.Filling.{first_beside}
use Rattle.rollback_record.proofs.moved.write_records.Goals as goal

pub returns-in-Failed-clause-keeps : goal.returns-in-Failed-clause-keeps
returns-in-Failed-clause-keeps g c t = keeps_fewer (OutsideRecords c.args.frame) (OutsideFirstPage c.args.frame) (λ i o. o.0) _ _ (c.write_record.ensures.keeps t)

pub returns-in-Failed-close_record-clause-keeps : goal.returns-in-Failed-close_record-clause-keeps
returns-in-Failed-close_record-clause-keeps g c t =
    let K = OutsideRecords c.args.frame in
    let b = g.D.Disk.flash c.write_record.new.disk in
    keeps_then K _ b _ _ (g.met.D.Disk.obeys c.write_record.new.disk t) (keeps_fewer K (OutsideFirstPage c.args.frame) (λ i o. o.0) _ b (c.write_record.ensures.keeps t))
    (keeps_fewer K (Outside (record_place c.args.frame 1) 1) (λ i o. o.1) b _ (c.close_record.ensures.keeps t))

pub returns-in-Done-close_record-clause-keeps : goal.returns-in-Done-close_record-clause-keeps
returns-in-Done-close_record-clause-keeps g c t =
    let K = OutsideRecords c.args.frame in
    let b = g.D.Disk.flash c.write_record.new.disk in
    keeps_then K _ b _ _ (g.met.D.Disk.obeys c.write_record.new.disk t) (keeps_fewer K (OutsideFirstPage c.args.frame) (λ i o. o.0) _ b (c.write_record.ensures.keeps t))
    (keeps_fewer K (Outside (record_place c.args.frame 1) 1) (λ i o. o.1) b _ (c.close_record.ensures.keeps t))

pub returns-in-Done-close_record-clause-pages : goal.returns-in-Done-close_record-clause-pages
returns-in-Done-close_record-clause-pages g c t =
    let sized = (g.met.D.Disk.obeys c.write_record.new.disk t).fits ∙ c.write_record.ensures.size in
    record {
      first = first_beside (g.D.Disk.extent c.args.disk.now) c.args.frame c.requires (g.D.Disk.flash c.write_record.new.disk).reads (g.D.Disk.flash c.close_record.new.disk).reads sized (c.close_record.ensures.keeps t).reads c.args.installed.now (c.in-Done.ensures.page t);
      second = c.in-Done-close_record.ensures.closed t;
    }
