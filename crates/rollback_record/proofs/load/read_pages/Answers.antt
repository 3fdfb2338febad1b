use Rattle.flash_layout.specs.FrameFacts.{facts}
use Rattle.rollback_record.proofs.FrameLoads.{have_read}
use Rattle.rollback_record.proofs.load.read_pages.Goals as goal

pub returns-in-Done-read_at-clause-bytes : goal.returns-in-Done-read_at-clause-bytes
returns-in-Done-read_at-clause-bytes g c t =
    let size = g.D.Disk.extent c.args.disk.now in
    have_read size c.args.frame (facts size c.args.frame c.requires.frame) (g.D.Disk.flash c.args.disk.now).reads (g.D.Disk.flash c.read_at.new.self).reads _ _ _ _ _ _ c.record_page.ensures
    c.record_page-2.ensures c.requires.first c.requires.second (c.read_at.ensures.same t).reads (c.in-Done.ensures.bytes t) (c.in-Done-read_at.ensures.bytes t)
