use Rattle.std.proofs.Common.{arith}
use Rattle.flash_layout.specs.FrameFacts.{facts}
use Rattle.flash_layout.specs.Frames.{head_of}
use Rattle.rollback_record.proofs.Pages.{head_long}
use Rattle.rollback_record.proofs.load.load_beside.Goals as goal

pub returns-clause-exact : goal.returns-clause-exact
returns-clause-exact g c t counts =
    let reads = (g.D.Disk.flash c.args.disk.now).reads in
    let is = facts (g.D.Disk.extent c.args.disk.now) c.args.frame c.requires in
    c.judge_pages.ensures.exact (head_of c.args.frame reads)
    (head_long (g.D.Disk.extent c.args.disk.now) c.args.frame is reads (omega (arith, is.inside, (g.met.D.Disk.obeys c.args.disk.now t).fits)))
    (c.in-Done.ensures.bytes t) counts
