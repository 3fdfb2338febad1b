use Rattle.flash_layout.specs.FrameFacts.{facts}
use Rattle.rollback_record.proofs.FrameLoads.{config_read}
use Rattle.rollback_record.proofs.load.read_config.Goals as goal

pub returns-in-Done-clause-bytes : goal.returns-in-Done-clause-bytes
returns-in-Done-clause-bytes g c t =
    let size = g.D.Disk.extent c.args.disk.now in
    config_read size c.args.frame (facts size c.args.frame c.requires.frame) (g.D.Disk.flash c.args.disk.now).reads _ _ c.requires.long (c.in-Done.ensures.bytes t)
