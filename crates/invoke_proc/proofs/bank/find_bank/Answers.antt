use Rattle.std.proofs.Common.{None, Some}
use Rattle.suit_edge.specs.FlashLaws.{same_flash_then}
use Rattle.rollback_record.proofs.FrameLoads.{loaded_as}
use Rattle.invoke_proc.proofs.bank.find_bank.Goals as goal

pub returns-in-Ok-None-clause-none : goal.returns-in-Ok-None-clause-none
returns-in-Ok-None-clause-none g c t =
    loaded_as c.args.frame (g.D.Disk.flash c.args.disk.now).reads _ None c.in-Ok-None.field-0-is (c.in-Ok-None.ensures.exact t)

pub returns-in-Done-clause-recorded : goal.returns-in-Done-clause-recorded
returns-in-Done-clause-recorded g c t =
    loaded_as c.args.frame (g.D.Disk.flash c.args.disk.now).reads _ (Some c.in-Ok-Some.installed) c.in-Ok-Some.field-0-is (c.in-Ok-Some.ensures.exact t)

pub returns-in-Done-clause-same : goal.returns-in-Done-clause-same
returns-in-Done-clause-same g c t =
    same_flash_then _ _ _ _ (g.met.D.Disk.obeys c.load_record_by.new.disk t) (c.in-Ok-Some.ensures.same t) (c.read_bank.ensures.same t)

pub returns-in-Failed-clause-same : goal.returns-in-Failed-clause-same
returns-in-Failed-clause-same g c t =
    same_flash_then _ _ _ _ (g.met.D.Disk.obeys c.load_record_by.new.disk t) (c.in-Ok-Some.ensures.same t) (c.read_bank.ensures.same t)
