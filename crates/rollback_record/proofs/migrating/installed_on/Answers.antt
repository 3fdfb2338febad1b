use Rattle.suit_edge.specs.FlashLaws.{same_flash_then}
use Rattle.rollback_record.proofs.migrating.installed_on.Goals as goal

pub returns-in-Err-read_installed-clause-same : goal.returns-in-Err-read_installed-clause-same
returns-in-Err-read_installed-clause-same g c t =
    same_flash_then _ _ _ _ (g.met.D.Disk.obeys c.load_record_by.new.disk t) (c.load_record_by.ensures.same t) (c.read_installed.ensures.same t)

pub returns-in-Ok-clause-room : goal.returns-in-Ok-clause-room
returns-in-Ok-clause-room g c = c.in-Ok.ensures.room

pub returns-in-Ok-clause-same : goal.returns-in-Ok-clause-same
returns-in-Ok-clause-same g c t = same_flash_then _ _ _ _ (g.met.D.Disk.obeys c.load_record_by.new.disk t) (c.load_record_by.ensures.same t) (c.read_installed.ensures.same t)
