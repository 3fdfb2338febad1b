use Rattle.std.proofs.Common.{subst}
use Rattle.suit_edge.specs.Flash.{IsFlash}
use Rattle.suit_edge.specs.FlashLaws.{image_on, same_flash, starts}
use Rattle.rollback_record.specs.Migrating.{OutsideMigration}
use Rattle.suit_cli.specs.declared.reply.Stop.TheVariants as stops
use Rattle.suit_cli.proofs.Chains.{ends_there}
use Rattle.suit_cli.proofs.Initing.{looks_self}
use Rattle.suit_cli.proofs.Migrating.{answered, ends_same, keeps_told, stays_settled, stays_sound}
use Rattle.suit_cli.proofs.Sounding.{stays_start}
use Rattle.suit_cli.proofs.migrate.run_migrate.Goals as goal

pub returns-in_err-done-clause-answer : goal.returns-in_err-done-clause-answer
returns-in_err-done-clause-answer g c here = ends_there _ _ _ _ c.from_residual.result stops.NoMemory c.from_residual.ensures.1 (looks_self _)

pub returns-in_err-done-clause-any_moment : goal.returns-in_err-done-clause-any_moment
returns-in_err-done-clause-any_moment g c t = starts _ _ (image_on (OutsideMigration c.args.base) _)

pub returns-in_err-done-clause-sound : goal.returns-in_err-done-clause-sound
returns-in_err-done-clause-sound g c t settled = stays_start c.sound_laws.ensures _ settled

pub returns-in_err-done-clause-settled : goal.returns-in_err-done-clause-settled
returns-in_err-done-clause-settled g c t settled never = settled

pub returns-in_err-done-clause-keeps : goal.returns-in_err-done-clause-keeps
returns-in_err-done-clause-keeps g c t = ends_same _ _ _ c.from_residual.result c.from_residual.ensures.1 (same_flash _)

pub returns-clause-answer : goal.returns-clause-answer
returns-clause-answer g c here =
    answered g.D.Disk.told c.args.base (g.D.Disk.extent c.args.flash.now) (g.D.Disk.extent c.migrate-migrated.new.disk) (g.D.Disk.flash c.args.flash.now) (g.D.Disk.flash c.migrate-migrated.new.disk)
    (g.D.Disk.faults c.args.flash.now) (g.D.Disk.faults c.migrate-migrated.new.disk) c.migrate-migrated.ensures.size here c.migrate-migrated.result c.in_ok-done.done c.told.result
    (record {
      counts = c.migrate-migrated.ensures.counts;
      exact = c.migrate-migrated.ensures.exact;
      left = c.migrate-migrated.ensures.left;
      migrated = c.migrate-migrated.ensures.migrated;
      kept = λ t. (c.migrate-migrated.ensures.keeps t).reads;
    }) c.in_ok-done.ensures c.told.ensures

pub returns-clause-any_moment : goal.returns-clause-any_moment
returns-clause-any_moment g c t = (c.migrate-migrated.ensures.keeps t).images

pub returns-clause-sound : goal.returns-clause-sound
returns-clause-sound g c t =
    stays_sound (g.D.Disk.extent c.args.flash.now) (g.D.Disk.flash c.args.flash.now) (g.D.Disk.flash c.migrate-migrated.new.disk) (g.met.D.Disk.obeys c.args.flash.now t)
    (c.migrate-migrated.ensures.any_moment t) (c.migrate-migrated.ensures.first t) c.sound_laws.ensures c.migration_laws.ensures

pub returns-clause-settled : goal.returns-clause-settled
returns-clause-settled g c t =
    stays_settled (g.D.Disk.extent c.args.flash.now) (g.D.Disk.flash c.args.flash.now) (g.D.Disk.flash c.migrate-migrated.new.disk) (g.met.D.Disk.obeys c.args.flash.now t)
    (c.migrate-migrated.ensures.any_moment t) (c.migrate-migrated.ensures.first t) c.sound_laws.ensures c.migration_laws.ensures
    (subst (IsFlash (g.D.Disk.flash c.migrate-migrated.new.disk)) c.migrate-migrated.ensures.size (g.met.D.Disk.obeys c.migrate-migrated.new.disk t))
    c.migrate-migrated.result (g.D.Disk.faults c.args.flash.now) (g.D.Disk.faults c.migrate-migrated.new.disk)
    c.migrate-migrated.ensures.counts (c.migrate-migrated.ensures.left t) (c.migrate-migrated.ensures.settled t)

pub returns-clause-keeps : goal.returns-clause-keeps
returns-clause-keeps g c t =
    keeps_told (g.D.Disk.extent c.args.flash.now) (g.D.Disk.flash c.args.flash.now) (g.D.Disk.flash c.migrate-migrated.new.disk) (g.met.D.Disk.obeys c.args.flash.now t)
    (c.migrate-migrated.ensures.any_moment t) (c.migrate-migrated.ensures.first t)
    g.D.Disk.told (g.D.Disk.faults c.args.flash.now) c.args.base c.migrate-migrated.result c.in_ok-done.done c.told.result
    (c.migrate-migrated.ensures.exact t) (c.migrate-migrated.ensures.left t) c.in_ok-done.ensures c.told.ensures
