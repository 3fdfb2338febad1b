use Rattle.std.proofs.Common.{ℕ, IsTrue, sym, subst}
use Rattle.suit_edge.specs.Flash.{IsFlash, Keeps, Passes}
use Rattle.suit_edge.specs.FlashLaws.{keeps_same, keeps_start}
use Rattle.flash_layout.specs.declared.frame.Frame.{Frame}
use Rattle.flash_layout.specs.declared.frame.TheConstants.{VERSION_1}
use Rattle.flash_layout.specs.declared.layout_fault.LayoutFault.TheVariants as faults
use Rattle.flash_layout.specs.declared.moving.BaseFault.{BaseFault}
use Rattle.flash_layout.specs.FrameFacts.{facts}
use Rattle.flash_layout.specs.LayoutFaults.{IsBaseHeld, RefusesBase}
use Rattle.flash_layout.specs.Layouts.{IsLayout}
use Rattle.flash_layout.specs.Moving.{IsMoved, described_fault}
use Rattle.flash_layout.specs.Roots.{second_frame}
use Rattle.rollback_record.specs.Migrating.{IsReady, OutsideMigration, IsSameInstallation}
use Rattle.rollback_record.specs.Moved.{HasRoom}
use Rattle.rollback_record.proofs.Migrations.{after_reads, all_alike, at_rest, keeps_moved, migrated, room_there, shut_then}
use Rattle.rollback_record.proofs.migrating.migrate_first.Given as given
use Rattle.rollback_record.proofs.migrating.migrate_first.Goals as goal
use Rattle.rollback_record.proofs.migrating.migrate_first.Goals.{After-move_to}

pub moved-requires : goal.moved-requires
moved-requires g c = subst (λ (n : ℕ). IsLayout VERSION_1 n c.args.layout.now) (sym c.size.ensures) c.requires.allowed.layout_is

-- ---- the base may not be

pub returns-in-Err-Outside-clause-exact : goal.returns-in-Err-Outside-clause-exact
returns-in-Err-Outside-clause-exact g c t = record {
  layout = c.args.layout.now;
  key = c.args.key.now;
  config = c.requires.config t;
  holds = subst (λ (n : ℕ). RefusesBase (second_frame c.args.base) n c.args.layout.now faults.BaseOutside) c.size.ensures
      (subst (λ (f : BaseFault). RefusesBase (second_frame c.args.base) c.size.result c.args.layout.now (described_fault f)) c.in-Err-Outside.field-0-is c.in-Err-Outside.ensures.refused);
}

pub returns-in-Err-Outside-clause-any_moment : goal.returns-in-Err-Outside-clause-any_moment
returns-in-Err-Outside-clause-any_moment g c t = at_rest (g.D.Disk.flash c.args.disk.now)

pub returns-in-Err-Outside-clause-keeps : goal.returns-in-Err-Outside-clause-keeps
returns-in-Err-Outside-clause-keeps g c t = keeps_start (OutsideMigration c.args.base) (g.D.Disk.flash c.args.disk.now)

pub returns-in-Err-Overlap-clause-exact : goal.returns-in-Err-Overlap-clause-exact
returns-in-Err-Overlap-clause-exact g c t = record {
  layout = c.args.layout.now;
  key = c.args.key.now;
  config = c.requires.config t;
  holds =
      let described = subst (λ (f : BaseFault). RefusesBase (second_frame c.args.base) c.size.result c.args.layout.now (described_fault f)) c.in-Err-Overlap.field-0-is c.in-Err-Overlap.ensures.refused in
      let sized = subst (λ (n : ℕ). RefusesBase (second_frame c.args.base) n c.args.layout.now (faults.BaseOverlap c.in-Err-Overlap.component)) c.size.ensures described in
      subst (λ (i : ℕ). RefusesBase (second_frame c.args.base) (g.D.Disk.extent c.args.disk.now) c.args.layout.now (faults.BaseOverlap i)) (sym c.in-Err-Overlap.component-is) sized;
}

pub returns-in-Err-Overlap-clause-any_moment : goal.returns-in-Err-Overlap-clause-any_moment
returns-in-Err-Overlap-clause-any_moment g c t = at_rest (g.D.Disk.flash c.args.disk.now)

pub returns-in-Err-Overlap-clause-keeps : goal.returns-in-Err-Overlap-clause-keeps
returns-in-Err-Overlap-clause-keeps g c t = keeps_start (OutsideMigration c.args.base) (g.D.Disk.flash c.args.disk.now)

-- ---- what is installed was not read

pub returns-in-Err-FlashFault-clause-any_moment : goal.returns-in-Err-FlashFault-clause-any_moment
returns-in-Err-FlashFault-clause-any_moment g c t = after_reads (g.D.Disk.flash c.args.disk.now) (g.D.Disk.flash c.installed_on.new.disk) (c.installed_on.ensures.same t)

pub returns-in-Err-FlashFault-clause-keeps : goal.returns-in-Err-FlashFault-clause-keeps
returns-in-Err-FlashFault-clause-keeps g c t = keeps_same (OutsideMigration c.args.base) (g.D.Disk.flash c.args.disk.now) (g.D.Disk.flash c.installed_on.new.disk) (c.installed_on.ensures.same t)

pub returns-in-Err-NoMemory-clause-any_moment : goal.returns-in-Err-NoMemory-clause-any_moment
returns-in-Err-NoMemory-clause-any_moment g c t = after_reads (g.D.Disk.flash c.args.disk.now) (g.D.Disk.flash c.installed_on.new.disk) (c.installed_on.ensures.same t)

pub returns-in-Err-NoMemory-clause-keeps : goal.returns-in-Err-NoMemory-clause-keeps
returns-in-Err-NoMemory-clause-keeps g c t = keeps_same (OutsideMigration c.args.base) (g.D.Disk.flash c.args.disk.now) (g.D.Disk.flash c.installed_on.new.disk) (c.installed_on.ensures.same t)

-- ---- it moves

module _ (g : given.Over) (c : After-move_to g) where
  held_at : IsMoved c.args.base (g.D.Disk.extent c.args.disk.now) c.args.layout.now c.in-Ok.frame
  held_at = subst (λ (n : ℕ). IsMoved c.args.base n c.args.layout.now c.in-Ok.frame) c.size.ensures c.in-Ok.ensures.ok

  room_held : HasRoom c.in-Ok.frame c.in-Ok-installed_on.installed
  room_held = room_there c.in-Ok.frame (facts (g.D.Disk.extent c.args.disk.now) c.in-Ok.frame held_at.placed).large c.in-Ok-installed_on.installed c.in-Ok-installed_on.ensures.room

  law : IsTrue g.D.Disk.told → IsFlash (g.D.Disk.flash c.installed_on.new.disk) (g.D.Disk.extent c.args.disk.now)
  law t = subst (IsFlash (g.D.Disk.flash c.installed_on.new.disk)) c.installed_on.ensures.size (g.met.D.Disk.obeys c.installed_on.new.disk t)

  left_alone : IsTrue g.D.Disk.told → Keeps (OutsideMigration c.args.base) (g.D.Disk.flash c.args.disk.now) (g.D.Disk.flash c.move_to.new.disk)
  left_alone t =
      keeps_moved c.args.base (g.D.Disk.extent c.args.disk.now) c.args.layout.now c.args.key.now c.in-Ok.frame held_at c.in-Ok-installed_on.installed room_held
      (g.D.Disk.flash c.args.disk.now) (g.D.Disk.flash c.installed_on.new.disk) (g.D.Disk.flash c.move_to.new.disk) (law t) (c.installed_on.ensures.same t) (c.move_to.ensures.keeps t)

  at_any_moment : IsTrue g.D.Disk.told → IsReady (g.D.Disk.flash c.args.disk.now) → Passes (g.D.Disk.flash c.args.disk.now) (g.D.Disk.flash c.move_to.new.disk) (IsSameInstallation (g.D.Disk.flash c.args.disk.now).reads)
  at_any_moment t ready =
      let a = g.D.Disk.flash c.args.disk.now in
      let b = g.D.Disk.flash c.installed_on.new.disk in
      let d = g.D.Disk.flash c.move_to.new.disk in
      let law_a = g.met.D.Disk.obeys c.args.disk.now t in
      let read = c.in-Ok-installed_on.ensures.read t in
      let same = c.installed_on.ensures.same t in
      all_alike c.args.base (g.D.Disk.extent c.args.disk.now) c.args.layout.now c.args.key.now c.in-Ok.frame held_at c.in-Ok-installed_on.installed room_held a b d law_a (law t) same (c.requires.config t) read ready
      (c.move_to.ensures.any_moment t (shut_then c.args.base (g.D.Disk.extent c.args.disk.now) c.args.layout.now c.args.key.now c.in-Ok.frame held_at c.in-Ok-installed_on.installed room_held a b d law_a (law t) same (c.requires.config t) read ready))

pub returns-in-Failed-clause-any_moment : goal.returns-in-Failed-clause-any_moment
returns-in-Failed-clause-any_moment g c = at_any_moment g (goal.at.returns-in-Failed-clause-any_moment g c).After-move_to

pub returns-clause-any_moment : goal.returns-clause-any_moment
returns-clause-any_moment g c = at_any_moment g (goal.at.returns-clause-any_moment g c).After-move_to

pub returns-in-Failed-clause-keeps : goal.returns-in-Failed-clause-keeps
returns-in-Failed-clause-keeps g c = left_alone g (goal.at.returns-in-Failed-clause-keeps g c).After-move_to

pub returns-clause-keeps : goal.returns-clause-keeps
returns-clause-keeps g c = left_alone g (goal.at.returns-clause-keeps g c).After-move_to

pub returns-clause-exact : goal.returns-clause-exact
returns-clause-exact g c t =
    let moved = held_at g (goal.at.returns-clause-exact g c).After-move_to in (
      moved.frame_is,
      record {
        layout = c.args.layout.now;
        key = c.args.key.now;
        config = c.requires.config t;
        holds = subst (λ (f : Frame). IsBaseHeld f (g.D.Disk.extent c.args.disk.now) c.args.layout.now) moved.frame_is moved.held;
      },
    )

pub returns-clause-migrated : goal.returns-clause-migrated
returns-clause-migrated g c t =
    let at = (goal.at.returns-clause-migrated g c).After-move_to in
    migrated c.args.base (g.D.Disk.extent c.args.disk.now) c.args.layout.now c.args.key.now c.in-Ok.frame (held_at g at) c.in-Ok-installed_on.installed (room_held g at)
    (g.D.Disk.flash c.args.disk.now) (g.D.Disk.flash c.installed_on.new.disk) (g.D.Disk.flash c.move_to.new.disk) (g.met.D.Disk.obeys c.args.disk.now t) (law g at t) (c.installed_on.ensures.same t) (c.requires.config t) (c.in-Ok-installed_on.ensures.read t)
    (c.move_to.ensures.keeps t) (c.in-Done.ensures.moved t)
