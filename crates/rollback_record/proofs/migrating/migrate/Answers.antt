use Rattle.std.proofs.Common.{◌≡◌, inl, inr, ℕ, List, IsTrue, sym, subst, arith}
use Rattle.suit_edge.specs.Flash.{IsFlash, IsSame, IsSettled}
use Rattle.suit_edge.specs.FlashLaws.{keeps_same, keeps_then, same_flash_then}
use Rattle.flash_layout.specs.declared.frame.Frame.{Frame}
use Rattle.flash_layout.specs.declared.frame.TheConstants.{VERSION_1}
use Rattle.flash_layout.specs.Configs.{ConfigOf, Configured}
use Rattle.rollback_record.specs.Migrating.{IsMigrated, IsReady, OutsideMigration}
use Rattle.rollback_record.proofs.Migrations.{after_reads, alike_then, first_of, left_then, migrated_both, ready_then}
use Rattle.rollback_record.proofs.migrating.migrate.Given as given
use Rattle.rollback_record.proofs.migrating.migrate.Goals as goal
use Rattle.rollback_record.proofs.migrating.migrate.Goals.{After-migrate_first}

-- ---- nothing but reads

pub returns-in-Blank-clause-any_moment : goal.returns-in-Blank-clause-any_moment
returns-in-Blank-clause-any_moment g c t = after_reads (g.D.Disk.flash c.args.disk.now) (g.D.Disk.flash c.load_config.new.disk) (c.load_config.ensures.same t)

pub returns-in-FlashFault-clause-any_moment : goal.returns-in-FlashFault-clause-any_moment
returns-in-FlashFault-clause-any_moment g c t = after_reads (g.D.Disk.flash c.args.disk.now) (g.D.Disk.flash c.load_config.new.disk) (c.load_config.ensures.same t)

pub returns-in-NoMemory-clause-any_moment : goal.returns-in-NoMemory-clause-any_moment
returns-in-NoMemory-clause-any_moment g c t = after_reads (g.D.Disk.flash c.args.disk.now) (g.D.Disk.flash c.load_config.new.disk) (c.load_config.ensures.same t)

pub returns-then-frame-eq2-clause-any_moment : goal.returns-then-frame-eq2-clause-any_moment
returns-then-frame-eq2-clause-any_moment g c t = after_reads (g.D.Disk.flash c.args.disk.now) (g.D.Disk.flash c.load_config.new.disk) (c.load_config.ensures.same t)

pub returns-then-frame-eq2-clause-keeps : goal.returns-then-frame-eq2-clause-keeps
returns-then-frame-eq2-clause-keeps g c t = keeps_same (OutsideMigration c.args.base) (g.D.Disk.flash c.args.disk.now) (g.D.Disk.flash c.load_config.new.disk) (c.load_config.ensures.same t)

pub returns-in-Blank-clause-first : goal.returns-in-Blank-clause-first
returns-in-Blank-clause-first g c t = inl (c.load_config.ensures.same t)

pub returns-in-BadConfig-clause-first : goal.returns-in-BadConfig-clause-first
returns-in-BadConfig-clause-first g c t = inl (c.load_config.ensures.same t)

pub returns-in-FlashFault-clause-first : goal.returns-in-FlashFault-clause-first
returns-in-FlashFault-clause-first g c t = inl (c.load_config.ensures.same t)

pub returns-in-NoMemory-clause-first : goal.returns-in-NoMemory-clause-first
returns-in-NoMemory-clause-first g c t = inl (c.load_config.ensures.same t)

pub returns-then-frame-eq2-clause-first : goal.returns-then-frame-eq2-clause-first
returns-then-frame-eq2-clause-first g c t = inl (c.load_config.ensures.same t)

-- ---- version 1

module _ (g : given.Over) (c : After-migrate_first g) where
  first : c.in-Config.frame ≡ VERSION_1
  first = first_of (g.D.Disk.extent c.args.disk.now) c.in-Config.frame c.in-Config.ensures.allowed.frame_is (λ two. omega (arith, two, c.if-frame-eq2.false))

  config : IsTrue g.D.Disk.told → ConfigOf (g.D.Disk.extent c.args.disk.now) (g.D.Disk.flash c.args.disk.now).reads (Configured c.in-Config.layout c.in-Config.key VERSION_1)
  config t = subst (λ (f : Frame). ConfigOf (g.D.Disk.extent c.args.disk.now) (g.D.Disk.flash c.args.disk.now).reads (Configured c.in-Config.layout c.in-Config.key f)) first (c.in-Config.ensures.exact t)

  law : IsTrue g.D.Disk.told → IsFlash (g.D.Disk.flash c.load_config.new.disk) (g.D.Disk.extent c.load_config.new.disk)
  law t = g.met.D.Disk.obeys c.load_config.new.disk t

pub migrate_first-requires-clause-config : goal.migrate_first-requires-clause-config
migrate_first-requires-clause-config g c t =
    let same = c.load_config.ensures.same t in
    let first = first_of (g.D.Disk.extent c.args.disk.now) c.in-Config.frame c.in-Config.ensures.allowed.frame_is (λ two. omega (arith, two, c.if-frame-eq2.false)) in
    let by_frame = subst (λ (f : Frame). ConfigOf (g.D.Disk.extent c.args.disk.now) (g.D.Disk.flash c.args.disk.now).reads (Configured c.in-Config.layout c.in-Config.key f)) first (c.in-Config.ensures.exact t) in
    let by_reads = subst (λ (l : List ℕ). ConfigOf (g.D.Disk.extent c.args.disk.now) l (Configured c.in-Config.layout c.in-Config.key VERSION_1)) (sym same.reads) by_frame in
    subst (λ (n : ℕ). ConfigOf n (g.D.Disk.flash c.load_config.new.disk).reads (Configured c.in-Config.layout c.in-Config.key VERSION_1)) (sym c.load_config.ensures.size) by_reads

pub returns-else-frame-eq2-clause-first : goal.returns-else-frame-eq2-clause-first
returns-else-frame-eq2-clause-first g c t =
    inr (record { layout = c.in-Config.layout; key = c.in-Config.key; config = config g (goal.at.returns-else-frame-eq2-clause-first g c).After-migrate_first t; holds = tt })

pub returns-else-frame-eq2-clause-left : goal.returns-else-frame-eq2-clause-left
returns-else-frame-eq2-clause-left g c t =
    let a = g.D.Disk.flash c.args.disk.now in
    let b = g.D.Disk.flash c.load_config.new.disk in
    let d = g.D.Disk.flash c.migrate_first.new.disk in
    let at = (goal.at.returns-else-frame-eq2-clause-left g c).After-migrate_first in
    left_then (IsSame b d) (IsSame a d) (same_flash_then a b d (g.D.Disk.extent c.load_config.new.disk) (law g at t) (c.load_config.ensures.same t)) c.migrate_first.result (c.migrate_first.ensures.left t)

pub returns-else-frame-eq2-clause-ready : goal.returns-else-frame-eq2-clause-ready
returns-else-frame-eq2-clause-ready g c t ready =
    let a = g.D.Disk.flash c.args.disk.now in
    let b = g.D.Disk.flash c.load_config.new.disk in
    let d = g.D.Disk.flash c.migrate_first.new.disk in
    migrated_both (IsMigrated c.args.base b.reads d.reads) (IsSettled d) (IsReady d)
    (λ is. ready_then c.config_laws.ensures.answer c.args.base a d ready (subst (λ (l : List ℕ). IsMigrated c.args.base l d.reads) (c.load_config.ensures.same t).reads is)) c.migrate_first.result (c.migrate_first.ensures.migrated t)
    (c.migrate_first.ensures.settled t)

pub returns-else-frame-eq2-clause-any_moment : goal.returns-else-frame-eq2-clause-any_moment
returns-else-frame-eq2-clause-any_moment g c t ready =
    let a = g.D.Disk.flash c.args.disk.now in
    let b = g.D.Disk.flash c.load_config.new.disk in
    let d = g.D.Disk.flash c.migrate_first.new.disk in
    let at = (goal.at.returns-else-frame-eq2-clause-any_moment g c).After-migrate_first in
    alike_then a b d (g.D.Disk.extent c.load_config.new.disk) (law g at t) (c.load_config.ensures.same t) ready (c.migrate_first.ensures.any_moment t)

pub returns-else-frame-eq2-clause-keeps : goal.returns-else-frame-eq2-clause-keeps
returns-else-frame-eq2-clause-keeps g c t =
    let K = OutsideMigration c.args.base in
    let a = g.D.Disk.flash c.args.disk.now in
    let b = g.D.Disk.flash c.load_config.new.disk in
    let d = g.D.Disk.flash c.migrate_first.new.disk in
    let at = (goal.at.returns-else-frame-eq2-clause-keeps g c).After-migrate_first in
    keeps_then K a b d (g.D.Disk.extent c.load_config.new.disk) (law g at t) (keeps_same K a b (c.load_config.ensures.same t)) (c.migrate_first.ensures.keeps t)
