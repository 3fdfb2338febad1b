-- The stage that migrates a flash to layout version 2, and how it keeps the flash.
use Rattle.std.specs.Prelude.{◌≡◌, ◌⊎◌, ℕ, IsTrue, Result, Ok, Err, codes}
use Rattle.suit_edge.specs.Flash.{Flash, IsSame, Passes}
use Rattle.flash_layout.specs.declared.layout_fault.LayoutFault.TheVariants as faults
use Rattle.flash_layout.specs.declared.moving.BaseFault.{BaseFault}
use Rattle.flash_layout.specs.LayoutFaults.{IsBaseHeld, RefusesBase}
use Rattle.flash_layout.specs.Moving.{described_fault}
use Rattle.flash_layout.specs.Roots.{second_frame}
use Rattle.rollback_record.specs.declared.migrating.Migrated.{Migrated}
use Rattle.rollback_record.specs.declared.migrating.Migrated.TheVariants as answers
use Rattle.rollback_record.specs.Migrating.{HasFirst, HasSecond, IsMigrated, OutsideMigration, IsSameInstallation}
use Rattle.rollback_record.specs.SoundFlash.{Settled}
use Rattle.suit_cli.specs.declared.reply.Object.TheVariants as objects
use Rattle.suit_cli.specs.declared.reply.Outcome.{Outcome}
use Rattle.suit_cli.specs.declared.reply.Outcome.TheVariants as outcomes
use Rattle.suit_cli.specs.declared.reply.Reply.{Reply}
use Rattle.suit_cli.specs.declared.reply.Stop.{Stop}
use Rattle.suit_cli.specs.declared.reply.Stop.TheVariants as stops
use Rattle.suit_cli.specs.Replies.{IsReply}
use Rattle.suit_cli.specs.Outside.{Flashed}
use Rattle.suit_cli.specs.Stages.{Stage, Answers, Ending, Says, FaultOf, NoMemory, writing, ◌>>=◌, Said}
use Rattle.suit_cli.specs.Devices.{TellsLayout}
use Rattle.suit_cli.specs.Installed.{HoldsNone}

-- ---- why nothing is migrated

-- the flash has version 2
pub record IsSecond (flash : Flashed) (reply : Reply) : Type 0 where
  pub second : IsTrue flash.told → HasSecond flash.size flash.reads
  pub says : IsReply reply outcomes.SecondLayout (codes "already layout 2\n")

-- the flash has version 1, with a layout that may not have the base
pub record HasNoBase (base : ℕ) (flash : Flashed) (reply : Reply) : Type 0 where
  pub fault : BaseFault
  pub refuses : IsTrue flash.told
      → HasFirst flash.size flash.reads
      (λ layout. RefusesBase (second_frame base) flash.size layout (described_fault fault))
  pub tells : TellsLayout (described_fault fault) reply

-- why nothing is migrated; at most one of these holds
pub data IsLeft (base : ℕ) (flash : Flashed) (reply : Reply) : Type 0 where
  AtConfig : HoldsNone flash reply → IsLeft base flash reply
  AtVersion : IsSecond flash reply → IsLeft base flash reply
  AtBase : HasNoBase base flash reply → IsLeft base flash reply

-- ---- the migration

-- the flash has version 1, with a layout that may have the base
abbrev pub MayMigrate : ℕ → Flashed → Type 0
MayMigrate base flash =
    IsTrue flash.told
    → HasFirst flash.size flash.reads (IsBaseHeld (second_frame base) flash.size)

-- the flash had version 1; now it has version 2 with that base, and tells what it told
abbrev pub Migrates : ℕ → Flashed → Flashed → Type 0
Migrates base old new =
    MayMigrate base old × (IsTrue old.told → IsMigrated base old.reads new.reads)

abbrev pub migrating : ℕ → Stage (Unit {0})
migrating base = writing (Migrates base) (OutsideMigration base) (IsLeft base)

abbrev pub migrates : ℕ → Answers
migrates base =
    migrating base >>= λ _.
    Said (λ reply. IsReply reply outcomes.Done (codes "migrated\n"))

-- ---- at each moment

-- The flash has version 1. If it was settled, each image that a power loss since may leave tells what reads gave.
pub record TellsOn (before : Flashed) (old now : Flash) : Type 0 where
  pub first : HasFirst before.size before.reads (λ layout. Unit {0})
  pub alike : Settled old → Passes old now (IsSameInstallation old.reads)

abbrev pub StaysOrTells : Flashed → Flash → Flash → Type 0
StaysOrTells before old now = IsSame old now ⊎ TellsOn before old now

abbrev pub MovedSo : Type 0 → Type 0 → Outcome → Type 0
MovedSo Moved Same outcomes.Done = Moved
MovedSo Moved Same _ = Same

-- only a migration that is done, or that the flash failed in, writes anything
abbrev pub KeepsTold : Flashed → Ending → Flash → Flash → Type 0
KeepsTold before (Says reply) old now =
    MovedSo (StaysOrTells before old now) (IsSame old now) reply.outcome
KeepsTold before (FaultOf object) old now = StaysOrTells before old now
KeepsTold before NoMemory old now = IsSame old now

-- ---- inside

-- the result declines with such a reply, unless memory ran out
abbrev pub IfDeclined : Result Reply Stop → (Reply → Type 0) → Type 0
IfDeclined (Err (stops.Declined reply)) P = P reply
IfDeclined (Err stops.NoMemory) P = Unit {0}
IfDeclined _ P = ⊥

-- the result that tells how a migration ended, with this reply where it is done
abbrev pub IsToldAs : Migrated → Reply → Result Reply Stop → Type 0
IsToldAs (answers.Done frame) done result = result ≡ Ok done
IsToldAs answers.Blank done result =
    IfDeclined result (λ reply. IsReply reply outcomes.Unconfigured (codes "blank\n"))
IsToldAs answers.BadConfig done result =
    IfDeclined result (λ reply. IsReply reply outcomes.Unconfigured (codes "bad config\n"))
IsToldAs answers.Already done result =
    IfDeclined result (λ reply. IsReply reply outcomes.SecondLayout (codes "already layout 2\n"))
IsToldAs answers.BaseOutside done result = IfDeclined result (TellsLayout faults.BaseOutside)
IsToldAs (answers.BaseOverlap i) done result =
    IfDeclined result (TellsLayout (faults.BaseOverlap i))
IsToldAs answers.FlashFault done result = result ≡ Err (stops.Fault objects.Flash)
IsToldAs answers.NoMemory done result = result ≡ Err stops.NoMemory
