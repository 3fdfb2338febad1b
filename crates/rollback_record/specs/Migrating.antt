-- Migration: a flash of layout version 1 becomes one of version 2, and holds the same.
use Rattle.std.specs.Prelude.{◌≡◌, ℕ, List, All, length, Some, None}
use Rattle.suit_edge.specs.Faults.{Faulted}
use Rattle.suit_edge.specs.Flash.{Flash}
use Rattle.suit_edge.specs.Ranges.{Outside}
use Rattle.flash_layout.specs.declared.frame.Frame.{Frame}
use Rattle.flash_layout.specs.declared.frame.TheConstants.{ROOT_BYTES, ROOT_GATE, VERSION_1}
use Rattle.flash_layout.specs.declared.key.Key.{Key}
use Rattle.flash_layout.specs.declared.layout.Entry.{Entry}
use Rattle.flash_layout.specs.declared.layout_fault.LayoutFault.TheVariants as faults
use Rattle.flash_layout.specs.declared.slot.Record.{Record}
use Rattle.flash_layout.specs.Configs.{Bad, Blank, ConfigOf, Configured}
use Rattle.flash_layout.specs.Formats.{HasNoWork}
use Rattle.flash_layout.specs.Frames.{frame_size, head_of}
use Rattle.flash_layout.specs.LayoutFaults.{IsBaseHeld, RefusesBase}
use Rattle.flash_layout.specs.Roots.{frame_told, second_frame}
use Rattle.flash_layout.specs.Slots.{layout_slots, slot_content}
use Rattle.rollback_record.specs.declared.migrating.Migrated.{Migrated}
use Rattle.rollback_record.specs.declared.migrating.Migrated.TheVariants as migrated
use Rattle.rollback_record.specs.HeadRecord.{RecordOf}
use Rattle.rollback_record.specs.SoundFlash.{Settled, recorded_bank}

-- ---- what two images hold, each by its own frame

-- both records are the same but for the bank
pub record IsSameRecord (r s : Record) : Type 0 where
  pub generation : s.generation ≡ r.generation
  pub sequence : s.sequence ≡ r.sequence
  pub size : s.length ≡ r.length
  pub digest : s.digest ≡ r.digest
  pub active : s.active ≡ r.active

-- neither head has a record, or both have the same one, with the same bytes in their banks
pub data HoldsAlike (frame : Frame) (head : List ℕ) (there : Frame) (other : List ℕ) : Type 0 where
  NoRecord : RecordOf frame head None → RecordOf there other None
      → HoldsAlike frame head there other
  OneRecord : (r s : Record) → RecordOf frame head (Some r) → RecordOf there other (Some s)
      → IsSameRecord r s → recorded_bank there other s ≡ recorded_bank frame head r
      → HoldsAlike frame head there other

-- the other image has the same layout, key, record and recorded bytes, and the same content in each slot
pub record IsSameInstallation (image other : List ℕ) : Type 0 where
  pub layout : List Entry
  pub key : Key
  pub frame : Frame
  pub there : Frame
  pub was : ConfigOf (length image) image (Configured layout key frame)
  pub is : ConfigOf (length other) other (Configured layout key there)
  pub held : HoldsAlike frame (head_of frame image) there (head_of there other)
  pub slots : All (λ slot. slot_content slot other ≡ slot_content slot image) (layout_slots layout)

-- ---- a migrated flash

-- the image has version 2 with that base and holds what the one before held, and neither a journal nor a checkpoint is
-- begun
pub record IsMigrated (base : ℕ) (before image : List ℕ) : Type 0 where
  pub alike : IsSameInstallation before image
  pub told : frame_told image ≡ Some (second_frame base)
  pub no_work : HasNoWork (second_frame base) image

-- the flash is settled, and has a configuration
pub record IsReady (f : Flash) : Type 0 where
  pub settled : Settled f
  pub layout : List Entry
  pub key : Key
  pub frame : Frame
  pub config : ConfigOf (length f.reads) f.reads (Configured layout key frame)

-- the place is outside what belongs at the base, and outside the root
abbrev pub OutsideMigration : ℕ → ℕ → Type 0
OutsideMigration base i =
    Outside base (frame_size (second_frame base)) i × Outside ROOT_GATE ROOT_BYTES i

-- ---- by the end of the migration

-- the count of faults rose if the flash failed, and stayed the same if not
abbrev pub MigrateCounts : Migrated → ℕ → ℕ → Type 0
MigrateCounts migrated.FlashFault before now = Faulted before now
MigrateCounts _ before now = now ≡ before

-- the flash has version 1, with a layout of which P holds
pub record HasFirst (size : ℕ) (image : List ℕ) (P : List Entry → Type 0) : Type 0 where
  pub layout : List Entry
  pub key : Key
  pub config : ConfigOf size image (Configured layout key VERSION_1)
  pub holds : P layout

-- the flash has version 2
pub record HasSecond (size : ℕ) (image : List ℕ) : Type 0 where
  pub layout : List Entry
  pub key : Key
  pub frame : Frame
  pub config : ConfigOf size image (Configured layout key frame)
  pub version : frame.version ≡ 2

-- the end is the one that the image asks for, unless the flash failed or memory ran out
abbrev pub MigratesExactly : ℕ → ℕ → List ℕ → Migrated → Type 0
MigratesExactly base size image (migrated.Done frame) =
    (frame ≡ second_frame base) × HasFirst size image (IsBaseHeld (second_frame base) size)
MigratesExactly base size image migrated.Blank = ConfigOf size image Blank
MigratesExactly base size image migrated.BadConfig = ConfigOf size image Bad
MigratesExactly base size image migrated.Already = HasSecond size image
MigratesExactly base size image migrated.BaseOutside =
    HasFirst size image (λ layout. RefusesBase (second_frame base) size layout faults.BaseOutside)
MigratesExactly base size image (migrated.BaseOverlap i) =
    HasFirst size image
    (λ layout. RefusesBase (second_frame base) size layout (faults.BaseOverlap i))
MigratesExactly base size image migrated.FlashFault = Unit {0}
MigratesExactly base size image migrated.NoMemory = Unit {0}

-- the property holds, if the flash was migrated
abbrev pub IfMigrated : Migrated → Type 0 → Type 0
IfMigrated (migrated.Done _) P = P
IfMigrated _ P = Unit {0}

-- the property holds, unless the migration is done or the flash failed
abbrev pub IfLeft : Migrated → Type 0 → Type 0
IfLeft (migrated.Done _) P = Unit {0}
IfLeft migrated.FlashFault P = Unit {0}
IfLeft _ P = P
