-- The answers of a migration.
use Rattle.std.proofs.Common.{◌≡◌, ◌≤◌, ◌+◌, ℕ, List, length, get_or, Option, None, Some, sym, ap, subst, ◌∙◌, arith}
use Rattle.suit_edge.specs.Flash.{Flash, IsFlash, IsSame, IsSettled, Keeps, Now, Passes}
use Rattle.suit_edge.specs.FlashLaws.{each_now, joined, keeps_same, keeps_then, starts, weakens}
use Rattle.suit_edge.specs.Ranges.{SameOn}
use Rattle.flash_layout.specs.declared.frame.Frame.{Frame}
use Rattle.flash_layout.specs.declared.frame.TheConstants.{VERSION_1}
use Rattle.flash_layout.specs.declared.key.Key.{Key}
use Rattle.flash_layout.specs.declared.layout.Entry.{Entry}
use Rattle.flash_layout.specs.ConfigLaws.{OneAnswer}
use Rattle.flash_layout.specs.Configs.{ConfigOf, Configured}
use Rattle.flash_layout.specs.FirstFrame.{is_first}
use Rattle.flash_layout.specs.Frames.{First, IsFrame, Second, bank_size, head_of}
use Rattle.flash_layout.specs.Moving.{IsMoved}
use Rattle.rollback_record.specs.declared.moved.Installed.{Installed}
use Rattle.rollback_record.specs.declared.migrating.Migrated.{Migrated}
use Rattle.rollback_record.specs.declared.migrating.Migrated.TheVariants as answers
use Rattle.rollback_record.specs.Migrating.{IfLeft, IfMigrated, IsMigrated, IsReady, OutsideMigration, IsSameInstallation}
use Rattle.rollback_record.specs.Moved.{HasRoom, IsHeldRead, IsMovedTo, IsMoving, IsRootShut, OutsideMoved}
use Rattle.rollback_record.proofs.SettledLaws.{settled_still, settles}
use Rattle.rollback_record.proofs.AlikeSound.{alike_sound}
use Rattle.rollback_record.proofs.MovedFirst.{resting}
use Rattle.rollback_record.proofs.MovingFlash.{moved_alike, shut_start, tells_all}

-- nothing was called, or nothing but reads
pub at_rest : (f : Flash) → IsReady f → Passes f f (IsSameInstallation f.reads)
at_rest f ready = starts f (IsSameInstallation f.reads) (resting f ready)

pub after_reads : (a b : Flash) → IsSame a b → IsReady a → Passes a b (IsSameInstallation a.reads)
after_reads a b same ready = weakens a b (Now a) (IsSameInstallation a.reads) (resting a ready) same.images

-- what fits into a bank of version 1 fits into one of version 2
pub room_there : (frame : Frame) → 16384 ≤ bank_size frame → (o : Option Installed) → HasRoom VERSION_1 o → HasRoom frame o
room_there frame large None fits = tt
room_there frame large (Some i) fits = omega (arith, large, fits)

module _ (base size : ℕ) (layout : List Entry) (key : Key) (frame : Frame) (moved : IsMoved base size layout frame) (installed : Option Installed) (room : HasRoom frame installed) where
  two : frame.version ≡ 2
  two = ap (λ (f : Frame). f.version) moved.frame_is

  pub keeps_moved : (a b c : Flash) → IsFlash b size → IsSame a b → Keeps (OutsideMoved frame) b c → Keeps (OutsideMigration base) a c
  keeps_moved a b c law same kept =
      keeps_then (OutsideMigration base) a b c size law (keeps_same (OutsideMigration base) a b same)
      (subst (λ (f : Frame). Keeps (OutsideMoved f) b c) moved.frame_is kept)

  module _ (a b c : Flash) (law : IsFlash a size) (law_b : IsFlash b size) (same : IsSame a b) (config : ConfigOf size a.reads (Configured layout key VERSION_1)) (read : IsHeldRead VERSION_1 (head_of VERSION_1 a.reads) installed) where
    pub shut_then : IsReady a → IsRootShut b
    shut_then ready image now = shut_start size frame moved.placed two layout key installed room moved.allowed a b c law law_b same ready config read image (each_now a b size (Now a) law_b same.images image now)

    pub all_alike : IsReady a → Passes b c (IsMoving frame layout key installed b) → Passes a c (IsSameInstallation a.reads)
    all_alike ready run = tells_all size frame moved.placed two layout key installed room moved.allowed a b c law law_b same ready config read run

    pub migrated : Keeps (OutsideMoved frame) b c → IsMovedTo frame layout key installed c.reads → IsMigrated base a.reads c.reads
    migrated kept is = record {
      alike = moved_alike size frame moved.placed two layout key installed room moved.allowed a.reads c.reads law.fits config read (subst (λ (l : List ℕ). SameOn (OutsideMoved frame) l c.reads) same.reads kept.reads) is;
      told = is.told ∙ ap (λ (f : Frame). Some f) moved.frame_is;
      no_work = λ so.
          let work = is.filled.work two in
          let at : frame.base ≡ base = ap (λ (f : Frame). f.base) moved.frame_is in (
            λ opened. omega (arith, opened, work.0, ap (λ (b : ℕ). get_or c.reads (b + 147456) 0) at),
            λ opened. omega (arith, opened, work.1, ap (λ (b : ℕ). get_or c.reads (b + 155648) 0) at),
          );
    }

-- ---- where the configuration was read before

-- a frame that is not of version 2
pub first_of : (size : ℕ) (frame : Frame) → IsFrame size frame → (frame.version ≡ 2 → ⊥) → frame ≡ VERSION_1
first_of size frame (First version base room) other = is_first size frame (First version base room) version
first_of size frame (Second version base room low) other = absurd (other version)

pub ready_still : (a b : Flash) (size : ℕ) → IsFlash b size → IsSame a b → IsReady a → IsReady b
ready_still a b size law same ready = record {
  settled = settled_still a b size law same ready.settled;
  layout = ready.layout;
  key = ready.key;
  frame = ready.frame;
  config = subst (λ (l : List ℕ). ConfigOf (length l) l (Configured ready.layout ready.key ready.frame)) (sym same.reads) ready.config;
}

pub alike_then : (a b c : Flash) (size : ℕ) → IsFlash b size → IsSame a b → IsReady a → (IsReady b → Passes b c (IsSameInstallation b.reads)) → Passes a c (IsSameInstallation a.reads)
alike_then a b c size law same ready run =
    joined a b c (IsSameInstallation a.reads) (after_reads a b same ready)
    (weakens b c (IsSameInstallation b.reads) (IsSameInstallation a.reads) (λ image alike. subst (λ (l : List ℕ). IsSameInstallation l image) same.reads alike) (run (ready_still a b size law same ready)))

-- a settled flash is settled once it is migrated
pub ready_then : OneAnswer → (base : ℕ) (a b : Flash) → IsReady a → IsMigrated base a.reads b.reads → IsSettled b → IsReady b
ready_then law base a b ready is none = record {
  settled = settles b none (alike_sound law a.reads b.reads is.alike ready.settled.sound);
  layout = is.alike.layout;
  key = is.alike.key;
  frame = is.alike.there;
  config = is.alike.is;
}

-- ---- answer by answer

pub left_then : (P Q : Type 0) → (P → Q) → (m : Migrated) → IfLeft m P → IfLeft m Q
left_then P Q to (answers.Done frame) left = tt
left_then P Q to answers.Blank left = to left
left_then P Q to answers.BadConfig left = to left
left_then P Q to answers.Already left = to left
left_then P Q to answers.BaseOutside left = to left
left_then P Q to (answers.BaseOverlap i) left = to left
left_then P Q to answers.FlashFault left = tt
left_then P Q to answers.NoMemory left = to left

pub migrated_both : (P Q R : Type 0) → (P → Q → R) → (m : Migrated) → IfMigrated m P → IfMigrated m Q → IfMigrated m R
migrated_both P Q R to (answers.Done frame) p q = to p q
migrated_both P Q R to answers.Blank p q = tt
migrated_both P Q R to answers.BadConfig p q = tt
migrated_both P Q R to answers.Already p q = tt
migrated_both P Q R to answers.BaseOutside p q = tt
migrated_both P Q R to (answers.BaseOverlap i) p q = tt
migrated_both P Q R to answers.FlashFault p q = tt
migrated_both P Q R to answers.NoMemory p q = tt
