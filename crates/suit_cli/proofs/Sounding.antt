-- A settled flash stays sound.
use Rattle.std.proofs.Common.{◌≡◌, ◌⊎◌, inl, inr, ℕ, List, length, Option, Some, sym, ap, subst, arith}
use Rattle.std.specs.Prelude.{IsTrue}
use Rattle.suit_edge.specs.Flash.{Flash, Now, Passes, IsFlash, IsSame}
use Rattle.suit_edge.specs.FlashLaws.{same_flash, starts, weakens, joined}
use Rattle.flash_layout.specs.declared.frame.Frame.{Frame}
use Rattle.flash_layout.specs.declared.key.Key.{Key}
use Rattle.flash_layout.specs.declared.layout.Entry.{Entry}
use Rattle.flash_layout.specs.Configs.{Blank, ConfigOf, IsAllowed, IsBlank, Configured}
use Rattle.flash_layout.specs.Formats.{HasOpenGate, IsFormatted}
use Rattle.flash_layout.specs.ToldFrames.{same_config}
use Rattle.rollback_record.specs.SoundFlash.{Follows, FollowsBlank, Settled, Sound, SoundBlank}
use Rattle.rollback_record.specs.SoundLaws.{SoundLaws}
use Rattle.rollback_record.proofs.SettledLaws.{both, each_sound, settled_still}
use Rattle.rollback_record.proofs.HeadSince.{follows_now}
use Rattle.invoke_proc.specs.declared.boot_end.BootEnd.{BootEnd}
use Rattle.invoke_proc.specs.declared.boot_end.BootEnd.TheVariants as ends
use Rattle.invoke_proc.specs.Booting.{KeepsBoot, KeptSo}
use Rattle.suit_cli.specs.Words.{Task, RunInit, RunUpdate, RunBoot, RunMigrate}
use Rattle.command_words.specs.declared.command.Command.{Command}
use Rattle.command_words.specs.Said.{said}
use Rattle.suit_cli.specs.declared.reply.Outcome.{Outcome}
use Rattle.suit_cli.specs.declared.reply.Outcome.TheVariants as outcomes
use Rattle.suit_cli.specs.Outside.{Outside}
use Rattle.suit_cli.specs.Devices.{key_of}
use Rattle.suit_cli.specs.Formatting.{MayFormat, MayLeave}
use Rattle.suit_cli.specs.Migrating.{KeepsTold, MovedSo, StaysOrTells}
use Rattle.suit_cli.specs.Stages.{Ending, Says, FaultOf, NoMemory}
use Rattle.suit_cli.specs.Launching.{Launching}
use Rattle.suit_cli.specs.Surroundings.{Surroundings}
use Rattle.suit_cli.specs.Coming.{Answered, Ended, PassesAny, StaysSound}
use Rattle.suit_cli.specs.Program.{FlashPasses, IfBoots, IfSaidApart, KeepsFor, MayBeLeft}
use Rattle.suit_cli.proofs.Leaving.{start_left}

-- the configuration is allowed after a read
pub allowed_after : (layout : List Entry) (key : Key) (frame : Frame) (size later_size : ℕ) → later_size ≡ size → IsAllowed frame size layout key → IsAllowed frame later_size layout key
allowed_after layout key frame size later_size extent allowed = subst (λ (n : ℕ). IsAllowed frame n layout key) (sym extent) allowed

-- and is there
pub held_after : (layout : List Entry) (key : Key) (frame : Frame) (size later_size : ℕ) (reads later : List ℕ) → later_size ≡ size → later ≡ reads
    → ConfigOf size reads (Configured layout key frame) → ConfigOf later_size later (Configured layout key frame)
held_after layout key frame size later_size reads later extent same held =
    subst (λ (n : ℕ). ConfigOf n later (Configured layout key frame)) (sym extent)
    (subst (λ (l : List ℕ). ConfigOf size l (Configured layout key frame)) (sym same) held)

module _ (laws : SoundLaws) (a : Flash) (settled : Settled a) where
  -- each image of the start
  each_follows : (image : List ℕ) → Now a image → Follows a.reads image
  each_follows image now =
      follows_now laws a settled image now

  pub stays_start : StaysSound a a
  stays_start = (starts a Sound (each_sound a settled), starts a (Follows a.reads) each_follows)

  pub stays_now : (b : Flash) → Passes a b (Now a) → StaysSound a b
  stays_now b run =
      (weakens a b (Now a) Sound (each_sound a settled) run, weakens a b (Now a) (Follows a.reads) each_follows run)

  -- on the way to a format
  module _ (device key_name : List ℕ) (before : Outside) (b : Flash) (told : IsTrue before.flash.told) (reads : a.reads ≡ before.flash.reads)
      (law : IsFlash b before.flash.size) (run : Passes a b (MayLeave device key_name before a)) where
    sized : Passes a b (λ image. length image ≡ before.flash.size)
    sized = record {
      later = run.later;
      each = λ image may. law.sized a.clock image run.later may;
      before = λ t image le may. inr (law.sized t image (omega (arith, le, run.later)) may);
    }

    blank_reads : (IsTrue before.flash.told → HasOpenGate before.flash.reads → ⊥) → IsBlank a.reads
    blank_reads shut = inr (λ opened. shut told (subst HasOpenGate reads (inl opened)), λ opened. shut told (subst HasOpenGate reads (inr opened)))

    blank_each : IsBlank a.reads → (image : List ℕ) → Now a image → IsBlank image
    blank_each blank image now = let same = settled.sure image now in same_config a.reads image same.head Blank blank

    formatted_sound : (image : List ℕ) → length image ≡ before.flash.size → MayFormat before.flash.size device key_name before a image
        → IsBlank a.reads → Sound image
    formatted_sound image size way blank = of_way (way.blank_or_formatted (blank_each blank)) where
      of_way : (IsBlank image) ⊎ (IsFormatted way.frame before.flash.size way.layout (key_of way.key) image) → Sound image
      of_way (inl none) = SoundBlank none
      of_way (inr formatted) =
          laws.formatted way.frame way.layout (key_of way.key) image
          (subst (λ (n : ℕ). IsFormatted way.frame n way.layout (key_of way.key) image) (sym size) formatted)

    sound_image : (image : List ℕ) → MayLeave device key_name before a image × (length image ≡ before.flash.size) → Sound image
    sound_image image (inl now, size) = each_sound a settled image now
    sound_image image (inr way, size) = formatted_sound image size way.1 (blank_reads way.0)

    follows_image : (image : List ℕ) → MayLeave device key_name before a image × (length image ≡ before.flash.size) → Follows a.reads image
    follows_image image (inl now, size) = each_follows image now
    follows_image image (inr way, size) = FollowsBlank (blank_reads way.0)

    stays_formatting : StaysSound a b
    stays_formatting =
        let all = both a b (MayLeave device key_name before a) (λ image. length image ≡ before.flash.size) run sized in
        (weakens a b _ Sound sound_image all, weakens a b _ (Follows a.reads) follows_image all)

  -- by the words
  pub stays_by : (task : Option Task) (before : Outside) (b : Flash) → IsTrue before.flash.told → a.reads ≡ before.flash.reads → IsFlash b before.flash.size
      → IfSaidApart task (Settled a → StaysSound a b) → Passes a b (MayBeLeft task before a) → StaysSound a b
  stays_by (Some (RunInit device key)) before b told reads law boot run = stays_formatting device key before b told reads law run
  stays_by (Some (RunUpdate name uris)) before b told reads law boot run = boot settled
  stays_by (Some RunBoot) before b told reads law boot run = boot settled
  stays_by (Some (RunMigrate base)) before b told reads law boot run = boot settled
  stays_by _ before b told reads law boot run = stays_now b run

  -- behind looks at it
  pub stays_later : (b c : Flash) → IsSame a b → StaysSound b c → StaysSound a c
  stays_later b c same run =
      let first = stays_now b same.images in (
        joined a b c Sound first.0 run.0,
        joined a b c (Follows a.reads) first.1 (subst (λ (reads : List ℕ). Passes b c (Follows reads)) same.reads run.1),
      )

pub settled_later : (a b : Flash) (size : ℕ) → IsFlash b size → IsSame a b → Settled a → Settled b
settled_later a b size law same settled = settled_still a b size law same settled

-- ---- any image

pub any_start : (a : Flash) → PassesAny a a
any_start a = starts a (λ image. Unit {0}) (λ image now. tt)

pub any_of : (a b : Flash) (P : List ℕ → Type 0) → Passes a b P → PassesAny a b
any_of a b P run = weakens a b P (λ image. Unit {0}) (λ image p. tt) run

pub any_later : (a b c : Flash) → IsSame a b → PassesAny b c → PassesAny a c
any_later a b c same run = joined a b c (λ image. Unit {0}) (any_of a b (Now a) same.images) run

module _ (frame : Frame) (layout : List Entry) (key : Key) (a b : Flash) where
  of_same : IsSame a b → PassesAny a b
  of_same same = any_of a b (Now a) same.images

  of_kept : KeepsBoot frame layout key a b → PassesAny a b
  of_kept kept = any_of a b _ kept.others.keeps.images

  pub any_boot : (end : BootEnd) → KeptSo (KeepsBoot frame layout key a b) (IsSame a b) end → PassesAny a b
  any_boot ends.Ended kept = of_kept kept
  any_boot (ends.Condition place) kept = of_kept kept
  any_boot (ends.Stopped place cause) kept = of_kept kept
  any_boot ends.FlashFault kept = of_either kept where
    of_either : (IsSame a b) ⊎ (KeepsBoot frame layout key a b) → PassesAny a b
    of_either (inl same) = of_same same
    of_either (inr k) = of_kept k
  any_boot _ kept = of_same kept

-- ---- by the words

pub if_said_apart : (task : Option Task) (P : Type 0) → P → IfSaidApart task P
if_said_apart (Some (RunUpdate name uris)) P p = p
if_said_apart (Some RunBoot) P p = p
if_said_apart (Some (RunMigrate base)) P p = p
if_said_apart _ P p = tt

-- where nothing was done
if_unmoved : (laws : SoundLaws) (task : Option Task) (a : Flash) → IfSaidApart task (Settled a → StaysSound a a)
if_unmoved laws task a = if_said_apart task (Settled a → StaysSound a a) (λ settled. stays_start laws a settled)

pub if_boots : (task : Option Task) (P : Type 0) → P → IfBoots task P
if_boots (Some RunBoot) P p = p
if_boots _ P p = tt

pub if_boots_by : (task t : Option Task) (P : Type 0) → task ≡ t → IfBoots t P → IfBoots task P
if_boots_by task t P same p = subst (λ (u : Option Task). IfBoots u P) (sym same) p

pub as_it_boots : (task : Option Task) (P : Type 0) → task ≡ Some RunBoot → IfBoots task P → P
as_it_boots task P boots p = subst (λ (u : Option Task). IfBoots u P) boots p

-- of a migration
so_either : (Moved Same : Type 0) (o : Outcome) → (Same → Moved) → Same → MovedSo Moved Same o
so_either Moved Same outcomes.Done may same = may same
so_either Moved Same _ may same = same

told_unmoved : (before : Outside) (ending : Ending) (a : Flash) → KeepsTold before.flash ending a a
told_unmoved before (Says reply) a = so_either (StaysOrTells before.flash a a) (IsSame a a) reply.outcome (λ same. inl same) (same_flash a)
told_unmoved before (FaultOf object) a = inl (same_flash a)
told_unmoved before NoMemory a = same_flash a

-- where nothing was done
keeps_unmoved : (task : Option Task) (l m : Launching) (before : Outside) (ending : Ending) (a : Flash) → KeepsFor task (record { outside = before; launcher = l; flash = a }) (record { outside = before; launcher = m; flash = a }) (Answered ending)
keeps_unmoved (Some (RunUpdate name uris)) l m before ending a = λ settled. same_flash a
keeps_unmoved (Some RunBoot) l m before ending a = same_flash a
keeps_unmoved (Some (RunMigrate base)) l m before ending a = told_unmoved before ending a
keeps_unmoved _ l m before ending a = tt

-- ---- what becomes of the flash

pub flash_by : (task t : Option Task) → task ≡ t → (before after : Surroundings) (ended : Ended) → FlashPasses t before after ended → FlashPasses task before after ended
flash_by task t same before after ended passes = subst (λ (u : Option Task). FlashPasses u before after ended) (sym same) passes

-- by a command that is this one
pub flash_as : (command one : Command) → command ≡ one → (before after : Surroundings) (ended : Ended) → FlashPasses (Some (said one)) before after ended → FlashPasses (Some (said command)) before after ended
flash_as command one same = flash_by _ _ (ap (λ (x : Command). Some (said x)) same)

-- where nothing was done
pub flash_unmoved : (laws : SoundLaws) (task : Option Task) (l m : Launching) (b : Outside) (ending : Ending) (a : Flash)
    → FlashPasses task (record { outside = b; launcher = l; flash = a }) (record { outside = b; launcher = m; flash = a }) (Answered ending)
flash_unmoved laws task l m b ending a = record {
  any_moment = start_left task b a;
  sound = if_unmoved laws task a;
  settled = λ settled never. settled;
  keeps = keeps_unmoved task l m b ending a;
}
