-- Given what it needs, a command is done; and it is done only then.
use Rattle.std.specs.Prelude.{◌≡◌, ◌⊎◌, ◌↔◌, ℕ, IsTrue, List, length, Some}
use Rattle.flash_layout.specs.declared.frame.Frame.{Frame}
use Rattle.flash_layout.specs.declared.key.Key.{Key}
use Rattle.flash_layout.specs.declared.layout.Entry.{Entry}
use Rattle.rollback_record.specs.SoundFlash.{Sound}
use Rattle.suit_cli.specs.Acceptance.{Accepted, IsAccepted}
use Rattle.suit_cli.specs.Coming.{Ended, ended_status}
use Rattle.suit_cli.specs.Launching.{Launching}
use Rattle.suit_cli.specs.Outside.{Outside, Sunk}
use Rattle.suit_cli.specs.Program.{ComesTo, Performs}
use Rattle.suit_cli.specs.Surroundings.{seen}
use Rattle.suit_cli.specs.Words.{Named, RunBoot, RunMigrate, RunUpdate, task_of}
use Rattle.completeness.specs.Outcomes.{AreTold, EndsWell, IsFaultless, LeavesFlash, PutsDone}
use Rattle.completeness.specs.Updates.{Installs, Meets, Offers, ReadyToUpdate, Sets}
use Rattle.completeness.specs.Migrations.{MigratesWhole, ReadyToMigrate}
use Rattle.completeness.specs.Boots.{Activates, BootsWhole, ReadyToBoot, Records}

-- ---- what is there

-- the bytes of a file are accepted exactly where they meet what is asked of them
abbrev pub AcceptsWhatMeets : Type 0
AcceptsWhatMeets =
    (frame : Frame) (layout : List Entry) (key : Key) (bytes : List ℕ) (a : Accepted)
    → IsAccepted frame layout key bytes a ↔ Meets frame layout key bytes a

-- slots and payloads for whatever is offered
abbrev pub CanSet : Type 0
CanSet =
    (name : List ℕ) (before : Outside) → IsTrue before.flash.told → (o : Offers name before)
    → Sets o.layout o.bytes o.accepted o.held

-- and slots for whatever is recorded
abbrev pub CanActivate : Type 0
CanActivate =
    (before : Outside) → IsTrue before.flash.told → (r : Records before)
    → Activates r.layout r.installed r.is.said

-- ---- either

-- all that a command needs
abbrev pub Needs : Type 1
Needs = List (List ℕ) → Launching → Outside → Type 0

-- and all that is so when it was done
abbrev pub DoneBy : Needs → Type 1
DoneBy Ready =
    (words : List (List ℕ)) (launched : Launching) (before : Outside)
    → Ready words launched before → Launching → Outside → Ended → Type 0

-- what is ready is done, or memory runs out and the flash is left as it was, where no fault is counted
abbrev pub DoneWhereReady : (Ready : Needs) → DoneBy Ready → Type 0
DoneWhereReady Ready IsDone =
    (words : List (List ℕ)) (launched now : Launching) (before after : Outside) (ended : Ended)
    (ready : Ready words launched before)
    → IsFaultless launched now before after → ComesTo words launched now before after ended
    → IsDone words launched before ready now after ended
    ⊎ LeavesFlash launched now before after ended

-- so the status is 0 or 11, and 9 only where the sink failed
abbrev pub EndsWhole : (Ready : Needs) → DoneBy Ready → Type 0
EndsWhole Ready IsDone =
    (words : List (List ℕ)) (launched now : Launching) (before after : Outside)
    (sunk_before sunk_after : Sunk) (result : ℕ) (ready : Ready words launched before)
    → IsFaultless launched now before after
    → Performs words (seen before launched) (seen after now) sunk_before sunk_after result
    → EndsWell (IsDone words launched before ready now after)
    (LeavesFlash launched now before after) sunk_before sunk_after result

-- ---- what is asked

abbrev pub AsksUpdate : List (List ℕ) → Outside → Type 0
AsksUpdate words before = (name : List ℕ) × (uris : List Named)
    × (task_of words ≡ Some (RunUpdate name uris))

-- on a sound flash
pub record AsksBoot (words : List (List ℕ)) (before : Outside) : Type 0 where
  pub asks : task_of words ≡ Some RunBoot
  pub size : before.flash.size ≡ length before.flash.reads
  pub sound : Sound before.flash.reads

abbrev pub AsksMigrate : List (List ℕ) → Outside → Type 0
AsksMigrate words before = (base : ℕ) × (task_of words ≡ Some (RunMigrate base))

-- ---- and only then

-- what is asked so is done only where it was ready
abbrev pub DoneOnlyWhereReady : (List (List ℕ) → Outside → Type 0) → (Ready : Needs) → DoneBy Ready
    → Type 0
DoneOnlyWhereReady Asks Ready IsDone =
    (words : List (List ℕ)) (launched now : Launching) (before after : Outside) (ended : Ended)
    → Asks words before → AreTold launched before
    → ComesTo words launched now before after ended → ended_status ended ≡ 0
    → (ready : Ready words launched before) × IsDone words launched before ready now after ended

-- so status 0 comes only of that
abbrev pub SaysSo : (List (List ℕ) → Outside → Type 0) → (Ready : Needs) → DoneBy Ready → Type 0
SaysSo Asks Ready IsDone =
    (words : List (List ℕ)) (launched now : Launching) (before after : Outside)
    (sunk_before sunk_after : Sunk)
    → Asks words before → AreTold launched before
    → Performs words (seen before launched) (seen after now) sunk_before sunk_after 0
    → (ready : Ready words launched before)
    × PutsDone (IsDone words launched before ready now after) sunk_before sunk_after

pub record CompletenessLaws : Type 0 where
  pub accepts : AcceptsWhatMeets
  pub can_set : CanSet
  pub can_activate : CanActivate
  pub update : DoneWhereReady ReadyToUpdate Installs
  pub update_ends : EndsWhole ReadyToUpdate Installs
  pub only_update : DoneOnlyWhereReady AsksUpdate ReadyToUpdate Installs
  pub update_says : SaysSo AsksUpdate ReadyToUpdate Installs
  pub boot : DoneWhereReady ReadyToBoot BootsWhole
  pub boot_ends : EndsWhole ReadyToBoot BootsWhole
  pub only_boot : DoneOnlyWhereReady AsksBoot ReadyToBoot BootsWhole
  pub boot_says : SaysSo AsksBoot ReadyToBoot BootsWhole
  pub migrate : DoneWhereReady ReadyToMigrate MigratesWhole
  pub migrate_ends : EndsWhole ReadyToMigrate MigratesWhole
  pub only_migrate : DoneOnlyWhereReady AsksMigrate ReadyToMigrate MigratesWhole
  pub migrate_says : SaysSo AsksMigrate ReadyToMigrate MigratesWhole
