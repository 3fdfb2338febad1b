-- How a command ends: with an answer in stages, a boot, or an update.
use Rattle.std.specs.Prelude.{◌≡◌, ℕ, List}
use Rattle.suit_edge.specs.Flash.{Flash, IsSame, Passes}
use Rattle.flash_layout.specs.declared.frame.Frame.{Frame}
use Rattle.flash_layout.specs.declared.key.Key.{Key}
use Rattle.flash_layout.specs.declared.layout.Entry.{Entry}
use Rattle.rollback_record.specs.SoundFlash.{Follows, Settled, Sound}
use Rattle.invoke_proc.specs.declared.boot_end.BootEnd.{BootEnd}
use Rattle.invoke_proc.specs.Booting.{KeepsBoot, KeptSo}
use Rattle.update_proc.specs.declared.update_end.UpdateEnd.{UpdateEnd}
use Rattle.suit_cli.specs.declared.answer.Answer.{Answer}
use Rattle.suit_cli.specs.declared.answer.Answer.TheVariants as said
use Rattle.suit_cli.specs.Words.{Named, Task, RunBoot, RunUpdate, pairs_of}
use Rattle.suit_cli.specs.Outside.{Outside}
use Rattle.suit_cli.specs.Stages.{Ending, NoMemory, Answers, ending_of}
use Rattle.suit_cli.specs.Statuses.{ending_status, ending_text}
use Rattle.suit_cli.specs.Launching.{Launching}
use Rattle.suit_cli.specs.Surroundings.{Surroundings, seen}
use Rattle.suit_cli.specs.Migrating.{KeepsTold}
use Rattle.suit_cli.specs.Booting.{IsBoot, Boots, KeepsBooted, boot_line, boot_status}
use Rattle.suit_cli.specs.Updating.{IsUpdate, KeepsFlash, KeepsOffer, Offer, Updates, update_line, update_status}

-- the ending of an answer in stages, of a boot, or of an update
pub data Ended : Type 0 where
  Answered : Ending → Ended
  Booted : BootEnd → List ℕ → Ended
  Updated : UpdateEnd → List ℕ → Ended

abbrev pub ended_status : Ended → ℕ
ended_status (Answered ending) = ending_status ending
ended_status (Booted end lines) = boot_status end
ended_status (Updated end lines) = update_status end

abbrev pub ended_text : Ended → List ℕ
ended_text (Answered ending) = ending_text ending
ended_text (Booted end lines) = lines
ended_text (Updated end lines) = lines

abbrev pub ended_of : Answer → Ended
ended_of (said.Said result) = Answered (ending_of result)
ended_of (said.Booted end lines) = Booted end lines
ended_of (said.Updated end lines) = Updated end lines

-- an answer in stages launches nothing and has no fault of the launcher; or the task is that of a boot, or of an update
pub data Comes (stages : Answers) (Is : Task → Type 0) (launched now : Launching)
    (before after : Outside) : Ended → Type 0 where
  ByStages : (ending : Ending) → stages before after ending → now ≡ launched
      → Comes stages Is launched now before after (Answered ending)
  ByBoot : (end : BootEnd) (lines : List ℕ) → Is RunBoot → Boots launched now before after end lines
      → Comes stages Is launched now before after (Booted end lines)
  ByUpdate : (name : List ℕ) (uris : List Named) (end : UpdateEnd) (lines : List ℕ)
      → Is (RunUpdate name uris)
      → Updates name (pairs_of uris) (seen before launched) (seen after now) end lines
      → Comes stages Is launched now before after (Updated end lines)

-- each image that a power loss may leave on the way is sound, and goes on from what reads gave at the start
abbrev pub StaysSound : Flash → Flash → Type 0
StaysSound old new = Passes old new Sound × Passes old new (Follows old.reads)

-- a settled flash stays sound
abbrev pub KeepsSound : Flash → Flash → Type 0
KeepsSound old new = Settled old → StaysSound old new

-- an update that came to an end kept the flash as that end says; otherwise nothing changed
abbrev pub StaysOrKeeps : List ℕ → List (List ℕ × List ℕ) → Surroundings → Surroundings → Ended
    → Type 0
StaysOrKeeps name uris before after (Updated end lines) = KeepsFlash name uris before after end
StaysOrKeeps name uris before after _ = IsSame before.flash after.flash

-- A boot that started a manifest changed only slots that its procedure may write. Any other boot changed nothing.
abbrev pub BootKeeps : Outside → Ended → Flash → Flash → Type 0
BootKeeps before (Booted end lines) old now = KeptSo (KeepsBooted before old now) (IsSame old now) end
BootKeeps before _ old now = IsSame old now

-- a migration kept the flash as its ending says
abbrev pub MigrateKeeps : Outside → Ended → Flash → Flash → Type 0
MigrateKeeps before (Answered ending) old now = KeepsTold before.flash ending old now
MigrateKeeps before _ old now = IsSame old now

-- ---- inside

-- `BootKeeps` with the configuration at hand
abbrev pub BootKeepsBy : List Entry × Key × Frame → Ended → Flash → Flash → Type 0
BootKeepsBy config (Booted end lines) old now =
    KeptSo (KeepsBoot config.2 config.0 config.1 old now) (IsSame old now) end
BootKeepsBy config _ old now = IsSame old now

-- `StaysOrKeeps` with the accepted envelope at hand
abbrev pub KeepsAccepted : Offer → List (List ℕ × List ℕ) → Surroundings → Surroundings → Ended
    → Type 0
KeepsAccepted o uris before after (Updated end lines) = KeepsOffer o uris before after end
KeepsAccepted o uris before after _ = IsSame before.flash after.flash

-- nothing is said of the images on the way
abbrev pub PassesAny : Flash → Flash → Type 0
PassesAny old new = Passes old new (λ image. Unit {0})

-- nothing was done, because memory ran out
abbrev pub IsUndone : Launching → Launching → Outside → Outside → Ending → Type 0
IsUndone launched now before after ending =
    (ending ≡ NoMemory) × (after ≡ before) × (now ≡ launched)

-- from the configuration on: memory runs out before anything is done; or it is a boot
abbrev pub BootsBy : List Entry × Key × Frame → Launching → Launching → Outside → Outside → Ended
    → Type 0
BootsBy config launched now before after (Answered ending) =
    IsUndone launched now before after ending
BootsBy config launched now before after (Booted end lines) =
    IsBoot config launched now before after end × (lines ≡ boot_line end)
BootsBy config launched now before after (Updated end lines) = ⊥

-- from what was accepted on: memory runs out for the lines; or it is an update
abbrev pub UpdatesBy : Offer → List (List ℕ × List ℕ) → Launching → Launching → Outside → Outside
    → Ended → Type 0
UpdatesBy o uris launched now before after (Answered ending) =
    IsUndone launched now before after ending
UpdatesBy o uris launched now before after (Booted end lines) = ⊥
UpdatesBy o uris launched now before after (Updated end lines) =
    IsUpdate o uris launched now before after end
    × (lines ≡ update_line o.accepted.manifest.sequence end)
