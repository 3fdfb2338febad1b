-- The needs of `run boot`, and how it leaves the outside where they are met.
use Rattle.std.specs.Prelude.{◌≡◌, ℕ, List, [], Some, codes}
use Rattle.suit_manifest.specs.declared.manifest.Manifest.{Manifest}
use Rattle.suit_manifest.specs.Procedures.{invocation_tree}
use Rattle.path_model.specs.DevicePlays.{Device, played}
use Rattle.path_model.specs.Plays.{Outcome}
use Rattle.path_model.specs.Settings.{steady}
use Rattle.flash_layout.specs.declared.frame.Frame.{Frame}
use Rattle.flash_layout.specs.declared.key.Key.{Key}
use Rattle.flash_layout.specs.declared.layout.Entry.{Entry}
use Rattle.flash_layout.specs.declared.slot.Record.{Record}
use Rattle.flash_layout.specs.Frames.{head_of}
use Rattle.flash_slots.specs.RamContents.{empty_ram}
use Rattle.rollback_record.specs.HeadRecord.{RecordOf}
use Rattle.rollback_record.specs.SoundFlash.{IsInstalled}
use Rattle.step_machine.specs.declared.spot.Standing.{Standing}
use Rattle.step_machine.specs.Devices.{contents_of}
use Rattle.step_machine.specs.PlanRuns.{setting_of}
use Rattle.invoke_proc.specs.declared.boot_end.BootEnd.TheVariants as ends
use Rattle.invoke_proc.specs.Banks.{bank_in}
use Rattle.invoke_proc.specs.Booting.{StandActive}
use Rattle.suit_cli.specs.Coming.{Booted, Ended}
use Rattle.suit_cli.specs.Installed.{Holds}
use Rattle.suit_cli.specs.Launching.{Launching}
use Rattle.suit_cli.specs.Outside.{Outside}
use Rattle.suit_cli.specs.Words.{RunBoot, task_of}
use Rattle.completeness.specs.Outcomes.{AreTold}
use Rattle.completeness.specs.Plays.{Completes, LeavesPlay}

-- ---- the record

-- the flash's configuration and record, and what the record's bank holds, as on each sound flash that has a record
pub record Records (before : Outside) : Type 0 where
  pub layout : List Entry
  pub key : Key
  pub frame : Frame
  pub configured : Holds before.flash (layout, key, frame)
  pub installed : Record
  pub recorded : RecordOf frame (head_of frame before.flash.reads) (Some installed)
  pub is : IsInstalled layout key (bank_in frame before.flash.reads installed) installed

-- ---- the play

-- the active slots, which its components stand for
pub record Activates (layout : List Entry) (installed : Record) (manifest : Manifest)
    : Type 0 where
  pub standings : List Standing
  pub stand : StandActive layout manifest.components installed.active standings

-- the play of its invocation procedure on the flash as it reads, with working memory empty, no payloads and no names of
-- files
abbrev pub boot_play : (layout : List Entry) (manifest : Manifest) (installed : Record)
    (before : Outside) → Activates layout installed manifest → Outcome Device
boot_play layout manifest installed before on =
    played (invocation_tree manifest) (setting_of on.standings [] [] (steady before.files))
    (contents_of on.standings (empty_ram layout) before.flash.reads)

-- ---- the needs

-- The words ask for it; and the invocation procedure of what is recorded, played on the active slots, comes to its end.
pub record ReadyToBoot (words : List (List ℕ)) (launched : Launching) (before : Outside)
    : Type 0 where
  pub asks : task_of words ≡ Some RunBoot
  pub told : AreTold launched before
  pub records : Records before
  pub on : Activates records.layout records.installed records.is.said
  pub completes : Completes (boot_play records.layout records.is.said records.installed before on)

-- ---- the end

-- It ended, and the line says so. The launches are those of the play, and the flash has the contents that it leaves.
pub record BootsWhole (words : List (List ℕ)) (launched : Launching) (before : Outside)
    (ready : ReadyToBoot words launched before) (now : Launching) (after : Outside) (ended : Ended)
    : Type 0 where
  pub ended_is : ended ≡ Booted ends.Ended (codes "ended\n")
  pub left : let r = ready.records in
      LeavesPlay ready.on.standings (boot_play r.layout r.is.said r.installed before ready.on)
      launched.launches now.launches after.flash.reads
  pub files : after.files ≡ before.files
