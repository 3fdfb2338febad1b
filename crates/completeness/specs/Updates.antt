-- The needs of `run update`, and how it leaves the outside where they are met.
use Rattle.std.specs.Prelude.{◌≡◌, ℕ, List, Option, Some, codes}
use Rattle.suit_params.specs.declared.digest.Digest.{Digest}
use Rattle.suit_commands.specs.Tree.{PlanTree}
use Rattle.suit_envelope.specs.Payloads.{HasPayloads}
use Rattle.suit_envelope.specs.WrapperParts.{WrapperSays}
use Rattle.suit_manifest.specs.Procedures.{update_tree}
use Rattle.path_model.specs.DevicePlays.{Device, played}
use Rattle.path_model.specs.Plays.{Outcome}
use Rattle.path_model.specs.Settings.{steady}
use Rattle.flash_layout.specs.declared.frame.Frame.{Frame}
use Rattle.flash_layout.specs.declared.key.Key.{Key}
use Rattle.flash_layout.specs.declared.layout.Entry.{Entry}
use Rattle.flash_layout.specs.declared.slot.Record.{Record}
use Rattle.flash_layout.specs.Frames.{head_of}
use Rattle.flash_slots.specs.RamContents.{empty_ram}
use Rattle.rollback_record.specs.HeadRecord.{RecordOf}
use Rattle.rollback_record.specs.Judging.{IsAcceptable}
use Rattle.step_machine.specs.declared.spot.Standing.{Standing}
use Rattle.step_machine.specs.Devices.{contents_of}
use Rattle.step_machine.specs.PlanRuns.{setting_of}
use Rattle.step_machine.specs.Worlds.{StandAs}
use Rattle.update_proc.specs.declared.update_end.UpdateEnd.TheVariants as ends
use Rattle.update_proc.specs.Choices.{AreChosen, active_slots}
use Rattle.update_proc.specs.Moments.{KeepsContents}
use Rattle.suit_cli.specs.Acceptance.{Accepted, IsAccepted}
pub use Rattle.suit_cli.specs.Acceptance.{Meets}
use Rattle.suit_cli.specs.Coming.{Ended, Updated}
use Rattle.suit_cli.specs.Inputs.{longest_file, IsRead}
use Rattle.suit_cli.specs.Installed.{Holds}
use Rattle.suit_cli.specs.Launching.{Launching}
use Rattle.suit_cli.specs.Lines.{number_line}
use Rattle.suit_cli.specs.Outside.{Outside}
use Rattle.suit_cli.specs.Updating.{new_of}
use Rattle.suit_cli.specs.Words.{Named, RunUpdate, pairs_of, task_of}
use Rattle.completeness.specs.Outcomes.{AreTold}
use Rattle.completeness.specs.Plays.{Completes, LeavesPlay}

-- ---- the offer

-- the procedure that installs it
abbrev pub procedure_of : Accepted → PlanTree
procedure_of a = update_tree a.manifest a.members

-- its wrapper states this digest, which is that of the manifest's byte string
abbrev pub States : Accepted → Digest → Type 0
States a digest = (blocks : List (List ℕ)) × WrapperSays a.said.wrapper digest blocks

-- the outside before `run update`: its file, the flash's configuration and record, and the envelope that is accepted by them
pub record Offers (name : List ℕ) (before : Outside) : Type 0 where
  pub layout : List Entry
  pub key : Key
  pub frame : Frame
  pub configured : Holds before.flash (layout, key, frame)
  pub bytes : List ℕ
  pub read : IsRead longest_file name before bytes
  pub accepted : Accepted
  pub is_accepted : IsAccepted frame layout key bytes accepted
  pub digest : Digest
  pub stated : States accepted digest
  pub held : Option Record
  pub recorded : RecordOf frame (head_of frame before.flash.reads) held
  pub acceptable : IsAcceptable accepted.manifest.sequence digest held

-- its record beside the held one, with these slots in use
abbrev pub record_for : (name : List ℕ) (before : Outside) → Offers name before → List ℕ → Record
record_for name before o numbers =
    new_of o.frame o.accepted o.held before.flash.reads o.digest numbers

-- ---- the play

-- the slots that its components stand for, and the payloads of its envelope
pub record Sets (layout : List Entry) (bytes : List ℕ) (a : Accepted) (held : Option Record)
    : Type 0 where
  pub numbers : List ℕ
  pub chosen : AreChosen layout a.places (procedure_of a) (active_slots held) numbers
  pub standings : List Standing
  pub stand : StandAs layout a.places (record { number = numbers }) standings
  pub payloads : List (List ℕ × List ℕ)
  pub has : HasPayloads bytes payloads

-- its play on the flash as it reads, with working memory empty and these names of files for URIs
abbrev pub play_of : (layout : List Entry) (bytes : List ℕ) (a : Accepted) (held : Option Record)
    → Sets layout bytes a held → List (List ℕ × List ℕ) → Outside → Outcome Device
play_of layout bytes a held sets uris before =
    played (procedure_of a) (setting_of sets.standings sets.payloads uris (steady before.files))
    (contents_of sets.standings (empty_ram layout) before.flash.reads)

-- ---- the needs

-- The words ask for it, what they name is accepted, and it may be recorded beside what the flash holds; and its procedure,
-- played on the chosen slots, comes to its end.
pub record ReadyToUpdate (words : List (List ℕ)) (launched : Launching) (before : Outside)
    : Type 0 where
  pub name : List ℕ
  pub uris : List Named
  pub asks : task_of words ≡ Some (RunUpdate name uris)
  pub told : AreTold launched before
  pub offers : Offers name before
  pub sets : Sets offers.layout offers.bytes offers.accepted offers.held
  pub completes :
      Completes
      (play_of offers.layout offers.bytes offers.accepted offers.held sets (pairs_of uris) before)

-- ---- the end

-- It is installed, and the line says its number. The flash has its record, and the contents that the play leaves; those
-- of slots that it may not write are as they were. The launches are those of the play.
pub record Installs (words : List (List ℕ)) (launched : Launching) (before : Outside)
    (ready : ReadyToUpdate words launched before) (now : Launching) (after : Outside)
    (ended : Ended)
    : Type 0 where
  pub ended_is : let o = ready.offers in
      ended
      ≡ Updated
      (ends.Installed (record_for ready.name before o ready.sets.numbers))
      (number_line (codes "installed") o.accepted.manifest.sequence)
  pub recorded : let o = ready.offers in
      RecordOf o.frame (head_of o.frame after.flash.reads)
      (Some (record_for ready.name before o ready.sets.numbers))
  pub left : let o = ready.offers in
      LeavesPlay ready.sets.standings
      (play_of o.layout o.bytes o.accepted o.held ready.sets (pairs_of ready.uris) before)
      launched.launches now.launches after.flash.reads
  pub others : let o = ready.offers in
      KeepsContents o.layout o.accepted.places (procedure_of o.accepted) ready.sets.numbers
      before.flash.reads after.flash.reads
  pub files : after.files ≡ before.files
