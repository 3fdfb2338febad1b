-- The launches of an update.
use Rattle.std.specs.Prelude.{◌≡◌, ◌⊎◌, ℕ, IsTrue, List, length, Option, Some}
use Rattle.step_machine.specs.Devices.{device_at}
use Rattle.suit_edge.specs.declared.launch.Launch.{Launch}
use Rattle.suit_envelope.specs.Payloads.{HasPayloads}
use Rattle.flash_layout.specs.declared.frame.Frame.{Frame}
use Rattle.flash_layout.specs.declared.key.Key.{Key}
use Rattle.flash_layout.specs.declared.layout.Entry.{Entry}
use Rattle.flash_layout.specs.declared.slot.Record.{Record}
use Rattle.flash_layout.specs.Configs.{ConfigOf, Configured}
use Rattle.flash_layout.specs.Frames.{head_of}
use Rattle.rollback_record.specs.HeadRecord.{RecordOf}
use Rattle.step_machine.specs.declared.plan_end.PlanEnd.{PlanEnd}
use Rattle.invoke_proc.specs.Booting.{GainsSafe}
use Rattle.update_proc.specs.Moments.{placed_on}
use Rattle.update_proc.specs.declared.update_end.UpdateEnd.{UpdateEnd}
use Rattle.update_proc.specs.Updates.{Hosted, PlaysUpdate, sources}
use Rattle.suit_cli.specs.Acceptance.{Accepted, IsAccepted}
use Rattle.suit_cli.specs.LaunchedLaws.{TellsImage}
use Rattle.suit_cli.specs.Surroundings.{Seen}
use Rattle.suit_cli.specs.Updating.{Updates, tree_of}

-- These bytes were accepted under the configuration of the image: they are an envelope that is authentic under its key, and
-- judged safe. Its update procedure was played beside the record that the image has, or beside none, with the payloads of the
-- bytes and the names of files for URIs. Each launch that it made has the digest that was in force, and the size where one was.
pub record LaunchesAccepted (uris : List (List ℕ × List ℕ)) (layout : List Entry) (key : Key)
    (bytes image : List ℕ) (launched now : List Launch)
    : Type 0 where
  pub frame : Frame
  pub config : ConfigOf (length image) image (Configured layout key frame)
  pub accepted : Accepted
  pub is_accepted : IsAccepted frame layout key bytes accepted
  pub held : Option Record
  pub recorded : RecordOf frame (head_of frame image) held
  pub payloads : List (List ℕ × List ℕ)
  pub are : HasPayloads bytes payloads
  pub host : Hosted
  pub made : List ℕ
  pub end : PlanEnd
  pub plays :
      PlaysUpdate (placed_on frame layout accepted.places (tree_of accepted)) held
      (sources payloads uris host) (device_at image launched) (device_at made now) end
  pub gains : GainsSafe launched now

-- each update of the image launches nothing, or what the file's procedure does; a host that tells has that file
abbrev pub UpdatesAccepted : List ℕ → Type 0
UpdatesAccepted image =
    (name : List ℕ) (uris : List (List ℕ × List ℕ)) (before after : Seen) (end : UpdateEnd)
    (lines : List ℕ)
    → TellsImage image before.launcher before.outside → Updates name uris before after end lines
    → (after.launcher.launches ≡ before.launcher.launches)
    ⊎ ((layout : List Entry) × (key : Key) × (bytes : List ℕ)
    × (IsTrue before.outside.told → before.outside.files name ≡ Some bytes)
    × LaunchesAccepted uris layout key bytes image before.launcher.launches
    after.launcher.launches)

-- so it is with each image, whatever the host is and gives
abbrev pub LaunchedUpdateLaws : Type 0
LaunchedUpdateLaws = (image : List ℕ) → UpdatesAccepted image
