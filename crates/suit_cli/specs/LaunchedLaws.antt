-- The launches of a boot of a sound flash, and so over the whole life of a flash.
use Rattle.std.specs.Prelude.{◌≡◌, ◌⊎◌, ℕ, IsTrue, List, length, Option, All}
use Rattle.step_machine.specs.Devices.{device_at}
use Rattle.suit_edge.specs.declared.launch.Launch.{Launch}
use Rattle.flash_layout.specs.declared.frame.Frame.{Frame}
use Rattle.flash_layout.specs.declared.key.Key.{Key}
use Rattle.flash_layout.specs.declared.layout.Entry.{Entry}
use Rattle.flash_layout.specs.declared.slot.Record.{Record}
use Rattle.flash_layout.specs.Frames.{head_of}
use Rattle.rollback_record.specs.SoundFlash.{IsInstalled, Sound, recorded_bank}
use Rattle.step_machine.specs.declared.plan_end.PlanEnd.{PlanEnd}
use Rattle.invoke_proc.specs.declared.boot_end.BootEnd.{BootEnd}
use Rattle.invoke_proc.specs.Booting.{GainsSafe, PlaysOn}
use Rattle.suit_cli.specs.Outside.{Outside}
use Rattle.suit_cli.specs.Booting.{Boots}
use Rattle.suit_cli.specs.Launching.{Launching}
use Rattle.suit_cli.specs.LifeLaws.{HasRecorded, IsLife}

-- The image has a record, and its bank the manifest with the record's number and digest, authentic under the image's key
-- and judged safe. The invocation procedure of that manifest was played, with no payloads, and each launch that it made has
-- the digest that was in force, and the size where one was.
pub record LaunchesRecorded (layout : List Entry) (key : Key) (files : List ℕ → Option (List ℕ))
    (image after : List ℕ) (launched now : List Launch)
    : Type 0 where
  pub frame : Frame
  pub installed : Record
  pub recorded : HasRecorded frame layout key installed image
  pub is :
      IsInstalled layout key (recorded_bank frame (head_of frame image) installed) installed
  pub end : PlanEnd
  pub plays :
      PlaysOn layout is.said installed.active files (device_at image launched)
      (device_at after now) end
  pub gains : GainsSafe launched now

-- flash and launcher tell what they hold, and the flash reads the image
pub record TellsImage (image : List ℕ) (launched : Launching) (before : Outside) : Type 0 where
  pub flash : IsTrue before.flash.told
  pub launcher : IsTrue launched.told
  pub size : before.flash.size ≡ length image
  pub reads : before.flash.reads ≡ image

-- each boot of the image launches nothing, or what the image has recorded
abbrev pub BootsRecorded : List ℕ → Type 0
BootsRecorded image =
    (launched now : Launching) (before after : Outside) (end : BootEnd) (lines : List ℕ)
    → TellsImage image launched before
    → Boots launched now before after end lines → (now.launches ≡ launched.launches)
    ⊎ ((layout : List Entry) × (key : Key)
    × LaunchesRecorded layout key before.files image after.flash.reads launched.launches
    now.launches)

pub record LaunchedLaws : Type 0 where
  -- so it is with a sound image,
  pub sound : (image : List ℕ) → Sound image → BootsRecorded image
  -- and with each image of a life
  pub life : (images : List (List ℕ)) → IsLife images → All BootsRecorded images
