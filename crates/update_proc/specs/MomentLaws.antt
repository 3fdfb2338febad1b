-- Laws of what the flash holds at each moment of an update.
use Rattle.std.specs.Prelude.{◌≡◌, ◌≤◌, ℕ, List, All, length, Option}
use Rattle.suit_commands.specs.Tree.{PlanTree}
use Rattle.suit_edge.specs.Ranges.{SameOn}
use Rattle.path_model.specs.DevicePlays.{played}
use Rattle.flash_layout.specs.declared.frame.Frame.{Frame}
use Rattle.flash_layout.specs.declared.layout.Entry.{Entry}
use Rattle.flash_layout.specs.declared.place.Places.{Places}
use Rattle.flash_layout.specs.declared.slot.Record.{Record}
use Rattle.flash_layout.specs.Layouts.{IsLayout, IsTypedEntry}
use Rattle.flash_layout.specs.Frames.{IsFrame, bank_size}
use Rattle.flash_slots.specs.RamContents.{empty_ram}
use Rattle.step_machine.specs.declared.plan_end.PlanEnd.TheVariants as plays
use Rattle.step_machine.specs.Devices.{DeviceAt, contents_of}
use Rattle.step_machine.specs.PlanRuns.{setting_of}
use Rattle.update_proc.specs.Banks.{BesideBank}
use Rattle.update_proc.specs.Choices.{AreChosen, HaveTwoSlots, active_slots}
use Rattle.update_proc.specs.Installing.{IsRecording}
use Rattle.update_proc.specs.Moments.{HasContentsOf, HasInUse, HasPlayed, IsNew, IsOld, KeepsContents, OutsideTouched, placed_on}
use Rattle.update_proc.specs.Updates.{PlaysUpdate, Sources}

-- these hold of a flash of that size with that frame and layout
pub record MomentLaws (frame : Frame) (size : ℕ) (layout : List Entry) : Type 0 where
  -- while nothing changes but slots that may be written, the contents of all others stay
  pub procedure : (places : Places) (tree : PlanTree) (numbers before image : List ℕ)
      → length before ≡ size
      → SameOn (OutsideTouched layout places tree numbers) before image → KeepsContents layout places tree numbers before image
  -- while a bank is written, the contents of all slots stay
  pub filling : (held : Option Record) (bytes before image : List ℕ) → length before ≡ size
      → length bytes ≤ bank_size frame
      → SameOn (BesideBank frame held bytes) before image → HasContentsOf layout before image
  -- while the record is committed, the contents of all slots stay
  pub recording : (held : Option Record) (new : Record) (made image : List ℕ) → length made ≡ size
      → IsRecording frame held new made image → HasContentsOf layout made image
  -- if each component that may be written has two slots, then with the old record the slots in use have their old
  -- contents
  pub old :
      (places : Places) (tree : PlanTree) (numbers : List ℕ) (held : Option Record)
      (first image : List ℕ)
      → HaveTwoSlots layout places tree → AreChosen layout places tree (active_slots held) numbers
      → IsOld (placed_on frame layout places tree) numbers held first image
      → HasInUse layout (active_slots held) first image
  -- with the new record the slots in use have the contents that were made
  pub new : (r : Record) (made image : List ℕ) → IsNew frame layout r made image
      → HasInUse layout r.active made image
  -- with the new record, each component of the procedure has the content that its play to the end leaves
  pub played :
      (places : Places) (tree : PlanTree) (held : Option Record)
      (from : Sources)
      (before now : DeviceAt) (image : List ℕ) (r : Record)
      → AreChosen layout places tree (active_slots held) r.active
      → (play : PlaysUpdate (placed_on frame layout places tree) held from before now plays.Done)
      → IsNew frame layout r now.reads image
      → HasPlayed layout places r.active
      (played tree (setting_of play.standings from.payloads from.words play.given) (contents_of play.standings (empty_ram layout) before.reads)).world.contents image

abbrev pub EachMoment : Type 0
EachMoment = (frame : Frame) (size : ℕ) (layout : List Entry) → IsFrame size frame → IsLayout frame size layout → All IsTypedEntry layout → MomentLaws frame size layout
