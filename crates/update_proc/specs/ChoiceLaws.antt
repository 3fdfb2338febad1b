-- Laws of the slots that components stand for in an update.
use Rattle.std.specs.Prelude.{ℕ, List, length, Option}
use Rattle.suit_commands.specs.Tree.{PlanTree}
use Rattle.flash_layout.specs.declared.frame.Frame.{Frame}
use Rattle.flash_layout.specs.declared.key.Key.{Key}
use Rattle.flash_layout.specs.declared.layout.Entry.{Entry}
use Rattle.flash_layout.specs.declared.place.Places.{Places}
use Rattle.flash_layout.specs.declared.slot.Record.{Record}
use Rattle.flash_layout.specs.Configs.{ConfigOf, Configured}
use Rattle.flash_layout.specs.Frames.{head_of}
use Rattle.rollback_record.specs.HeadRecord.{RecordOf}
use Rattle.update_proc.specs.Choices.{AreChosen, active_slots}
use Rattle.update_proc.specs.Installing.{HasActiveSlots}

-- chosen slots may be recorded as those in use
abbrev pub ChoiceLaw : Type 0
ChoiceLaw =
    (frame : Frame) (image : List ℕ) (layout : List Entry) (key : Key) (held : Option Record) (places : Places) (tree : PlanTree) (numbers : List ℕ)
    → ConfigOf (length image) image (Configured layout key frame) → RecordOf frame (head_of frame image) held
    → AreChosen layout places tree (active_slots held) numbers → HasActiveSlots frame image numbers
