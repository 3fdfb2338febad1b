-- The memory of a boot, as a contract sees it.
use Rattle.std.specs.Prelude.{List}
use Rattle.flash_layout.specs.declared.frame.Frame.{Frame}
use Rattle.flash_layout.specs.declared.layout.Entry.{Entry}
use Rattle.flash_slots.specs.RamContents.{Held, empty_ram}

-- room for the envelope in a bank of this frame, and for the contents in working memory
pub record BootRoom : Type 0 where
  pub frame : Frame
  pub ram : List Held

-- the memory of a boot of a flash with this frame and layout
abbrev pub boot_room : Frame → List Entry → BootRoom
boot_room frame layout = record { frame = frame; ram = empty_ram layout }
