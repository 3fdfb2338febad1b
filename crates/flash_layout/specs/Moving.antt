-- Turning a layout of version 1 into one of version 2.
use Rattle.std.specs.Prelude.{◌≡◌, ℕ, List}
use Rattle.flash_layout.specs.declared.frame.Frame.{Frame}
use Rattle.flash_layout.specs.declared.layout.Entry.{Entry}
use Rattle.flash_layout.specs.declared.layout_fault.LayoutFault.{LayoutFault}
use Rattle.flash_layout.specs.declared.layout_fault.LayoutFault.TheVariants.{BaseOutside, BaseOverlap}
use Rattle.flash_layout.specs.declared.moving.BaseFault.{BaseFault}
use Rattle.flash_layout.specs.declared.moving.BaseFault.TheVariants as base
use Rattle.flash_layout.specs.Frames.{IsFrame}
use Rattle.flash_layout.specs.LayoutFaults.{IsBaseHeld}
use Rattle.flash_layout.specs.Layouts.{IsLayout}
use Rattle.flash_layout.specs.Roots.{second_frame}

-- the fault for which a description with that base would be refused
abbrev pub described_fault : BaseFault → LayoutFault
described_fault base.Outside = BaseOutside
described_fault (base.Overlap i) = BaseOverlap i

-- the frame of version 2 with this base, with which the layout is allowed on a flash of this size
pub record IsMoved (place size : ℕ) (layout : List Entry) (frame : Frame) : Type 0 where
  pub frame_is : frame ≡ second_frame place
  pub placed : IsFrame size frame
  pub held : IsBaseHeld frame size layout
  pub allowed : IsLayout frame size layout
