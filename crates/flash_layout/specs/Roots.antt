-- The root: ten bytes after the banks of layout version 1, which say where the head of layout version 2 is.
-- Its first byte is a gate. If that is closed, the flash has version 1 or no layout.
use Rattle.std.specs.Prelude.{◌+◌, ℕ, ◌==◌, if◌then◌else◌, List, ◌∷◌, slice_index, slice_range, Option, Some, None}
use Rattle.suit_edge.specs.declared.page.TheConstants.{OPEN}
use Rattle.flash_layout.specs.declared.frame.Frame.{Frame}
use Rattle.flash_layout.specs.declared.frame.TheConstants.{ROOT_BYTES, ROOT_GATE, VERSION_1}
use Rattle.flash_layout.specs.ConfigPage.{number_bytes}
use Rattle.flash_layout.specs.PageReading.{number_at}

-- the frame of version 2 with this base
abbrev pub second_frame : ℕ → Frame
second_frame base = record { version = 2; base = base }

-- the frame that an open root gives, if it is one of version 2
unfoldable pub frame_in : List ℕ → Option Frame
frame_in root =
    if slice_index root 1 == 2 then Some (second_frame (number_at (slice_range root 2 10))) else None

-- the frame that the bytes of a root give
unfoldable pub frame_by : List ℕ → Option Frame
frame_by root = if slice_index root 0 == OPEN then frame_in root else Some VERSION_1

abbrev pub root_of : List ℕ → List ℕ
root_of image = slice_range image ROOT_GATE (ROOT_GATE + ROOT_BYTES)

-- the frame that an image gives
abbrev pub frame_told : List ℕ → Option Frame
frame_told image = frame_by (root_of image)

-- the bytes of an open root that gives this frame
abbrev pub root_bytes : Frame → List ℕ
root_bytes frame = OPEN ∷ frame.version ∷ number_bytes frame.base
