-- Where the parts of a flash are. The head begins at the frame's base; the places of its parts are counted
-- from there.
use Rattle.std.specs.Prelude.{◌≡◌, ◌≤◌, ◌<◌, ◌+◌, ◌^◌, ◌*◌, ℕ, ◌==◌, if◌then◌else◌, List, slice_range}
use Rattle.suit_edge.specs.Gate.{IsOpen}
use Rattle.flash_layout.specs.declared.frame.Frame.{Frame}
use Rattle.flash_layout.specs.declared.frame.TheConstants.{ENTRY_SIZE, FRONT_SIZE}

-- ---- sizes

-- the first or the second number, by the version of the layout
abbrev pub by_version : Frame → ℕ → ℕ → ℕ
by_version frame first second = if frame.version == 1 then first else second

abbrev pub head_size : Frame → ℕ
head_size frame = by_version frame 49152 147456

abbrev pub config_size : Frame → ℕ
config_size frame = by_version frame 4096 8192

-- a record page has this size in either version
abbrev pub record_size : Frame → ℕ
record_size frame = 4096

abbrev pub bank_size : Frame → ℕ
bank_size frame = by_version frame 16384 65536

-- the size of the head and of the work area after it, which version 1 does not have
abbrev pub frame_size : Frame → ℕ
frame_size frame = by_version frame 49152 225280

-- the most components that a layout has
abbrev pub most : Frame → ℕ
most frame = by_version frame 8 32

-- ---- the work area of version 2

-- the places of the journal page and of the checkpoint page, each of which begins with its gate
abbrev pub journal_place : Frame → ℕ
journal_place frame = frame.base + 147456

abbrev pub checkpoint_place : Frame → ℕ
checkpoint_place frame = frame.base + 155648

-- ---- the frames that are allowed on a flash of this size

-- the base of version 2 has the head of version 1 before it, and room for its head and its work area after it
abbrev pub IsBase : ℕ → ℕ → Type 0
IsBase size base = (49152 ≤ base) × (base + 225280 ≤ size)

-- the frame is allowed, and its places are 64-bit numbers
pub data IsFrame (size : ℕ) (frame : Frame) : Type 0 where
  First : frame.version ≡ 1 → frame.base ≡ 0 → 49152 ≤ size → IsFrame size frame
  Second : frame.version ≡ 2 → 49152 ≤ frame.base → frame.base + 225280 ≤ size
      → frame.base + 225280 < 2 ^ 64 → IsFrame size frame

-- ---- the head

-- the bytes of the head
abbrev pub head_of : Frame → List ℕ → List ℕ
head_of frame image = slice_range image frame.base (frame.base + head_size frame)

-- ---- the configuration page

-- the size of the components on the page
abbrev pub entries_size : Frame → ℕ
entries_size frame = ENTRY_SIZE * most frame

-- how many bytes of the page are read
abbrev pub page_bytes : Frame → ℕ
page_bytes frame = FRONT_SIZE + entries_size frame

-- the bytes of the page that are read
abbrev pub config_page_of : Frame → List ℕ → List ℕ
config_page_of frame head = slice_range head 0 (page_bytes frame)

-- ---- the record pages

-- the place of a record page, counted from the beginning of the head
abbrev pub record_from : Frame → ℕ → ℕ
record_from frame which = config_size frame + which * record_size frame

-- the place of a record page in the flash
abbrev pub record_place : Frame → ℕ → ℕ
record_place frame which = frame.base + record_from frame which

-- the gate of a record page, its first byte, is open
abbrev pub HasOpenRecord : Frame → List ℕ → ℕ → Type 0
HasOpenRecord frame head which = IsOpen head (record_from frame which)

-- the gates of both record pages are closed
abbrev pub HasNoRecord : Frame → List ℕ → Type 0
HasNoRecord frame head = (HasOpenRecord frame head 0 → ⊥) × (HasOpenRecord frame head 1 → ⊥)

-- ---- the banks

-- the place of a bank, counted from the beginning of the head
abbrev pub bank_from : Frame → ℕ → ℕ
bank_from frame which = record_from frame 2 + by_version frame (which * 16384) (which * 65536)

-- the place of a bank in the flash
abbrev pub bank_place : Frame → ℕ → ℕ
bank_place frame which = frame.base + bank_from frame which

-- the first n bytes of a bank
abbrev pub bank_of : Frame → List ℕ → ℕ → ℕ → List ℕ
bank_of frame head which n = slice_range head (bank_from frame which) (bank_from frame which + n)
