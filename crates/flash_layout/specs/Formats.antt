-- What formatting leaves on the flash.
use Rattle.std.specs.Prelude.{◌≡◌, ◌⊎◌, ◌<◌, ◌≤◌, ◌+◌, ℕ, List, All, slice_index}
use Rattle.suit_edge.specs.declared.page.TheConstants.{CLOSED}
use Rattle.suit_edge.specs.Faults.{Faulted}
use Rattle.suit_edge.specs.Flash.{Flash, Now}
use Rattle.suit_edge.specs.Gate.{IsOpen}
use Rattle.suit_edge.specs.Ranges.{Outside}
use Rattle.flash_layout.specs.declared.formatting.Formatted.{Formatted}
use Rattle.flash_layout.specs.declared.formatting.Formatted.TheVariants as formatted
use Rattle.flash_layout.specs.declared.frame.Frame.{Frame}
use Rattle.flash_layout.specs.declared.frame.TheConstants.{CONFIG_GATE, LENGTH_SIZE, ROOT_BYTES, ROOT_GATE}
use Rattle.flash_layout.specs.declared.key.Key.{Key}
use Rattle.flash_layout.specs.declared.layout.Entry.{Entry}
use Rattle.flash_layout.specs.Configs.{Blank, Configured, ConfigOf}
use Rattle.flash_layout.specs.Frames.{HasNoRecord, checkpoint_place, head_of, journal_place, page_bytes, record_place}
use Rattle.flash_layout.specs.Layouts.{slot_starts}
use Rattle.flash_layout.specs.Slots.{AreEmpty}

-- version 2 has neither a journal nor a checkpoint
abbrev pub HasNoWork : Frame → List ℕ → Type 0
HasNoWork frame image =
    frame.version ≡ 2
    → (IsOpen image (journal_place frame) → ⊥) × (IsOpen image (checkpoint_place frame) → ⊥)

-- the image has the layout and the key, no record, and no work in progress, and each slot is empty
pub record IsFormatted (frame : Frame) (size : ℕ) (layout : List Entry) (key : Key) (image : List ℕ)
    : Type 0 where
  pub config : ConfigOf size image (Configured layout key frame)
  pub no_record : HasNoRecord frame (head_of frame image)
  pub no_work : HasNoWork frame image
  pub empty : AreEmpty layout image

-- If each image that a power loss may leave at the start is blank, this image is blank or formatted.
abbrev pub IsBlankOrFormatted : Frame → ℕ → List Entry → Key → Flash → List ℕ → Type 0
IsBlankOrFormatted frame size layout key start image =
    ((before : List ℕ) → Now start before → ConfigOf size before Blank)
    → ConfigOf size image Blank ⊎ IsFormatted frame size layout key image

-- ---- the places that are written

-- the place is not the gate of a record page
abbrev pub OutsideRecordGates : Frame → ℕ → Type 0
OutsideRecordGates frame i = Outside (record_place frame 0) 1 i × Outside (record_place frame 1) 1 i

-- the place is not a gate in the work area of version 2
abbrev pub OutsideWorkGates : Frame → ℕ → Type 0
OutsideWorkGates frame i =
    frame.version ≡ 2 → Outside (journal_place frame) 1 i × Outside (checkpoint_place frame) 1 i

-- the place is not in the root, which only version 2 writes
abbrev pub OutsideRoot : Frame → ℕ → Type 0
OutsideRoot frame i = frame.version ≡ 2 → Outside ROOT_GATE ROOT_BYTES i

-- the place is not in the length of a slot at one of these starts
abbrev pub OutsideLengths : List ℕ → ℕ → Type 0
OutsideLengths starts i = All (λ p. Outside p LENGTH_SIZE i) starts

-- the place is not in the length of a slot of the layout
abbrev pub OutsideAllLengths : List Entry → ℕ → Type 0
OutsideAllLengths layout i = All (λ e. OutsideLengths (slot_starts e) i) layout

-- the place is not among those written first: the gates, and the lengths of the slots
abbrev pub OutsidePrepared : Frame → List Entry → ℕ → Type 0
OutsidePrepared frame layout i =
    OutsideRecordGates frame i × OutsideWorkGates frame i × OutsideAllLengths layout i

-- the place is not among those written last: the configuration page, as far as it is read, and the root
abbrev pub OutsideOpened : Frame → ℕ → Type 0
OutsideOpened frame i = Outside frame.base (page_bytes frame) i × OutsideRoot frame i

-- the place is not one that formatting writes
abbrev pub OutsideFormat : Frame → List Entry → ℕ → Type 0
OutsideFormat frame layout i = OutsideOpened frame i × OutsidePrepared frame layout i

-- ---- what the answers say

-- the count of faults rises for a fault of the flash, and stays otherwise
abbrev pub FormatCounts : Formatted → ℕ → ℕ → Type 0
FormatCounts formatted.FlashFault before now = Faulted before now
FormatCounts _ before now = now ≡ before

-- P holds if the flash was formatted
abbrev pub IfFormatted : Formatted → Type 0 → Type 0
IfFormatted formatted.Done P = P
IfFormatted _ P = Unit {0}

-- the answer is NotBlank if and only if a gate was open, and then nothing has changed
abbrev pub IfNotBlank : Formatted → Type 0 → Type 0 → Type 0
IfNotBlank formatted.NotBlank Opened Same = Opened × Same
IfNotBlank formatted.Done Opened Same = Opened → ⊥
IfNotBlank formatted.FlashFault Opened Same = Unit {0}

-- ---- internals

-- the gate of version 1's configuration page or that of the root is open
abbrev pub HasOpenGate : List ℕ → Type 0
HasOpenGate image = IsOpen image CONFIG_GATE ⊎ IsOpen image ROOT_GATE

-- the gate of the root is closed
abbrev pub HasNoRoot : List ℕ → Type 0
HasNoRoot image = IsOpen image ROOT_GATE → ⊥

-- both record gates are closed
abbrev pub AreClosed : Frame → List ℕ → Type 0
AreClosed frame image =
    (slice_index image (record_place frame 0) ≡ CLOSED)
    × (slice_index image (record_place frame 1) ≡ CLOSED)

-- both gates of the work area of version 2 are closed
abbrev pub IsWorkClosed : Frame → List ℕ → Type 0
IsWorkClosed frame image =
    frame.version ≡ 2
    → (slice_index image (journal_place frame) ≡ CLOSED)
    × (slice_index image (checkpoint_place frame) ≡ CLOSED)

-- the length of the slot at p is 0
abbrev pub IsClearAt : List ℕ → ℕ → Type 0
IsClearAt image p = (i : ℕ) → p ≤ i → i < p + LENGTH_SIZE → slice_index image i ≡ 0

-- the lengths of all slots of the layout are 0
abbrev pub AreAllClearAt : List Entry → List ℕ → Type 0
AreAllClearAt layout image = All (λ e. All (IsClearAt image) (slot_starts e)) layout

-- zeros stay zeros
abbrev pub KeepsZeros : List ℕ → List ℕ → Type 0
KeepsZeros old new = (i : ℕ) → slice_index old i ≡ 0 → slice_index new i ≡ 0

-- the length of a slot at p is inside a flash of this size
abbrev pub HasLength : ℕ → ℕ → Type 0
HasLength size p = p + LENGTH_SIZE ≤ size

abbrev pub HaveLengths : ℕ → Entry → Type 0
HaveLengths size e = (e.slots ≤ 2) × All (HasLength size) (slot_starts e)

-- everything but the configuration page and the root is written
pub record IsPrepared (frame : Frame) (layout : List Entry) (image : List ℕ) : Type 0 where
  pub closed : AreClosed frame image
  pub work : IsWorkClosed frame image
  pub clear : AreAllClearAt layout image
