-- What a migration writes at the base of a flash.
use Rattle.std.specs.Prelude.{◌≡◌, ◌⊎◌, ◌+◌, ◌≤◌, ℕ, IfSome, List, ◌∷◌, Option, Some, None, Result, Ok, Err, length, slice_index, slice_range}
use Rattle.suit_edge.specs.declared.page.TheConstants.{CLOSED, OPEN}
use Rattle.suit_edge.specs.Faults.{Faulted}
use Rattle.suit_edge.specs.Flash.{Flash, ImageOn, Now}
use Rattle.suit_edge.specs.Gate.{IsOpen}
use Rattle.suit_edge.specs.Ranges.{Outside, SameOn}
use Rattle.flash_layout.specs.declared.frame.Frame.{Frame}
use Rattle.flash_layout.specs.declared.frame.TheConstants.{ROOT_BYTES, ROOT_GATE}
use Rattle.flash_layout.specs.declared.key.Key.{Key}
use Rattle.flash_layout.specs.declared.layout.Entry.{Entry}
use Rattle.flash_layout.specs.declared.slot.Record.{Record}
use Rattle.flash_layout.specs.ConfigPage.{config_page}
use Rattle.flash_layout.specs.Formats.{IsWorkClosed}
use Rattle.flash_layout.specs.Frames.{bank_place, bank_size, frame_size, page_bytes, record_place}
use Rattle.rollback_record.specs.declared.moved.Installed.{Installed}
use Rattle.rollback_record.specs.declared.moved.Stop.{Stop}
use Rattle.rollback_record.specs.declared.moved.Stop.TheVariants as stops
use Rattle.flash_layout.specs.Roots.{frame_told}
use Rattle.rollback_record.specs.HeadRecord.{RecordOf}
use Rattle.rollback_record.specs.RecordPage.{record_body, record_length}
use Rattle.rollback_record.specs.SoundFlash.{recorded_bank}

-- the count of faults rose if the flash failed, and stayed the same if not
abbrev pub StopCounts : {A : Type 0} → Result A Stop → ℕ → ℕ → Type 0
StopCounts (Err stops.FlashFault) before now = Faulted before now
StopCounts (Err stops.NoMemory) before now = now ≡ before
StopCounts (Ok _) before now = now ≡ before

-- what was read is the record, with bank 0, and the bytes in its bank
pub record IsReadFrom (frame : Frame) (head : List ℕ) (r : Record) (installed : Installed)
    : Type 0 where
  pub is : installed.held ≡ record r { bank = 0 }
  pub envelope : installed.envelope.items ≡ recorded_bank frame head r

-- what was read is a record that the head has, or nothing if it has none
abbrev pub AreRead : Frame → List ℕ → Option Record → Option Installed → Type 0
AreRead frame head None None = Unit {0}
AreRead frame head None (Some installed) = ⊥
AreRead frame head (Some r) None = ⊥
AreRead frame head (Some r) (Some installed) = IsReadFrom frame head r installed

-- this was read of the record that the head has
pub record IsHeldRead (frame : Frame) (head : List ℕ) (installed : Option Installed) : Type 0 where
  pub held : Option Record
  pub is : RecordOf frame head held
  pub read : AreRead frame head held installed

-- the envelope fits into a bank
abbrev pub HasRoom : Frame → Option Installed → Type 0
HasRoom frame installed =
    IfSome installed (λ i. length i.envelope.items ≤ bank_size frame)

-- ---- which places are left alone

-- the place is outside the configuration page
abbrev pub OutsidePage : Frame → ℕ → Type 0
OutsidePage frame i = Outside frame.base (page_bytes frame) i

-- the place is outside the first record page
abbrev pub OutsideFirstPage : Frame → ℕ → Type 0
OutsideFirstPage frame i = Outside (record_place frame 0) (record_length frame) i

-- the place is outside the first record page, and is not the gate of the second one
abbrev pub OutsideRecords : Frame → ℕ → Type 0
OutsideRecords frame i = OutsideFirstPage frame i × Outside (record_place frame 1) 1 i

-- the place is outside the first bank
abbrev pub OutsideBank : Frame → ℕ → Type 0
OutsideBank frame i = Outside (bank_place frame 0) (bank_size frame) i

-- the place is outside what belongs at the base
abbrev pub OutsideFrame : Frame → ℕ → Type 0
OutsideFrame frame i = Outside frame.base (frame_size frame) i

-- the place is outside the root
abbrev pub OutsideRoot : ℕ → Type 0
OutsideRoot i = Outside ROOT_GATE ROOT_BYTES i

-- the place is outside what belongs at the base, and outside the root
abbrev pub OutsideMoved : Frame → ℕ → Type 0
OutsideMoved frame i = OutsideFrame frame i × OutsideRoot i

-- ---- what is written there

-- the configuration page at the base has this layout and key
abbrev pub HasPage : Frame → List Entry → Key → List ℕ → Type 0
HasPage frame layout key image =
    slice_range image frame.base (frame.base + page_bytes frame) ≡ config_page frame layout key

-- the first record page has this record
abbrev pub HasRecordPage : Frame → Record → List ℕ → Type 0
HasRecordPage frame r image =
    slice_range image (record_place frame 0) (record_place frame 0 + record_length frame)
    ≡ OPEN ∷ record_body frame r

-- the first record page has the record, or is closed if there is none
abbrev pub HasFirstPage : Frame → Option Installed → List ℕ → Type 0
HasFirstPage frame None image = slice_index image (record_place frame 0) ≡ CLOSED
HasFirstPage frame (Some installed) image = HasRecordPage frame installed.held image

-- the first record page is as it has to be, and the second one is closed
pub record HasRecords (frame : Frame) (installed : Option Installed) (image : List ℕ)
    : Type 0 where
  pub first : HasFirstPage frame installed image
  pub second : slice_index image (record_place frame 1) ≡ CLOSED

-- the first bank has this envelope
abbrev pub IsInBank : Frame → List ℕ → List ℕ → Type 0
IsInBank frame envelope image =
    slice_range image (bank_place frame 0) (bank_place frame 0 + length envelope) ≡ envelope

-- the first bank has the envelope, if one is installed
abbrev pub HasEnvelope : Frame → Option Installed → List ℕ → Type 0
HasEnvelope frame None image = Unit {0}
HasEnvelope frame (Some installed) image = IsInBank frame installed.envelope.items image

-- all that belongs at the base is there
pub record IsFilled (frame : Frame) (layout : List Entry) (key : Key)
    (installed : Option Installed) (image : List ℕ) : Type 0 where
  pub page : HasPage frame layout key image
  pub records : HasRecords frame installed image
  pub envelope : HasEnvelope frame installed image
  pub work : IsWorkClosed frame image

-- ---- the root

-- the gate of the root is not open
abbrev pub IsRootClosed : List ℕ → Type 0
IsRootClosed image = IsOpen image ROOT_GATE → ⊥

-- no power loss at that moment leaves the root open
abbrev pub IsRootShut : Flash → Type 0
IsRootShut f = (image : List ℕ) → Now f image → IsRootClosed image

-- the root tells the frame, and all else is as it was
pub record IsRooted (frame : Frame) (before image : List ℕ) : Type 0 where
  pub told : frame_told image ≡ Some frame
  pub rest : SameOn OutsideRoot before image

-- the image while the root is written: it is closed, or it tells the frame
abbrev pub IsRooting : Frame → Flash → List ℕ → Type 0
IsRooting frame start image =
    (ImageOn OutsideRoot start image × IsRootClosed image) ⊎ IsRooted frame start.reads image

-- ---- a flash that moves

-- the root tells the frame, and all that belongs at its base is there
pub record IsMovedTo (frame : Frame) (layout : List Entry) (key : Key)
    (installed : Option Installed) (image : List ℕ) : Type 0 where
  pub told : frame_told image ≡ Some frame
  pub filled : IsFilled frame layout key installed image

-- nothing changes elsewhere, and the root is closed until all that belongs at the base is there
pub record IsMoving (frame : Frame) (layout : List Entry) (key : Key)
    (installed : Option Installed) (start : Flash) (image : List ℕ) : Type 0 where
  pub on : ImageOn (OutsideMoved frame) start image
  pub root : IsRootClosed image ⊎ IsMovedTo frame layout key installed image
