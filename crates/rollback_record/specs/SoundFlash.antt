-- Sound flashes: whatever a sound flash would start is authentic, and was judged safe. Definitions speak of the bytes
-- of the head and of the contents of slots; the image tells by which frame.
use Rattle.std.specs.Prelude.{◌≡◌, ◌≤◌, ◌+◌, ℕ, List, length, slice_range, take, Some, None, All}
use Rattle.std.specs.List.{AllByRecursion}
use Rattle.det_cbor.specs.DataItem.{IsByte}
use Rattle.suit_params.specs.Refusing.{SaysWhole}
use Rattle.suit_commands.specs.Numbers.{width_number}
use Rattle.suit_edge.specs.Flash.{Flash, Now}
use Rattle.suit_envelope.specs.Authentic.{IsAuthentic}
use Rattle.suit_envelope.specs.Members.{string_like}
use Rattle.suit_envelope.specs.Trimmed.{trimmed, trimmed_says, IsTrimmed}
use Rattle.suit_manifest.specs.declared.manifest.Manifest.{Manifest}
use Rattle.suit_manifest.specs.Manifests.{IsManifest}
use Rattle.suit_manifest.specs.Procedures.{invocation_tree}
use Rattle.path_model.specs.Safe.{Safe}
use Rattle.flash_layout.specs.declared.frame.Frame.{Frame}
use Rattle.flash_layout.specs.declared.key.Key.{Key}
use Rattle.flash_layout.specs.declared.layout.Entry.{Entry}
use Rattle.flash_layout.specs.declared.slot.Record.{Record}
use Rattle.flash_layout.specs.Configs.{ConfigOf, Blank, Configured}
use Rattle.flash_layout.specs.Frames.{bank_of, frame_size, head_of, head_size}
use Rattle.flash_layout.specs.Placement.{HasPlace}
use Rattle.flash_layout.specs.Roots.{frame_told}
use Rattle.flash_layout.specs.Slots.{layout_slots, slot_content}
use Rattle.flash_layout.specs.ToldFrames.{HasSameHead}
use Rattle.rollback_record.specs.HeadRecord.{RecordOf}

-- ---- the installed envelope

-- the bytes of the key
abbrev pub key_bytes : Key → List ℕ
key_bytes key = take key.length key.bytes

-- the largest width of a procedure that is judged
abbrev pub widest : ℕ
widest = 4194304

-- the layout has each of these components
abbrev pub HasEach : List Entry → List (List (List ℕ)) → Type 0
HasEach layout ids = All (λ id. (i : ℕ) × HasPlace layout id i) ids

-- The bytes are a trimmed envelope that is authentic under the key. The record is that of its manifest, the layout has
-- the manifest's components, and its invocation procedure is safe and narrow enough to be judged.
pub record IsInstalled (layout : List Entry) (key : Key) (bytes : List ℕ) (r : Record)
    : Type 0 where
  pub wrapper : List ℕ
  pub manifest : List ℕ
  pub said : Manifest
  pub are_bytes : AllByRecursion IsByte bytes
  pub spelled : bytes ≡ trimmed wrapper manifest
  pub envelope : IsTrimmed wrapper manifest bytes
  pub says : SaysWhole IsManifest (trimmed_says wrapper manifest).manifest_place manifest said
  pub authentic : IsAuthentic wrapper manifest (key_bytes key)
  pub number : r.sequence ≡ said.sequence
  pub digest : r.digest ≡ string_like r.digest manifest
  pub components : HasEach layout said.components
  pub safe : Safe (invocation_tree said)
  pub narrow : width_number (invocation_tree said) ≤ widest

-- ---- a sound image

-- the bytes of the envelope in the bank of the record
abbrev pub recorded_bank : Frame → List ℕ → Record → List ℕ
recorded_bank frame head r = bank_of frame head r.bank r.length

-- the image is blank; or it has a layout and a key, and either no record, or one whose bank holds an installed envelope
pub data Sound (image : List ℕ) : Type 0 where
  SoundBlank : ConfigOf (length image) image Blank → Sound image
  SoundEmpty : (layout : List Entry) (key : Key) (frame : Frame)
      → ConfigOf (length image) image (Configured layout key frame)
      → RecordOf frame (head_of frame image) None → Sound image
  SoundInstalled : (layout : List Entry) (key : Key) (frame : Frame) (r : Record)
      → ConfigOf (length image) image (Configured layout key frame)
      → RecordOf frame (head_of frame image) (Some r)
      → IsInstalled layout key (recorded_bank frame (head_of frame image) r) r → Sound image

-- ---- a settled flash

-- the bytes of the work area, which version 1 does not have
abbrev pub area_of : Frame → List ℕ → List ℕ
area_of frame image =
    slice_range image (frame.base + head_size frame) (frame.base + frame_size frame)

-- the other image has the same head and work area by the frame that the image tells, and the same content in each slot
-- of its layout
pub record HoldsSame (image other : List ℕ) : Type 0 where
  pub head : HasSameHead image other
  pub area : (frame : Frame) → frame_told image ≡ Some frame
      → area_of frame other ≡ area_of frame image
  pub slots : (layout : List Entry) (key : Key) (frame : Frame)
      → ConfigOf (length image) image (Configured layout key frame)
      → All (λ slot. slot_content slot other ≡ slot_content slot image) (layout_slots layout)

-- the flash reads as a sound image, and a power loss now leaves the head, the work area and each content as they read
pub record Settled (f : Flash) : Type 0 where
  pub sound : Sound f.reads
  pub sure : (image : List ℕ) → Now f image → HoldsSame f.reads image

-- ---- from one image to a later one

-- the later record's sequence number is not lower, and if it is the same, so is the digest
pub record IsNoEarlier (r later : Record) : Type 0 where
  pub number : r.sequence ≤ later.sequence
  pub same : r.sequence ≡ later.sequence → r.digest ≡ later.digest

-- the later image has the same layout and key, and if the earlier one has a record, it has one that is no earlier; each
-- by its own frame
pub record GoesOn (a b : List ℕ) : Type 0 where
  pub layout : List Entry
  pub key : Key
  pub before : Frame
  pub now : Frame
  pub was : ConfigOf (length a) a (Configured layout key before)
  pub is : ConfigOf (length b) b (Configured layout key now)
  pub later : (r : Record) → RecordOf before (head_of before a) (Some r)
      → (s : Record) × RecordOf now (head_of now b) (Some s) × IsNoEarlier r s

-- the earlier image is blank, or the later one goes on from it
pub data Follows (a b : List ℕ) : Type 0 where
  FollowsBlank : ConfigOf (length a) a Blank → Follows a b
  FollowsOn : GoesOn a b → Follows a b
