-- The refusals of a device's description: the first flaw of its fields. Once all fields are read: too many
-- components, two with the same identifier, two that share a byte, one outside the flash, a base outside it,
-- and a slot over the base.
use Rattle.std.specs.Prelude.{◌≡◌, ◌<◌, ◌≤◌, ℕ, List, length, Result, Ok, Err}
use Rattle.serde_json.specs.Data.{Data}
use Rattle.json_fields.specs.declared.flaw.Flaw.{Flaw}
use Rattle.json_fields.specs.declared.flaw.FlawKind.{FlawKind}
use Rattle.json_fields.specs.declared.flaw.JsonFault.{JsonFault}
use Rattle.suit_params.specs.Alike.{IsFirstAlike, HaveNoneAlike}
use Rattle.json_fields.specs.Telling.{by_kind, told, IsAcceptedBut, IsRefusedBut}
use Rattle.flash_layout.specs.declared.frame.Frame.{Frame}
use Rattle.flash_layout.specs.declared.layout.Entry.{Entry}
use Rattle.flash_layout.specs.declared.layout_fault.LayoutFault.{LayoutFault}
use Rattle.flash_layout.specs.declared.layout_fault.LayoutFault.TheVariants.{BadField, BadHex, BadUuid, TooMany, TwoAlike, Overlap, Outside, BaseOutside, BaseOverlap, NoMemory}
use Rattle.flash_layout.specs.Devices.{described_layout}
use Rattle.flash_layout.specs.Frames.{IsBase, most}
use Rattle.flash_layout.specs.Overlaps.{identifier_of, IsFirstOverlap, HaveNoOverlap, IsFirstOutside, AreInside, IsFirstOver, AreClearOfBase}

abbrev pub fault_at : FlawKind → List ℕ → LayoutFault
fault_at kind pointer = by_kind BadField BadHex BadUuid kind pointer

abbrev pub fault_of : Flaw → LayoutFault
fault_of f = fault_at f.kind f.pointer

abbrev pub fault_told : JsonFault → LayoutFault
fault_told fault = told fault_of NoMemory fault

-- the base, if there is one, is allowed
abbrev pub HasBaseInside : ℕ → Frame → Type 0
HasBaseInside size frame = frame.version ≡ 2 → IsBase size frame.base

-- the base is allowed, and no slot shares a byte with what is there
pub record IsBaseHeld (frame : Frame) (size : ℕ) (layout : List Entry) : Type 0 where
  pub inside : HasBaseInside size frame
  pub clear : AreClearOfBase frame layout

-- the refusals of the base, in their order
pub data RefusesBase (frame : Frame) (size : ℕ) (layout : List Entry) : LayoutFault → Type 0 where
  BaseAway : (HasBaseInside size frame → ⊥) → RefusesBase frame size layout BaseOutside
  Over : (i : ℕ) → HasBaseInside size frame → IsFirstOver frame layout i
      → RefusesBase frame size layout (BaseOverlap i)

-- the layout has no more components than the frame allows, no two with the same identifier, no two that share
-- a byte, and each is inside a flash of this size; its base is allowed
pub record AreHeld (frame : Frame) (size : ℕ) (layout : List Entry) : Type 0 where
  pub few : length layout ≤ most frame
  pub apart : HaveNoneAlike identifier_of layout
  pub clear : HaveNoOverlap layout
  pub inside : AreInside size layout
  pub base : IsBaseHeld frame size layout

-- the refusals of the components and of the base, in their order
pub data RefusesEntries (frame : Frame) (size : ℕ) (layout : List Entry) : LayoutFault → Type 0 where
  Many : most frame < length layout → RefusesEntries frame size layout (TooMany (length layout))
  Alike : (i j : ℕ) → length layout ≤ most frame → IsFirstAlike identifier_of layout i j
      → RefusesEntries frame size layout (TwoAlike i j)
  Shared : (i j : ℕ) → length layout ≤ most frame → HaveNoneAlike identifier_of layout
      → IsFirstOverlap layout i j → RefusesEntries frame size layout (Overlap i j)
  Beyond : (i : ℕ) → length layout ≤ most frame → HaveNoneAlike identifier_of layout
      → HaveNoOverlap layout → IsFirstOutside size layout i
      → RefusesEntries frame size layout (Outside i)
  Misplaced : (fault : LayoutFault) → length layout ≤ most frame
      → HaveNoneAlike identifier_of layout → HaveNoOverlap layout → AreInside size layout
      → RefusesBase frame size layout fault → RefusesEntries frame size layout fault

-- the value describes this layout, with this frame, of a flash of this size
pub record IsLayoutOf (size : ℕ) (d : Data) (layout : List Entry) (frame : Frame) : Type 0 where
  pub reads : described_layout d ≡ Ok (layout, frame)
  pub held : AreHeld frame size layout

-- the first refusal of a description
pub data RefusesLayout (size : ℕ) (d : Data) : LayoutFault → Type 0 where
  BadValue : (f : Flaw) → described_layout d ≡ Err f → RefusesLayout size d (fault_of f)
  BadEntries : (layout : List Entry) (frame : Frame) (fault : LayoutFault)
      → described_layout d ≡ Ok (layout, frame)
      → RefusesEntries frame size layout fault → RefusesLayout size d fault

-- the description was refused in this way, or memory ran out
abbrev pub IsFaultOf : ℕ → Data → LayoutFault → Type 0
IsFaultOf size d NoMemory = Unit {0}
IsFaultOf size d fault = RefusesLayout size d fault

-- accepted, or memory ran out
abbrev pub IsAccepted : {A : Type 0} → Result A LayoutFault → Type 0
IsAccepted result = IsAcceptedBut NoMemory result

-- refused with this fault, or memory ran out
abbrev pub IsRefusedFor : {A : Type 0} → LayoutFault → Result A LayoutFault → Type 0
IsRefusedFor fault result = IsRefusedBut NoMemory fault result
