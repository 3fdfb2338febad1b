-- Which components of a layout have the same identifier, share a byte, or are outside the flash. Components
-- are given by index.
use Rattle.std.specs.Prelude.{◌≡◌, ◌≢◌, ◌<◌, ◌≤◌, ℕ, List, length, slice_index, slice_index_or, All, Option, MatchOption}
use Rattle.flash_layout.specs.declared.frame.Frame.{Frame}
use Rattle.flash_layout.specs.declared.layout.Entry.{Entry}
use Rattle.flash_layout.specs.Frames.{frame_size}
use Rattle.flash_layout.specs.Layouts.{slot_starts, slot_size, AreClear, AreAllClear, IsClearOf, IsInside}

-- ---- identifiers

abbrev pub identifier_of : Entry → List (List ℕ)
identifier_of e = e.identifier

-- ---- slots

-- the two slots of a component share no byte
abbrev pub IsClearItself : Entry → Type 0
IsClearItself e =
    e.slots ≡ 2
    → AreClear (slice_index e.starts 0) (slot_size e) (slice_index e.starts 1) (slot_size e)

-- no slot of the one component shares a byte with a slot of the other
abbrev pub AreClearSlots : Entry → Entry → Type 0
AreClearSlots a b = AreAllClear (slot_starts a) (slot_size a) (slot_starts b) (slot_size b)

-- the components at these indices share no byte; for a single component, its two slots share none
pub record ShareNone (layout : List Entry) (i j : ℕ) : Type 0 where
  pub itself : (d : Entry) → i ≡ j → IsClearItself (slice_index_or layout i d)
  pub others : (d : Entry) → i ≢ j
      → AreClearSlots (slice_index_or layout i d) (slice_index_or layout j d)

-- this is the first component from i on that shares a byte with component i
pub record IsFirstShared (layout : List Entry) (i j : ℕ) : Type 0 where
  pub from : i ≤ j
  pub inside : j < length layout
  pub shares : ShareNone layout i j → ⊥
  pub least : (l : ℕ) → i ≤ l → l < j → ShareNone layout i l

-- no component from i on shares a byte with component i
abbrev pub SharesNone : List Entry → ℕ → Type 0
SharesNone layout i = (j : ℕ) → i ≤ j → j < length layout → ShareNone layout i j

-- the first two that share a byte: the first is as low as possible, and then the second
pub record IsFirstOverlap (layout : List Entry) (i j : ℕ) : Type 0 where
  pub first : IsFirstShared layout i j
  pub least : (k : ℕ) → k < i → SharesNone layout k

-- no two slots of the layout share a byte
abbrev pub HaveNoOverlap : List Entry → Type 0
HaveNoOverlap layout = (i : ℕ) → i < length layout → SharesNone layout i

-- what a search for two that share a byte answers
abbrev pub TellsOverlap : List Entry → Option (ℕ × ℕ) → Type 0
TellsOverlap layout answer =
    MatchOption answer (HaveNoOverlap layout) (λ p. IsFirstOverlap layout p.0 p.1)

-- ---- the flash

-- the component's slots are where slots may be on a flash of this size
abbrev pub LiesInside : ℕ → Entry → Type 0
LiesInside size e = All (λ p. IsInside size p (slot_size e)) (slot_starts e)

abbrev pub LieInside : ℕ → List Entry → ℕ → Type 0
LieInside size layout i = (d : Entry) → LiesInside size (slice_index_or layout i d)

-- this is the first component with a slot that is not where slots may be
pub record IsFirstOutside (size : ℕ) (layout : List Entry) (i : ℕ) : Type 0 where
  pub inside : i < length layout
  pub outside : LieInside size layout i → ⊥
  pub least : (k : ℕ) → k < i → LieInside size layout k

-- all slots of the layout are where slots may be on a flash of this size
abbrev pub AreInside : ℕ → List Entry → Type 0
AreInside size layout = (i : ℕ) → i < length layout → LieInside size layout i

-- ---- the head and the work area

-- no slot of the component shares a byte with the head and the work area
abbrev pub LiesClear : Frame → Entry → Type 0
LiesClear frame e = IsClearOf frame.base (frame_size frame) (slot_starts e) (slot_size e)

abbrev pub LieClear : Frame → List Entry → ℕ → Type 0
LieClear frame layout i = (d : Entry) → LiesClear frame (slice_index_or layout i d)

-- this is the first component with a slot that shares a byte with the head or the work area
pub record IsFirstOver (frame : Frame) (layout : List Entry) (i : ℕ) : Type 0 where
  pub inside : i < length layout
  pub over : LieClear frame layout i → ⊥
  pub least : (k : ℕ) → k < i → LieClear frame layout k

-- no slot of the layout shares a byte with the head and the work area
abbrev pub AreClearOfBase : Frame → List Entry → Type 0
AreClearOfBase frame layout = (i : ℕ) → i < length layout → LieClear frame layout i
