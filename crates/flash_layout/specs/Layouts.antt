-- Which layouts and which keys are allowed on a flash of a given size.
use Rattle.std.specs.Prelude.{◌≡◌, ◌≢◌, ◌<◌, ◌≤◌, ◌+◌, ◌^◌, ℕ, List, [], length, take, slice_index, IfSome, All, AllPairs}
use Rattle.flash_layout.specs.declared.frame.Frame.{Frame}
use Rattle.flash_layout.specs.declared.frame.TheConstants.{LENGTH_SIZE, SLOTS_START}
use Rattle.flash_layout.specs.declared.layout.Entry.{Entry}
use Rattle.flash_layout.specs.declared.layout.Memory.{Memory}
use Rattle.flash_layout.specs.declared.layout.Memory.TheVariants as memory
use Rattle.flash_layout.specs.declared.key.Key.{Key}
use Rattle.flash_layout.specs.Frames.{frame_size, most}
use Rattle.suit_params.specs.Identifiers.{spelled_id}

-- ---- slots

abbrev pub starts_in : Memory → List ℕ → List ℕ
starts_in memory.Flash starts = starts
starts_in memory.Ram starts = []

-- where a component's slots in the flash start
abbrev pub slot_starts : Entry → List ℕ
slot_starts e = starts_in e.memory (take e.slots e.starts)

-- a slot has eight bytes for the length before its content
abbrev pub slot_size : Entry → ℕ
slot_size e = LENGTH_SIZE + e.capacity

-- the lower of two ranges ends before the higher one begins
abbrev pub AreClear : ℕ → ℕ → ℕ → ℕ → Type 0
AreClear p m q n = (p ≤ q → p + m ≤ q) × (q ≤ p → q + n ≤ p)

-- the range lies where slots may be on a flash of this size
abbrev pub IsInside : ℕ → ℕ → ℕ → Type 0
IsInside size p n = (SLOTS_START ≤ p) × (p + n ≤ size)

-- the same, and it shares no byte with the head and the work area
abbrev pub IsBehindHead : Frame → ℕ → ℕ → ℕ → Type 0
IsBehindHead frame size p n =
    (SLOTS_START ≤ p) × (p + n ≤ size) × AreClear frame.base (frame_size frame) p n

-- a range shares no byte with any of those at these starts
abbrev pub IsClearOf : ℕ → ℕ → List ℕ → ℕ → Type 0
IsClearOf p m starts n = All (λ q. AreClear p m q n) starts

abbrev pub AreAllClear : List ℕ → ℕ → List ℕ → ℕ → Type 0
AreAllClear ps m qs n = All (λ p. IsClearOf p m qs n) ps

-- ---- components

-- working memory has one slot, without a place
abbrev pub IsInRam : Entry → Type 0
IsInRam e =
    (e.slots ≡ 1) × (slice_index e.starts 0 ≡ 0) × (slice_index e.starts 1 ≡ 0)
    × (e.capacity ≤ 1048576)

-- a component in flash has one or two slots, which are apart and where they may be on a flash of this size
abbrev pub IsInFlash : Frame → ℕ → Entry → Type 0
IsInFlash frame size e =
    (1 ≤ e.slots) × (e.slots ≤ 2) × (e.slots ≡ 1 → slice_index e.starts 1 ≡ 0)
    ×
    (e.slots ≡ 2
    → AreClear (slice_index e.starts 0) (slot_size e) (slice_index e.starts 1)
    (slot_size e))
    × All (λ p. IsBehindHead frame size p (slot_size e)) (slot_starts e)

abbrev pub IsOfMemory : Frame → ℕ → Entry → Memory → Type 0
IsOfMemory frame size e memory.Flash = IsInFlash frame size e
IsOfMemory frame size e memory.Ram = IsInRam e

-- the component is allowed: its identifier is spelled in at most 64 bytes, it has at least one byte of
-- capacity, and its slots suit its memory
pub record IsEntry (frame : Frame) (size : ℕ) (e : Entry) : Type 0 where
  pub short : length (spelled_id e.identifier) ≤ 64
  pub some : 1 ≤ e.capacity
  pub held : IsOfMemory frame size e e.memory

-- two components have different identifiers, and share no byte
pub record AreApart (a b : Entry) : Type 0 where
  pub other : a.identifier ≢ b.identifier
  pub clear : AreAllClear (slot_starts a) (slot_size a) (slot_starts b) (slot_size b)

-- the layout is allowed: it has at least one component and no more than the frame allows, each is allowed,
-- and any two are apart
pub record IsLayout (frame : Frame) (size : ℕ) (layout : List Entry) : Type 0 where
  pub some : 1 ≤ length layout
  pub few : length layout ≤ most frame
  pub each : All (IsEntry frame size) layout
  pub apart : AllPairs AreApart layout

-- ---- keys

-- the key has 1 to 64 bytes, padded with zeros
pub record IsKey (key : Key) : Type 0 where
  pub some : 1 ≤ key.length
  pub few : key.length ≤ 64
  pub rest : (i : ℕ) → key.length ≤ i → i < 64 → slice_index key.bytes i ≡ 0

-- ---- bounds that the types of the fields give

abbrev pub IsUuid : List ℕ → Type 0
IsUuid id = length id ≡ 16

pub record IsTypedEntry (e : Entry) : Type 0 where
  pub starts : length e.starts ≡ 2
  pub first : slice_index e.starts 0 < 2 ^ 64
  pub second : slice_index e.starts 1 < 2 ^ 64
  pub capacity : e.capacity < 2 ^ 64
  pub vendor : IfSome e.vendor IsUuid
  pub class : IfSome e.class IsUuid
  pub device : IfSome e.device IsUuid

pub record AreTyped (layout : List Entry) (key : Key) : Type 0 where
  pub entries : All IsTypedEntry layout
  pub room : length key.bytes ≡ 64
