-- Where the fields of the configuration page are. All numbers are big-endian.
use Rattle.std.specs.Prelude.{◌≡◌, ◌<◌, ◌≤◌, ◌+◌, ◌-◌, ◌*◌, ℕ, List, ◌∷◌, length, replicate, slice_index, slice_index_or, slice_range, Option, Some, None}
use Rattle.std.specs.Int.{w64, from_be_bytes}
use Rattle.flash_layout.specs.declared.frame.Frame.{Frame}
use Rattle.flash_layout.specs.declared.layout.Entry.{Entry}
use Rattle.flash_layout.specs.declared.layout.Memory.{Memory}
use Rattle.flash_layout.specs.declared.layout.Memory.TheVariants as memory
use Rattle.flash_layout.specs.declared.key.Key.{Key}
use Rattle.flash_layout.specs.Layouts.{IsTypedEntry, AreTyped}
use Rattle.flash_layout.specs.ConfigPage.{entry_bytes, IsConfigPage}
use Rattle.flash_layout.specs.Frames.{page_bytes}
use Rattle.suit_params.specs.Identifiers.{spelled_id}

abbrev pub IsMemoryByte : Memory → ℕ → Type 0
IsMemoryByte memory.Flash byte = byte ≡ 0
IsMemoryByte memory.Ram byte = byte ≡ 1

-- 17 zeros if there is no UUID, otherwise 1 and its 16 bytes
abbrev pub IsIdField : Option (List ℕ) → List ℕ → Type 0
IsIdField None bytes = bytes ≡ replicate 17 0
IsIdField (Some id) bytes = bytes ≡ 1 ∷ id

abbrev pub IsNumberField : ℕ → List ℕ → Type 0
IsNumberField n bytes = from_be_bytes w64 bytes ≡ n

-- an identifier of this length, spelled in the shortest form of CBOR and padded with zeros to 64 bytes
abbrev pub IsIdentifierField : ℕ → List (List ℕ) → List ℕ → Type 0
IsIdentifierField size id bytes =
    (size ≡ length (spelled_id id)) × (slice_range bytes 0 size ≡ spelled_id id)
    × (slice_range bytes size 64 ≡ replicate (64 - size) 0)

-- the fields in the 142 bytes of a component
pub record HasEntryPlaces (e : Entry) (bytes : List ℕ) : Type 0 where
  pub memory : IsMemoryByte e.memory (slice_index bytes 0)
  pub slots : slice_index bytes 1 ≡ e.slots
  pub identifier : IsIdentifierField (slice_index bytes 2) e.identifier (slice_range bytes 3 67)
  pub vendor : IsIdField e.vendor (slice_range bytes 67 84)
  pub class : IsIdField e.class (slice_range bytes 84 101)
  pub device : IsIdField e.device (slice_range bytes 101 118)
  pub capacity : IsNumberField e.capacity (slice_range bytes 118 126)
  pub first : IsNumberField (slice_index e.starts 0) (slice_range bytes 126 134)
  pub second : IsNumberField (slice_index e.starts 1) (slice_range bytes 134 142)

-- this holds of each component whose identifier has at most 64 bytes, and of its 142 bytes
abbrev pub OfEachEntry : (Entry → List ℕ → Type 0) → Type 0
OfEachEntry P = (e : Entry) → IsTypedEntry e → length (spelled_id e.identifier) ≤ 64
    → P e (entry_bytes e)

-- the place of a component on the page
abbrev pub entry_place : ℕ → ℕ
entry_place i = 68 + 142 * i

-- the fields of the page: the open gate, the version, the key's length, the number of components, the key,
-- the components, and zeros
pub record HasPagePlaces (frame : Frame) (layout : List Entry) (key : Key) (page : List ℕ)
    : Type 0 where
  pub long : length page ≡ page_bytes frame
  pub gate : slice_index page 0 ≡ 0xA5
  pub version : slice_index page 1 ≡ frame.version
  pub key_size : slice_index page 2 ≡ key.length
  pub count : slice_index page 3 ≡ length layout
  pub key_bytes : slice_range page 4 68 ≡ key.bytes
  pub each : (i : ℕ) (d : Entry) → i < length layout
      → HasEntryPlaces (slice_index_or layout i d)
      (slice_range page (entry_place i) (entry_place (i + 1)))
  pub rest : slice_range page (entry_place (length layout)) (page_bytes frame)
      ≡ replicate (page_bytes frame - entry_place (length layout)) 0

-- each configuration page has its fields there
abbrev pub PagePlaces : Type 0
PagePlaces =
    (frame : Frame) (size : ℕ) (page : List ℕ) (layout : List Entry) (key : Key)
    → AreTyped layout key → IsConfigPage frame size page layout key
    → HasPagePlaces frame layout key page
