-- The configuration page of the flash. All numbers are big-endian.
use Rattle.std.specs.Prelude.{◌≡◌, ℕ, ◌-◌, List, [], ◌∷◌, ◌++◌, length, replicate, slice_index, Option, Some, None}
use Rattle.std.specs.Int.{w64, to_be_bytes}
use Rattle.suit_edge.specs.declared.page.TheConstants.{OPEN}
use Rattle.flash_layout.specs.declared.frame.Frame.{Frame}
use Rattle.flash_layout.specs.declared.layout.Entry.{Entry}
use Rattle.flash_layout.specs.declared.layout.Memory.{Memory}
use Rattle.flash_layout.specs.declared.layout.Memory.TheVariants as memory
use Rattle.flash_layout.specs.declared.key.Key.{Key}
use Rattle.flash_layout.specs.Frames.{entries_size}
use Rattle.suit_params.specs.Identifiers.{spelled_id}
use Rattle.flash_layout.specs.Layouts.{IsLayout, IsKey}

-- the bytes, padded with zeros to n bytes
abbrev pub padded : ℕ → List ℕ → List ℕ
padded n bytes = bytes ++ replicate (n - length bytes) 0

abbrev pub memory_byte : Memory → ℕ
memory_byte memory.Flash = 0
memory_byte memory.Ram = 1

-- 1 and the 16 bytes of a UUID, or 17 zeros if there is none
abbrev pub optional_id : Option (List ℕ) → List ℕ
optional_id None = replicate 17 0
optional_id (Some id) = 1 ∷ id

-- the length of the identifier's spelling, and the spelling padded to 64 bytes
abbrev pub identifier_field : List (List ℕ) → List ℕ
identifier_field id = length (spelled_id id) ∷ padded 64 (spelled_id id)

-- the vendor, class and device identifiers
abbrev pub ids_field : Entry → List ℕ
ids_field e = optional_id e.vendor ++ (optional_id e.class ++ optional_id e.device)

unfoldable pub number_bytes : ℕ → List ℕ
number_bytes n = to_be_bytes w64 n

-- the capacity and the starts of the two slots
abbrev pub numbers_field : Entry → List ℕ
numbers_field e =
    number_bytes e.capacity
    ++ (number_bytes (slice_index e.starts 0) ++ number_bytes (slice_index e.starts 1))

-- the bytes of a component on the page
unfoldable pub entry_bytes : Entry → List ℕ
entry_bytes e =
    memory_byte e.memory ∷ e.slots
    ∷ (identifier_field e.identifier ++ (ids_field e ++ numbers_field e))

abbrev pub entries_bytes : List Entry → List ℕ
entries_bytes [] = []
entries_bytes (e ∷ rest) = entry_bytes e ++ entries_bytes rest

-- the open gate, the version, the lengths and the key
abbrev pub page_front : Frame → List Entry → Key → List ℕ
page_front frame layout key = OPEN ∷ frame.version ∷ key.length ∷ length layout ∷ key.bytes

-- the bytes of the page that are read
unfoldable pub config_page : Frame → List Entry → Key → List ℕ
config_page frame layout key =
    page_front frame layout key ++ padded (entries_size frame) (entries_bytes layout)

-- the bytes are the page of this layout and key, both of which are allowed on a flash of this size
pub record IsConfigPage (frame : Frame) (size : ℕ) (bytes : List ℕ) (layout : List Entry)
    (key : Key) : Type 0 where
  pub allowed : IsLayout frame size layout
  pub sound : IsKey key
  pub is : bytes ≡ config_page frame layout key
