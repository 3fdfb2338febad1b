-- A record page of the flash: a gate, and a record after it. All numbers are big-endian. In memory a record has a slot
-- in use for each of 32 components; its page has those of as many as a layout of the flash may have, and all others are
-- 0.
use Rattle.std.specs.Prelude.{◌≡◌, ◌↔◌, ◌⊎◌, ◌<◌, ◌≤◌, ◌+◌, ◌*◌, ◌^◌, ℕ, List, ◌∷◌, ◌++◌, Option, option_map, drop, length, slice_index, slice_range, take}
use Rattle.suit_params.specs.declared.digest.Digest.{Digest}
use Rattle.suit_params.specs.DigestBytes.{digest_bytes, digest_by, IsLong}
use Rattle.suit_params.specs.DigestKinds.{size_of, kind_of_length}
use Rattle.suit_edge.specs.declared.page.TheConstants.{OPEN}
use Rattle.flash_layout.specs.declared.frame.Frame.{Frame}
use Rattle.flash_layout.specs.declared.frame.TheConstants.{ENTRY_SIZE, FRONT_SIZE}
use Rattle.flash_layout.specs.declared.slot.Record.{Record}
use Rattle.flash_layout.specs.ConfigPage.{number_bytes, padded}
use Rattle.flash_layout.specs.PageReading.{number_at}
use Rattle.flash_layout.specs.Frames.{bank_size, most}

-- how many bytes of the page are read
abbrev pub record_length : Frame → ℕ
record_length frame = 91 + most frame

-- ---- fields

-- The component with that index has a second slot by the bytes of the configuration page, whose fourth byte is the
-- number of components and has for each of them its number of slots as the second byte.
abbrev pub HasSecondSlot : List ℕ → ℕ → Type 0
HasSecondSlot config i =
    (i < slice_index config 3) × (slice_index config (ENTRY_SIZE * i + (FRONT_SIZE + 1)) ≡ 2)

-- the slot in use is 0, or it is 1 and the component has a second slot
abbrev pub IsActiveSlot : Frame → List ℕ → ℕ → ℕ → Type 0
IsActiveSlot frame config i slot =
    (slot ≡ 0) ⊎ ((slot ≡ 1) × (i < most frame) × HasSecondSlot config i)

-- the fields have the lengths and ranges of their types
pub record IsTypedRecord (r : Record) : Type 0 where
  pub generation : r.generation < 2 ^ 64
  pub sequence : r.sequence < 2 ^ 64
  pub size : r.length < 2 ^ 64
  pub digest : IsLong r.digest
  pub active : length r.active ≡ 32

-- the fields are in range, on a flash with that configuration page
pub record IsInRange (frame : Frame) (config : List ℕ) (r : Record) : Type 0 where
  pub bank : r.bank < 2
  pub size : r.length ≤ bank_size frame
  pub active : (i : ℕ) → i < 32 → IsActiveSlot frame config i (slice_index r.active i)

-- ---- bytes

-- the generation and the sequence number
abbrev pub numbers_field : Record → List ℕ
numbers_field r = number_bytes r.generation ++ number_bytes r.sequence

-- the bank, and the length of the envelope
abbrev pub bank_field : Record → List ℕ
bank_field r = r.bank ∷ number_bytes r.length

-- the digest's length, and the digest padded with zeros
abbrev pub digest_field : Digest → List ℕ
digest_field digest = length (digest_bytes digest) ∷ padded 64 (digest_bytes digest)

-- the bytes after the gate
unfoldable pub record_body : Frame → Record → List ℕ
record_body frame r =
    numbers_field r ++ (bank_field r ++ (digest_field r.digest ++ take (most frame) r.active))

-- The page is valid, and holds this record: its gate is open, and the fields are in range.
pub record IsRecordPage (frame : Frame) (config page : List ℕ) (r : Record) : Type 0 where
  pub typed : IsTypedRecord r
  pub fields : IsInRange frame config r
  pub bytes : page ≡ OPEN ∷ record_body frame r

-- ---- by how many slots each component has

-- the slot in use is 0, or it is 1 and the component has two slots
abbrev pub HasSlot : Frame → List ℕ → ℕ → ℕ → Type 0
HasSlot frame slots i slot =
    (slot ≡ 0) ⊎ ((slot ≡ 1) × (i < most frame) × (slice_index slots i ≡ 2))

-- by this list, just those components have two slots that have a second one on the configuration page
abbrev pub CountSlots : Frame → List ℕ → List ℕ → Type 0
CountSlots frame config slots =
    (i : ℕ) → i < most frame → (slice_index slots i ≡ 2) ↔ HasSecondSlot config i

-- the fields are in range, by how many slots each component has
pub record FitsSlots (frame : Frame) (slots : List ℕ) (r : Record) : Type 0 where
  pub bank : r.bank < 2
  pub size : r.length ≤ bank_size frame
  pub active : (i : ℕ) → i < 32 → HasSlot frame slots i (slice_index r.active i)

-- the page is valid, by how many slots each component has
pub record IsPageBeside (frame : Frame) (slots page : List ℕ) (r : Record) : Type 0 where
  pub typed : IsTypedRecord r
  pub fields : FitsSlots frame slots r
  pub bytes : page ≡ OPEN ∷ record_body frame r

-- ---- reading

-- the digest after its length, if that is the length of a digest
abbrev pub digest_at : List ℕ → Option Digest
digest_at page =
    option_map (λ kind. digest_by kind (slice_range page 27 (27 + size_of kind)))
    (kind_of_length (slice_index page 26))

-- the other fields at their places, without a judgement
abbrev pub fields_with : List ℕ → Digest → Record
fields_with page digest = record {
  generation = number_at (slice_range page 1 9);
  sequence = number_at (slice_range page 9 17);
  bank = slice_index page 17;
  length = number_at (slice_range page 18 26);
  digest = digest;
  active = padded 32 (drop 91 page);
}

-- the fields at their places, without a judgement
abbrev pub fields_at : List ℕ → Option Record
fields_at page = option_map (fields_with page) (digest_at page)
