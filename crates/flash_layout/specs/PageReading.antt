-- How a configuration page is read. The result is written again and compared, so this judges only what
-- reading needs.
use Rattle.std.specs.Prelude.{ℕ, zero, suc, ◌+◌, ◌==◌, nat_lt, if◌then◌else◌, List, [], ◌∷◌, take, drop, slice_index, slice_range, Option, Some, None, Result, Ok, Err}
use Rattle.std.specs.Int.{w64, from_be_bytes}
use Rattle.det_cbor.specs.HeadReading.{◌>>=◌}
use Rattle.det_cbor.specs.Position.{Position}
use Rattle.suit_params.specs.declared.refusal.Refusal.{Refusal}
use Rattle.suit_params.specs.declared.refusal.Why.TheVariants.{Shape}
use Rattle.suit_params.specs.Refusing.{refused}
use Rattle.suit_params.specs.Reading.{array_from, content_from}
use Rattle.flash_layout.specs.declared.frame.Frame.{Frame}
use Rattle.flash_layout.specs.declared.frame.TheConstants.{ENTRY_SIZE, FRONT_SIZE}
use Rattle.flash_layout.specs.declared.layout.Entry.{Entry}
use Rattle.flash_layout.specs.declared.layout.Memory.{Memory}
use Rattle.flash_layout.specs.declared.layout.Memory.TheVariants as memory
use Rattle.flash_layout.specs.declared.key.Key.{Key}
use Rattle.flash_layout.specs.Frames.{most, page_bytes}

-- ---- identifiers

-- the next n byte strings
abbrev pub parts_from : ℕ → Position → Result (List (List ℕ)) Refusal
parts_from zero p = Ok []
parts_from (suc n) p = content_from p >>= λ c. parts_from n c.1 >>= λ rest. Ok (c.0.left ∷ rest)

unfoldable pub identifier_at : List ℕ → Result (List (List ℕ)) Refusal
identifier_at bytes = array_from (record { left = bytes; place = 0 }) >>= λ h. parts_from h.0 h.1

-- ---- components

abbrev pub memory_at : ℕ → Memory
memory_at byte = if byte == 0 then memory.Flash else memory.Ram

abbrev pub id_at : List ℕ → Option (List ℕ)
id_at bytes = if slice_index bytes 0 == 0 then None else Some (slice_range bytes 1 17)

unfoldable pub number_at : List ℕ → ℕ
number_at bytes = from_be_bytes w64 bytes

abbrev pub entry_of : List ℕ → List (List ℕ) → Entry
entry_of bytes id = record {
  identifier = id;
  memory = memory_at (slice_index bytes 0);
  slots = slice_index bytes 1;
  starts = number_at (slice_range bytes 126 134) ∷ number_at (slice_range bytes 134 142) ∷ [];
  capacity = number_at (slice_range bytes 118 126);
  vendor = id_at (slice_range bytes 67 84);
  class = id_at (slice_range bytes 84 101);
  device = id_at (slice_range bytes 101 118);
}

unfoldable pub entry_at : List ℕ → Result Entry Refusal
entry_at bytes =
    if nat_lt 64 (slice_index bytes 2) then Err (refused 2 Shape)
    else
    (identifier_at (slice_range bytes 3 (3 + slice_index bytes 2))
    >>= λ id. Ok (entry_of bytes id))

abbrev pub entries_at : ℕ → List ℕ → Result (List Entry) Refusal
entries_at zero bytes = Ok []
entries_at (suc n) bytes =
    entry_at (take ENTRY_SIZE bytes) >>= λ e. entries_at n (drop ENTRY_SIZE bytes)
    >>= λ rest. Ok (e ∷ rest)

-- ---- the page

abbrev pub key_at : List ℕ → Key
key_at page = record { bytes = slice_range page 4 FRONT_SIZE; length = slice_index page 2 }

unfoldable pub page_at : Frame → List ℕ → Result (List Entry × Key) Refusal
page_at frame page =
    if nat_lt (most frame) (slice_index page 3) then Err (refused 3 Shape)
    else
    (entries_at (slice_index page 3) (slice_range page FRONT_SIZE (page_bytes frame))
    >>= λ layout. Ok (layout, key_at page))
