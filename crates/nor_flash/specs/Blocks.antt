-- A device of blocks, and the bytes of the disk on it.
use Rattle.std.specs.Prelude.{◌≡◌, ◌<◌, ◌≤◌, ◌+◌, ◌*◌, ◌%◌, ℕ, List, [], ◌∷◌, length, take, slice_index, slice_range, bit_and, nat_lt, ◌==◌, ◌&&◌, if◌then◌else◌, Option, Some, None}
use Rattle.std.specs.Int.{w64, from_be_bytes}
use Rattle.suit_edge.specs.Ranges.{Outside, written}

-- the device has whole blocks of 4,096 bytes, and at least five of them
pub record IsDeviceSize (size : ℕ) : Type 0 where
  pub whole : size % 4096 ≡ 0
  pub large : 20480 ≤ size

-- the place is outside the block
abbrev pub OutsideBlock : ℕ → ℕ → Type 0
OutsideBlock block = Outside (4096 * block) 4096

-- the bitwise AND of bytes in pairs
abbrev pub ands : List ℕ → List ℕ → List ℕ
ands [] ys = []
ands (x ∷ xs) [] = []
ands (x ∷ xs) (y ∷ ys) = bit_and x y ∷ ands xs ys

-- the old bytes, where each one in the range becomes the old byte AND the new one
unfoldable pub cleared : List ℕ → ℕ → List ℕ → List ℕ
cleared old place bytes =
    written old place (ands (slice_range old place (place + length bytes)) bytes)

-- each byte of the block is 0xFF
abbrev pub IsErased : ℕ → List ℕ → Type 0
IsErased block device =
    (i : ℕ) → 4096 * block ≤ i → i < 4096 * block + 4096 → slice_index device i ≡ 255

-- ---- a disk of m blocks, followed by the image block and three names

-- the number that the block begins with: eight bytes, the highest first
unfoldable pub name_in : ℕ → List ℕ → ℕ
name_in block device = from_be_bytes w64 (slice_range device (4096 * block) (4096 * block + 8))

-- the block that three equal names name, if the disk has it
abbrev pub named_by : ℕ → ℕ → ℕ → ℕ → Option ℕ
named_by m first second third =
    if (first == second) && ((second == third) && nat_lt first m) then Some first else None

-- the block that the names on the device name
abbrev pub named : ℕ → List ℕ → Option ℕ
named m device =
    named_by m (name_in (m + 1) device) (name_in (m + 2) device) (name_in (m + 3) device)

-- the disk's blocks as they are on the device
abbrev pub front : ℕ → List ℕ → List ℕ
front m device = take (4096 * m) device

-- the bytes of the image block
abbrev pub image_block : ℕ → List ℕ → List ℕ
image_block m device = slice_range device (4096 * m) (4096 * m + 4096)

-- the disk's blocks, where this one has the bytes of the image block
unfoldable pub with_block : ℕ → ℕ → List ℕ → List ℕ
with_block m block device = written (front m device) (4096 * block) (image_block m device)

abbrev pub plain_by : ℕ → List ℕ → Option ℕ → List ℕ
plain_by m device None = front m device
plain_by m device (Some block) = with_block m block device

-- the bytes of the disk: a named block has those of the image block
unfoldable pub plain : ℕ → List ℕ → List ℕ
plain m device = plain_by m device (named m device)
