-- Two contents that are exchanged, and what is recovered of them after some of the copies, byte by byte.
use Rattle.std.specs.Prelude.{◌≡◌, ◌⊎◌, ◌<◌, ◌≤◌, ◌+◌, ◌-◌, ◌*◌, ◌/◌, ◌%◌, ◌==◌, ℕ, min, max, List, [], ◌∷◌, map, slice_index, nat_lt, nat_le, if◌then◌else◌}
use Rattle.std.specs.List.{range_with_len}
use Rattle.suit_edge.specs.Ranges.{Range, Outside, SameOn}
use Rattle.swap_journal.specs.declared.contents.Exchange.{Exchange}

-- the length of the longer content
abbrev pub longest : Exchange → ℕ
longest x = max x.first_length x.second_length

-- the areas share no byte
pub record AreApart (x : Exchange) : Type 0 where
  pub contents : (x.first + longest x ≤ x.second) ⊎ (x.second + longest x ≤ x.first)
  pub from_first : (x.first + longest x ≤ x.scratch) ⊎ (x.scratch + 4096 ≤ x.first)
  pub from_second : (x.second + longest x ≤ x.scratch) ⊎ (x.scratch + 4096 ≤ x.second)

-- the areas are inside a disk of this size
pub record FitsDisk (x : Exchange) (size : ℕ) : Type 0 where
  pub first : x.first + longest x ≤ size
  pub second : x.second + longest x ≤ size
  pub scratch : x.scratch + 4096 ≤ size

-- the areas: both contents and the scratch
abbrev pub areas : Exchange → List Range
areas x =
    record { place = x.first; size = longest x } ∷ record { place = x.second; size = longest x }
    ∷ record { place = x.scratch; size = 4096 } ∷ []

-- ---- copies

-- three for each piece of 4,096 bytes, the last of which may be short
abbrev pub copies : Exchange → ℕ
copies x = 3 * ((longest x + 4095) / 4096)

-- the number of bytes in piece n
abbrev pub piece_size : Exchange → ℕ → ℕ
piece_size x n = min (longest x - 4096 * n) 4096

-- Piece n is copied from the first place to the scratch, then from the second place to the first, and then
-- from the scratch to the second place.
abbrev pub piece_from : Exchange → ℕ → ℕ → ℕ
piece_from x n step =
    if step == 0 then x.first + 4096 * n
    else if step == 1 then x.second + 4096 * n
    else x.scratch

abbrev pub piece_to : Exchange → ℕ → ℕ → ℕ
piece_to x n step =
    if step == 0 then x.scratch
    else if step == 1 then x.first + 4096 * n
    else x.second + 4096 * n

-- where copy k reads
abbrev pub copy_from : Exchange → ℕ → ℕ
copy_from x k = piece_from x (k / 3) (k % 3)

-- where copy k writes
abbrev pub copy_to : Exchange → ℕ → ℕ
copy_to x k = piece_to x (k / 3) (k % 3)

-- how many bytes copy k moves
abbrev pub copy_size : Exchange → ℕ → ℕ
copy_size x k = piece_size x (k / 3)

-- n bytes were copied, and everything else stayed
pub record IsCopy (from to n : ℕ) (old new : List ℕ) : Type 0 where
  pub apart : SameOn (Outside to n) old new
  pub bytes : (i : ℕ) → i < n → slice_index new (to + i) ≡ slice_index old (from + i)

-- ---- what is recovered

-- Byte i of the content that belongs in the first place. The first k copies have been made, and the others
-- are still to be made from the image.
abbrev pub first_byte : Exchange → ℕ → List ℕ → ℕ → ℕ
first_byte x k image i =
    if nat_lt (3 * (i / 4096) + 1) k then slice_index image (x.first + i)
    else slice_index image (x.second + i)

-- the same for the content that belongs in the second place
abbrev pub second_byte : Exchange → ℕ → List ℕ → ℕ → ℕ
second_byte x k image i =
    if nat_le k (3 * (i / 4096)) then slice_index image (x.first + i)
    else if nat_le k (3 * (i / 4096) + 2) then slice_index image (x.scratch + i % 4096)
    else slice_index image (x.second + i)

-- the content that is recovered for the first place; it has the second content's length
abbrev pub first_recovered : Exchange → ℕ → List ℕ → List ℕ
first_recovered x k image = map (first_byte x k image) (range_with_len 0 x.second_length)

-- the content that is recovered for the second place; it has the first content's length
abbrev pub second_recovered : Exchange → ℕ → List ℕ → List ℕ
second_recovered x k image = map (second_byte x k image) (range_with_len 0 x.first_length)

-- the new image after m copies gives the same contents as the old one after k copies
pub record RecoversSame (x : Exchange) (k : ℕ) (old : List ℕ) (m : ℕ) (new : List ℕ)
    : Type 0 where
  pub first : first_recovered x m new ≡ first_recovered x k old
  pub second : second_recovered x m new ≡ second_recovered x k old
