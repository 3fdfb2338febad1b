-- Reading a content from beginning to end.
use Rattle.std.proofs.Common.{◌≡◌, ◌≢◌, ⊎_elim, ◌<◌, ◌≤◌, ℕ, ◌+◌, ◌-◌, List, [], ◌∷◌, ◌++◌, length, take, drop, refl, sym, ◌∙◌, ap, arith}
use Rattle.std.specs.List.{slice_range}
use Rattle.std.proofs.lemmas.Bool.{cases_eq}
use Rattle.std.proofs.Math.Seq.{take-add}
use Rattle.std.proofs.lemmas.List.{take_at, take_all}
use Rattle.std.proofs.lemmas.List.Edits.{length-between}
use Rattle.flash_layout.specs.declared.slot.Slot.{Slot}
use Rattle.flash_layout.specs.Slots.{LiesWithin, slot_content}
use Rattle.flash_slots.specs.Contents.{part_of, pieces_of}
use Rattle.flash_slots.proofs.Stored.{content_long, part_read, split_range}

no_length : (l : List ℕ) → 0 ≡ length l → l ≡ []
no_length [] is = refl
no_length (x ∷ rest) is = absurd (omega (arith, is))

pub no_pieces : (slot : Slot) (image : List ℕ) → pieces_of slot 0 image ≡ []
no_pieces slot image = let none : slot.start + 8 + 0 - (slot.start + 8) ≡ 0 = omega arith in ap (λ (k : ℕ). take k (drop (slot.start + 8) image)) none

module _ (slot : Slot) (image : List ℕ) (n : ℕ) (few : n ≤ slot.capacity) (inside : LiesWithin (length image) slot) (b room new : List ℕ) (from count : ℕ) (same : b ≡ image) (within : from + count ≤ n) (read : new ≡ part_of slot from count b ++ drop count room) where
  -- the part that was read
  pub part_is : take count new ≡ part_of slot from count image
  part_is =
      let long : length (part_of slot from count image) ≡ count = omega (arith, length-between image (slot.start + 8 + from) (slot.start + 8 + from + count) (omega (arith, inside, few, within))) in
      ap (take count) (read ∙ ap (λ (l : List ℕ). part_of slot from count l ++ drop count room) same) ∙ take_at (part_of slot from count image) (drop count room) count long

  -- the bytes read so far, and the next part
  pub more_passed : pieces_of slot from image ++ take count new ≡ pieces_of slot (from + count) image
  more_passed = ap (λ (l : List ℕ). pieces_of slot from image ++ l) part_is ∙ sym (split_range image (slot.start + 8) from count (omega (arith, inside, few, within)))

module _ (slot : Slot) (image : List ℕ) (n : ℕ) (is : n ≡ length (slot_content slot image)) (few : n ≤ slot.capacity) (inside : LiesWithin (length image) slot) where
  -- once all of it is read
  pub whole_content : slot_content slot image ≡ pieces_of slot n image
  whole_content = ⊎_elim
      (λ none. no_length (slot_content slot image) (sym none ∙ is) ∙ sym (no_pieces slot image) ∙ ap (λ (k : ℕ). pieces_of slot k image) (sym none))
      (λ some. content_long slot image n is (above some) inside few)
      (cases_eq n 0)
    where
      above : n ≢ 0 → 0 < n
      above some = omega (arith, some)

  module _ (b room new : List ℕ) (from count : ℕ) (same : b ≡ image) (within : from + count ≤ n) (read : new ≡ part_of slot from count b ++ drop count room) where
    -- the bytes read so far equal the front of the bytes, and so does the next part
    pub more_same : (bytes : List ℕ) → pieces_of slot from image ≡ take from bytes → take count new ≡ slice_range bytes from (from + count) → pieces_of slot (from + count) image ≡ take (from + count) bytes
    more_same bytes before part =
        let e : from + count - from ≡ count = omega arith in
        sym (more_passed slot image n few inside b room new from count same within read) ∙ ap (λ (l : List ℕ). l ++ take count new) before ∙ ap (λ (l : List ℕ). take from bytes ++ l) (part ∙ ap (λ (k : ℕ). take k (drop from bytes)) e) ∙ sym (take-add from count bytes)

    -- a part that differs
    pub other_part : (bytes : List ℕ) → from < n → take count new ≢ slice_range bytes from (from + count) → slot_content slot image ≢ bytes
    other_part bytes some other equal =
        let e : from + count - from ≡ count = omega arith in
        other (part_is slot image n few inside b room new from count same within read ∙ part_read slot image n from count is few some inside (omega (arith, within)) ∙ ap (λ (l : List ℕ). take count (drop from l)) equal ∙ sym (ap (λ (k : ℕ). take k (drop from bytes)) e))

  -- once all bytes were compared
  pub all_same : (bytes : List ℕ) (from : ℕ) → n ≡ length bytes → from ≡ n → pieces_of slot from image ≡ take from bytes → slot_content slot image ≡ bytes
  all_same bytes from long end equal =
      whole_content ∙ ap (λ (k : ℕ). pieces_of slot k image) (sym end) ∙ equal ∙ take_all from bytes (omega (arith, long, end))
