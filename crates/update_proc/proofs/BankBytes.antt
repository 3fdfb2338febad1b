-- The bytes of a bank, in the flash's bytes.
use Rattle.std.proofs.Common.{◌≡◌, ◌↔◌, ◌<◌, ◌≤◌, ℕ, ◌+◌, ◌-◌, Bool, true, false, IsTrue, if◌then◌else◌, List, ◌++◌, length, take, drop, refl, sym, ◌∙◌, ap, arith}
use Rattle.std.specs.List.{slice_range}
use Rattle.std.specs.Str.{bytes_eq}
use Rattle.std.proofs.lemmas.Slice.Eq.{bytes_eq-Decides}
use Rattle.std.proofs.Math.Seq.{take-add}
use Rattle.std.proofs.lemmas.List.{take_all, take-take, drop-take, drop-drop}
use Rattle.std.proofs.lemmas.List.Edits.{length-between}
use Rattle.suit_edge.specs.Ranges.{written}
use Rattle.suit_edge.specs.RangeLaws.{written_range}
use Rattle.flash_layout.specs.declared.frame.Frame.{Frame}
use Rattle.flash_layout.specs.declared.slot.Record.{Record}
use Rattle.flash_layout.specs.FrameFacts.{FrameFacts, bank_high, bank_there}
use Rattle.flash_layout.specs.Frames.{bank_of, bank_place, bank_size, head_of}
use Rattle.rollback_record.specs.HeadRecord.{IsLoadable}
use Rattle.rollback_record.specs.SoundFlash.{recorded_bank}
use Rattle.flash_slots.proofs.Stored.{split_range}

-- the bytes written to a bank stand there
pub bank_written : (size : ℕ) (frame : Frame) → FrameFacts size frame → (old new bytes : List ℕ) (b : ℕ) → length old ≡ size → b < 2 → length bytes ≤ bank_size frame → new ≡ written old (bank_place frame b) bytes
    → bank_of frame (head_of frame new) b (length bytes) ≡ bytes
bank_written size frame is old new bytes b long two few wrote =
    bank_there size frame is new b (length bytes) two few ∙ ap (λ (l : List ℕ). slice_range l (bank_place frame b) (bank_place frame b + length bytes)) wrote
    ∙ written_range old (bank_place frame b) bytes (omega (arith, long, is.inside, few, bank_high size frame is b two))

-- a range of a range
pub inner : (l : List ℕ) (p n from k : ℕ) → from + k ≤ n → slice_range (slice_range l p (p + n)) from (from + k) ≡ slice_range l (p + from) (p + from + k)
inner l p n from k within =
    let e1 : p + n - p ≡ from + (n - from) = omega (arith, within) in
    let few : from + k - from ≤ n - from = omega (arith, within) in
    let e3 : from + k - from ≡ p + from + k - (p + from) = omega arith in
    ap (take (from + k - from)) (ap (λ (m : ℕ). drop from (take m (drop p l))) e1 ∙ drop-take from (n - from) (drop p l)) ∙ take-take (from + k - from) (n - from) (drop from (drop p l)) few
    ∙ ap (take (from + k - from)) (drop-drop from p l) ∙ ap (λ (m : ℕ). take m (drop (p + from) l)) e3

-- ---- bytes that are compared piece by piece

module _ (image bytes : List ℕ) (place from count : ℕ) (fits : place + length bytes ≤ length image) (within : from + count ≤ length bytes) where
  abbrev piece : List ℕ
  piece = slice_range bytes from (from + count)

  length-piece : length piece ≡ count
  length-piece = omega (arith, length-between bytes from (from + count) within)

  -- the bytes passed, and one piece more
  pub more_passed : (reads : List ℕ) → reads ≡ image → slice_range image place (place + from) ≡ take from bytes → slice_range reads (place + from) (place + from + length piece) ≡ piece
      → slice_range image place (place + (from + count)) ≡ take (from + count) bytes
  more_passed reads same before part =
      let e : from + count - from ≡ count = omega arith in
      split_range image place from count (omega (arith, fits, within)) ∙ ap (λ (l : List ℕ). l ++ slice_range image (place + from) (place + from + count)) before
      ∙ ap (λ (l : List ℕ). take from bytes ++ slice_range l (place + from) (place + from + count)) (sym same)
      ∙ ap (λ (k : ℕ). take from bytes ++ slice_range reads (place + from) (place + from + k)) (sym length-piece)
      ∙ ap (λ (l : List ℕ). take from bytes ++ l) part ∙ ap (λ (k : ℕ). take from bytes ++ take k (drop from bytes)) e ∙ sym (take-add from count bytes)

-- a piece that differs
module _ (image bytes : List ℕ) (place from count : ℕ) (within : from + count ≤ length bytes) where
  pub other_piece : (reads : List ℕ) → reads ≡ image → (slice_range reads (place + from) (place + from + length (slice_range bytes from (from + count))) ≡ slice_range bytes from (from + count) → ⊥)
      → slice_range image place (place + length bytes) ≡ bytes → ⊥
  other_piece reads same other equal = other part
    where
      n : length (slice_range bytes from (from + count)) ≡ count
      n = omega (arith, length-between bytes from (from + count) within)

      part : slice_range reads (place + from) (place + from + length (slice_range bytes from (from + count))) ≡ slice_range bytes from (from + count)
      part =
          ap (λ (l : List ℕ). slice_range l (place + from) (place + from + length (slice_range bytes from (from + count)))) same
          ∙ ap (λ (k : ℕ). slice_range image (place + from) (place + from + k)) n ∙ sym (inner image place (length bytes) from count within) ∙ ap (λ (l : List ℕ). slice_range l from (from + count)) equal

-- all was passed
pub all_passed : (image bytes : List ℕ) (place from : ℕ) → length bytes ≤ from → slice_range image place (place + from) ≡ take from bytes → from ≤ length bytes → slice_range image place (place + length bytes) ≡ bytes
all_passed image bytes place from all before few =
    let e : length bytes ≡ from = omega (arith, all, few) in
    ap (λ (k : ℕ). slice_range image place (place + k)) e ∙ before ∙ take_all from bytes (omega (arith, all))

-- ---- a bank that is kept

module _ (size : ℕ) (frame : Frame) (is : FrameFacts size frame) (image : List ℕ) (long : length image ≡ size) where
  bank_long : (b n : ℕ) → b < 2 → n ≤ bank_size frame → length (bank_of frame (head_of frame image) b n) ≡ n
  bank_long b n two few =
      let at = ap length (bank_there size frame is image b n two few) in
      omega (arith, at, length-between image (bank_place frame b) (bank_place frame b + n) (omega (arith, long, is.inside, few, bank_high size frame is b two)))

  -- its bytes are those that are recorded, and so many
  pub kept_holds : (b n : ℕ) (bytes : List ℕ) → b < 2 → n ≤ bank_size frame → bank_of frame (head_of frame image) b n ≡ bytes → bank_of frame (head_of frame image) b (length bytes) ≡ bytes
  kept_holds b n bytes two few same =
      let count : length bytes ≡ n = omega (arith, ap length same, bank_long b n two few) in
      ap (λ (k : ℕ). bank_of frame (head_of frame image) b k) count ∙ same

  -- the record's bank holds the bytes, where the bytes of its range are these and so many are recorded
  module _ (r : Record) (bytes : List ℕ) (few : IsLoadable frame r) where
    pub recorded_length : recorded_bank frame (head_of frame image) r ≡ bytes → r.length ≡ length bytes
    recorded_length same = omega (arith, ap length same, bank_long r.bank r.length few.bank few.size)

    pub recorded_iff : (p : ℕ) (s : Bool) → p ≡ bank_place frame r.bank → r.length ≡ length bytes → IsTrue s ↔ (slice_range image p (p + length bytes) ≡ bytes) → IsTrue s ↔ (recorded_bank frame (head_of frame image) r ≡ bytes)
    recorded_iff p s place count iff =
        let at : recorded_bank frame (head_of frame image) r ≡ slice_range image p (p + length bytes) =
        bank_there size frame is image r.bank r.length few.bank few.size ∙ ap (λ (k : ℕ). slice_range image k (k + r.length)) (sym place) ∙ ap (λ (k : ℕ). slice_range image p (p + k)) count in
        (λ yes. at ∙ iff.0 yes, λ same. iff.1 (sym at ∙ same))

-- ---- the choice

is_true : (b : Bool) → IsTrue b → b ≡ true
is_true true h = refl
is_true false h = absurd cc

pub same_bytes : (xs ys : List ℕ) → IsTrue (bytes_eq xs ys) → xs ≡ ys
same_bytes xs ys h = (bytes_eq-Decides xs ys).0 (is_true (bytes_eq xs ys) h)

first_of_two : (b : Bool) (bank m n : ℕ) → b ≡ true → bank ≡ m → bank ≡ (if b then m else n)
first_of_two true bank m n e is = is
first_of_two false bank m n e is = absurd cc

second_of_two : (b : Bool) (bank m n : ℕ) → (b ≡ true → ⊥) → bank ≡ n → bank ≡ (if b then m else n)
second_of_two true bank m n not is = absurd (not refl)
second_of_two false bank m n not is = is

pub kept_chosen : (xs ys : List ℕ) (bank m n : ℕ) → xs ≡ ys → bank ≡ m → bank ≡ (if bytes_eq xs ys then m else n)
kept_chosen xs ys bank m n same is = first_of_two (bytes_eq xs ys) bank m n ((bytes_eq-Decides xs ys).1 same) is

pub other_chosen : (xs ys : List ℕ) (bank m n : ℕ) → (xs ≡ ys → ⊥) → bank ≡ n → bank ≡ (if bytes_eq xs ys then m else n)
other_chosen xs ys bank m n other is = second_of_two (bytes_eq xs ys) bank m n (λ e. other ((bytes_eq-Decides xs ys).0 e)) is
