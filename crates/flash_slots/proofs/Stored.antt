-- The content of a slot, in terms of the flash's bytes.
use Rattle.std.proofs.Common.{◌≡◌, inl, inr, ⊎_elim, ◌<◌, ◌≤◌, ℕ, ◌+◌, ◌-◌, ◌^◌, min, List, [], ◌++◌, length, get_or, take, drop, refl, sym, ◌∙◌, ap, arith}
use Rattle.std.specs.Int.{w64, from_be_bytes, to_be_bytes}
use Rattle.std.specs.List.{slice_range}
use Rattle.std.proofs.lemmas.Bool.{le-leb, lt-leb, cases_lt}
use Rattle.std.proofs.lemmas.Nat.{from_be_bytes-to_be_bytes_8}
use Rattle.std.proofs.Math.Seq.{take-add}
use Rattle.std.proofs.lemmas.List.{take-take, drop-take, drop-drop}
use Rattle.std.proofs.lemmas.List.Edits.{length-between}
use Rattle.suit_edge.specs.Ranges.{Outside, SameOn, written}
use Rattle.suit_edge.specs.RangeLaws.{same_range, written_outside, written_range}
use Rattle.flash_layout.specs.declared.slot.Slot.{Slot}
use Rattle.flash_layout.specs.Slots.{LiesWithin, content_of, slot_bytes, slot_content, stored_length}
use Rattle.flash_slots.specs.Contents.{IsRead, part_of, pieces_of}

-- ---- where the length and the content are

whole_slot : (slot : Slot) (image : List ℕ) → slot_bytes slot image ≡ take (8 + slot.capacity) (drop slot.start image)
whole_slot slot image = let e : slot.start + (8 + slot.capacity) - slot.start ≡ 8 + slot.capacity = omega arith in ap (λ (k : ℕ). take k (drop slot.start image)) e

front : (slot : Slot) (image : List ℕ) → take 8 (slot_bytes slot image) ≡ slice_range image slot.start (slot.start + 8)
front slot image =
    let few : 8 ≤ 8 + slot.capacity = omega arith in
    let e : 8 ≡ slot.start + 8 - slot.start = omega arith in
    ap (take 8) (whole_slot slot image) ∙ take-take 8 (8 + slot.capacity) (drop slot.start image) few ∙ ap (λ (k : ℕ). take k (drop slot.start image)) e

-- the length that is stored
pub stored_at : (slot : Slot) (image : List ℕ) → stored_length (slot_bytes slot image) ≡ from_be_bytes w64 (slice_range image slot.start (slot.start + 8))
unfolding stored_length
stored_at slot image = ap (from_be_bytes w64) (front slot image)

room : (slot : Slot) (image : List ℕ) (n : ℕ) → n ≤ slot.capacity → take n (drop 8 (slot_bytes slot image)) ≡ slice_range image (slot.start + 8) (slot.start + 8 + n)
room slot image n few =
    let e : n ≡ slot.start + 8 + n - (slot.start + 8) = omega arith in
    ap (λ (l : List ℕ). take n (drop 8 l)) (whole_slot slot image) ∙ ap (take n) (drop-take 8 slot.capacity (drop slot.start image)) ∙ take-take n slot.capacity (drop 8 (drop slot.start image)) few
    ∙ ap (take n) (drop-drop 8 slot.start image) ∙ ap (λ (k : ℕ). take k (drop (slot.start + 8) image)) e

-- a length that fits
pub content_at : (slot : Slot) (image : List ℕ) (n : ℕ) → n ≡ from_be_bytes w64 (slice_range image slot.start (slot.start + 8)) → n ≤ slot.capacity
    → slot_content slot image ≡ slice_range image (slot.start + 8) (slot.start + 8 + n)
unfolding content_of
content_at slot image n is few =
    let st : stored_length (slot_bytes slot image) ≡ n = stored_at slot image ∙ sym is in
    rw (st, le-leb n slot.capacity few) (room slot image n few)

-- a length that is too large
pub content_none : (slot : Slot) (image : List ℕ) (n : ℕ) → n ≡ from_be_bytes w64 (slice_range image slot.start (slot.start + 8)) → slot.capacity < n → slot_content slot image ≡ []
unfolding content_of
content_none slot image n is large =
    let st : stored_length (slot_bytes slot image) ≡ n = stored_at slot image ∙ sym is in
    rw (st, lt-leb n slot.capacity large) refl

-- ---- its length

pub length_fits : (slot : Slot) (image bytes : List ℕ) (n k : ℕ) → k ≡ 8 → LiesWithin (length image) slot → bytes ≡ slice_range image slot.start (slot.start + k) → n ≡ from_be_bytes w64 bytes → n ≤ slot.capacity → n ≡ length (slot_content slot image)
length_fits slot image bytes n k k_is inside read is few =
    let at = content_at slot image n (is ∙ ap (from_be_bytes w64) (read ∙ ap (λ (i : ℕ). slice_range image slot.start (slot.start + i)) k_is)) few in
    let long = length-between image (slot.start + 8) (slot.start + 8 + n) (omega (arith, inside, few)) in
    omega (arith, long, ap length at)

pub length_none : (slot : Slot) (image bytes : List ℕ) (n k : ℕ) → k ≡ 8 → bytes ≡ slice_range image slot.start (slot.start + k) → n ≡ from_be_bytes w64 bytes → slot.capacity < n → 0 ≡ length (slot_content slot image)
length_none slot image bytes n k k_is read is large =
    sym (ap length (content_none slot image n (is ∙ ap (from_be_bytes w64) (read ∙ ap (λ (i : ℕ). slice_range image slot.start (slot.start + i)) k_is)) large))

-- a content of that length
pub content_long : (slot : Slot) (image : List ℕ) (n : ℕ) → n ≡ length (slot_content slot image) → 0 < n → LiesWithin (length image) slot → (n ≤ slot.capacity) → slot_content slot image ≡ slice_range image (slot.start + 8) (slot.start + 8 + n)
content_long slot image n is some inside few =
    ⊎_elim
    (λ large. absurd (none large))
    (λ fits. let at = content_at slot image stored refl fits in at ∙ ap (λ (k : ℕ). slice_range image (slot.start + 8) (slot.start + 8 + k)) (same fits at))
    (cases_lt slot.capacity stored)
  where
    stored : ℕ
    stored = from_be_bytes w64 (slice_range image slot.start (slot.start + 8))

    none : slot.capacity < stored → ⊥
    none large = omega (arith, is, some, ap length (content_none slot image stored refl large))

    same : stored ≤ slot.capacity → slot_content slot image ≡ slice_range image (slot.start + 8) (slot.start + 8 + stored) → stored ≡ n
    same fits at = omega (arith, is, ap length at, length-between image (slot.start + 8) (slot.start + 8 + stored) (omega (arith, inside, fits)))

-- ---- ranges of ranges

pub split_range : (l : List ℕ) (q a b : ℕ) → q + a + b ≤ length l → slice_range l q (q + (a + b)) ≡ slice_range l q (q + a) ++ slice_range l (q + a) (q + a + b)
split_range l q a b fits =
    let e1 : q + (a + b) - q ≡ a + b = omega arith in
    let e2 : q + a - q ≡ a = omega arith in
    let e3 : q + a + b - (q + a) ≡ b = omega arith in
    ap (λ (k : ℕ). take k (drop q l)) e1 ∙ take-add a b (drop q l) ∙ sym (ap (λ (k : ℕ). take k (drop q l) ++ slice_range l (q + a) (q + a + b)) e2 ∙ ap (λ (k : ℕ). take a (drop q l) ++ take k (drop (q + a) l)) e3 ∙ ap (λ (m : List ℕ). take a (drop q l) ++ take b m) (sym (drop-drop a q l)))

pub inner_range : (image : List ℕ) (p n from k : ℕ) → from + k ≤ n → take k (drop from (slice_range image p (p + n))) ≡ slice_range image (p + from) (p + from + k)
inner_range image p n from k inside =
    let e1 : p + n - p ≡ n = omega arith in
    let e2 : n ≡ from + (n - from) = omega arith in
    let e3 : k ≡ p + from + k - (p + from) = omega arith in
    let few : k ≤ n - from = omega arith in
    ap (λ (i : ℕ). take k (drop from (take i (drop p image)))) e1 ∙ ap (λ (i : ℕ). take k (drop from (take i (drop p image)))) e2 ∙ ap (take k) (drop-take from (n - from) (drop p image))
    ∙ take-take k (n - from) (drop from (drop p image)) few ∙ ap (take k) (drop-drop from p image) ∙ ap (λ (i : ℕ). take i (drop (p + from) image)) e3

-- a part of the room for the content, as it was read
pub some_read : (slot : Slot) (image room bytes : List ℕ) (from count k : ℕ) → k ≡ count → bytes ≡ slice_range image (slot.start + 8 + from) (slot.start + 8 + from + k) → bytes ++ drop count room ≡ part_of slot from count image ++ drop count room
some_read slot image room bytes from count k k_is read = ap (λ (l : List ℕ). l ++ drop count room) (read ∙ ap (λ (i : ℕ). slice_range image (slot.start + 8 + from) (slot.start + 8 + from + i)) k_is)

-- a part of the content
pub part_read : (slot : Slot) (image : List ℕ) (n from count : ℕ) → n ≡ length (slot_content slot image) → n ≤ slot.capacity → from < n → LiesWithin (length image) slot → count ≤ n - from
    → part_of slot from count image ≡ take count (drop from (slot_content slot image))
part_read slot image n from count is few some inside within =
    sym (inner_range image (slot.start + 8) n from count (omega (arith, some, within))) ∙ sym (ap (λ (l : List ℕ). take count (drop from l)) (content_long slot image n is (omega (arith, some)) inside few))

pub read_part : (slot : Slot) (image b room new : List ℕ) (n from count : ℕ) → b ≡ image → n ≡ length (slot_content slot image) → n ≤ slot.capacity → from < n → LiesWithin (length image) slot
    → count ≡ min (length room) (n - from) → new ≡ part_of slot from count b ++ drop count room → IsRead (slot_content slot image) from room new count
read_part slot image b room new n from count same is few some inside count_is read =
    let within : count ≤ n - from = omega (arith, count_is) in
    record {
      count_is = count_is ∙ ap (λ (i : ℕ). min (length room) (i - from)) is;
      bytes = read ∙ ap (λ (l : List ℕ). part_of slot from count l ++ drop count room) same ∙ ap (λ (l : List ℕ). l ++ drop count room) (part_read slot image n from count is few some inside within);
    }

-- ---- writing

-- the length that was written
number_at_start : (image : List ℕ) (place n : ℕ) (old : List ℕ) → n < 2 ^ 64 → place + 8 ≤ length old → image ≡ written old place (to_be_bytes w64 n) → n ≡ from_be_bytes w64 (slice_range image place (place + 8))
number_at_start image place n old fits inside wrote =
    sym (ap (λ (l : List ℕ). from_be_bytes w64 (slice_range l place (place + 8))) wrote ∙ ap (from_be_bytes w64) (written_range old place (to_be_bytes w64 n) inside) ∙ from_be_bytes-to_be_bytes_8 n fits)

pub emptied : (slot : Slot) (old image : List ℕ) → LiesWithin (length old) slot → image ≡ written old slot.start (to_be_bytes w64 0) → slot_content slot image ≡ []
emptied slot old image inside wrote =
    let none : slot.start + 8 + 0 - (slot.start + 8) ≡ 0 = omega arith in
    content_at slot image 0 (number_at_start image slot.start 0 old (omega arith) (omega (arith, inside)) wrote) (omega arith) ∙ ap (λ (k : ℕ). take k (drop (slot.start + 8) image)) none

pub finished : (slot : Slot) (n : ℕ) (old image : List ℕ) → n < 2 ^ 64 → n ≤ slot.capacity → LiesWithin (length old) slot → image ≡ written old slot.start (to_be_bytes w64 n) → slot_content slot image ≡ pieces_of slot n old
finished slot n old image fits few inside wrote =
    let same = written_outside old slot.start (to_be_bytes w64 n) (omega (arith, inside)) in
    let size : length image ≡ length old = ap length wrote ∙ same.size in
    content_at slot image n (number_at_start image slot.start n old fits (omega (arith, inside)) wrote) few
    ∙ same_range image old (slot.start + 8) (slot.start + 8 + n) size (omega (arith, size, inside, few)) (λ i low high. ap (λ (l : List ℕ). get_or l i 0) wrote ∙ same.same i (inr low))

-- an empty slot stays empty if its length stays
pub empty_stays : (slot : Slot) (old image : List ℕ) → LiesWithin (length old) slot → length image ≡ length old → ((i : ℕ) → i < slot.start + 8 → slot.start ≤ i → get_or image i 0 ≡ get_or old i 0) → slot_content slot old ≡ [] → slot_content slot image ≡ []
empty_stays slot old image inside size same empty =
    ⊎_elim
    (λ large. content_none slot image stored is large)
    (λ fits. content_at slot image stored is fits ∙ ap (λ (k : ℕ). slice_range image (slot.start + 8) (slot.start + 8 + k)) (zero_of fits) ∙ ap (λ (k : ℕ). take k (drop (slot.start + 8) image)) none)
    (cases_lt slot.capacity stored)
  where
    stored : ℕ
    stored = from_be_bytes w64 (slice_range old slot.start (slot.start + 8))

    none : slot.start + 8 + 0 - (slot.start + 8) ≡ 0
    none = omega arith

    is : stored ≡ from_be_bytes w64 (slice_range image slot.start (slot.start + 8))
    is = ap (from_be_bytes w64) (sym (same_range image old slot.start (slot.start + 8) size (omega (arith, size, inside)) (λ i low high. same i high low)))

    zero_of : stored ≤ slot.capacity → stored ≡ 0
    zero_of fits =
        omega (arith, ap length (content_at slot old stored refl fits), ap length empty, length-between old (slot.start + 8) (slot.start + 8 + stored) (omega (arith, inside, fits)))

-- while pieces are written
pub still_empty : (slot : Slot) (old image : List ℕ) (m n : ℕ) → LiesWithin (length old) slot → SameOn (Outside (slot.start + 8 + m) n) old image → slot_content slot old ≡ [] → slot_content slot image ≡ []
still_empty slot old image m n inside same empty =
    empty_stays slot old image inside same.size (λ i high low. same.same i (inl (omega (arith, high)))) empty

-- a piece after those before it
pub put_piece : (slot : Slot) (m : ℕ) (piece old image : List ℕ) → slot.start + 8 + m + length piece ≤ length old → image ≡ written old (slot.start + 8 + m) piece → pieces_of slot (m + length piece) image ≡ pieces_of slot m old ++ piece
put_piece slot m piece old image inside wrote =
    joined ∙ ap (λ (l : List ℕ). l ++ slice_range image (p + m) (p + m + length piece)) before ∙ ap (λ (l : List ℕ). slice_range old p (p + m) ++ l) behind
  where
    p : ℕ
    p = slot.start + 8

    out : SameOn (Outside (p + m) (length piece)) old (written old (p + m) piece)
    out = written_outside old (p + m) piece inside

    size : length image ≡ length old
    size = ap length wrote ∙ out.size

    before : slice_range image p (p + m) ≡ slice_range old p (p + m)
    before = same_range image old p (p + m) size (omega (arith, size, inside)) (λ i low high. ap (λ (l : List ℕ). get_or l i 0) wrote ∙ out.same i (inl high))

    behind : slice_range image (p + m) (p + m + length piece) ≡ piece
    behind = ap (λ (l : List ℕ). slice_range l (p + m) (p + m + length piece)) wrote ∙ written_range old (p + m) piece inside

    joined : slice_range image p (p + (m + length piece)) ≡ slice_range image p (p + m) ++ slice_range image (p + m) (p + m + length piece)
    joined = split_range image p m (length piece) (omega (arith, size, inside))
