-- Writing a piece into the room for a content.
use Rattle.std.proofs.Common.{◌≡◌, inr, ◌≤◌, ℕ, ◌+◌, ◌-◌, List, ◌++◌, length, get_or, take, drop, sym, ◌∙◌, ap, arith}
use Rattle.std.specs.List.{slice_range}
use Rattle.std.proofs.lemmas.List.{take_all, take-take, length-drop}
use Rattle.std.proofs.lemmas.List.Edits.{length-between}
use Rattle.suit_edge.specs.Ranges.{Outside, SameOn, written}
use Rattle.suit_edge.specs.RangeLaws.{same_range, written_outside}
use Rattle.flash_layout.specs.declared.slot.Slot.{Slot}
use Rattle.flash_layout.specs.Slots.{LiesWithin}
use Rattle.flash_slots.specs.Contents.{area_of, pieces_of}
use Rattle.flash_slots.proofs.Stored.{inner_range, put_piece, split_range}

-- the first bytes of the room
pub area_front : (slot : Slot) (image : List ℕ) (n : ℕ) → n ≤ slot.capacity → take n (area_of slot image) ≡ pieces_of slot n image
area_front slot image n few =
    let p : ℕ = slot.start + 8 in
    let e1 : p + slot.capacity - p ≡ slot.capacity = omega arith in
    let e2 : n ≡ p + n - p = omega arith in
    ap (λ (k : ℕ). take n (take k (drop p image))) e1 ∙ take-take n slot.capacity (drop p image) few ∙ ap (λ (k : ℕ). take k (drop p image)) e2

pub area_written : (slot : Slot) (from : ℕ) (piece old image : List ℕ) → LiesWithin (length old) slot → from + length piece ≤ slot.capacity → image ≡ written old (slot.start + 8 + from) piece
    → area_of slot image ≡ written (area_of slot old) from piece
unfolding written
area_written slot from piece old image inside fits wrote =
    ap (λ (n : ℕ). pieces_of slot n image) whole
    ∙ split_range image p (from + k) rest (omega (arith, size, inside, fits))
    ∙ ap (λ (l : List ℕ). l ++ slice_range image (p + (from + k)) (p + (from + k) + rest)) (put_piece slot from piece old image (omega (arith, inside, fits)) wrote)
    ∙ ap (λ (l : List ℕ). (pieces_of slot from old ++ piece) ++ l) behind
    ∙ ap (λ (l : List ℕ). (l ++ piece) ++ slice_range old (p + (from + k)) (p + (from + k) + rest)) (sym (area_front slot old from (omega (arith, fits))))
    ∙ ap (λ (l : List ℕ). (take from (area_of slot old) ++ piece) ++ l) (sym end)
  where
    p : ℕ
    p = slot.start + 8

    k : ℕ
    k = length piece

    rest : ℕ
    rest = slot.capacity - (from + k)

    whole : slot.capacity ≡ from + k + rest
    whole = omega (arith, fits)

    out : SameOn (Outside (p + from) k) old (written old (p + from) piece)
    out = written_outside old (p + from) piece (omega (arith, inside, fits))

    size : length image ≡ length old
    size = ap length wrote ∙ out.size

    behind : slice_range image (p + (from + k)) (p + (from + k) + rest) ≡ slice_range old (p + (from + k)) (p + (from + k) + rest)
    behind = same_range image old (p + (from + k)) (p + (from + k) + rest) size (omega (arith, size, inside, fits)) (λ i low high. ap (λ (l : List ℕ). get_or l i 0) wrote ∙ out.same i (inr (omega (arith, low))))

    end : drop (from + k) (area_of slot old) ≡ slice_range old (p + (from + k)) (p + (from + k) + rest)
    end =
        let long : length (area_of slot old) ≡ slot.capacity = omega (arith, length-between old p (p + slot.capacity) (omega (arith, inside))) in
        let few : length (drop (from + k) (area_of slot old)) ≡ rest = omega (arith, length-drop (from + k) (area_of slot old), long) in
        sym (take_all rest (drop (from + k) (area_of slot old)) (omega (arith, few)))
        ∙ inner_range old p slot.capacity (from + k) rest (omega (arith, fits))
