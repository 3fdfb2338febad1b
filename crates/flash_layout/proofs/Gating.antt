-- The gates of the record pages.
use Rattle.std.proofs.Common.{◌≡◌, inl, ℕ, ◌+◌, ◌<◌, ◌≤◌, List, [], ◌∷◌, length, get_or, ap, ◌∙◌, arith}
use Rattle.suit_edge.specs.Ranges.{written}
use Rattle.suit_edge.specs.RangeLaws.{written_outside, written_one}
use Rattle.flash_layout.specs.declared.frame.Frame.{Frame}
use Rattle.flash_layout.specs.Frames.{IsFrame, checkpoint_place, head_size, journal_place, record_place}
use Rattle.flash_layout.specs.FrameFacts.{FrameFacts, by_second, facts}
use Rattle.flash_layout.specs.Formats.{AreClosed, IsWorkClosed, OutsideWorkGates}

pub both_closed : (size : ℕ) (frame : Frame) → FrameFacts size frame → (old once twice : List ℕ) → length old ≡ size → once ≡ written old (record_place frame 0) (0 ∷ [])
    → twice ≡ written once (record_place frame 1) (0 ∷ []) → AreClosed frame twice
both_closed size frame is old once twice long first second =
    let p = record_place frame 0 in
    let q = record_place frame 1 in
    let room : frame.base + head_size frame ≤ length old = omega (arith, is.inside, long) in
    let out = written_outside old p (0 ∷ []) (omega (arith, room, is.head)) in
    let fits : q + 1 ≤ length once = omega (arith, ap length first, out.size, room, is.head) in (
      ap (λ (l : List ℕ). get_or l p 0) second ∙ (written_outside once q (0 ∷ []) fits).same p (inl (omega arith)) ∙ ap (λ (l : List ℕ). get_or l p 0) first ∙ written_one old p 0 (omega (arith, room, is.head)),
      ap (λ (l : List ℕ). get_or l q 0) second ∙ written_one once q 0 fits,
    )

-- the gates of the record pages are not in the work area
pub gates_apart : (size : ℕ) (frame : Frame) → IsFrame size frame → (w : ℕ) → w < 2 → OutsideWorkGates frame (record_place frame w)
gates_apart size frame is w few two =
    let place = facts size frame is in
    let low : record_place frame w < frame.base + 147456 = omega (arith, few, place.head, by_second frame 49152 147456 two) in (
      inl low,
      inl (omega (arith, low)),
    )

-- both gates of the work area are closed
pub work_closed : (size : ℕ) (frame : Frame) → FrameFacts size frame → (old once twice : List ℕ) → length old ≡ size → once ≡ written old (journal_place frame) (0 ∷ [])
    → twice ≡ written once (checkpoint_place frame) (0 ∷ []) → IsWorkClosed frame twice
work_closed size frame is old once twice long first second two =
    let p = journal_place frame in
    let q = checkpoint_place frame in
    let room : frame.base + 225280 ≤ length old = omega (arith, long, is.area two) in
    let out = written_outside old p (0 ∷ []) (omega (arith, room)) in
    let fits : q + 1 ≤ length once = omega (arith, ap length first, out.size, room) in (
      ap (λ (l : List ℕ). get_or l p 0) second ∙ (written_outside once q (0 ∷ []) fits).same p (inl (omega arith)) ∙ ap (λ (l : List ℕ). get_or l p 0) first ∙ written_one old p 0 (omega (arith, room)),
      ap (λ (l : List ℕ). get_or l q 0) second ∙ written_one once q 0 fits,
    )
