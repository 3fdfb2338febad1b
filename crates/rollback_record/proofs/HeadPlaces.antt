-- Which places of a flash lie apart from its head, and from what tells its frame.
use Rattle.std.proofs.Common.{inl, inr, ⊎_elim, ◌≤◌, ℕ, ◌+◌, sym, subst, arith}
use Rattle.std.proofs.lemmas.Bool.{cases_lt}
use Rattle.suit_edge.specs.Ranges.{Outside}
use Rattle.flash_layout.specs.declared.frame.Frame.{Frame}
use Rattle.flash_layout.specs.FrameFacts.{FrameFacts, behind_pages}
use Rattle.flash_layout.specs.Frames.{record_place}
use Rattle.flash_layout.specs.Layouts.{IsBehindHead}
use Rattle.rollback_record.specs.Committing.{InHead}
use Rattle.rollback_record.specs.SoundLaws.{TellsFrame}

module _ (size : ℕ) (frame : Frame) (is : FrameFacts size frame) where
  -- what tells the frame lies in the head
  pub tells_head : (i : ℕ) → TellsFrame i → InHead frame i
  tells_head i (inl gate) = inl (omega arith, omega (arith, gate))
  tells_head i (inr root) = inl (omega arith, omega (arith, root.1))

  -- and apart from the record pages and the banks
  module _ (p n : ℕ) (low : record_place frame 0 ≤ p) (high : p + n ≤ record_place frame 0 + behind_pages frame) where
    inner : (i : ℕ) → Outside (record_place frame 0) (behind_pages frame) i → Outside p n i
    inner i out = ⊎_elim (λ before. inl (omega (arith, before, low))) (λ behind. inr (omega (arith, behind, high))) out

    pub tells_outside : (i : ℕ) → TellsFrame i → Outside p n i
    tells_outside i (inl gate) = subst (λ (k : ℕ). Outside p n k) (sym gate) (inner 0 is.gate)
    tells_outside i (inr root) = inner i (is.root i root)

  -- slots lie apart from the head
  pub slot_outside : (p n : ℕ) → IsBehindHead frame size p n → (i : ℕ) → InHead frame i → Outside p n i
  slot_outside p n there i (inl front) = let low = there.0 in let few = front.1 in inl (omega (arith, low, few))
  slot_outside p n there i (inr own) =
      let clear = is.clear p n there in
      let low = own.0 in
      let high = own.1 in
      ⊎_elim
      (λ before. let end = clear.1 (omega (arith, before)) in inr (omega (arith, end, low)))
      (λ behind. let start = clear.0 behind in inl (omega (arith, start, high)))
      (cases_lt p frame.base)
