-- An image has at most one configuration.
use Rattle.std.proofs.Common.{◌≡◌, ◌<◌, ◌≤◌, ℕ, ◌+◌, ◌*◌, List, get_or, length, Option, Some, inl, inr, refl, sym, ap, subst, ◌∙◌, arith, ⊎_elim}
use Rattle.std.proofs.lemmas.List.Edits.{get_or-between}
use Rattle.flash_layout.specs.declared.frame.Frame.{Frame}
use Rattle.flash_layout.specs.declared.layout.Entry.{Entry}
use Rattle.flash_layout.specs.declared.key.Key.{Key}
use Rattle.flash_layout.specs.FrameFacts.{by_first}
use Rattle.flash_layout.specs.Frames.{First, IsFrame, Second, config_page_of, head_of, head_size, most}
use Rattle.flash_layout.specs.ConfigPage.{config_page, IsConfigPage}
use Rattle.flash_layout.specs.Configs.{Blank, Bad, Configured, IsBlank, IsBad, IsConfigured}
use Rattle.flash_layout.specs.ConfigLaws.{OneConfig, OneAnswer}
use Rattle.flash_layout.specs.Formats.{HasOpenGate}
use Rattle.flash_layout.specs.RootLaws.{second_open}

pub opens : (frame : Frame) (layout : List Entry) (key : Key) → get_or (config_page frame layout key) 0 0 ≡ 0xA5
unfolding config_page
opens frame layout key = refl

pub gate : (frame : Frame) (size : ℕ) (head : List ℕ) (layout : List Entry) (key : Key) → IsConfigPage frame size (config_page_of frame head) layout key → get_or head 0 0 ≡ 0xA5
gate frame size head layout key page = sym (get_or-between head 0 (68 + 142 * most frame) 0 0 (omega arith)) ∙ ap (λ (l : List ℕ). get_or l 0 0) page.is ∙ opens frame layout key

-- an image that is configured
module _ (size : ℕ) (image : List ℕ) (layout : List Entry) (key : Key) (frame : Frame) (is : IsConfigured size image layout key frame) where
  gate_by : IsFrame size frame → HasOpenGate image
  gate_by (First one base room) =
      let at : frame.base + 0 ≡ 0 = omega (arith, base) in
      let low : frame.base + 0 < frame.base + head_size frame = omega (arith, by_first frame 49152 147456 one) in
      inl (ap (λ (k : ℕ). get_or image k 0) (sym at) ∙ sym (get_or-between image frame.base (frame.base + head_size frame) 0 0 low) ∙ gate frame size (head_of frame image) layout key is.page)
  gate_by (Second two base room low) = inr (second_open image frame is.told two)

  -- a gate is open
  pub gate_open : HasOpenGate image
  gate_open = gate_by is.placed

  large_by : IsFrame size frame → 49152 ≤ length image
  large_by (First one base room) = omega (arith, is.whole, by_first frame 49152 147456 one)
  large_by (Second two base room low) = omega (arith, is.whole, base)

  pub large : 49152 ≤ length image
  large = large_by is.placed

  pub blank_configured : IsBlank image → ⊥
  blank_configured blank = ⊎_elim (λ small. omega (arith, small, large)) (λ closed. ⊎_elim closed.0 closed.1 gate_open) blank

blank_bad : (size : ℕ) (image : List ℕ) → IsBlank image → IsBad size image → ⊥
blank_bad size image blank bad = ⊎_elim (λ small. omega (arith, small, bad.whole)) (λ closed. ⊎_elim closed.0 closed.1 bad.gate) blank

some_same : (a b : Frame) → ◌≡◌ {A = Option Frame} (Some a) (Some b) → a ≡ b
some_same a b e = cc

pub same_configured : OneConfig → (size : ℕ) (image : List ℕ) (layout others : List Entry) (key other : Key) (frame there : Frame) → IsConfigured size image layout key frame
    → IsConfigured size image others other there → (layout ≡ others) × (key ≡ other) × (frame ≡ there)
same_configured one size image layout others key other frame there p q =
    let frames : there ≡ frame = some_same there frame (sym q.told ∙ p.told) in
    let page = subst (λ (f : Frame). IsConfigPage f size (config_page_of f (head_of f image)) others other) frames q.page in
    let same = one frame size (config_page_of frame (head_of frame image)) layout key others other p.typed q.typed p.page page in
    (same.0, same.1, sym frames)

pub one_answer : OneConfig → OneAnswer
one_answer one size image Blank Blank p q = refl
one_answer one size image Blank Bad p q = absurd (blank_bad size image p q)
one_answer one size image Blank (Configured layout key frame) p q = absurd (blank_configured size image layout key frame q p)
one_answer one size image Bad Blank p q = absurd (blank_bad size image q p)
one_answer one size image Bad Bad p q = refl
one_answer one size image Bad (Configured layout key frame) p q = absurd (p.none layout key frame q)
one_answer one size image (Configured layout key frame) Blank p q = absurd (blank_configured size image layout key frame p q)
one_answer one size image (Configured layout key frame) Bad p q = absurd (q.none layout key frame p)
one_answer one size image (Configured layout key frame) (Configured others other there) p q =
    let same = same_configured one size image layout others key other frame there p q in
    λ i. Configured (same.0 i) (same.1 i) (same.2 i)
