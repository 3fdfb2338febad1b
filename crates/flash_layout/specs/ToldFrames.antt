-- Laws of the frame that an image gives, which no clause of a contract can state.
use Rattle.std.proofs.Common.{◌≡◌, ⊎_elim, inl, inr, ◌≤◌, ◌+◌, ◌<◌, ℕ, List, length, get_or, Option, Some, sym, ◌∙◌, ap, subst, arith}
use Rattle.std.specs.List.{slice_range}
use Rattle.std.proofs.lemmas.List.Edits.{get_or-between}
use Rattle.flash_layout.specs.declared.frame.Frame.{Frame}
use Rattle.flash_layout.specs.declared.key.Key.{Key}
use Rattle.flash_layout.specs.declared.layout.Entry.{Entry}
use Rattle.flash_layout.specs.ConfigPage.{IsConfigPage}
use Rattle.flash_layout.specs.Configs.{Config, ConfigOf, Blank, Bad, Configured}
use Rattle.flash_layout.specs.Frames.{config_page_of, head_of}
use Rattle.flash_layout.specs.FrameFacts.{within}
use Rattle.flash_layout.specs.Roots.{frame_by, frame_told}

-- no configuration of the image has another frame
abbrev pub IsTold : ℕ → List ℕ → Frame → Type 0
IsTold size image frame = (layout : List Entry) (key : Key) (other : Frame) → ConfigOf size image (Configured layout key other) → other ≡ frame

some_same : (a b : Frame) → ◌≡◌ {A = Option Frame} (Some a) (Some b) → a ≡ b
some_same a b e = cc

-- this is so of the frame that the root gives
pub told_by : (size : ℕ) (image : List ℕ) (frame : Frame) → frame_told image ≡ Some frame → IsTold size image frame
told_by size image frame told layout key other is = some_same other frame (sym is.told ∙ told)

-- an image that is configured is so with the frame that it gives
pub by_told : (size : ℕ) (image : List ℕ) (frame : Frame) → IsTold size image frame → (layout : List Entry) (key : Key) (other : Frame)
    → ConfigOf size image (Configured layout key other) → ConfigOf size image (Configured layout key frame)
by_told size image frame told layout key other is =
    subst (λ (f : Frame). ConfigOf size image (Configured layout key f)) (told layout key other is) is

-- An image with the same first bytes, and the same head at the frame that they give, has the same
-- configuration.
pub record HasSameHead (image other : List ℕ) : Type 0 where
  pub long : length other ≡ length image
  pub front : slice_range other 0 49152 ≡ slice_range image 0 49152
  pub head : (frame : Frame) → frame_told image ≡ Some frame → head_of frame other ≡ head_of frame image

module _ (image other : List ℕ) (same : HasSameHead image other) where
  pub front_there : (i : ℕ) → i < 49152 → get_or other i 0 ≡ get_or image i 0
  front_there i few =
      let at : 0 + i ≡ i = omega arith in
      ap (λ (k : ℕ). get_or other k 0) (sym at) ∙ sym (get_or-between other 0 49152 i 0 (omega (arith, few))) ∙ ap (λ (l : List ℕ). get_or l i 0) same.front ∙ get_or-between image 0 49152 i 0 (omega (arith, few))
      ∙ ap (λ (k : ℕ). get_or image k 0) at

  pub told_there : frame_told other ≡ frame_told image
  told_there =
      ap frame_by (sym (within other 0 49152 45056 45066 (omega arith) (omega arith)) ∙ ap (λ (l : List ℕ). slice_range l 45056 45066) same.front ∙ within image 0 49152 45056 45066 (omega arith) (omega arith))

  pub back : HasSameHead other image
  back = record { long = sym same.long; front = sym same.front; head = λ frame told. sym (same.head frame (sym told_there ∙ told)) }

module _ (size : ℕ) (image other : List ℕ) (same : HasSameHead image other) where
  pub configured_there : (layout : List Entry) (key : Key) (frame : Frame)
      → ConfigOf size image (Configured layout key frame) → ConfigOf size other (Configured layout key frame)
  configured_there layout key frame is = record {
    placed = is.placed;
    told = told_there image other same ∙ is.told;
    whole = omega (arith, is.whole, same.long);
    typed = is.typed;
    page = subst (λ (h : List ℕ). IsConfigPage frame size (config_page_of frame h) layout key) (sym (same.head frame is.told)) is.page;
  }

  blank_there : ConfigOf size image Blank → ConfigOf size other Blank
  blank_there is = ⊎_elim
      (λ small. inl (omega (arith, small, same.long)))
      (λ closed. inr (
        λ opened. closed.0 (sym (front_there image other same 0 (omega arith)) ∙ opened),
        λ opened. closed.1 (sym (front_there image other same 45056 (omega arith)) ∙ opened),
      ))
      is

config_there : (size : ℕ) (image other : List ℕ) → HasSameHead image other → (config : Config) → ConfigOf size image config → ConfigOf size other config
config_there size image other same Blank is = blank_there size image other same is
config_there size image other same Bad is = record {
  whole = omega (arith, is.whole, same.long);
  gate = ⊎_elim (λ opened. inl (front_there image other same 0 (omega arith) ∙ opened)) (λ opened. inr (front_there image other same 45056 (omega arith) ∙ opened)) is.gate;
  none = λ layout key frame so. is.none layout key frame (configured_there size other image (back image other same) layout key frame so);
}
config_there size image other same (Configured layout key frame) is = configured_there size image other same layout key frame is

-- the same, with each image's own size
pub same_config : (image other : List ℕ) → HasSameHead image other → (config : Config) → ConfigOf (length image) image config → ConfigOf (length other) other config
same_config image other same config is = subst (λ (n : ℕ). ConfigOf n other config) (sym same.long) (config_there (length image) image other same config is)
