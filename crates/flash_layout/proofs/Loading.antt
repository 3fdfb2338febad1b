-- The reading of an image's configuration.
use Rattle.std.proofs.Common.{◌≡◌, ◌≢◌, ℕ, ◌+◌, ◌<◌, ◌≤◌, List, length, get_or, Option, None, Some, inl, inr, ⊎_elim, sym, ap, subst, ◌∙◌, arith}
use Rattle.std.specs.List.{slice_range}
use Rattle.std.proofs.lemmas.Bool.{cases_eq}
use Rattle.std.proofs.lemmas.List.Edits.{get_or-between}
use Rattle.suit_edge.specs.Gate.{IsOpen}
use Rattle.flash_layout.specs.declared.frame.Frame.{Frame}
use Rattle.flash_layout.specs.declared.frame.TheConstants.{ROOT_GATE, VERSION_1}
use Rattle.flash_layout.specs.declared.layout.Entry.{Entry}
use Rattle.flash_layout.specs.declared.key.Key.{Key}
use Rattle.flash_layout.specs.Frames.{First, IsFrame, Second, config_page_of, head_of, head_size, page_bytes}
use Rattle.flash_layout.specs.FirstFrame.{has_room, is_first, version_1}
use Rattle.flash_layout.specs.FrameFacts.{facts, page_there}
use Rattle.flash_layout.specs.Formats.{HasOpenGate}
use Rattle.flash_layout.specs.Layouts.{AreTyped, IsLayout}
use Rattle.flash_layout.specs.ConfigPage.{IsConfigPage}
use Rattle.flash_layout.specs.Configs.{IsAllowed, IsBlank, IsConfigured, IsBad}
use Rattle.flash_layout.specs.RootLaws.{first_closed, second_open, told_closed, untold_open}
use Rattle.flash_layout.specs.Roots.{frame_told}

pub small_blank : (reads : List ℕ) (size : ℕ) → length reads ≡ size → size < 49152 → IsBlank reads
small_blank reads size long small = inl (omega (arith, long, small))

-- the first byte of what was read
pub first_read : (reads room : List ℕ) (place n : ℕ) → 0 < n → room ≡ slice_range reads place (place + n) → get_or room 0 0 ≡ get_or reads place 0
first_read reads room place n some read =
    let at : place + 0 ≡ place = omega arith in
    ap (λ (l : List ℕ). get_or l 0 0) read ∙ get_or-between reads place (place + n) 0 0 (omega (arith, some)) ∙ ap (λ (k : ℕ). get_or reads k 0) at

-- as many bytes as the page has
pub read_of : (reads room : List ℕ) (base m n : ℕ) → m ≡ n → room ≡ slice_range reads base (base + m) → room ≡ slice_range reads base (base + n)
read_of reads room base m n same read = read ∙ ap (λ (k : ℕ). slice_range reads base (base + k)) same

-- ---- no frame

-- a flash smaller than the head of version 1 has no frame
pub small_none : (size : ℕ) (frame : Frame) → IsFrame size frame → size < 49152 → ⊥
small_none size frame (First one base room) small = omega (arith, room, small)
small_none size frame (Second two base room fits) small = omega (arith, base, room, small)

pub none_some : (f : Frame) → ◌≡◌ {A = Option Frame} None (Some f) → ⊥
none_some f e = cc

pub some_same : (a b : Frame) → ◌≡◌ {A = Option Frame} (Some a) (Some b) → a ≡ b
some_same a b e = cc

module _ (size : ℕ) (reads : List ℕ) (long : length reads ≡ size) (large : 49152 ≤ size) where
  pub untold_bad : None ≡ frame_told reads → IsBad size reads
  untold_bad none = record {
    whole = omega (arith, long, large);
    gate = inr (untold_open reads (sym none));
    none = λ layout key frame c. none_some frame (none ∙ c.told);
  }

  -- a frame that is not allowed on the flash
  module _ (frame : Frame) (told : frame_told reads ≡ Some frame) (misplaced : IsFrame size frame → ⊥) where
    root_open : IsOpen reads ROOT_GATE
    root_open = ⊎_elim (λ opened. opened) (λ closed. absurd (misplaced (first closed))) (cases_eq (get_or reads 45056 0) 0xA5)
      where
        first : (IsOpen reads ROOT_GATE → ⊥) → IsFrame size frame
        first closed = subst (IsFrame size) (some_same VERSION_1 frame (sym (told_closed reads closed) ∙ told)) (version_1 size large)

    pub misplaced_bad : IsBad size reads
    misplaced_bad = record {
      whole = omega (arith, long, large);
      gate = inr root_open;
      none = λ layout key other c. misplaced (subst (IsFrame size) (some_same other frame (sym c.told ∙ told)) c.placed);
    }

-- ---- the page of a frame

module _ (size : ℕ) (frame : Frame) (is : IsFrame size frame) (reads room : List ℕ) (long : length reads ≡ size) (told : frame_told reads ≡ Some frame)
    (read : room ≡ slice_range reads frame.base (frame.base + page_bytes frame)) where
  page_same : room ≡ config_page_of frame (head_of frame reads)
  page_same = read ∙ sym (page_there size frame (facts size frame is) reads)

  gate_read : get_or room 0 0 ≡ get_or reads frame.base 0
  gate_read = first_read reads room frame.base (page_bytes frame) (omega arith) read

  pub closed_blank : frame.version ≡ 1 → get_or room 0 0 ≢ 0xA5 → IsBlank reads
  closed_blank one closed =
      let first : frame.base ≡ 0 = ap (λ (f : Frame). f.base) (is_first size frame is one) in
      inr (λ opens. closed (gate_read ∙ ap (λ (k : ℕ). get_or reads k 0) first ∙ opens), first_closed reads frame told one)

  pub configured : (layout : List Entry) (key : Key) → AreTyped layout key → IsConfigPage frame size room layout key → IsConfigured size reads layout key frame
  configured layout key typed page = record {
    placed = is;
    told = told;
    whole = omega (arith, long, (facts size frame is).inside);
    typed = typed;
    page = subst (λ (l : List ℕ). IsConfigPage frame size l layout key) page_same page;
  }

  pub allowed : (layout : List Entry) (key : Key) → AreTyped layout key → IsConfigPage frame size room layout key → IsAllowed frame size layout key
  allowed layout key typed page = record {
    frame_is = is;
    whole = omega (arith, (facts size frame is).inside);
    layout_is = page.allowed;
    key_is = page.sound;
    typed = typed;
  }

  -- a gate is open, but there is no valid page
  pub bad : HasOpenGate reads → ((layout : List Entry) (key : Key) → AreTyped layout key → IsConfigPage frame size room layout key → ⊥) → IsBad size reads
  bad opened none = record {
    whole = omega (arith, long, has_room size frame is);
    gate = opened;
    none = λ layout key other c.
        let same : other ≡ frame = some_same other frame (sym c.told ∙ told) in
        let page = subst (λ (f : Frame). IsConfigPage f size (config_page_of f (head_of f reads)) layout key) same c.page in
        none layout key c.typed (subst (λ (l : List ℕ). IsConfigPage frame size l layout key) (sym page_same) page);
  }

  gate_by : IsFrame size frame → (frame.version ≡ 1 → get_or room 0 0 ≡ 0xA5) → HasOpenGate reads
  gate_by (First one base fits) opened = inl (ap (λ (k : ℕ). get_or reads k 0) (sym base) ∙ sym gate_read ∙ opened one)
  gate_by (Second two base fits low) opened = inr (second_open reads frame told two)

  -- for version 1 the page's gate was read, and version 2 is given by an open root
  pub open_gate : (frame.version ≡ 1 → get_or room 0 0 ≡ 0xA5) → HasOpenGate reads
  open_gate = gate_by is
