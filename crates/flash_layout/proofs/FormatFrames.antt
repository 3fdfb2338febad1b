-- What formatting leaves on a flash with that frame.
use Rattle.std.proofs.Common.{◌≡◌, ◌<◌, inl, inr, ⊎_elim, ℕ, ◌+◌, ◌≤◌, List, length, length-drop, get_or, drop, Some, sym, ap, subst, ◌∙◌, arith}
use Rattle.std.specs.List.{slice_range}
use Rattle.std.proofs.lemmas.Bool.{cases_eq}
use Rattle.suit_edge.specs.Ranges.{Outside, OutsideEach, SameOn}
use Rattle.suit_edge.specs.RangeLaws.{same_range}
use Rattle.suit_edge.specs.Flash.{Flash, Passes, ImageOn, Keeps, IsFlash, Now}
use Rattle.suit_edge.specs.FlashLaws.{each_now, joined, weakens}
use Rattle.suit_edge.specs.Gate.{IsNewPage, IsOpen, IsOpening, IsShut, page_at}
use Rattle.flash_layout.specs.declared.frame.Frame.{Frame}
use Rattle.flash_layout.specs.declared.frame.TheConstants.{CONFIG_GATE, ROOT_BYTES, ROOT_GATE}
use Rattle.flash_layout.specs.declared.layout.Entry.{Entry}
use Rattle.flash_layout.specs.declared.key.Key.{Key}
use Rattle.flash_layout.specs.ConfigPage.{config_page}
use Rattle.flash_layout.specs.FirstFrame.{is_first, second_base}
use Rattle.flash_layout.specs.Formats.{HasNoRoot, IsBlankOrFormatted, IsFormatted, IsPrepared, OutsidePrepared}
use Rattle.flash_layout.specs.FrameFacts.{FrameFacts, behind_pages, by_first, facts}
use Rattle.flash_layout.specs.Frames.{IsFrame, page_bytes, record_place}
use Rattle.flash_layout.specs.Layouts.{AreTyped, IsKey, IsLayout}
use Rattle.flash_layout.specs.RootLaws.{told_closed}
use Rattle.flash_layout.specs.Roots.{frame_by}
use Rattle.flash_layout.proofs.BlankKept.{formed, front_apart, keeping, now_closed, page_whole, still_closed}
use Rattle.flash_layout.proofs.Laws.{page_long}
use Rattle.flash_layout.proofs.OneAnswers.{opens}

-- the page and its gate are the bytes that are read
pub page_fewer : (frame : Frame) (body : List ℕ) → length body + 1 ≡ page_bytes frame → (i : ℕ) → Outside frame.base (page_bytes frame) i → OutsideEach (page_at frame.base (frame.base + 1) (length body)) i
page_fewer frame body long i out = ⊎_elim
    (λ low. (inl low, (inl (omega (arith, low)), tt)))
    (λ high. (inr (omega (arith, high)), (inr (omega (arith, high, long)), tt)))
    out

-- the same for the root and its gate
pub root_fewer : (body : List ℕ) → length body + 1 ≡ 10 → (i : ℕ) → Outside ROOT_GATE ROOT_BYTES i → OutsideEach (page_at ROOT_GATE (ROOT_GATE + 1) (length body)) i
root_fewer body long i out = ⊎_elim
    (λ low. (inl low, (inl (omega (arith, low)), tt)))
    (λ high. (inr (omega (arith, high)), (inr (omega (arith, high, long)), tt)))
    out

module _ (size : ℕ) (frame : Frame) (is : IsFrame size frame) (layout : List Entry) (key : Key) (allowed : IsLayout frame size layout) (sound : IsKey key) (typed : AreTyped layout key) where
  place : FrameFacts size frame
  place = facts size frame is

  -- what is written first is none of the gates that say whether the flash is blank
  front_gate : (i : ℕ) → i < 49152 → Outside (record_place frame 0) (behind_pages frame) i → OutsidePrepared frame layout i
  front_gate i low out = (
    ⊎_elim (λ before. (inl before, inl (omega (arith, before)))) (λ past. (inr (omega (arith, past)), inr (omega (arith, past)))) out,
    λ two. let base = second_base size frame is two in (inl (omega (arith, base, low)), inl (omega (arith, base, low))),
    front_apart frame size layout allowed.each i low,
  )

  pub config_gate : OutsidePrepared frame layout CONFIG_GATE
  config_gate = front_gate 0 (omega arith) place.gate

  pub root_gate : OutsidePrepared frame layout ROOT_GATE
  root_gate = front_gate 45056 (omega arith) (place.root 45056 (omega arith, omega arith))

  -- ---- what is prepared and then opened

  module _ (start b c : Flash) (law : IsFlash start size) (law_b : IsFlash b size) (kept : Keeps (OutsidePrepared frame layout) start b) where
    pub prepared : Passes start b (IsBlankOrFormatted frame size layout key start)
    prepared = keeping size frame is layout key allowed sound typed start law (OutsidePrepared frame layout) config_gate root_gate b kept

    pub onward : Passes b c (IsBlankOrFormatted frame size layout key b) → Passes start c (IsBlankOrFormatted frame size layout key start)
    onward run = joined start b c (IsBlankOrFormatted frame size layout key start) prepared
        (weakens b c (IsBlankOrFormatted frame size layout key b) (IsBlankOrFormatted frame size layout key start) (λ image o blank.
        o (λ before now. inr (still_closed size frame is layout key allowed sound typed start law (OutsidePrepared frame layout) config_gate root_gate blank before (each_now start b size (ImageOn (OutsidePrepared frame layout) start) law_b kept.images before now)))) run)

  abbrev pub page : List ℕ
  page = config_page frame layout key

  pub page_is_long : length page ≡ page_bytes frame
  page_is_long = page_long frame size layout key typed allowed

  pub page_fits : frame.base + page_bytes frame ≤ size
  page_fits = omega (arith, place.inside, place.page, place.head)

  -- ---- version 1: the page is opened

  module _ (one : frame.version ≡ 1) (body : List ℕ) (body_is : body ≡ drop 1 page) where
    first : frame.base ≡ 0
    first = ap (λ (f : Frame). f.base) (is_first size frame is one)

    body_long : length body + 1 ≡ page_bytes frame
    body_long = omega (arith, ap length body_is, length-drop 1 page, page_is_long)

    pub first_formed : (old image : List ℕ) → length image ≡ size → IsPrepared frame layout old → HasNoRoot image → IsNewPage frame.base (frame.base + 1) body old image → get_or image frame.base 0 ≡ 0xA5
        → IsFormatted frame size layout key image
    first_formed old image fits ready closed new opened =
        formed size frame is layout key allowed sound typed old image fits ready (told_closed image closed ∙ ap (λ (f : Frame). Some f) (sym (is_first size frame is one)))
        (page_whole image page frame.base (page_bytes frame) (omega (arith, body_long)) (omega (arith, fits, page_fits)) page_is_long (opened ∙ sym (opens frame layout key))
        (subst (λ (l : List ℕ). slice_range image (frame.base + 1) (frame.base + 1 + length l) ≡ l) body_is new.bytes)) (λ i out root. new.rest.same i (page_fewer frame body body_long i out))

    pub root_apart : OutsideEach (page_at frame.base (frame.base + 1) (length body)) ROOT_GATE
    root_apart = page_fewer frame body body_long 45056 (inr (omega (arith, first, place.page, by_first frame 4096 8192 one)))

    module _ (start c : Flash) (law : IsFlash start size) (ready : IsPrepared frame layout start.reads) where
      pub first_opening : Passes start c (IsOpening frame.base (frame.base + 1) body start) → Passes start c (IsBlankOrFormatted frame size layout key start)
      first_opening run = weakens start c (IsOpening frame.base (frame.base + 1) body start) (IsBlankOrFormatted frame size layout key start) (λ image o blank.
          let was = now_closed size frame is layout key allowed sound typed start law blank in
          let no_root : HasNoRoot image = λ opened. (was o.apart.from o.apart.was).1 (sym (o.apart.same.same 45056 root_apart) ∙ opened) in
          let shut : IsShut frame.base start = λ before now opened. (was before now).0 (ap (λ (k : ℕ). get_or before k 0) (sym first) ∙ opened) in
          let fits = o.apart.same.size ∙ law.sized start.clock o.apart.from (omega arith) o.apart.was in
          ⊎_elim
          (λ opened. inr (first_formed start.reads image fits ready no_root (o.opens shut opened) opened))
          (λ closed. inl (inr (λ opened. closed (ap (λ (k : ℕ). get_or image k 0) first ∙ opened), no_root)))
          (cases_eq (get_or image frame.base 0) 0xA5)) run

  -- ---- version 2: the page is written, and then the root is opened

  abbrev pub K : ℕ → Type 0
  K = Outside frame.base (page_bytes frame)

  module _ (two : frame.version ≡ 2) where
    behind : 49152 ≤ frame.base
    behind = second_base size frame is two

    first_out : K CONFIG_GATE
    first_out = inl (omega (arith, behind))

    root_out : K ROOT_GATE
    root_out = inl (omega (arith, behind))

    -- while the page is written
    pub page_opening : (start b : Flash) → IsFlash start size → Keeps K start b → Passes start b (IsBlankOrFormatted frame size layout key start)
    page_opening start b law kept = keeping size frame is layout key allowed sound typed start law K first_out root_out b kept

  -- and while the root is
  module _ (two : frame.version ≡ 2) (root body : List ℕ) (told : frame_by root ≡ Some frame) (root_long : length root ≡ 10) (root_opened : get_or root 0 0 ≡ 0xA5) (body_is : body ≡ drop 1 root) where
    body_short : length body + 1 ≡ 10
    body_short = omega (arith, ap length body_is, length-drop 1 root, root_long)

    module _ (old once : List ℕ) (once_long : length once ≡ size) (kept : SameOn (Outside frame.base (page_bytes frame)) old once) (page_is : slice_range once frame.base (frame.base + page_bytes frame) ≡ page) (ready : IsPrepared frame layout old) where
      pub second_formed : (image : List ℕ) → length image ≡ size → IsNewPage ROOT_GATE (ROOT_GATE + 1) body once image → get_or image 45056 0 ≡ 0xA5 → IsFormatted frame size layout key image
      second_formed image fits new opened =
          formed size frame is layout key allowed sound typed old image fits ready
          (ap frame_by (page_whole image root 45056 10 (omega arith) (omega (arith, fits, behind two, place.inside)) root_long (opened ∙ sym root_opened)
          (subst (λ (l : List ℕ). slice_range image 45057 (45057 + length l) ≡ l) body_is new.bytes)) ∙ told)
          (same_range image once frame.base (frame.base + page_bytes frame) (fits ∙ sym once_long) (omega (arith, fits, page_fits)) (λ i low high. new.rest.same i (root_fewer body body_short i (inr (omega (arith, low, behind two))))) ∙ page_is)
          (λ i out root. new.rest.same i (root_fewer body body_short i root) ∙ kept.same i out)

    module _ (start b c : Flash) (law : IsFlash start size) (law_b : IsFlash b size) (ready : IsPrepared frame layout start.reads) (kept : Keeps K start b)
        (page_is : slice_range b.reads frame.base (frame.base + page_bytes frame) ≡ page) where
      pub second_opening : Passes b c (IsOpening ROOT_GATE (ROOT_GATE + 1) body b) → Passes start c (IsBlankOrFormatted frame size layout key start)
      second_opening run = joined start b c (IsBlankOrFormatted frame size layout key start) (page_opening two start b law kept) (weakens b c (IsOpening ROOT_GATE (ROOT_GATE + 1) body b) (IsBlankOrFormatted frame size layout key start) (λ image o blank.
          let closed = λ (before : List ℕ) (now : Now b before). still_closed size frame is layout key allowed sound typed start law K (first_out two) (root_out two) blank before (each_now start b size (ImageOn K start) law_b kept.images before now) in
          let no_first : IsOpen image CONFIG_GATE → ⊥ = λ opened. (closed o.apart.from o.apart.was).0 (sym (o.apart.same.same 0 (root_fewer body body_short 0 (inl (omega arith)))) ∙ opened) in
          let fits = o.apart.same.size ∙ law_b.sized b.clock o.apart.from (omega arith) o.apart.was in
          ⊎_elim
          (λ opened. inr (second_formed start.reads b.reads law_b.fits kept.reads page_is ready image fits (o.opens (λ before now. (closed before now).1) opened) opened))
          (λ shut. inl (inr (no_first, shut)))
          (cases_eq (get_or image 45056 0) 0xA5)) run)
