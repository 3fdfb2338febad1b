-- The images that a power loss leaves while a flash is formatted.
use Rattle.std.proofs.Common.{◌≡◌, ◌≢◌, inl, inr, ⊎_elim, Bool, true, false, refl, zero, suc, ℕ, ◌+◌, ◌<◌, ◌≤◌, List, [], ◌∷◌, length, get_or, take, drop, replicate, Some, sym, ap, subst, ◌∙◌, length-drop, get_or-take, arith}
use Rattle.std.specs.List.{slice_range, All}
use Rattle.std.specs.Prelude.{nat_le, cond}
use Rattle.std.proofs.lemmas.Bool.{cases_eq, cases_lt}
use Rattle.std.proofs.lemmas.List.{ext_get_or, get_or-drop, get_or-replicate, length-take-le}
use Rattle.std.proofs.lemmas.List.Edits.{get_or-between, length-between}
use Rattle.std.proofs.lemmas.List.Elements.{All-cons, All-get_or, All-from_get_or, All-head, All-nil, All-tail, All-weaker}
use Rattle.suit_edge.specs.Gate.{IsOpen}
use Rattle.suit_edge.specs.Ranges.{Outside}
use Rattle.suit_edge.specs.Flash.{Flash, Now, Passes, ImageOn, Keeps, IsSame, IsFlash}
use Rattle.suit_edge.specs.FlashLaws.{weakens}
use Rattle.flash_layout.specs.declared.frame.Frame.{Frame}
use Rattle.flash_layout.specs.declared.frame.TheConstants.{CONFIG_GATE, ROOT_BYTES, ROOT_GATE}
use Rattle.flash_layout.specs.declared.key.Key.{Key}
use Rattle.flash_layout.specs.declared.layout.Entry.{Entry}
use Rattle.flash_layout.specs.declared.layout.Memory.{Memory}
use Rattle.flash_layout.specs.declared.layout.Memory.TheVariants as memory
use Rattle.flash_layout.specs.ConfigPage.{config_page}
use Rattle.flash_layout.specs.Configs.{AreGatesClosed, IsBlank}
use Rattle.flash_layout.specs.Formats.{AreAllClearAt, HasOpenGate, IsBlankOrFormatted, IsClearAt, IsFormatted, IsPrepared, OutsideAllLengths, OutsideLengths, OutsidePrepared}
use Rattle.flash_layout.specs.FrameFacts.{FrameFacts, by_second, byte_there, facts, page_there}
use Rattle.flash_layout.specs.FirstFrame.{has_room, second_base}
use Rattle.flash_layout.specs.Frames.{IsFrame, checkpoint_place, frame_size, head_of, head_size, journal_place, page_bytes, record_from, record_place}
use Rattle.flash_layout.specs.Layouts.{AreTyped, IsBehindHead, IsEntry, IsKey, IsLayout, IsOfMemory, slot_size, slot_starts, starts_in}
use Rattle.flash_layout.specs.Roots.{frame_told}
use Rattle.flash_layout.specs.Slots.{content_of, slot_at, slot_bytes, slot_content, stored_length, AreEmpty}

-- ---- gates

blank_closed : (image : List ℕ) → 49152 ≤ length image → IsBlank image → AreGatesClosed image
blank_closed image large blank = ⊎_elim (λ small. absurd (omega (arith, small, large))) (λ closed. closed) blank

-- ---- slots

-- each slot is after the head of version 1, and inside the flash
pub behind : (frame : Frame) (size : ℕ) (e : Entry) → IsEntry frame size e → All (λ p. IsBehindHead frame size p (slot_size e)) (slot_starts e)
behind frame size e is = of_memory e.memory refl is.held
  where
    of_memory : (m : Memory) → e.memory ≡ m → IsOfMemory frame size e m → All (λ p. IsBehindHead frame size p (slot_size e)) (slot_starts e)
    of_memory memory.Flash same held = held.4
    of_memory memory.Ram same held =
        subst (λ (m : Memory). All (λ p. IsBehindHead frame size p (slot_size e)) (starts_in m (take e.slots e.starts))) (sym same) (All-nil (λ p. IsBehindHead frame size p (slot_size e)))

none : (b : Bool) → cond {A = List ℕ} b [] [] ≡ []
none true = refl
none false = refl

empty_at : (image : List ℕ) (e : Entry) (p : ℕ) → p + (8 + e.capacity) ≤ length image → IsClearAt image p → slot_content (slot_at e p) image ≡ []
unfolding content_of stored_length
empty_at image e p fits clear =
    let bytes = slot_bytes (slot_at e p) image in
    let long : length bytes ≡ 8 + e.capacity = length-between image p (p + (8 + e.capacity)) fits ∙ (omega arith) in
    let zeros : take 8 bytes ≡ replicate 8 0 = ext_get_or 0 (take 8 bytes) (replicate 8 0) (length-take-le 8 bytes (omega (arith, long)))
    (λ i lt. let low : i < 8 = omega (arith, lt, length-take-le 8 bytes (omega (arith, long))) in
    get_or-take 8 bytes i 0 low ∙ get_or-between image p (p + (8 + e.capacity)) i 0 (omega (arith, low)) ∙ clear (p + i) (omega arith) (omega (arith, low)) ∙ sym (get_or-replicate 8 i 0 0 low)) in
    rw zeros (none (nat_le 0 e.capacity))

-- a byte of a slot's length is after the first bytes, and not in what is at the base
length_apart : (frame : Frame) (size p n i : ℕ) → 8 ≤ n → IsBehindHead frame size p n → p ≤ i → i < p + 8 → Outside frame.base (frame_size frame) i
length_apart frame size p n i long lies low high = ⊎_elim
    (λ before. let q = lies.2.1 (omega (arith, before)) in inl (omega (arith, q, high, long)))
    (λ from. let q = lies.2.0 from in inr (omega (arith, q, low)))
    (cases_lt p frame.base)

-- the lengths of slots that were cleared stay clear if no place changes where slots may be
module _ (frame : Frame) (old image : List ℕ) (size : ℕ) (long : length image ≡ size) (same : (i : ℕ) → 49152 ≤ i → Outside frame.base (frame_size frame) i → get_or image i 0 ≡ get_or old i 0) where
  one_empty : (e : Entry) → All (λ p. IsBehindHead frame size p (slot_size e)) (slot_starts e) → All (IsClearAt old) (slot_starts e) → All (λ p. slot_content (slot_at e p) image ≡ []) (slot_starts e)
  one_empty e lies clear =
      All-from_get_or (λ p. slot_content (slot_at e p) image ≡ []) (slot_starts e) 0
      (λ k lt.
      let p = get_or (slot_starts e) k 0 in
      let there = All-get_or (λ (q : ℕ). IsBehindHead frame size q (slot_size e)) (slot_starts e) k 0 lt lies in
      let zero = All-get_or (IsClearAt old) (slot_starts e) k 0 lt clear in
      empty_at image e p (omega (arith, there.1, long))
      (λ i low high. same i (omega (arith, there.0, low)) (length_apart frame size p (slot_size e) i (omega arith) there low high) ∙ zero i low high))

  all_empty : (layout : List Entry) → All (IsEntry frame size) layout → AreAllClearAt layout old → AreEmpty layout image
  all_empty [] each clear = All-nil (λ (e : Entry). All (λ p. slot_content (slot_at e p) image ≡ []) (slot_starts e))
  all_empty (e ∷ layout) each clear = All-cons (λ (x : Entry). All (λ p. slot_content (slot_at x p) image ≡ []) (slot_starts x)) e layout
      (one_empty e (behind frame size e (All-head (IsEntry frame size) e layout each)) (All-head (λ (x : Entry). All (IsClearAt old) (slot_starts x)) e layout clear))
      (all_empty layout (All-tail (IsEntry frame size) e layout each) (All-tail (λ (x : Entry). All (IsClearAt old) (slot_starts x)) e layout clear))

-- the first bytes are in no slot
pub front_apart : (frame : Frame) (size : ℕ) (layout : List Entry) → All (IsEntry frame size) layout → (i : ℕ) → i < 49152 → OutsideAllLengths layout i
front_apart frame size [] each i low = All-nil (λ (e : Entry). OutsideLengths (slot_starts e) i)
front_apart frame size (e ∷ layout) each i low = All-cons (λ (x : Entry). OutsideLengths (slot_starts x) i) e layout
    (All-weaker (λ p. IsBehindHead frame size p (slot_size e)) (λ p. Outside p 8 i) (λ p lies. inl (omega (arith, lies.0, low))) (slot_starts e) (behind frame size e (All-head (IsEntry frame size) e layout each)))
    (front_apart frame size layout (All-tail (IsEntry frame size) e layout each) i low)

-- ---- pages

-- the bytes of a page, with its gate before them
pub page_whole : (image page : List ℕ) (b n : ℕ) → 1 ≤ n → b + n ≤ length image → length page ≡ n → get_or image b 0 ≡ get_or page 0 0 → slice_range image (b + 1) (b + 1 + length (drop 1 page)) ≡ drop 1 page
    → slice_range image b (b + n) ≡ page
page_whole image page b n some fits long first rest =
    let size : length (slice_range image b (b + n)) ≡ n = length-between image b (b + n) fits ∙ omega arith in
    ext_get_or 0 (slice_range image b (b + n)) page (size ∙ sym long) (λ i lt. get_or-between image b (b + n) i 0 (omega (arith, lt, size)) ∙ each i (omega (arith, lt, size)))
  where
    each : (i : ℕ) → i < n → get_or image (b + i) 0 ≡ get_or page i 0
    each zero lt = let at : b + 0 ≡ b = omega arith in ap (λ (k : ℕ). get_or image k 0) at ∙ first
    each (suc i) lt =
        let inside : b + 1 + i < b + 1 + length (drop 1 page) = omega (arith, lt, length-drop 1 page, long, some) in
        let at : b + 1 + i ≡ b + suc i = omega arith in
        let next : 1 + i ≡ suc i = omega arith in
        subst (λ (k : ℕ). get_or image k 0 ≡ get_or page (suc i) 0) at
        (sym (get_or-between image (b + 1) (b + 1 + length (drop 1 page)) i 0 inside) ∙ ap (λ (l : List ℕ). get_or l i 0) rest ∙ get_or-drop 1 page i 0 ∙ ap (λ (k : ℕ). get_or page k 0) next)

-- ---- a formatted image

module _ (size : ℕ) (frame : Frame) (is : IsFrame size frame) (layout : List Entry) (key : Key) (allowed : IsLayout frame size layout) (sound : IsKey key) (typed : AreTyped layout key) where
  place : FrameFacts size frame
  place = facts size frame is

  -- everything but the page and the root was prepared, and both are written
  module _ (old image : List ℕ) (long : length image ≡ size) (ready : IsPrepared frame layout old) (told : frame_told image ≡ Some frame)
      (page : slice_range image frame.base (frame.base + page_bytes frame) ≡ config_page frame layout key)
      (same : (i : ℕ) → Outside frame.base (page_bytes frame) i → Outside ROOT_GATE ROOT_BYTES i → get_or image i 0 ≡ get_or old i 0) where
    gate_same : (w : ℕ) → w < 2 → get_or image (record_place frame w) 0 ≡ get_or old (record_place frame w) 0
    gate_same w two = same (record_place frame w) (inr (omega (arith, place.page))) (⊎_elim (λ low. inl low) (λ high. ⊎_elim (λ in_root. absurd (clash high in_root)) (λ past. inr past) (cases_lt (record_place frame w) 45066)) (cases_lt (record_place frame w) 45056))
      where
        clash : 45056 ≤ record_place frame w → record_place frame w < 45066 → ⊥
        clash high low = ⊎_elim (λ before. omega (arith, before, two)) (λ behind. omega (arith, behind, two)) (place.root (record_place frame w) (high, low))

    closed : (w : ℕ) → w < 2 → get_or old (record_place frame w) 0 ≡ 0 → get_or (head_of frame image) (record_from frame w) 0 ≡ 0xA5 → ⊥
    closed w two shut opened = omega (arith, opened, byte_there size frame place image (record_from frame w) (omega (arith, two, place.head)), gate_same w two, shut)

    work_closed : (i : ℕ) → frame.version ≡ 2 → frame.base + 147456 ≤ i → get_or old i 0 ≡ 0 → get_or image i 0 ≡ 0xA5 → ⊥
    work_closed i two far shut opened =
        omega (arith, opened, shut, same i (inr (omega (arith, far, place.page, place.head, by_second frame 49152 147456 two))) (inr (omega (arith, far, second_base size frame is two))))

    pub formed : IsFormatted frame size layout key image
    formed = record {
      config = record {
        placed = is;
        told = told;
        whole = omega (arith, long, place.inside);
        typed = typed;
        page = record { allowed = allowed; sound = sound; is = page_there size frame place image ∙ page };
      };
      no_record = (closed 0 (omega arith) ready.closed.0, closed 1 (omega arith) ready.closed.1);
      no_work = λ two. (work_closed (journal_place frame) two (omega arith) (ready.work two).0, work_closed (checkpoint_place frame) two (omega arith) (ready.work two).1);
      empty = all_empty frame old image size long (λ i behind out. same i (within_frame i out) (inr (omega (arith, behind)))) layout allowed.each ready.clear;
    }
      where
        within_frame : (i : ℕ) → Outside frame.base (frame_size frame) i → Outside frame.base (page_bytes frame) i
        within_frame i out = ⊎_elim (λ low. inl low) (λ high. inr (omega (arith, high, place.page, place.head, place.whole))) out

  -- ---- at any moment

  module _ (start : Flash) (law : IsFlash start size) where
    abbrev pub P : List ℕ → Type 0
    P = IsBlankOrFormatted frame size layout key start

    -- both gates are closed in each image of a blank flash
    pub now_closed : ((before : List ℕ) → Now start before → IsBlank before) → (before : List ℕ) → Now start before → AreGatesClosed before
    now_closed blank before now = blank_closed before (omega (arith, law.sized start.clock before (omega arith) now, has_room size frame is)) (blank before now)

    -- while gates are read
    pub reading : (b : Flash) → IsSame start b → Passes start b P
    reading b same = weakens start b (Now start) P (λ image now blank. inl (blank image now)) same.images

    -- while no gate is written that says whether the flash is blank
    module _ (K : ℕ → Type 0) (first : K CONFIG_GATE) (root : K ROOT_GATE) where
      pub still_closed : ((before : List ℕ) → Now start before → IsBlank before) → (image : List ℕ) → ImageOn K start image → AreGatesClosed image
      still_closed blank image on =
          let was = now_closed blank on.from on.was in
          (λ opened. was.0 (sym (on.same.same 0 first) ∙ opened), λ opened. was.1 (sym (on.same.same 45056 root) ∙ opened))

      pub keeping : (b : Flash) → Keeps K start b → Passes start b P
      keeping b kept = weakens start b (ImageOn K start) P (λ image on blank. inl (inr (still_closed blank image on))) kept.images
