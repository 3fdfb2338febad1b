-- A swap: where its bytes are, what its page records, and what an image holds while it is carried out.
use Rattle.std.proofs.Common.{◌≡◌, inl, inr, ⊎_elim, ◌⊎◌, ◌<◌, ◌≤◌, ℕ, ◌+◌, ◌-◌, ◌^◌, ◌==◌, true, false, List, [], ◌++◌, length, get_or, take, replicate, refl, sym, ◌∙◌, ap, subst, append_assoc, arith}
use Rattle.std.specs.Int.{w64, from_be_bytes, to_be_bytes}
use Rattle.std.specs.List.{slice_range}
use Rattle.std.proofs.lemmas.Bool.{cases_Bool, cases_lt, eqb-true}
use Rattle.std.proofs.lemmas.List.{append-nil, get_or-replicate, length-append, take_at, take-take}
use Rattle.std.proofs.lemmas.Nat.{from_be_bytes-to_be_bytes_8}
use Rattle.std.proofs.lemmas.List.Edits.{get_or-between}
use Rattle.suit_edge.specs.declared.page.TheConstants.{OPEN}
use Rattle.suit_edge.specs.Flash.{Flash, Passes, ImageOn, Keeps, IsSettled, IsFlash}
use Rattle.suit_edge.specs.FlashLaws.{each_read, joined, keeps_fewer, weakens}
use Rattle.suit_edge.specs.Gate.{IsOpen, IsShut, IsOpening, IsNewPage, page_at}
use Rattle.suit_edge.specs.Ranges.{Outside, OutsideEach, SameOn, written}
use Rattle.suit_edge.specs.RangeLaws.{length-written, same_range, written_outside, written_range}
use Rattle.flash_layout.specs.declared.slot.Slot.{Slot}
use Rattle.flash_layout.specs.ConfigPage.{number_bytes}
use Rattle.flash_layout.specs.Layouts.{AreClear}
use Rattle.flash_layout.specs.PageReading.{number_at}
use Rattle.flash_layout.specs.Slots.{LiesWithin, content_of, extent_of, slot_content}
use Rattle.flash_layout.proofs.PageFields.{field, number_read, number_long}
use Rattle.flash_slots.proofs.Stored.{content_at}
use Rattle.flash_slots.proofs.Whole.{whole_content}
use Rattle.swap_journal.specs.declared.contents.Exchange.{Exchange}
use Rattle.swap_journal.specs.declared.progress.Entry.TheVariants.{First}
use Rattle.swap_journal.specs.declared.swap.Journal.{Journal}
use Rattle.swap_journal.specs.declared.swap.Swap.{Swap}
use Rattle.swap_journal.specs.Exchanges.{FitsDisk, areas, first_recovered, second_recovered, longest}
use Rattle.swap_journal.specs.Progress.{GivesProgress, IsPageApart, RecoversNow, Stands, entries, progress_at}
use Rattle.swap_journal.specs.Progress.{number_at as entry_number}
use Rattle.swap_journal.specs.Swaps.{ArePlaced, GoesOn, HasRoom, HoldsContents, IsCompleted, IsExchanged, IsJournal, IsNoted, IsStored, IsTyped, IsUntouched, IsUntouchedOrExchanged, exchange_of, length_fields, swap_at, swap_body, swap_fields, swap_of, touched}
use Rattle.swap_journal.proofs.Copies.{copy_law}
use Rattle.swap_journal.proofs.Turns.{both_pass, number_same, same_areas, settled_on, shut_number}

-- ---- the page's fields

same_swap : (a b : Swap) → a.tag ≡ b.tag → a.first.start ≡ b.first.start → a.first.capacity ≡ b.first.capacity → a.second.start ≡ b.second.start → a.second.capacity ≡ b.second.capacity
    → a.first_length ≡ b.first_length → a.second_length ≡ b.second_length → a ≡ b
same_swap a b p q r s t u v =
    λ i. record { tag = p i; first = record { start = q i; capacity = r i }; second = record { start = s i; capacity = t i }; first_length = u i; second_length = v i }

module _ (a b c d e f g : List ℕ) (la : length a ≡ 8) (lb : length b ≡ 8) (lc : length c ≡ 8) (ld : length d ≡ 8) (le : length e ≡ 8) (lf : length f ≡ 8) (lg : length g ≡ 8) where
  abbrev whole : List ℕ
  whole = a ++ ((b ++ c) ++ ((d ++ e) ++ (f ++ g)))

  record EightEach : Type 0 where
    pub a_is : slice_range whole 0 8 ≡ a
    pub b_is : slice_range whole 8 16 ≡ b
    pub c_is : slice_range whole 16 24 ≡ c
    pub d_is : slice_range whole 24 32 ≡ d
    pub e_is : slice_range whole 32 40 ≡ e
    pub f_is : slice_range whole 40 48 ≡ f
    pub g_is : slice_range whole 48 56 ≡ g
    pub long : length whole ≡ 56

  eight_each : EightEach
  eight_each =
      let h2 = a ++ b in
      let h3 = h2 ++ c in
      let h4 = h3 ++ d in
      let h5 = h4 ++ e in
      let h6 = h5 ++ f in
      let n2 : length h2 ≡ 16 = omega (arith, la, lb, length-append a b) in
      let n3 : length h3 ≡ 24 = omega (arith, n2, lc, length-append h2 c) in
      let n4 : length h4 ≡ 32 = omega (arith, n3, ld, length-append h3 d) in
      let n5 : length h5 ≡ 40 = omega (arith, n4, le, length-append h4 e) in
      let n6 : length h6 ≡ 48 = omega (arith, n5, lf, length-append h5 f) in
      let all : whole ≡ h6 ++ g = simp append_assoc in
      record {
        a_is = field [] a ((b ++ c) ++ ((d ++ e) ++ (f ++ g))) whole 0 8 refl refl la;
        b_is = field a b (c ++ ((d ++ e) ++ (f ++ g))) whole 8 16 (simp append_assoc) la lb;
        c_is = field h2 c ((d ++ e) ++ (f ++ g)) whole 16 24 (simp append_assoc) n2 lc;
        d_is = field h3 d (e ++ (f ++ g)) whole 24 32 (simp append_assoc) n3 ld;
        e_is = field h4 e (f ++ g) whole 32 40 (simp append_assoc) n4 le;
        f_is = field h5 f g whole 40 48 (simp append_assoc) n5 lf;
        g_is = field h6 g [] whole 48 56 (all ∙ ap (λ (l : List ℕ). h6 ++ l) (sym (append-nil g))) n6 lg;
        long = ap length all ∙ omega (arith, n6, lg, length-append h6 g);
      }

fields_each : (s : Swap) → EightEach (number_bytes s.tag) (number_bytes s.first.start) (number_bytes s.first.capacity) (number_bytes s.second.start) (number_bytes s.second.capacity) (number_bytes s.first_length) (number_bytes s.second_length)
    (number_long s.tag) (number_long s.first.start) (number_long s.first.capacity) (number_long s.second.start) (number_long s.second.capacity) (number_long s.first_length) (number_long s.second_length)
fields_each s = eight_each (number_bytes s.tag) (number_bytes s.first.start) (number_bytes s.first.capacity) (number_bytes s.second.start) (number_bytes s.second.capacity) (number_bytes s.first_length) (number_bytes s.second_length)
    (number_long s.tag) (number_long s.first.start) (number_long s.first.capacity) (number_long s.second.start) (number_long s.second.capacity) (number_long s.first_length) (number_long s.second_length)

fields_long : (s : Swap) → length (swap_fields s) ≡ 56
unfolding swap_fields
fields_long s = (fields_each s).long

-- the fields are read back
fields_read : (s : Swap) → IsTyped s → swap_of (swap_fields s) ≡ s
unfolding swap_fields
fields_read s typed =
    let f = fields_each s in
    same_swap _ s
    (ap number_at f.a_is ∙ number_read s.tag typed.tag)
    (ap number_at f.b_is ∙ number_read s.first.start typed.first.0)
    (ap number_at f.c_is ∙ number_read s.first.capacity typed.first.1)
    (ap number_at f.d_is ∙ number_read s.second.start typed.second.0)
    (ap number_at f.e_is ∙ number_read s.second.capacity typed.second.1)
    (ap number_at f.f_is ∙ number_read s.first_length typed.lengths.0)
    (ap number_at f.g_is ∙ number_read s.second_length typed.lengths.1)

module _ (s : Swap) (typed : IsTyped s) (image : List ℕ) (page : ℕ) (is : slice_range image (page + 1) (page + 89) ≡ swap_body s) where
  pub tells : swap_at image page ≡ s
  tells =
      let front : slice_range image (page + 1) (page + 57) ≡ take 56 (slice_range image (page + 1) (page + 89)) = front_of in
      ap swap_of (front ∙ ap (take 56) is ∙ take_at (swap_fields s) (replicate 32 0) 56 (fields_long s)) ∙ fields_read s typed
    where
      front_of : slice_range image (page + 1) (page + 57) ≡ take 56 (slice_range image (page + 1) (page + 89))
      front_of =
          let few : page + 57 - (page + 1) ≡ 56 = omega arith in
          let all : page + 89 - (page + 1) ≡ 88 = omega arith in
          rw (few, all) (sym (take-take 56 88 _ (omega arith)))

  zero_at : (k : ℕ) → 56 ≤ k → k < 88 → get_or image (page + 1 + k) 0 ≡ 0
  zero_at k low high =
      sym (get_or-between image (page + 1) (page + 89) k 0 (omega (arith, high))) ∙ ap (λ (l : List ℕ). get_or l k 0) is
      ∙ sym (get_or-between (swap_body s) 56 88 (k - 56) 0 (omega (arith, low, high)) ∙ ap (λ (n : ℕ). get_or (swap_body s) n 0) at)
      ∙ ap (λ (l : List ℕ). get_or l (k - 56) 0) rest ∙ none (k - 56) (omega (arith, low, high))
    where
      at : 56 + (k - 56) ≡ k
      at = omega (arith, low)

      rest : slice_range (swap_body s) 56 88 ≡ replicate 32 0
      rest = field (swap_fields s) (replicate 32 0) [] (swap_body s) 56 88 (ap (λ (l : List ℕ). swap_fields s ++ l) (sym (append-nil (replicate 32 0)))) (fields_long s) refl

      zeros : List ℕ
      zeros = replicate 32 0

      none : (n : ℕ) → n < 32 → get_or zeros n 0 ≡ 0
      none n lt = get_or-replicate 32 n 0 0 lt

  no_number : (gate : ℕ) → get_or image gate 0 ≡ 0 → entry_number image gate ≡ 0
  no_number gate zero = shut_number image gate (ap (λ (b : ℕ). b == OPEN) zero)

  none_made : (entry_number image (page + 64) ≡ 0) × (entry_number image (page + 80) ≡ 0)
  none_made = (no_number (page + 64) (place 64 63 (omega arith) ∙ zero_at 63 (omega arith) (omega arith)), no_number (page + 80) (place 80 79 (omega arith) ∙ zero_at 79 (omega arith) (omega arith)))
    where
      place : (n k : ℕ) → page + n ≡ page + 1 + k → get_or image (page + n) 0 ≡ get_or image (page + 1 + k) 0
      place n k e = ap (λ (i : ℕ). get_or image i 0) e

  pub no_progress : progress_at image page ≡ 0
  no_progress = let z = none_made in omega (arith, z.0, z.1)

  pub gives_none : GivesProgress image page First 0
  gives_none = let z = none_made in record { number = z.1; lower = omega (arith, z.0) }

-- ---- a content

-- the content of a slot whose bytes are left alone
pub content_same : (slot : Slot) (K : ℕ → Type 0) (a b : List ℕ) → SameOn K a b → LiesWithin (length a) slot → ((i : ℕ) → slot.start ≤ i → i < slot.start + extent_of slot → K i) → slot_content slot b ≡ slot_content slot a
content_same slot K a b same inside at =
    ap (content_of slot.capacity) (same_range b a slot.start (slot.start + extent_of slot) same.size (omega (arith, same.size, inside)) (λ i low high. same.same i (at i low high)))

-- ---- places

clear : (p m q n : ℕ) → AreClear p m q n → (p + m ≤ q) ⊎ (q + n ≤ p)
clear p m q n apart = ⊎_elim (λ lt. inr (apart.1 (omega (arith, lt)))) (λ le. inl (apart.0 le)) (cases_lt q p)

module _ (journal : Journal) (size : ℕ) (swap : Swap) (is : IsJournal journal size) (placed : ArePlaced journal size swap.first swap.second) (room : HasRoom swap) where
  abbrev x : Exchange
  x = exchange_of journal swap

  short_first : longest x ≤ swap.first.capacity
  short_first = omega (arith, room.first_length.0, room.second_length.0)

  short_second : longest x ≤ swap.second.capacity
  short_second = omega (arith, room.first_length.1, room.second_length.1)

  pub apart_page : IsPageApart x journal.page
  apart_page = record {
    first = ⊎_elim (λ h. inl (omega (arith, h, short_first))) (λ h. inr (omega (arith, h))) (clear swap.first.start (extent_of swap.first) journal.page 89 placed.first.page);
    second = ⊎_elim (λ h. inl (omega (arith, h, short_second))) (λ h. inr (omega (arith, h))) (clear swap.second.start (extent_of swap.second) journal.page 89 placed.second.page);
    scratch = ⊎_elim (λ h. inr h) (λ h. inl h) (clear journal.page 89 journal.scratch 4096 is.apart);
  }

  pub fits : FitsDisk x size
  fits = record { first = omega (arith, short_first, placed.first.within); second = omega (arith, short_second, placed.second.within); scratch = is.scratch }

  -- ---- what is left alone

  -- the places that contain the page, both contents and the scratch
  record Holds (K : ℕ → Type 0) : Type 0 where
    pub page : (i : ℕ) → journal.page ≤ i → i < journal.page + 89 → K i
    pub first : (i : ℕ) → i < longest x → K (x.first + i)
    pub second : (i : ℕ) → i < longest x → K (x.second + i)
    pub scratch : (i : ℕ) → i < 4096 → K (x.scratch + i)

  -- the lengths are not among them
  beside_lengths : Holds (OutsideEach (length_fields swap.first swap.second))
  beside_lengths = record {
    page = λ i low high. (
      ⊎_elim (λ h. inr (omega (arith, h, low))) (λ h. inl (omega (arith, h, high))) (clear swap.first.start (extent_of swap.first) journal.page 89 placed.first.page),
      (⊎_elim (λ h. inr (omega (arith, h, low))) (λ h. inl (omega (arith, h, high))) (clear swap.second.start (extent_of swap.second) journal.page 89 placed.second.page), tt),
    );
    first = λ i lt. (
      inr (omega arith),
      (⊎_elim (λ h. inl (omega (arith, h, lt, short_first))) (λ h. inr (omega (arith, h))) (clear swap.first.start (extent_of swap.first) swap.second.start (extent_of swap.second) placed.slots), tt),
    );
    second = λ i lt. (
      ⊎_elim (λ h. inr (omega (arith, h))) (λ h. inl (omega (arith, h, lt, short_second))) (clear swap.first.start (extent_of swap.first) swap.second.start (extent_of swap.second) placed.slots),
      (inr (omega arith), tt),
    );
    scratch = λ i lt. (
      ⊎_elim (λ h. inr (omega (arith, h))) (λ h. inl (omega (arith, h, lt))) (clear swap.first.start (extent_of swap.first) journal.scratch 4096 placed.first.scratch),
      (⊎_elim (λ h. inr (omega (arith, h))) (λ h. inl (omega (arith, h, lt))) (clear swap.second.start (extent_of swap.second) journal.scratch 4096 placed.second.scratch), tt),
    );
  }

  -- the page records the same if the bytes before its entries are left alone
  told_same : (K : ℕ → Type 0) (a image : List ℕ) → length a ≡ size → SameOn K a image → ((i : ℕ) → journal.page ≤ i → i < journal.page + 57 → K i) → IsNoted journal swap a → IsNoted journal swap image
  told_same K a image long same at noted = record {
    opened = same.same journal.page (at journal.page (omega arith) (omega arith)) ∙ noted.opened;
    tells = ap swap_of (same_range image a (journal.page + 1) (journal.page + 57) same.size (omega (arith, same.size, long, is.page)) (λ i low high. same.same i (at i (omega (arith, low)) high))) ∙ noted.tells;
  }

  unmoved : (K : ℕ → Type 0) → Holds K → (a image : List ℕ) → length a ≡ size → SameOn K a image → IsNoted journal swap a → GoesOn journal swap a image
  unmoved K holds a image long same noted =
      let low : entry_number image (journal.page + 64) ≡ entry_number a (journal.page + 64) = number_same K a image (journal.page + 64) same (omega (arith, long, is.page)) (λ i l h. holds.page i (omega (arith, l)) (omega (arith, h))) in
      let high : entry_number image (journal.page + 80) ≡ entry_number a (journal.page + 80) = number_same K a image (journal.page + 80) same (omega (arith, long, is.page)) (λ i l h. holds.page i (omega (arith, l)) (omega (arith, h))) in
      let now : progress_at image journal.page ≡ progress_at a journal.page = rw (low, high) refl in
      record {
        noted = told_same K a image long same (λ i l h. holds.page i l (omega (arith, h))) noted;
        recovers = rw now (same_areas x (progress_at a journal.page) K a image same holds.first holds.second holds.scratch);
      }

  -- ---- while the page is opened

  module _ (start : Flash) (law : IsFlash start size) (holds : HoldsContents swap start) (typed : IsTyped swap) where
    -- the page that records the swap shares no byte with the slots
    beside_page : (n : ℕ) → n ≤ 88 → (slot : Slot) → AreClear slot.start (extent_of slot) journal.page 89 → (i : ℕ) → slot.start ≤ i → i < slot.start + extent_of slot
        → OutsideEach (page_at journal.page (journal.page + 1) n) i
    beside_page n few slot apart i low high =
        ⊎_elim (λ h. (inl (omega (arith, h, high)), (inl (omega (arith, h, high)), tt))) (λ h. (inr (omega (arith, h, low)), (inr (omega (arith, h, low, few)), tt))) (clear slot.start (extent_of slot) journal.page 89 apart)

    -- each content is whole if its slot is as it was at the start
    first_whole : (image : List ℕ) → length image ≡ size → slot_content swap.first image ≡ slot_content swap.first start.reads
        → slice_range image (swap.first.start + 8) (swap.first.start + 8 + swap.first_length) ≡ slot_content swap.first start.reads
    first_whole image long same =
        sym (whole_content swap.first image swap.first_length (sym (ap length same ∙ holds.first_length)) room.first_length.0 (omega (arith, long, placed.first.within))) ∙ same

    second_whole : (image : List ℕ) → length image ≡ size → slot_content swap.second image ≡ slot_content swap.second start.reads
        → slice_range image (swap.second.start + 8) (swap.second.start + 8 + swap.second_length) ≡ slot_content swap.second start.reads
    second_whole image long same =
        sym (whole_content swap.second image swap.second_length (sym (ap length same ∙ holds.second_length)) room.second_length.1 (omega (arith, long, placed.second.within))) ∙ same

    -- an open page is the new one
    pub opened_page : (body image : List ℕ) → body ≡ swap_body swap → length body ≡ 88 → IsOpen image journal.page → IsNewPage journal.page (journal.page + 1) body start.reads image
        → IsExchanged journal swap start.reads image
    opened_page body image is_body long_body opened new =
        let long : length image ≡ size = new.rest.size ∙ law.fits in
        let end : journal.page + 1 + length body ≡ journal.page + 89 = omega (arith, long_body) in
        let bytes : slice_range image (journal.page + 1) (journal.page + 89) ≡ swap_body swap = ap (λ (to : ℕ). slice_range image (journal.page + 1) to) (sym end) ∙ new.bytes ∙ is_body in
        let none : progress_at image journal.page ≡ 0 = no_progress swap typed image journal.page bytes in
        let start_of = copy_law.none x image (subst (λ (n : ℕ). FitsDisk x n) (sym long) fits) in
        let at_first : slot_content swap.first image ≡ slot_content swap.first start.reads =
        content_same swap.first (OutsideEach (page_at journal.page (journal.page + 1) (length body))) start.reads image new.rest (omega (arith, law.fits, placed.first.within)) (beside_page (length body) (omega (arith, long_body)) swap.first placed.first.page) in
        let at_second : slot_content swap.second image ≡ slot_content swap.second start.reads =
        content_same swap.second (OutsideEach (page_at journal.page (journal.page + 1) (length body))) start.reads image new.rest (omega (arith, law.fits, placed.second.within)) (beside_page (length body) (omega (arith, long_body)) swap.second placed.second.page) in
        record {
          noted = record { opened = opened; tells = tells swap typed image journal.page bytes };
          first = ap (λ (k : ℕ). first_recovered x k image) none ∙ start_of.0 ∙ second_whole image long at_second;
          second = ap (λ (k : ℕ). second_recovered x k image) none ∙ start_of.1 ∙ first_whole image long at_first;
        }

    shut_page : (body image : List ℕ) → length body ≡ 88 → (IsOpen image journal.page → ⊥) → ImageOn (OutsideEach (page_at journal.page (journal.page + 1) (length body))) start image → IsUntouched journal swap start.reads image
    shut_page body image long_body shut on =
        let long : length on.from ≡ size = law.sized start.clock on.from (omega arith) on.was in
        record {
          shut = shut;
          first = content_same swap.first (OutsideEach (page_at journal.page (journal.page + 1) (length body))) on.from image on.same (omega (arith, long, placed.first.within))
              (beside_page (length body) (omega (arith, long_body)) swap.first placed.first.page) ∙ holds.first on.from on.was;
          second = content_same swap.second (OutsideEach (page_at journal.page (journal.page + 1) (length body))) on.from image on.same (omega (arith, long, placed.second.within))
              (beside_page (length body) (omega (arith, long_body)) swap.second placed.second.page) ∙ holds.second on.from on.was;
        }

    opening_image : (body image : List ℕ) → body ≡ swap_body swap → length body ≡ 88 → IsShut journal.page start → IsOpening journal.page (journal.page + 1) body start image → IsUntouchedOrExchanged journal swap start.reads image
    opening_image body image is_body long_body shut opening = ⊎_elim
        (λ is_open. let opened = eqb-true (get_or image journal.page 0) OPEN is_open in inr (opened_page body image is_body long_body opened (opening.opens shut opened)))
        (λ is_shut. inl (shut_page body image long_body (λ opened. not_open image opened is_shut) opening.apart))
        (cases_Bool (get_or image journal.page 0 == OPEN))
      where
        not_open : (l : List ℕ) → IsOpen l journal.page → (get_or l journal.page 0 == OPEN) ≡ false → ⊥
        not_open l opened other = let is : true ≡ false = sym (ap (λ (b : ℕ). b == OPEN) opened) ∙ other in absurd cc

    pub opening : (b : Flash) (body : List ℕ) → body ≡ swap_body swap → length body ≡ 88 → IsShut journal.page start → Passes start b (IsOpening journal.page (journal.page + 1) body start) → Passes start b (IsUntouchedOrExchanged journal swap start.reads)
    opening b body is_body long_body shut pass = weakens start b (IsOpening journal.page (journal.page + 1) body start) (IsUntouchedOrExchanged journal swap start.reads) (λ image o. opening_image body image is_body long_body shut o) pass

  -- ---- while the swap goes on

  -- the contents that a swap in progress will give
  pub still_exchanged : (old a image : List ℕ) → IsExchanged journal swap old a → GoesOn journal swap a image → IsExchanged journal swap old image
  still_exchanged old a image first goes = record { noted = goes.noted; first = goes.recovers.first ∙ first.first; second = goes.recovers.second ∙ first.second }

  pub goes_on_then : (a b image : List ℕ) → GoesOn journal swap a b → GoesOn journal swap b image → GoesOn journal swap a image
  goes_on_then a b image first then = record { noted = then.noted; recovers = record { first = then.recovers.first ∙ first.recovers.first; second = then.recovers.second ∙ first.recovers.second } }

  -- the lengths are written
  pub lengths_image : (a : Flash) → IsFlash a size → IsSettled a → IsNoted journal swap a.reads → (image : List ℕ) → ImageOn (OutsideEach (length_fields swap.first swap.second)) a image → GoesOn journal swap a.reads image
  lengths_image a law settled noted image on = unmoved (OutsideEach (length_fields swap.first swap.second)) beside_lengths a.reads image law.fits (settled_on (OutsideEach (length_fields swap.first swap.second)) a image settled on) noted

  -- the copies are made
  beside_entries : (i : ℕ) → journal.page ≤ i → i < journal.page + 57 → OutsideEach (areas x ++ entries journal.page) i
  beside_entries i low high = (
    ⊎_elim (λ h. inr (omega (arith, h, low))) (λ h. inl (omega (arith, h, high))) apart_page.first,
    (
      ⊎_elim (λ h. inr (omega (arith, h, low))) (λ h. inl (omega (arith, h, high))) apart_page.second,
      (⊎_elim (λ h. inr (omega (arith, h, low))) (λ h. inl (omega (arith, h, high))) apart_page.scratch, (inl (omega (arith, high)), (inl (omega (arith, high)), tt))),
    ),
  )

  pub copies_image : (a : Flash) → IsFlash a size → IsSettled a → IsNoted journal swap a.reads → (image : List ℕ) → RecoversNow x journal.page a.reads image × ImageOn (OutsideEach (areas x ++ entries journal.page)) a image → GoesOn journal swap a.reads image
  copies_image a law settled noted image has = record {
    noted = told_same (OutsideEach (areas x ++ entries journal.page)) a.reads image law.fits (settled_on (OutsideEach (areas x ++ entries journal.page)) a image settled has.1) beside_entries noted;
    recovers = has.0;
  }

  -- ---- at the end

  pub completed : (a c d : List ℕ) → length d ≡ size → Stands x journal.page a c → SameOn (OutsideEach (length_fields swap.first swap.second)) c d → IsStored swap.first swap.second_length d → IsStored swap.second swap.first_length d
      → IsCompleted journal swap a d
  completed a c d long stands same first second = record {
    first = content_at swap.first d swap.second_length first room.second_length.0
        ∙ same_range d c (swap.first.start + 8) (swap.first.start + 8 + swap.second_length) same.size (omega (arith, long, same.size, placed.first.within, room.second_length.0))
        (λ i low high. same.same i (inr low, (⊎_elim (λ h. inl (omega (arith, h, high, room.second_length.0))) (λ h. inr (omega (arith, h, low))) (clear swap.first.start (extent_of swap.first) swap.second.start (extent_of swap.second) placed.slots), tt)))
        ∙ stands.first;
    second = content_at swap.second d swap.first_length second room.first_length.1
        ∙ same_range d c (swap.second.start + 8) (swap.second.start + 8 + swap.first_length) same.size (omega (arith, long, same.size, placed.second.within, room.first_length.1))
        (λ i low high. same.same i (⊎_elim (λ h. inr (omega (arith, h, low))) (λ h. inl (omega (arith, h, high, room.first_length.1))) (clear swap.first.start (extent_of swap.first) swap.second.start (extent_of swap.second) placed.slots), (inr low, tt)))
        ∙ stands.second;
  }

  -- ---- whole steps

  pub copying : (a b : Flash) → IsFlash a size → IsSettled a → IsNoted journal swap a.reads → Passes a b (RecoversNow x journal.page a.reads) → Keeps (OutsideEach (areas x ++ entries journal.page)) a b
      → Passes a b (GoesOn journal swap a.reads)
  copying a b law settled noted pass kept =
      weakens a b (λ image. RecoversNow x journal.page a.reads image × ImageOn (OutsideEach (areas x ++ entries journal.page)) a image) (GoesOn journal swap a.reads) (copies_image a law settled noted)
      (both_pass a b (RecoversNow x journal.page a.reads) (ImageOn (OutsideEach (areas x ++ entries journal.page)) a) pass kept.images)

  pub storing : (a b c : Flash) → IsFlash b size → IsSettled b → Passes a b (GoesOn journal swap a.reads) → Keeps (OutsideEach (length_fields swap.first swap.second)) b c → Passes a c (GoesOn journal swap a.reads)
  storing a b c law settled pass kept =
      let now : GoesOn journal swap a.reads b.reads = each_read a b size (GoesOn journal swap a.reads) law pass in
      joined a b c (GoesOn journal swap a.reads) pass
      (weakens b c (ImageOn (OutsideEach (length_fields swap.first swap.second)) b) (GoesOn journal swap a.reads) (λ image on. goes_on_then a.reads b.reads image now (lengths_image b law settled now.noted image on)) kept.images)

  -- both slots are emptied after the page was opened
  pub emptying : (a b c : Flash) → IsFlash b size → IsSettled b → IsExchanged journal swap a.reads b.reads → Passes a b (IsUntouchedOrExchanged journal swap a.reads) → Keeps (OutsideEach (length_fields swap.first swap.second)) b c
      → Passes a c (IsUntouchedOrExchanged journal swap a.reads)
  emptying a b c law settled now pass kept =
      joined a b c (IsUntouchedOrExchanged journal swap a.reads) pass
      (weakens b c (ImageOn (OutsideEach (length_fields swap.first swap.second)) b) (IsUntouchedOrExchanged journal swap a.reads)
      (λ image on. inr (still_exchanged a.reads b.reads image now (lengths_image b law settled now.noted image on))) kept.images)

  pub emptied_read : (a b c : Flash) → IsFlash b size → IsExchanged journal swap a.reads b.reads → Keeps (OutsideEach (length_fields swap.first swap.second)) b c → IsExchanged journal swap a.reads c.reads
  emptied_read a b c law now kept = still_exchanged a.reads b.reads c.reads now (unmoved (OutsideEach (length_fields swap.first swap.second)) beside_lengths b.reads c.reads law.fits kept.reads now.noted)

  pub still_none : (b c : Flash) → IsFlash b size → Keeps (OutsideEach (length_fields swap.first swap.second)) b c → GivesProgress b.reads journal.page First 0 → GivesProgress c.reads journal.page First 0
  still_none b c law kept gives =
      let same = kept.reads in
      let K = OutsideEach (length_fields swap.first swap.second) in
      record {
        number = number_same K b.reads c.reads (journal.page + 80) same (omega (arith, law.fits, is.page)) (λ i l h. beside_lengths.page i (omega (arith, l)) (omega (arith, h))) ∙ gives.number;
        lower =
            omega (arith, gives.lower, number_same K b.reads c.reads (journal.page + 64) same (omega (arith, law.fits, is.page)) (λ i l h. beside_lengths.page i (omega (arith, l)) (omega (arith, h))));
      }

  -- the rest of the swap, after its beginning
  pub concluding : (a b c : Flash) → IsExchanged journal swap a.reads b.reads → Passes a b (IsUntouchedOrExchanged journal swap a.reads) → Passes b c (GoesOn journal swap b.reads) → Passes a c (IsUntouchedOrExchanged journal swap a.reads)
  concluding a b c now pass goes =
      joined a b c (IsUntouchedOrExchanged journal swap a.reads) pass
      (weakens b c (GoesOn journal swap b.reads) (IsUntouchedOrExchanged journal swap a.reads) (λ image on. inr (still_exchanged a.reads b.reads image now on)) goes)

  -- ---- what is touched

  within_lengths : (i : ℕ) → OutsideEach (touched journal swap.first swap.second) i → OutsideEach (length_fields swap.first swap.second) i
  within_lengths i out = (⊎_elim (λ h. inl h) (λ h. inr (omega (arith, h))) out.0, (⊎_elim (λ h. inl h) (λ h. inr (omega (arith, h))) out.1.0, tt))

  within_copies : (i : ℕ) → OutsideEach (touched journal swap.first swap.second) i → OutsideEach (areas x ++ entries journal.page) i
  within_copies i out = (
    ⊎_elim (λ h. inl (omega (arith, h))) (λ h. inr (omega (arith, h, short_first))) out.0,
    (
      ⊎_elim (λ h. inl (omega (arith, h))) (λ h. inr (omega (arith, h, short_second))) out.1.0,
      (out.1.1.1.0, (⊎_elim (λ h. inl (omega (arith, h))) (λ h. inr (omega (arith, h))) out.1.1.0, (⊎_elim (λ h. inl (omega (arith, h))) (λ h. inr (omega (arith, h))) out.1.1.0, tt))),
    ),
  )

  within_page : (n : ℕ) → n ≤ 88 → (i : ℕ) → OutsideEach (touched journal swap.first swap.second) i → OutsideEach (page_at journal.page (journal.page + 1) n) i
  within_page n few i out = (⊎_elim (λ h. inl h) (λ h. inr (omega (arith, h))) out.1.1.0, (⊎_elim (λ h. inl (omega (arith, h))) (λ h. inr (omega (arith, h, few))) out.1.1.0, tt))

  pub lengths_kept : (a b : Flash) → Keeps (OutsideEach (length_fields swap.first swap.second)) a b → Keeps (OutsideEach (touched journal swap.first swap.second)) a b
  lengths_kept a b kept = keeps_fewer (OutsideEach (touched journal swap.first swap.second)) (OutsideEach (length_fields swap.first swap.second)) within_lengths a b kept

  pub copies_kept : (a b : Flash) → Keeps (OutsideEach (areas x ++ entries journal.page)) a b → Keeps (OutsideEach (touched journal swap.first swap.second)) a b
  copies_kept a b kept = keeps_fewer (OutsideEach (touched journal swap.first swap.second)) (OutsideEach (areas x ++ entries journal.page)) within_copies a b kept

  pub page_kept : (n : ℕ) → n ≤ 88 → (a b : Flash) → Keeps (OutsideEach (page_at journal.page (journal.page + 1) n)) a b → Keeps (OutsideEach (touched journal swap.first swap.second)) a b
  page_kept n few a b kept = keeps_fewer (OutsideEach (touched journal swap.first swap.second)) (OutsideEach (page_at journal.page (journal.page + 1) n)) (within_page n few) a b kept

-- ---- two lengths are written

pub first_kept : (first second : Slot) (n : ℕ) (a b : Flash) → n ≡ 8 → Keeps (Outside first.start n) a b → Keeps (OutsideEach (length_fields first second)) a b
first_kept first second n a b is kept = keeps_fewer (OutsideEach (length_fields first second)) (Outside first.start n) (λ i out. subst (λ (k : ℕ). Outside first.start k i) (sym is) out.0) a b kept

pub second_kept : (first second : Slot) (n : ℕ) (a b : Flash) → n ≡ 8 → Keeps (Outside second.start n) a b → Keeps (OutsideEach (length_fields first second)) a b
second_kept first second n a b is kept = keeps_fewer (OutsideEach (length_fields first second)) (Outside second.start n) (λ i out. subst (λ (k : ℕ). Outside second.start k i) (sym is) out.1.0) a b kept

-- the length that was written is read back
stored_there : (place n : ℕ) (old image bytes : List ℕ) → bytes ≡ to_be_bytes w64 n → n < 2 ^ 64 → place + 8 ≤ length old → image ≡ written old place bytes → n ≡ from_be_bytes w64 (slice_range image place (place + 8))
stored_there place n old image bytes is small fits wrote =
    let now : image ≡ written old place (to_be_bytes w64 n) = wrote ∙ ap (written old place) is in
    sym (ap (λ (l : List ℕ). from_be_bytes w64 (slice_range l place (place + 8))) now ∙ ap (from_be_bytes w64) (written_range old place (to_be_bytes w64 n) fits) ∙ from_be_bytes-to_be_bytes_8 n small)

pub second_stored : (slot : Slot) (n : ℕ) (old image bytes : List ℕ) → bytes ≡ to_be_bytes w64 n → n < 2 ^ 64 → slot.start + extent_of slot ≤ length old → image ≡ written old slot.start bytes → IsStored slot n image
second_stored slot n old image bytes is small fits wrote = stored_there slot.start n old image bytes is small (omega (arith, fits)) wrote

pub first_stored : (first second : Slot) (m n : ℕ) (a b c x y : List ℕ) → x ≡ to_be_bytes w64 m → y ≡ to_be_bytes w64 n → m < 2 ^ 64 → first.start + extent_of first ≤ length a → second.start + extent_of second ≤ length a
    → AreClear first.start (extent_of first) second.start (extent_of second) → b ≡ written a first.start x → c ≡ written b second.start y → IsStored first m c
first_stored first second m n a b c x y x_is y_is small fits second_fits apart wrote next =
    let eight : length y ≡ 8 = ap length y_is in
    let x_eight : length x ≡ 8 = ap length x_is in
    let long : length b ≡ length a = ap length wrote ∙ length-written a first.start x (omega (arith, fits, x_eight)) in
    let same : SameOn (Outside second.start (length y)) b (written b second.start y) = written_outside b second.start y (omega (arith, second_fits, long, eight)) in
    let kept : slice_range c first.start (first.start + 8) ≡ slice_range b first.start (first.start + 8) =
    ap (λ (l : List ℕ). slice_range l first.start (first.start + 8)) next
    ∙ same_range (written b second.start y) b first.start (first.start + 8) same.size (omega (arith, same.size, long, fits))
    (λ i low high. same.same i (⊎_elim (λ h. inl (omega (arith, h, high))) (λ h. inr (omega (arith, h, low, eight))) (clear first.start (extent_of first) second.start (extent_of second) apart))) in
    stored_there first.start m a b x x_is small (omega (arith, fits)) wrote ∙ ap (from_be_bytes w64) (sym kept)

-- a new page says that no copy has been made
pub new_page_gives : (journal : Journal) (swap : Swap) → IsTyped swap → (body old image : List ℕ) → body ≡ swap_body swap → length body ≡ 88 → IsNewPage journal.page (journal.page + 1) body old image → GivesProgress image journal.page First 0
new_page_gives journal swap typed body old image is_body long_body new =
    let end : journal.page + 1 + length body ≡ journal.page + 89 = omega (arith, long_body) in
    gives_none swap typed image journal.page (ap (λ (to : ℕ). slice_range image (journal.page + 1) to) (sym end) ∙ new.bytes ∙ is_body)
