-- The record of a flash after a record page is written behind its gate.
use Rattle.std.proofs.Common.{◌≡◌, ◌≢◌, inl, inr, ⊎_elim, ◌<◌, ◌≤◌, ℕ, zero, suc, ◌+◌, List, ◌∷◌, length, length-drop, drop, get_or, Option, Some, sym, ◌∙◌, ap, arith}
use Rattle.std.specs.List.{slice_range}
use Rattle.std.proofs.lemmas.Bool.{cases_eq}
use Rattle.std.proofs.lemmas.List.{ext_get_or}
use Rattle.std.proofs.lemmas.List.Edits.{length-between, get_or-between}
use Rattle.suit_edge.specs.Flash.{Flash, Passes, ImageOn, Keeps, IsFirmOn, IsFlash}
use Rattle.suit_edge.specs.FlashLaws.{firm_fewer, keeps_fewer, weakens}
use Rattle.suit_edge.specs.Gate.{IsGated, IsNewPage, IsOpen, body_at, page_at}
use Rattle.suit_edge.specs.Ranges.{InSome, Outside, OutsideEach}
use Rattle.flash_layout.specs.declared.frame.Frame.{Frame}
use Rattle.flash_layout.specs.declared.slot.Record.{Record}
use Rattle.flash_layout.specs.FrameFacts.{FrameFacts, byte_there}
use Rattle.flash_layout.specs.Frames.{config_page_of, head_of, head_size, most, record_from, record_place}
use Rattle.rollback_record.specs.RecordPage.{IsTypedRecord, IsInRange, record_body, record_length}
use Rattle.rollback_record.specs.HeadRecord.{record_bytes, HoldsRecord, RecordOf}
use Rattle.rollback_record.specs.Committing.{HasHeldOrNew, InHead, IsNext, IsSpare, KeepsBesideSpare}
use Rattle.rollback_record.proofs.Pages.{bytes_in, kept, shut, fresh}
use Rattle.rollback_record.proofs.Widths.{most_few}

-- ---- bytes behind a gate

split_first : (l : List ℕ) (q k : ℕ) → q + suc k ≤ length l → slice_range l q (q + suc k) ≡ get_or l q 0 ∷ slice_range l (q + 1) (q + 1 + k)
split_first l q k fits =
    ext_get_or 0 (slice_range l q (q + suc k)) (get_or l q 0 ∷ slice_range l (q + 1) (q + 1 + k)) (omega (arith, n, length-between l (q + 1) (q + 1 + k) (omega arith))) (λ i h. at i (omega (arith, n, h)))
  where
    n : length (slice_range l q (q + suc k)) ≡ suc k
    n = omega (arith, length-between l q (q + suc k) fits)

    at : (i : ℕ) → i < suc k → get_or (slice_range l q (q + suc k)) i 0 ≡ get_or (get_or l q 0 ∷ slice_range l (q + 1) (q + 1 + k)) i 0
    at zero h = let e : q + 0 ≡ q = omega arith in get_or-between l q (q + suc k) 0 0 (omega arith) ∙ ap (λ (j : ℕ). get_or l j 0) e
    at (suc i) h =
        let e : q + suc i ≡ q + 1 + i = omega arith in
        get_or-between l q (q + suc k) (suc i) 0 (omega arith) ∙ ap (λ (j : ℕ). get_or l j 0) e ∙ sym (get_or-between l (q + 1) (q + 1 + k) i 0 (omega arith))

-- ---- the page is written

module _ (size : ℕ) (frame : Frame) (facts : FrameFacts size frame) (b : Flash) (w : ℕ) (held : Option Record) (new : Record) (gate place : ℕ) (body : List ℕ) (large : frame.base + head_size frame ≤ length b.reads) (two : w < 2)
    (gate_is : gate ≡ record_place frame w) (place_is : place ≡ gate + 1) (body_is : body ≡ record_body frame new) (long : length body ≡ 90 + most frame) where
  abbrev q : ℕ
  q = record_place frame w

  beside : (i : ℕ) → Outside q (record_length frame) i → OutsideEach (page_at gate place (length body)) i
  beside i out = (⊎_elim (λ h. inl (omega (arith, h, gate_is))) (λ h. inr (omega (arith, h, gate_is))) out, (⊎_elim (λ h. inl (omega (arith, h, gate_is, place_is))) (λ h. inr (omega (arith, h, gate_is, place_is, long))) out, tt))

  behind : (l : List ℕ) → body_at l place (length body) ≡ slice_range l (q + 1) (q + 1 + (90 + most frame))
  behind l =
      let from : place ≡ q + 1 = omega (arith, gate_is, place_is) in
      let to : place + length body ≡ q + 1 + (90 + most frame) = omega (arith, from, long) in
      ap (λ (k : ℕ). slice_range l k (place + length body)) from ∙ ap (λ (k : ℕ). slice_range l (q + 1) k) to

  first : (l : List ℕ) → frame.base + head_size frame ≤ length l → slice_range l q (q + record_length frame) ≡ get_or l q 0 ∷ slice_range l (q + 1) (q + 1 + (90 + most frame))
  first l fits =
      let to : q + record_length frame ≡ q + suc (90 + most frame) = omega arith in
      ap (λ (k : ℕ). slice_range l q k) to ∙ split_first l q (90 + most frame) (omega (arith, fits, two, facts.head, most_few frame))

  bytes_are : (l : List ℕ) → frame.base + head_size frame ≤ length l → record_bytes frame (head_of frame l) w ≡ get_or l gate 0 ∷ body_at l place (length body)
  bytes_are l fits =
      bytes_in size frame facts l w two ∙ first l fits ∙ ap (λ (k : ℕ). get_or l k 0 ∷ slice_range l (q + 1) (q + 1 + (90 + most frame))) (sym gate_is) ∙ ap (λ (m : List ℕ). get_or l gate 0 ∷ m) (sym (behind l))

  module _ (is : RecordOf frame (head_of frame b.reads) held) (spare : IsSpare frame (head_of frame b.reads) held w) (next : IsNext held new) (typed : IsTypedRecord new)
      (fields : IsInRange frame (config_page_of frame (head_of frame b.reads)) new) where
    -- bytes that are those of the start beside the page
    module _ (c : List ℕ) (same_long : length c ≡ length b.reads) (apart : (i : ℕ) → InHead frame i → Outside q (record_length frame) i → get_or c i 0 ≡ get_or b.reads i 0) where
      now_new : IsOpen c gate → body_at c place (length body) ≡ body → HoldsRecord frame (head_of frame c) new
      now_new opens put =
          let whole : frame.base + head_size frame ≤ length c = omega (arith, same_long, large) in
          fresh size frame facts b.reads c w large same_long two apart held new next typed fields
          (bytes_are c whole ∙ ap (λ (k : ℕ). k ∷ body_at c place (length body)) opens ∙ ap (λ (m : List ℕ). 0xA5 ∷ m) (put ∙ body_is)) spare is

      still_held : IsOpen b.reads gate → IsOpen c gate → body_at c place (length body) ≡ body_at b.reads place (length body) → RecordOf frame (head_of frame c) held
      still_held was opens same =
          let whole : frame.base + head_size frame ≤ length c = omega (arith, same_long, large) in
          kept size frame facts b.reads c w large same_long two apart held
          (bytes_are b.reads large ∙ ap (λ (k : ℕ). k ∷ body_at b.reads place (length body)) (was ∙ sym opens) ∙ ap (λ (m : List ℕ). get_or c gate 0 ∷ m) (sym same) ∙ sym (bytes_are c whole)) is

      now_shut : get_or c gate 0 ≢ 0xA5 → RecordOf frame (head_of frame c) held
      now_shut closed = shut size frame facts b.reads c w large same_long two apart held (λ e. closed (ap (λ (k : ℕ). get_or c k 0) gate_is ∙ e)) spare is

    -- the page is new
    pub new_record : (c : List ℕ) → IsNewPage gate place body b.reads c → IsOpen c gate → RecordOf frame (head_of frame c) (Some new)
    new_record c put opens = now_new c put.rest.size (λ i _ out. put.rest.same i (beside i out)) opens put.bytes

    -- in each image
    pub held_or_new : (c : Flash) → IsFirmOn (InHead frame) b → Passes b c (IsGated gate place body b) → Passes b c (HasHeldOrNew frame held new)
    held_or_new c firm run = weakens b c (IsGated gate place body b) (HasHeldOrNew frame held new) (λ image o. judged image o) run
      where
        apart_of : (image : List ℕ) → ImageOn (OutsideEach (page_at gate place (length body))) b image → (i : ℕ) → InHead frame i → Outside q (record_length frame) i → get_or image i 0 ≡ get_or b.reads i 0
        apart_of image on i inside out = on.same.same i (beside i out) ∙ (firm on.from on.was).same i inside

        size_of : (image : List ℕ) → ImageOn (OutsideEach (page_at gate place (length body))) b image → length image ≡ length b.reads
        size_of image on = on.same.size ∙ (firm on.from on.was).size

        judged : (image : List ℕ) → IsGated gate place body b image → HasHeldOrNew frame held new image
        judged image o = ⊎_elim
            (λ opens. ⊎_elim
            (λ old. inl (still_held image (size_of image o.apart) (apart_of image o.apart) old.opened opens old.bytes))
            (λ put. inr (now_new image (size_of image o.apart) (apart_of image o.apart) opens put.bytes))
            (o.opens opens))
            (λ closed. inl (now_shut image (size_of image o.apart) (apart_of image o.apart) closed))
            (cases_eq (get_or image gate 0) 0xA5)

-- ---- the spare page

-- a flash, and the page that is to be written
pub record Begins (frame : Frame) (b : Flash) (size w : ℕ) (held : Option Record) (new : Record) (gate place : ℕ) (body : List ℕ) : Type 0 where
  pub law : IsFlash b size
  pub facts : FrameFacts size frame
  pub is : RecordOf frame (head_of frame b.reads) held
  pub firm : IsFirmOn (InHead frame) b
  pub spare : IsSpare frame (head_of frame b.reads) held w
  pub two : w < 2
  pub next : IsNext held new
  pub typed : IsTypedRecord new
  pub fields : IsInRange frame (config_page_of frame (head_of frame b.reads)) new
  pub gate_is : gate ≡ record_place frame w
  pub place_is : place ≡ gate + 1
  pub body_is : body ≡ record_body frame new
  pub long : length body ≡ 90 + most frame

-- the gate in the flash is that in its head
pub gate_there : (size : ℕ) (frame : Frame) → FrameFacts size frame → (image : List ℕ) (p w : ℕ) → w < 2 → p ≡ record_place frame w → get_or (head_of frame image) (record_from frame w) 0 ≡ get_or image p 0
gate_there size frame facts image p w two is = byte_there size frame facts image (record_from frame w) (omega (arith, two, facts.head)) ∙ ap (λ (k : ℕ). get_or image k 0) (sym is)

-- the bytes behind the gate of a page that was spelled
pub behind_gate : (frame : Frame) (page body : List ℕ) (new : Record) → page ≡ 0xA5 ∷ record_body frame new → body ≡ drop 1 page → body ≡ record_body frame new
behind_gate frame page body new spelled behind = behind ∙ ap (drop 1) spelled

pub long_behind : (frame : Frame) (page body : List ℕ) → length page ≡ record_length frame → body ≡ drop 1 page → length body ≡ 90 + most frame
long_behind frame page body long behind = omega (arith, long, ap length behind, length-drop 1 page)

module _ (frame : Frame) (b : Flash) (size w : ℕ) (held : Option Record) (new : Record) (gate place : ℕ) (body : List ℕ) (x : Begins frame b size w held new gate place body) where
  large_b : frame.base + head_size frame ≤ length b.reads
  large_b = omega (arith, x.law.fits, x.facts.inside)

  -- the page is sure
  pub page_firm : IsFirmOn (InSome (page_at gate place (length body))) b
  page_firm = firm_fewer (InSome (page_at gate place (length body))) (InHead frame) (λ i h. ⊎_elim (λ g. inr (gate_low i g.0, gate_high i g.1)) (λ o. ⊎_elim (λ p. inr (body_low i p.0, body_high i p.1)) (λ none. absurd none) o) h) b x.firm
    where
      gate_low : (i : ℕ) → gate ≤ i → frame.base ≤ i
      gate_low i h = omega (arith, h, x.gate_is)

      gate_high : (i : ℕ) → i < gate + 1 → i < frame.base + head_size frame
      gate_high i h = omega (arith, h, x.gate_is, x.two, x.facts.head)

      body_low : (i : ℕ) → place ≤ i → frame.base ≤ i
      body_low i h = omega (arith, h, x.gate_is, x.place_is)

      body_high : (i : ℕ) → i < place + length body → i < frame.base + head_size frame
      body_high i h = omega (arith, h, x.gate_is, x.place_is, x.long, x.two, x.facts.head, most_few frame)

  pub all_moments : (c : Flash) → Passes b c (IsGated gate place body b) → Passes b c (HasHeldOrNew frame held new)
  all_moments c run = held_or_new size frame x.facts b w held new gate place body large_b x.two x.gate_is x.place_is x.body_is x.long x.is x.spare x.next x.typed x.fields c x.firm run

  pub keeps_beside : (c : Flash) → Keeps (OutsideEach (page_at gate place (length body))) b c → KeepsBesideSpare frame held b c
  keeps_beside c apart = record {
    which = w;
    spare = x.spare;
    keeps = keeps_fewer (Outside (record_place frame w) (record_length frame)) (OutsideEach (page_at gate place (length body))) (beside size frame x.facts b w held new gate place body large_b x.two x.gate_is x.place_is x.body_is x.long) b c apart;
  }

  pub recorded : (c : Flash) → IsNewPage gate place body b.reads c.reads → IsOpen c.reads gate → RecordOf frame (head_of frame c.reads) (Some new)
  recorded c put opens = new_record size frame x.facts b w held new gate place body large_b x.two x.gate_is x.place_is x.body_is x.long x.is x.spare x.next x.typed x.fields c.reads put opens
