-- The record of a head: what a write to one of its pages makes of it.
use Rattle.std.proofs.Common.{◌≡◌, ◌≢◌, inl, inr, ⊎_elim, ◌<◌, ◌≤◌, ℕ, ◌+◌, ◌-◌, List, ◌∷◌, length, get_or, Option, Some, None, sym, ◌∙◌, ap, subst, arith}
use Rattle.std.specs.List.{slice_range}
use Rattle.std.proofs.lemmas.Bool.{cases_lt, cases_eq}
use Rattle.std.proofs.lemmas.List.Edits.{get_or-between}
use Rattle.suit_edge.specs.Ranges.{Outside}
use Rattle.suit_edge.specs.RangeLaws.{same_range}
use Rattle.flash_layout.specs.declared.frame.Frame.{Frame}
use Rattle.flash_layout.specs.declared.slot.Record.{Record}
use Rattle.flash_layout.specs.FrameFacts.{FrameFacts}
use Rattle.flash_layout.specs.FrameFacts as places
use Rattle.flash_layout.specs.Frames.{config_page_of, head_of, head_size, page_bytes, record_place}
use Rattle.rollback_record.specs.RecordPage.{IsTypedRecord, IsInRange, IsRecordPage, record_body, record_length}
use Rattle.rollback_record.specs.HeadRecord.{record_bytes, Counts, HoldsRecord, RecordOf}
use Rattle.rollback_record.specs.Committing.{InHead, IsNext, IsSpare}
use Rattle.rollback_record.proofs.Fields.{one_record}
use Rattle.rollback_record.proofs.Widths.{most_few}

module _ (size : ℕ) (frame : Frame) (is : FrameFacts size frame) where
  -- ---- the head

  abbrev head : List ℕ → List ℕ
  head image = head_of frame image

  -- where a record page starts
  abbrev page : ℕ → ℕ
  page w = record_place frame w

  pub head_long : (image : List ℕ) → frame.base + head_size frame ≤ length image → head_size frame ≤ length (head_of frame image)
  head_long image long = omega (arith, places.head_long size frame is image long)

  pub bytes_in : (image : List ℕ) (w : ℕ) → w < 2 → record_bytes frame (head_of frame image) w ≡ slice_range image (page w) (page w + record_length frame)
  bytes_in image w two = places.record_there size frame is image w (record_length frame) two (omega (arith, most_few frame))

  -- ---- pages that count

  -- the same pages count in lists that agree on them
  pub counts_of : (a c : List ℕ) (v : ℕ) (r : Record) → frame.base + head_size frame ≤ length c → config_page_of frame (head a) ≡ config_page_of frame (head c)
      → record_bytes frame (head a) v ≡ record_bytes frame (head c) v → Counts frame (head a) v r → Counts frame (head c) v r
  counts_of a c v r long config bytes count = record {
    whole = head_long c long;
    page = subst (λ (l : List ℕ). IsRecordPage frame l (record_bytes frame (head c) v) r) config (subst (λ (l : List ℕ). IsRecordPage frame (config_page_of frame (head a)) l r) bytes count.page);
  }

  -- the gate of a page that counts is open
  pub gate_open : (c : List ℕ) (w : ℕ) (r : Record) → w < 2 → Counts frame (head c) w r → get_or c (page w) 0 ≡ 0xA5
  gate_open c w r two count =
      let at : page w + 0 ≡ page w = omega arith in
      ap (λ (k : ℕ). get_or c k 0) (sym at) ∙ sym (get_or-between c (page w) (page w + record_length frame) 0 0 (omega arith)) ∙ ap (λ (l : List ℕ). get_or l 0 0) (sym (bytes_in c w two)) ∙ ap (λ (l : List ℕ). get_or l 0 0) count.page.bytes

  -- ---- one page is written

  module _ (a c : List ℕ) (w : ℕ) (large : frame.base + head_size frame ≤ length a) (long : length c ≡ length a) (two : w < 2)
      (apart : (i : ℕ) → InHead frame i → Outside (page w) (record_length frame) i → get_or c i 0 ≡ get_or a i 0) where
    large_c : frame.base + head_size frame ≤ length c
    large_c = omega (arith, long, large)

    pub config_same : config_page_of frame (head a) ≡ config_page_of frame (head c)
    config_same =
        places.page_there size frame is a
        ∙ sym (same_range c a frame.base (frame.base + page_bytes frame) long (omega (arith, large_c, is.page, is.head))
        (λ i low high. apart i (inr (low, omega (arith, high, is.page, is.head))) (inl (omega (arith, high, is.page)))))
        ∙ sym (places.page_there size frame is c)

    beside : (v i : ℕ) → v + w ≡ 1 → page v ≤ i → i < page v + record_length frame → Outside (page w) (record_length frame) i
    beside v i other low high = ⊎_elim (λ h. inl h) (λ h. inr (behind h)) (cases_lt i (page w))
      where
        behind : page w ≤ i → page w + record_length frame ≤ i
        behind h = omega (arith, other, low, high, h, most_few frame)

    other_same : (v : ℕ) → v + w ≡ 1 → record_bytes frame (head a) v ≡ record_bytes frame (head c) v
    other_same v other =
        let few : v < 2 = omega (arith, other) in
        bytes_in a v few
        ∙ sym (same_range c a (page v) (page v + record_length frame) long (omega (arith, large_c, few, is.head, most_few frame))
        (λ i low high. apart i (inr (omega (arith, low), omega (arith, high, few, is.head, most_few frame))) (beside v i other low high)))
        ∙ sym (bytes_in c v few)

    to_new : (v : ℕ) (r : Record) → v + w ≡ 1 → Counts frame (head a) v r → Counts frame (head c) v r
    to_new v r other count = counts_of a c v r large_c config_same (other_same v other) count

    to_old : (v : ℕ) (r : Record) → v + w ≡ 1 → Counts frame (head c) v r → Counts frame (head a) v r
    to_old v r other count = counts_of c a v r large (sym config_same) (sym (other_same v other)) count

    -- the page is as it was
    all_same : record_bytes frame (head a) w ≡ record_bytes frame (head c) w → (v : ℕ) → v < 2 → record_bytes frame (head a) v ≡ record_bytes frame (head c) v
    all_same same v few = ⊎_elim (λ e. subst (λ (k : ℕ). record_bytes frame (head a) k ≡ record_bytes frame (head c) k) (sym e) same) (λ ne. other_same v (apart_of ne)) (cases_eq v w)
      where
        apart_of : v ≢ w → v + w ≡ 1
        apart_of ne = omega (arith, ne, few, two)

    pub kept : (o : Option Record) → record_bytes frame (head a) w ≡ record_bytes frame (head c) w → RecordOf frame (head a) o → RecordOf frame (head c) o
    kept None same none = λ v r few is. none v r few (counts_of c a v r large (sym config_same) (sym (all_same same v few)) is)
    kept (Some r) same h = record {
      which = h.which;
      inside = h.inside;
      counts = counts_of a c h.which r large_c config_same (all_same same h.which h.inside) h.counts;
      highest = λ other is. h.highest other (counts_of c a (1 - h.which) other large (sym config_same) (sym (all_same same (1 - h.which) (omega arith))) is);
    }

    -- the page's gate is closed
    pub shut : (o : Option Record) → get_or c (page w) 0 ≢ 0xA5 → IsSpare frame (head a) o w → RecordOf frame (head a) o → RecordOf frame (head c) o
    shut None closed spare none = λ v r few is. ⊎_elim
        (λ e. closed (gate_open c w r two (subst (λ (k : ℕ). Counts frame (head c) k r) e is)))
        (λ ne. none v r few (to_old v r (apart_of v few ne) is))
        (cases_eq v w)
      where
        apart_of : (v : ℕ) → v < 2 → v ≢ w → v + w ≡ 1
        apart_of v few ne = omega (arith, ne, few, two)
    shut (Some r) closed spare h = record {
      which = 1 - w;
      inside = omega arith;
      counts = to_new (1 - w) r (omega (arith, two)) spare.1;
      highest = λ other is. absurd (closed (gate_open c w other two (subst (λ (k : ℕ). Counts frame (head c) k other) back is)));
    }
      where
        back : 1 - (1 - w) ≡ w
        back = omega (arith, two)

    -- the page is the new record's
    pub fresh : (o : Option Record) (new : Record) → IsNext o new → IsTypedRecord new → IsInRange frame (config_page_of frame (head a)) new → record_bytes frame (head c) w ≡ 0xA5 ∷ record_body frame new
        → IsSpare frame (head a) o w → RecordOf frame (head a) o → HoldsRecord frame (head c) new
    fresh None new next typed fields bytes spare none = record {
      which = w;
      inside = two;
      counts = record { whole = head_long c large_c; page = record { typed = typed; fields = subst (λ (l : List ℕ). IsInRange frame l new) config_same fields; bytes = bytes } };
      highest = λ other is. absurd (none (1 - w) other (omega arith) (to_old (1 - w) other (omega (arith, two)) is));
    }
    fresh (Some r) new next typed fields bytes spare h = record {
      which = w;
      inside = two;
      counts = record { whole = head_long c large_c; page = record { typed = typed; fields = subst (λ (l : List ℕ). IsInRange frame l new) config_same fields; bytes = bytes } };
      highest = λ other is. inl (below other (to_old (1 - w) other (omega (arith, two)) is));
    }
      where
        below : (other : Record) → Counts frame (head a) (1 - w) other → other.generation < new.generation
        below other is =
            let same : other ≡ r = one_record frame (config_page_of frame (head a)) (record_bytes frame (head a) (1 - w)) other r is.page spare.1.page in
            omega (arith, next, ap (λ (x : Record). x.generation) same)
