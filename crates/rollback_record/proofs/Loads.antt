-- The record of a head, of its pages as they were decoded.
use Rattle.std.proofs.Common.{◌≡◌, ◌≢◌, ◌⊎◌, ⊎_elim, inl, inr, ◌<◌, ◌≤◌, ℕ, ◌+◌, Bool, true, false, List, length, get_or, Option, Some, None, refl, sym, ◌∙◌, ap, subst, arith}
use Rattle.std.specs.Prelude.{if◌then◌else◌, nat_lt, IfSome}
use Rattle.std.proofs.lemmas.Bool.{cases_eq, cases_lt, lt-ltb, le-ltb}
use Rattle.std.proofs.lemmas.List.Edits.{get_or-between}
use Rattle.suit_edge.specs.declared.gate.Gate.{Gate}
use Rattle.suit_edge.specs.Gate.{IsGate}
use Rattle.flash_layout.specs.declared.frame.Frame.{Frame}
use Rattle.flash_layout.specs.declared.slot.Record.{Record}
use Rattle.flash_layout.specs.Frames.{config_page_of, head_size, record_from}
use Rattle.rollback_record.specs.RecordPage.{IsPageBeside, IsRecordPage, record_length}
use Rattle.rollback_record.specs.Committing.{HasPages, IsSpare}
use Rattle.rollback_record.specs.HeadRecord.{Counts, HaveRead, IsLoadable, RecordOf, beside_higher, higher, record_bytes}

loadable : (frame : Frame) (slots page : List ℕ) (r : Record) → IsPageBeside frame slots page r → IsLoadable frame r
loadable frame slots page r is = record { typed = is.typed; bank = is.fields.bank; size = is.fields.size }

pub higher_loadable : (frame : Frame) (slots first second : List ℕ) (p q : Option Record) → IfSome p (λ r. IsPageBeside frame slots first r) → IfSome q (λ r. IsPageBeside frame slots second r) → IfSome (higher p q) (IsLoadable frame)
higher_loadable frame slots first second None None is so = so
higher_loadable frame slots first second None (Some s) is so = loadable frame slots second s so
higher_loadable frame slots first second (Some r) None is so = loadable frame slots first r is
higher_loadable frame slots first second (Some r) (Some s) is so = pick (nat_lt r.generation s.generation)
  where
    pick : (b : Bool) → IfSome (if b then Some s else Some r) (IsLoadable frame)
    pick true = loadable frame slots second s so
    pick false = loadable frame slots first r is

same_some : (r s : Record) → ◌≡◌ {A = Option Record} (Some r) (Some s) → r ≡ s
same_some r s e = cc

none_some : (s : Record) → ◌≡◌ {A = Option Record} None (Some s) → ⊥
none_some s e = cc

module _ (frame : Frame) (h first second : List ℕ) (whole : head_size frame ≤ length h) (read : HaveRead frame h first second) where
  abbrev config : List ℕ
  config = config_page_of frame h

  first_counts : (r : Record) → IsRecordPage frame config first r → Counts frame h 0 r
  first_counts r is = record {
    whole = whole;
    page = subst (λ (l : List ℕ). IsRecordPage frame config l r) read.first_is is;
  }

  second_counts : (r : Record) → IsRecordPage frame config second r → Counts frame h 1 r
  second_counts r is = record {
    whole = whole;
    page = subst (λ (l : List ℕ). IsRecordPage frame config l r) read.second_is is;
  }

  of_first : (r : Record) → Counts frame h 0 r → IsRecordPage frame config first r
  of_first r is = subst (λ (l : List ℕ). IsRecordPage frame config l r) (sym read.first_is) is.page

  of_second : (r : Record) → Counts frame h 1 r → IsRecordPage frame config second r
  of_second r is = subst (λ (l : List ℕ). IsRecordPage frame config l r) (sym read.second_is) is.page

  pub decoded : (p q : Option Record) → IfSome p (IsRecordPage frame config first) → IfSome q (IsRecordPage frame config second)
      → ((r : Record) → IsRecordPage frame config first r → p ≡ Some r) → ((r : Record) → IsRecordPage frame config second r → q ≡ Some r) → RecordOf frame h (higher p q)
  decoded None None is so each every = λ which r few counts. ⊎_elim
      (λ e. none_some r (each r (of_first r (subst (λ (k : ℕ). Counts frame h k r) e counts))))
      (λ ne. none_some r (every r (of_second r (subst (λ (k : ℕ). Counts frame h k r) (one which few ne) counts))))
      (cases_eq which 0)
    where
      one : (which : ℕ) → which < 2 → which ≢ 0 → which ≡ 1
      one which few ne = omega (arith, few, ne)
  decoded None (Some s) is so each every = record { which = 1; inside = omega arith; counts = second_counts s so; highest = λ other counts. absurd (none_some other (each other (of_first other counts))) }
  decoded (Some r) None is so each every = record { which = 0; inside = omega arith; counts = first_counts r is; highest = λ other counts. absurd (none_some other (every other (of_second other counts))) }
  decoded (Some r) (Some s) is so each every = ⊎_elim
      (λ lt. subst (λ (b : Bool). RecordOf frame h (if b then Some s else Some r)) (sym (lt-ltb r.generation s.generation lt)) (record {
        which = 1;
        inside = omega arith;
        counts = second_counts s so;
        highest = λ other counts. inl (below other counts lt);
      }))
      (λ le. subst (λ (b : Bool). RecordOf frame h (if b then Some s else Some r)) (sym (le-ltb r.generation s.generation le)) (record {
        which = 0;
        inside = omega arith;
        counts = first_counts r is;
        highest = λ other counts. not_above other counts le;
      }))
      (cases_lt r.generation s.generation)
    where
      below : (other : Record) → Counts frame h 0 other → r.generation < s.generation → other.generation < s.generation
      below other counts lt = omega (arith, lt, ap (λ (x : Record). x.generation) (same_some r other (each other (of_first other counts))))

      not_above : (other : Record) → Counts frame h 1 other → s.generation ≤ r.generation → (other.generation < r.generation) ⊎ (◌≡◌ {A = ℕ} 0 0 × (other.generation ≡ r.generation))
      not_above other counts le =
          let same = ap (λ (x : Record). x.generation) (same_some s other (every other (of_second other counts))) in
          ⊎_elim (λ lt. inl lt) (λ ge. inr (refl, (omega (arith, same, le, ge)))) (cases_lt other.generation r.generation)

-- ---- the page beside the record

pub beside_two : (p q : Option Record) → beside_higher p q < 2
beside_two None q = omega arith
beside_two (Some r) None = omega arith
beside_two (Some r) (Some s) = pick (nat_lt r.generation s.generation)
  where
    pick : (b : Bool) → (if b then 0 else 1) < 2
    pick true = omega arith
    pick false = omega arith

module _ (frame : Frame) (h first second : List ℕ) (whole : head_size frame ≤ length h) (read : HaveRead frame h first second) where
  pub spare : (p q : Option Record) → IfSome p (IsRecordPage frame (config_page_of frame h) first) → IfSome q (IsRecordPage frame (config_page_of frame h) second) → IsSpare frame h (higher p q) (beside_higher p q)
  spare None None is so = refl
  spare None (Some s) is so = (omega arith, second_counts frame h first second whole read s so)
  spare (Some r) None is so = (omega arith, first_counts frame h first second whole read r is)
  spare (Some r) (Some s) is so = pick (nat_lt r.generation s.generation)
    where
      pick : (b : Bool) → IsSpare frame h (if b then Some s else Some r) (if b then 0 else 1)
      pick true = (omega arith, second_counts frame h first second whole read s so)
      pick false = (omega arith, first_counts frame h first second whole read r is)

  -- the gate of a page is the first of its bytes
  gate_at : (w : ℕ) (bytes : List ℕ) → bytes ≡ record_bytes frame h w → get_or bytes 0 0 ≡ get_or h (record_from frame w) 0
  gate_at w bytes is =
      let at : record_from frame w + 0 ≡ record_from frame w = omega arith in
      ap (λ (l : List ℕ). get_or l 0 0) is ∙ get_or-between h (record_from frame w) (record_from frame w + record_length frame) 0 0 (omega arith) ∙ ap (λ (k : ℕ). get_or h k 0) at

  pub first_gate : (w : ℕ) → w ≡ 0 → get_or first 0 0 ≡ get_or h (record_from frame w) 0
  first_gate w is = gate_at 0 first read.first_is ∙ ap (λ (k : ℕ). get_or h (record_from frame k) 0) (sym is)

  pub second_gate : (w : ℕ) → w < 2 → w ≢ 0 → get_or second 0 0 ≡ get_or h (record_from frame w) 0
  second_gate w two other =
      let is : 1 ≡ w = omega (arith, two, other) in
      gate_at 1 second read.second_is ∙ ap (λ (k : ℕ). get_or h (record_from frame k) 0) is

  pub pages : (p q : Option Record) → IfSome p (IsRecordPage frame (config_page_of frame h) first) → IfSome q (IsRecordPage frame (config_page_of frame h) second)
      → ((r : Record) → IsRecordPage frame (config_page_of frame h) first r → p ≡ Some r) → ((r : Record) → IsRecordPage frame (config_page_of frame h) second r → q ≡ Some r)
      → (o : Option Record) (w : ℕ) (gate : Gate) → o ≡ higher p q → w ≡ beside_higher p q → IsGate gate (get_or h (record_from frame w) 0)
      → HasPages frame h (record { held = o; spare = record { which = w; gate = gate } })
  pages p q is so each every o w gate o_is w_is reads = record {
    held = subst (λ (r : Option Record). RecordOf frame h r) (sym o_is) (decoded frame h first second whole read p q is so each every);
    spare = record {
      free = subst (λ (r : Option Record). IsSpare frame h r w) (sym o_is) (subst (λ (k : ℕ). IsSpare frame h (higher p q) k) (sym w_is) (spare p q is so));
      gate = reads;
    };
  }
