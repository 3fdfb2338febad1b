-- The head of an image has a record, or none.
use Rattle.std.proofs.Common.{◌≡◌, ◌⊎◌, ⊎_elim, inl, inr, ◌<◌, ◌≤◌, ℕ, zero, suc, ◌+◌, ◌*◌, List, ◌∷◌, length, get_or, Option, Some, None, refl, sym, subst, ◌∙◌, arith}
use Rattle.std.proofs.lemmas.Bool.{cases_Bool, cases_eq, cases_lt}
use Rattle.std.proofs.lemmas.Bool.Decides.{not_from_Decides}
use Rattle.std.proofs.lemmas.Slice.Eq.{bytes_eq-Decides}
use Rattle.suit_params.specs.DigestBytes.{digest_bytes, digest_kind}
use Rattle.suit_params.specs.DigestKinds.{size_of}
use Rattle.flash_layout.specs.declared.frame.Frame.{Frame}
use Rattle.flash_layout.specs.declared.slot.Record.{Record}
use Rattle.flash_layout.specs.Frames.{bank_size, config_page_of, head_size, most}
use Rattle.rollback_record.specs.HeadRecord.{record_bytes, Counts, IsBelow, RecordOf}
use Rattle.rollback_record.specs.RecordLaws.{SomeAnswer}
use Rattle.rollback_record.specs.RecordPage.{HasSecondSlot, IsActiveSlot, IsInRange, IsRecordPage, IsTypedRecord, fields_at, record_body}
use Rattle.rollback_record.proofs.Fields.{one_record, page_read, some_never, some_same}

-- ---- decided

abbrev Decided : Type 0 → Type 0
Decided P = P ⊎ (P → ⊥)

like : (P Q : Type 0) → (P → Q) → (Q → P) → Decided P → Decided Q
like P Q there back (inl p) = inl (there p)
like P Q there back (inr never) = inr (λ q. never (back q))

both : (P Q : Type 0) → Decided P → Decided Q → Decided (P × Q)
both P Q (inl p) (inl q) = inl (p, q)
both P Q (inl p) (inr never) = inr (λ pq. never pq.1)
both P Q (inr never) q = inr (λ pq. never pq.0)

either : (P Q : Type 0) → Decided P → Decided Q → Decided (P ⊎ Q)
either P Q (inl p) q = inl (inl p)
either P Q (inr never) (inl q) = inl (inr q)
either P Q (inr never) (inr none) = inr (⊎_elim never none)

below : (P : ℕ → Type 0) → ((i : ℕ) → Decided (P i)) → (n : ℕ) → Decided ((i : ℕ) → i < n → P i)
below P each zero = inl (λ i lt. absurd (omega (arith, lt)))
below P each (suc n) =
    like (((i : ℕ) → i < n → P i) × P n) ((i : ℕ) → i < suc n → P i)
    (λ all i lt. ⊎_elim (λ e. subst P (sym e) all.1) (λ ne. all.0 i (omega (arith, lt, ne))) (cases_eq i n))
    (λ all. (λ i lt. all i (omega (arith, lt)), all n (omega arith)))
    (both _ _ (below P each n) (each n))

less : (m n : ℕ) → Decided (m < n)
less m n = ⊎_elim (λ lt. inl lt) (λ ge. inr (λ lt. absurd (omega (arith, lt, ge)))) (cases_lt m n)

at_most : (m n : ℕ) → Decided (m ≤ n)
at_most m n = ⊎_elim (λ lt. inr (λ le. absurd (omega (arith, lt, le)))) (λ le. inl le) (cases_lt n m)

same : (xs ys : List ℕ) → Decided (xs ≡ ys)
same xs ys =
    let decides = bytes_eq-Decides xs ys in
    ⊎_elim (λ yes. inl (decides.0 yes)) (λ never. inr (not_from_Decides _ decides never)) (cases_Bool _)

-- ---- a page

typed : (r : Record) → Decided (IsTypedRecord r)
typed r =
    like _ _
    (λ t. record { generation = t.0; sequence = t.1.0; size = t.1.1.0; digest = t.1.1.1.0; active = t.1.1.1.1 })
    (λ t. (t.generation, (t.sequence, (t.size, (t.digest, t.active)))))
    (both _ _ (less r.generation _) (both _ _ (less r.sequence _) (both _ _ (less r.length _) (both _ _ (cases_eq (length (digest_bytes r.digest)) (size_of (digest_kind r.digest))) (cases_eq (length r.active) 32)))))

second : (frame : Frame) (config : List ℕ) (i slot : ℕ) → Decided ((slot ≡ 1) × (i < most frame) × HasSecondSlot config i)
second frame config i slot =
    like _ _ (λ t. (t.0, t.1.0, t.1.1)) (λ t. (t.0, (t.1, t.2)))
    (both _ _ (cases_eq slot 1) (both _ _ (less i (most frame)) (both _ _ (less i (get_or config 3 0)) (cases_eq (get_or config (142 * i + 69) 0) 2))))

active : (frame : Frame) (config : List ℕ) (i slot : ℕ) → Decided (IsActiveSlot frame config i slot)
active frame config i slot = either _ _ (cases_eq slot 0) (second frame config i slot)

in_range : (frame : Frame) (config : List ℕ) (r : Record) → Decided (IsInRange frame config r)
in_range frame config r =
    like _ _
    (λ t. record { bank = t.0; size = t.1.0; active = t.1.1 })
    (λ t. (t.bank, (t.size, t.active)))
    (both _ _ (less r.bank 2) (both _ _ (at_most r.length (bank_size frame)) (below (λ i. IsActiveSlot frame config i (get_or r.active i 0)) (λ i. active frame config i (get_or r.active i 0)) 32)))

module _ (frame : Frame) (config page : List ℕ) where
  page_of : (r : Record) → Decided (IsRecordPage frame config page r)
  page_of r =
      like _ _
      (λ t. record { typed = t.0; fields = t.1.0; bytes = t.1.1 })
      (λ t. (t.typed, (t.fields, t.bytes)))
      (both _ _ (typed r) (both _ _ (in_range frame config r) (same page (0xA5 ∷ record_body frame r))))

  -- whether it counts
  counted : Decided ((r : Record) × IsRecordPage frame config page r)
  counted = by_fields (fields_at page) refl
    where
      by_fields : (o : Option Record) → fields_at page ≡ o → Decided ((r : Record) × IsRecordPage frame config page r)
      by_fields None e = inr (λ some. some_never some.0 (sym e ∙ page_read frame config page some.0 some.1))
      by_fields (Some r) e =
          like (IsRecordPage frame config page r) _ (λ is. (r, is))
          (λ some. subst (IsRecordPage frame config page) (some_same some.0 r (sym (page_read frame config page some.0 some.1) ∙ e)) some.1)
          (page_of r)

-- ---- a head

module _ (frame : Frame) (head : List ℕ) where
  abbrev HasPage : ℕ → Type 0
  HasPage which = (r : Record) × Counts frame head which r

  has_page : (which : ℕ) → Decided (HasPage which)
  has_page which =
      like (head_size frame ≤ length head × ((r : Record) × IsRecordPage frame (config_page_of frame head) (record_bytes frame head which) r)) _
      (λ t. (t.1.0, record { whole = t.0; page = t.1.1 }))
      (λ t. (t.1.whole, (t.0, t.1.page)))
      (both _ _ (at_most (head_size frame) (length head)) (counted frame (config_page_of frame head) (record_bytes frame head which)))

  one : (which : ℕ) (r s : Record) → Counts frame head which r → Counts frame head which s → r ≡ s
  one which r s p q = one_record frame (config_page_of frame head) (record_bytes frame head which) r s p.page q.page

  -- of two pages the one of the higher generation
  higher : HasPage 0 → HasPage 1 → (o : Option Record) × RecordOf frame head o
  higher first second =
      ⊎_elim
      (λ lt. (
        Some second.0,
        record {
          which = 1;
          inside = omega arith;
          counts = second.1;
          highest = λ other counts. inl (subst (λ (x : Record). x.generation < second.0.generation) (one 0 first.0 other first.1 counts) lt);
        },
      ))
      (λ le. (
        Some first.0,
        record {
          which = 0;
          inside = omega arith;
          counts = first.1;
          highest = λ other counts. under other (subst (λ (x : Record). x.generation ≤ first.0.generation) (one 1 second.0 other second.1 counts) le);
        },
      ))
      (cases_lt first.0.generation second.0.generation)
    where
      under : (other : Record) → other.generation ≤ first.0.generation → IsBelow 0 other first.0
      under other le = ⊎_elim (λ lt. inl lt) (λ ge. inr (refl, omega (arith, le, ge))) (cases_lt other.generation first.0.generation)

  of_pages : Decided (HasPage 0) → Decided (HasPage 1) → (o : Option Record) × RecordOf frame head o
  of_pages (inl first) (inl second) = higher first second
  of_pages (inl first) (inr none) = (Some first.0, record { which = 0; inside = omega arith; counts = first.1; highest = λ other counts. absurd (none (other, counts)) })
  of_pages (inr never) (inl second) = (Some second.0, record { which = 1; inside = omega arith; counts = second.1; highest = λ other counts. absurd (never (other, counts)) })
  of_pages (inr never) (inr none) = (
    None,
    λ which r two counts. ⊎_elim
        (λ e. never (r, subst (λ (k : ℕ). Counts frame head k r) e counts))
        (λ ne. none (r, subst (λ (k : ℕ). Counts frame head k r) (omega (arith, ne, two)) counts))
        (cases_eq which 0),
  )

pub some_answer : SomeAnswer
some_answer frame head = of_pages frame head (has_page frame head 0) (has_page frame head 1)
