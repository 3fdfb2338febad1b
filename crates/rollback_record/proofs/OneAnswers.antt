-- The head of an image has one record at most.
use Rattle.std.proofs.Common.{◌≡◌, ◌≢◌, ⊎_elim, ℕ, ◌-◌, List, Some, None, refl, ap, subst, arith}
use Rattle.std.proofs.lemmas.Bool.{cases_eq}
use Rattle.flash_layout.specs.declared.frame.Frame.{Frame}
use Rattle.flash_layout.specs.declared.slot.Record.{Record}
use Rattle.flash_layout.specs.Frames.{config_page_of}
use Rattle.rollback_record.specs.HeadRecord.{record_bytes, Counts, HoldsRecord, IsBelow}
use Rattle.rollback_record.specs.RecordLaws.{OneAnswer}
use Rattle.rollback_record.proofs.Fields.{one_record}

module _ (frame : Frame) (head : List ℕ) (r s : Record) (p : HoldsRecord frame head r) (q : HoldsRecord frame head s) where
  -- on one page
  same_page : p.which ≡ q.which → r ≡ s
  same_page e = one_record frame (config_page_of frame head) (record_bytes frame head q.which) r s (subst (λ (k : ℕ). Counts frame head k r) e p.counts).page q.counts.page

  -- on both
  not_both : p.which ≢ q.which → ⊥
  not_both ne =
      let first : IsBelow p.which s r = p.highest s (subst (λ (k : ℕ). Counts frame head k s) there q.counts) in
      let second : IsBelow q.which r s = q.highest r (subst (λ (k : ℕ). Counts frame head k r) back p.counts) in
      ⊎_elim
      (λ lt. ⊎_elim (λ gt. absurd (omega (arith, lt, gt))) (λ eq. absurd (omega (arith, lt, eq.1))) second)
      (λ eq. ⊎_elim (λ gt. absurd (omega (arith, gt, eq.1))) (λ eq2. absurd (omega (arith, ne, eq.0, eq2.0))) second)
      first
    where
      there : q.which ≡ 1 - p.which
      there = omega (arith, ne, p.inside, q.inside)

      back : p.which ≡ 1 - q.which
      back = omega (arith, ne, p.inside, q.inside)

pub one_answer : OneAnswer
one_answer frame head None None p q = refl
one_answer frame head None (Some s) p q = absurd (p q.which s q.inside q.counts)
one_answer frame head (Some r) None p q = absurd (q p.which r p.inside p.counts)
one_answer frame head (Some r) (Some s) p q = ap (λ (x : Record). Some x) (⊎_elim (λ e. same_page frame head r s p q e) (λ ne. absurd (not_both frame head r s p q ne)) (cases_eq p.which q.which))
