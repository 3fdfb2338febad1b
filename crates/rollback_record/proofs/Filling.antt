-- What stands at a base once all was written there, one piece after another.
use Rattle.std.proofs.Common.{◌≡◌, ⊎_elim, inl, inr, ◌≤◌, ◌<◌, ◌+◌, ℕ, List, length, get_or, Option, Some, None, ap, subst, ◌∙◌, arith}
use Rattle.std.specs.List.{slice_range}
use Rattle.suit_edge.specs.Flash.{Flash, Keeps}
use Rattle.suit_edge.specs.RangeLaws.{same_range, written_range}
use Rattle.suit_edge.specs.Ranges.{Outside, SameOn, written}
use Rattle.flash_layout.specs.declared.frame.Frame.{Frame}
use Rattle.flash_layout.specs.declared.key.Key.{Key}
use Rattle.flash_layout.specs.declared.layout.Entry.{Entry}
use Rattle.flash_layout.specs.Formats.{IsWorkClosed, OutsideWorkGates}
use Rattle.flash_layout.specs.FrameFacts.{FrameFacts, by_second, facts}
use Rattle.flash_layout.specs.Frames.{IsFrame, bank_place, frame_size, head_size, page_bytes, record_place}
use Rattle.rollback_record.specs.declared.moved.Installed.{Installed}
use Rattle.rollback_record.specs.Moved.{HasEnvelope, HasFirstPage, HasPage, HasRecords, HasRoom, IsFilled, OutsideBank, OutsideFrame, OutsidePage, OutsideRecords}
use Rattle.rollback_record.specs.RecordPage.{record_length}
use Rattle.rollback_record.proofs.Widths.{most_few}

-- what was written stands there
pub put_there : (old new bytes : List ℕ) (place at n : ℕ) → place ≡ at → length bytes ≡ n → at + n ≤ length old → new ≡ written old place bytes → slice_range new at (at + n) ≡ bytes
put_there old new bytes place at n here long fits wrote =
    ap (λ (l : List ℕ). slice_range l at (at + n)) (wrote ∙ ap (λ (p : ℕ). written old p bytes) here)
    ∙ subst (λ (m : ℕ). slice_range (written old at bytes) at (at + m) ≡ bytes) long (written_range old at bytes (omega (arith, fits, long)))

-- a longer range leaves fewer places
pub fewer : (place m n : ℕ) → m ≤ n → (i : ℕ) → Outside place n i → Outside place m i
fewer place m n few i out = ⊎_elim (λ low. inl low) (λ high. inr (omega (arith, high, few))) out

-- and all other places are left alone
pub put_keeps : (a b : Flash) (place at n m : ℕ) → place ≡ at → m ≡ n → Keeps (Outside place m) a b → Keeps (Outside at n) a b
put_keeps a b place at n m here long kept = subst (λ (p : ℕ). Keeps (Outside p n) a b) here (subst (λ (k : ℕ). Keeps (Outside place k) a b) long kept)

-- the first record page stays while the second is closed
pub first_beside : (size : ℕ) (frame : Frame) → IsFrame size frame → (old new : List ℕ) → length old ≡ size → SameOn (Outside (record_place frame 1) 1) old new → (o : Option Installed) → HasFirstPage frame o old → HasFirstPage frame o new
first_beside size frame is old new sized same None shut = same.same (record_place frame 0) (inl (omega arith)) ∙ shut
first_beside size frame is old new sized same (Some i) page =
    let there = facts size frame is in
    same_range new old (record_place frame 0) (record_place frame 0 + record_length frame) same.size (omega (arith, sized, same.size, there.inside, there.head, most_few frame)) (λ k low high. same.same k (inl (omega (arith, high, most_few frame)))) ∙ page

module _ (size : ℕ) (frame : Frame) (is : IsFrame size frame) (two : frame.version ≡ 2) where
  there : FrameFacts size frame
  there = facts size frame is

  head : head_size frame ≡ 147456
  head = by_second frame 49152 147456 two

  area : frame_size frame ≡ 225280
  area = by_second frame 49152 225280 two

  -- ---- each piece stands at the base

  pub page_fewer : (i : ℕ) → OutsideFrame frame i → OutsidePage frame i
  page_fewer i out = ⊎_elim (λ low. inl low) (λ high. inr (omega (arith, high, area, head, there.page, there.head))) out

  pub records_fewer : (i : ℕ) → OutsideFrame frame i → OutsideRecords frame i
  records_fewer i out = ⊎_elim
      (λ low. (inl (omega (arith, low)), inl (omega (arith, low))))
      (λ high. (inr (omega (arith, high, area, head, there.head, most_few frame)), inr (omega (arith, high, area, head, there.head))))
      out

  pub bank_fewer : (i : ℕ) → OutsideFrame frame i → OutsideBank frame i
  bank_fewer i out = ⊎_elim
      (λ low. inl (omega (arith, low)))
      (λ high. inr (omega (arith, high, area, head, there.head, there.first_bank)))
      out

  pub work_fewer : (i : ℕ) → OutsideFrame frame i → OutsideWorkGates frame i
  work_fewer i out so = ⊎_elim
      (λ low. (inl (omega (arith, low)), inl (omega (arith, low))))
      (λ high. (inr (omega (arith, high, area)), inr (omega (arith, high, area))))
      out

  -- ---- and stays while the others are written

  module _ (layout : List Entry) (key : Key) (installed : Option Installed) (room : HasRoom frame installed) (once twice thrice last : List ℕ) (sized : length last ≡ size)
      (second : SameOn (OutsideRecords frame) once twice) (third : SameOn (OutsideBank frame) twice thrice) (fourth : SameOn (OutsideWorkGates frame) thrice last) where
    by_work : (i : ℕ) → i < frame.base + 147456 → get_or last i 0 ≡ get_or thrice i 0
    by_work i low = fourth.same i (λ so. (inl low, inl (omega (arith, low))))

    by_bank : (i : ℕ) → i < bank_place frame 0 → get_or last i 0 ≡ get_or twice i 0
    by_bank i low = by_work i (omega (arith, low, head, there.head, there.first_bank)) ∙ third.same i (inl low)

    by_records : (i : ℕ) → i < record_place frame 0 → get_or last i 0 ≡ get_or once i 0
    by_records i low = by_bank i (omega (arith, low, there.first_bank)) ∙ second.same i (inl low, inl (omega (arith, low)))

    twice_long : length last ≡ length twice
    twice_long = fourth.size ∙ third.size

    page_last : HasPage frame layout key once → HasPage frame layout key last
    page_last page = same_range last once frame.base (frame.base + page_bytes frame) (twice_long ∙ second.size) (omega (arith, sized, there.inside, there.page, there.head)) (λ i low high. by_records i (omega (arith, high, there.page))) ∙ page

    first_last : (o : Option Installed) → HasFirstPage frame o twice → HasFirstPage frame o last
    first_last None shut = by_bank (record_place frame 0) (omega (arith, there.first_bank)) ∙ shut
    first_last (Some i) page =
        same_range last twice (record_place frame 0) (record_place frame 0 + record_length frame) twice_long (omega (arith, sized, there.inside, there.head, most_few frame)) (λ i low high. by_bank i (omega (arith, high, there.first_bank, most_few frame)))
        ∙ page

    envelope_last : (o : Option Installed) → HasRoom frame o → HasEnvelope frame o thrice → HasEnvelope frame o last
    envelope_last None fits is = tt
    envelope_last (Some i) fits is =
        same_range last thrice (bank_place frame 0) (bank_place frame 0 + length i.envelope.items) fourth.size (omega (arith, sized, fits, there.inside, there.head, there.first_bank))
        (λ k low high. by_work k (omega (arith, high, fits, head, there.head, there.first_bank))) ∙ is

    pub filled : HasPage frame layout key once → HasRecords frame installed twice → HasEnvelope frame installed thrice → IsWorkClosed frame last → IsFilled frame layout key installed last
    filled page records envelope work = record {
      page = page_last page;
      records = record { first = first_last installed records.first; second = by_bank (record_place frame 1) (omega (arith, there.first_bank)) ∙ records.second };
      envelope = envelope_last installed room envelope;
      work = work;
    }
