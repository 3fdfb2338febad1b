-- What is read of a flash with that frame, and by its frame.
use Rattle.std.proofs.Common.{◌≡◌, ◌<◌, ℕ, ◌+◌, List, length, length-drop, length-take, drop, Option, None, sym, ◌∙◌, ap, subst, arith}
use Rattle.std.specs.Prelude.{◌-◌}
use Rattle.std.specs.List.{slice_range}
use Rattle.flash_layout.specs.declared.frame.Frame.{Frame}
use Rattle.flash_layout.specs.declared.slot.Record.{Record}
use Rattle.flash_layout.specs.FrameFacts.{FrameFacts, page_there}
use Rattle.flash_layout.specs.Frames.{config_page_of, head_of, head_size, page_bytes, record_place}
use Rattle.rollback_record.specs.HeadRecord.{HaveRead, RecordOf}
use Rattle.rollback_record.specs.RecordPage.{record_length}
use Rattle.rollback_record.proofs.Pages.{bytes_in}

-- a small flash has no record
pub small_none : (frame : Frame) (reads : List ℕ) → length reads < head_size frame → RecordOf frame (head_of frame reads) None
small_none frame reads small which r few is =
    absurd (omega (arith, is.whole, small, length-drop frame.base reads, length-take (frame.base + head_size frame - frame.base) (drop frame.base reads)))

-- the record that was loaded
pub loaded_as : (frame : Frame) (reads : List ℕ) (o p : Option Record) → o ≡ p → RecordOf frame (head_of frame reads) o → RecordOf frame (head_of frame reads) p
loaded_as frame reads o p same held = subst (λ (q : Option Record). RecordOf frame (head_of frame reads) q) same held

module _ (size : ℕ) (frame : Frame) (is : FrameFacts size frame) where
  -- the configuration page
  pub config_read : (a config : List ℕ) (n : ℕ) → n ≡ page_bytes frame → config ≡ slice_range a frame.base (frame.base + n) → config ≡ config_page_of frame (head_of frame a)
  config_read a config n n_is read = read ∙ ap (λ (k : ℕ). slice_range a frame.base (frame.base + k)) n_is ∙ sym (page_there size frame is a)

  -- and then the record pages, in turn
  pub have_read : (a b one two : List ℕ) (p q m n : ℕ) → p ≡ record_place frame 0 → q ≡ record_place frame 1 → m ≡ record_length frame → n ≡ record_length frame → b ≡ a → one ≡ slice_range a p (p + m)
      → two ≡ slice_range b q (q + n) → HaveRead frame (head_of frame a) one two
  have_read a b one two p q m n p_is q_is m_is n_is same one_is two_is = record {
    first_is = one_is ∙ ap (λ (i : ℕ). slice_range a p (p + i)) m_is ∙ ap (λ (i : ℕ). slice_range a i (i + record_length frame)) p_is ∙ sym (bytes_in size frame is a 0 (omega arith));
    second_is = two_is ∙ ap (λ (i : ℕ). slice_range b q (q + i)) n_is ∙ ap (λ (i : ℕ). slice_range b i (i + record_length frame)) q_is
        ∙ ap (λ (l : List ℕ). slice_range l (record_place frame 1) (record_place frame 1 + record_length frame)) same ∙ sym (bytes_in size frame is a 1 (omega arith));
  }
