-- A page that counts by how many slots each component has counts by the configuration page.
use Rattle.std.proofs.Common.{◌≡◌, inl, inr, ⊎_elim, ◌<◌, ◌+◌, ◌↔◌, ℕ, List, [], get_or, set, length, Option, Some, None, sym, ◌∙◌, subst, arith, get_or-set_other, get_or-set_same}
use Rattle.std.proofs.lemmas.Bool.{cases_eq}
use Rattle.std.specs.Prelude.{IfSome}
use Rattle.flash_layout.specs.declared.frame.Frame.{Frame}
use Rattle.flash_layout.specs.declared.key.Key.{Key}
use Rattle.flash_layout.specs.declared.layout.Entry.{Entry}
use Rattle.flash_layout.specs.declared.layout.Memory.TheVariants as memory
use Rattle.flash_layout.specs.declared.slot.Record.{Record}
use Rattle.flash_layout.specs.Configs.{ConfigOf, Configured}
use Rattle.flash_layout.specs.Frames.{config_page_of, head_of, most}
use Rattle.rollback_record.specs.RecordPage.{CountSlots, HasSlot, IsActiveSlot, IsPageBeside, IsRecordPage}
use Rattle.rollback_record.proofs.ConfigSlots.{has_two, second_slot}
use Rattle.rollback_record.proofs.Widths.{most_few}

module _ (frame : Frame) (config slots : List ℕ) (counts : CountSlots frame config slots) where
  to_active : (i slot : ℕ) → HasSlot frame slots i slot → IsActiveSlot frame config i slot
  to_active i slot (inl first) = inl first
  to_active i slot (inr second) = inr (second.0, second.1, (counts i second.1).0 second.2)

  from_active : (i slot : ℕ) → IsActiveSlot frame config i slot → HasSlot frame slots i slot
  from_active i slot (inl first) = inl first
  from_active i slot (inr second) = inr (second.0, second.1, (counts i second.1).1 second.2)

  to_page : (page : List ℕ) (r : Record) → IsPageBeside frame slots page r → IsRecordPage frame config page r
  to_page page r is = record {
    typed = is.typed;
    fields = record { bank = is.fields.bank; size = is.fields.size; active = λ i low. to_active i (get_or r.active i 0) (is.fields.active i low) };
    bytes = is.bytes;
  }

  from_page : (page : List ℕ) (r : Record) → IsRecordPage frame config page r → IsPageBeside frame slots page r
  from_page page r is = record {
    typed = is.typed;
    fields = record { bank = is.fields.bank; size = is.fields.size; active = λ i low. from_active i (get_or r.active i 0) (is.fields.active i low) };
    bytes = is.bytes;
  }

  pub some_page : (page : List ℕ) (o : Option Record) → IfSome o (λ r. IsPageBeside frame slots page r) → IfSome o (IsRecordPage frame config page)
  some_page page None is = is
  some_page page (Some r) is = to_page page r is

  pub every_page : (page : List ℕ) (o : Option Record) → ((r : Record) → IsPageBeside frame slots page r → o ≡ Some r) → (r : Record) → IsRecordPage frame config page r → o ≡ Some r
  every_page page o every r is = every r (from_page page r is)

-- some component, where any serves
some_entry : Entry
some_entry = record { identifier = []; memory = memory.Ram; slots = 0; starts = []; capacity = 0; vendor = None; class = None; device = None }

-- the slots of a layout are those of its configuration page
pub of_layout : (frame : Frame) (size : ℕ) (image : List ℕ) (layout : List Entry) (key : Key) (slots : List ℕ) → ConfigOf size image (Configured layout key frame)
    → ((i : ℕ) → i < 32 → (get_or slots i 0 ≡ 2) ↔ ((i < length layout) × ((d : Entry) → (get_or layout i d).slots ≡ 2))) → CountSlots frame (config_page_of frame (head_of frame image)) slots
of_layout frame size image layout key slots is counts = λ i low. (
  λ two. let has = (counts i (near i low)).0 two in second_slot frame size (config_page_of frame (head_of frame image)) layout key is.page is.typed.entries is.typed.room i some_entry has.0 (has.1 some_entry),
  λ second. (counts i (near i low)).1 (has_two frame size (config_page_of frame (head_of frame image)) layout key is.page is.typed.entries is.typed.room i second),
)
  where
    near : (i : ℕ) → i < most frame → i < 32
    near i low = omega (arith, low, most_few frame)

-- ---- one slot after another

pub more : (P : ℕ → Type 0) (slots : List ℕ) (i n : ℕ) → i < length slots → ((k : ℕ) → k < i → (get_or slots k 0 ≡ 2) ↔ P k) → ((n ≡ 2) ↔ P i)
    → (k : ℕ) → k < i + 1 → (get_or (set slots i n) k 0 ≡ 2) ↔ P k
more P slots i n room before here k lt = ⊎_elim
    (λ e. subst (λ (j : ℕ). (get_or (set slots i n) j 0 ≡ 2) ↔ P j) (sym e)
    (λ two. here.0 (sym (get_or-set_same slots i n 0 room) ∙ two), λ has. get_or-set_same slots i n 0 room ∙ here.1 has))
    (λ ne. (
      λ two. (before k (omega (arith, lt, ne))).0 (sym (get_or-set_other slots i k n 0 ne) ∙ two),
      λ has. get_or-set_other slots i k n 0 ne ∙ (before k (omega (arith, lt, ne))).1 has,
    ))
    (cases_eq k i)
