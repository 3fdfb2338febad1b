-- The slots that are in use, and those that are chosen.
use Rattle.std.proofs.Common.{◌≡◌, inl, inr, ⊎_elim, ◌<◌, ◌≤◌, ℕ, ◌-◌, List, [], length, get_or, Option, Some, None, IfSome, refl, sym, ◌∙◌, ap, subst, arith}
use Rattle.std.specs.Prelude.{◌==◌, ◌&&◌, if◌then◌else◌}
use Rattle.std.proofs.lemmas.List.{get_or_past}
use Rattle.std.proofs.lemmas.Bool.{cases_lt}
use Rattle.suit_commands.specs.Tree.{PlanTree}
use Rattle.flash_layout.specs.declared.frame.Frame.{Frame}
use Rattle.flash_layout.specs.declared.key.Key.{Key}
use Rattle.flash_layout.specs.declared.layout.Entry.{Entry}
use Rattle.flash_layout.specs.declared.layout.Memory.TheVariants as memory
use Rattle.flash_layout.specs.declared.place.Places.{Places}
use Rattle.flash_layout.specs.declared.slot.Record.{Record}
use Rattle.flash_layout.specs.Configs.{ConfigOf, Configured}
use Rattle.flash_layout.specs.Frames.{config_page_of, head_of}
use Rattle.flash_layout.specs.Layouts.{IsLayout}
use Rattle.rollback_record.specs.HeadRecord.{IsLoadable, RecordOf}
use Rattle.rollback_record.specs.RecordPage.{HasSecondSlot}
use Rattle.step_machine.proofs.Fitting.{few_entries, few_slots, some_slot}
use Rattle.step_machine.specs.Worlds.{IsChoice}
use Rattle.update_proc.specs.Choices.{AreChosen, active_slots}
use Rattle.step_machine.specs.InUse.{AreInUse}
use Rattle.update_proc.proofs.ActiveSlots.{held_active}
use Rattle.rollback_record.proofs.ConfigSlots.{has_two}

some_entry : Entry
some_entry = record { identifier = []; memory = memory.Ram; slots = 0; starts = []; capacity = 0; vendor = None; class = None; device = None }

-- ---- the number of a slot that is in use

one_at_most : (slots number : ℕ) → (if (number == 1) && (slots == 2) then 1 else 0) ≤ 1
one_at_most slots number = grind arith

first_slot : (slots number : ℕ) → number ≡ 0 → ◌≡◌ {A = ℕ} (if (number == 1) && (slots == 2) then 1 else 0) 0
first_slot slots number is = grind (arith, is)

last_slot : (slots number : ℕ) → number ≡ 1 → slots ≡ 2 → ◌≡◌ {A = ℕ} (if (number == 1) && (slots == 2) then 1 else 0) 1
last_slot slots number is two = grind (arith, is, two)

module _ (layout : List Entry) (active numbers : List ℕ) (is : AreInUse layout active numbers) where
  pub at_most_one : (i : ℕ) → get_or numbers i 0 ≤ 1
  at_most_one i = ⊎_elim
      (λ inside. subst (λ (n : ℕ). n ≤ 1) (sym (is.each i some_entry inside)) (one_at_most (get_or layout i some_entry).slots (get_or active i 0)))
      (λ behind. omega (arith, is.rest i behind))
      (cases_lt i (length layout))

module _ (frame : Frame) (size : ℕ) (layout : List Entry) (is : IsLayout frame size layout) where
  pub is_choice : (active within : List ℕ) (places : Places) (tree : PlanTree) (numbers : List ℕ) → AreInUse layout active within → AreChosen layout places tree within numbers → IsChoice layout (record { number = numbers })
  is_choice active within places tree numbers in_use chosen = record {
    few = few_entries frame size layout is;
    one = λ i e inside. ⊎_elim
        (λ same. subst (λ (n : ℕ). n < (get_or layout i e).slots) (sym (same ∙ in_use.each i e inside)) (some_slot (get_or layout i e).slots (get_or active i 0) (few_slots frame size layout is i e inside).0))
        (λ other. omega (arith, other.1, other.0.1 e, at_most_one layout active within in_use i))
        (chosen.either i);
    two = λ i e inside. (few_slots frame size layout is i e inside).1;
    rest = λ i past. chosen.same i (λ has. omega (arith, past, has.1.0)) ∙ in_use.rest i past;
  }

-- ---- the slots that the record says are in use

pub chosen_as : (layout : List Entry) (places : Places) (tree : PlanTree) (within active numbers : List ℕ) → ((i : ℕ) → get_or within i 0 ≡ get_or active i 0)
    → AreChosen layout places tree within numbers → AreChosen layout places tree active numbers
chosen_as layout places tree within active numbers same is = record {
  size = is.size;
  other = λ i written has. is.other i written has ∙ ap (λ (n : ℕ). 1 - n) (same i);
  same = λ i not. is.same i not ∙ same i;
  either = λ i. ⊎_elim (λ s. inl (s ∙ same i)) (λ o. inr (o.0, o.1 ∙ ap (λ (n : ℕ). 1 - n) (same i))) (is.either i);
}

behind : (xs : List ℕ) (i : ℕ) → length xs ≤ i → get_or xs i 0 ≡ 0
behind xs i far = get_or_past xs i 0 far

held_long : (frame : Frame) (held : Option Record) → IfSome held (IsLoadable frame) → length (active_slots held) ≡ 32
held_long frame None few = refl
held_long frame (Some r) few = few.typed.active

module _ (frame : Frame) (size : ℕ) (image : List ℕ) (layout : List Entry) (key : Key) (held : Option Record) (config : ConfigOf size image (Configured layout key frame))
    (was : RecordOf frame (head_of frame image) held) (few : IfSome held (IsLoadable frame)) (within : List ℕ) (is : AreInUse layout (active_slots held) within) where
  low : (i : ℕ) → get_or (active_slots held) i 0 ≡ 0 → get_or within i 0 ≡ 0
  low i zero_is = ⊎_elim
      (λ inside. is.each i some_entry inside ∙ first_slot (get_or layout i some_entry).slots (get_or (active_slots held) i 0) zero_is)
      (λ past. is.rest i past)
      (cases_lt i (length layout))

  high : (i : ℕ) → get_or (active_slots held) i 0 ≡ 1 → HasSecondSlot (config_page_of frame (head_of frame image)) i → get_or within i 0 ≡ 1
  high i one_is second =
      let two = has_two frame size (config_page_of frame (head_of frame image)) layout key config.page config.typed.entries config.typed.room i second in
      is.each i some_entry two.0 ∙ last_slot (get_or layout i some_entry).slots (get_or (active_slots held) i 0) one_is (two.1 some_entry)

  pub in_use_as_held : (i : ℕ) → get_or within i 0 ≡ get_or (active_slots held) i 0
  in_use_as_held i = ⊎_elim
      (λ near. ⊎_elim
      (λ first. low i first ∙ sym first)
      (λ second. high i second.0 second.2 ∙ sym second.0)
      (held_active frame (head_of frame image) held was i near))
      (λ far. behind within i (omega (arith, is.size, far)) ∙ sym (behind (active_slots held) i (omega (arith, held_long frame held few, far))))
      (cases_lt i 32)
