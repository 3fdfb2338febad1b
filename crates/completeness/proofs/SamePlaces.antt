-- The components of a manifest have one place each in a layout, and so the slots that they stand for are determined.
use Rattle.std.proofs.Common.{◌≡◌, ◌⊎◌, ⊎_elim, ◌<◌, ℕ, List, [], length, get_or, None, sym, ◌∙◌, ap, arith}
use Rattle.std.proofs.lemmas.List.{same_lists}
use Rattle.std.proofs.lemmas.Grind.{same_number_lists}
use Rattle.suit_commands.specs.Tree.{PlanTree}
use Rattle.flash_layout.specs.declared.frame.Frame.{Frame}
use Rattle.flash_layout.specs.declared.layout.Entry.{Entry}
use Rattle.flash_layout.specs.declared.layout.Memory.TheVariants as memory
use Rattle.flash_layout.specs.declared.place.Places.{Places}
use Rattle.flash_layout.specs.declared.slot.Slot.{Slot}
use Rattle.flash_layout.specs.Layouts.{IsLayout}
use Rattle.flash_layout.specs.Placement.{ArePlaces, HasPlace}
use Rattle.step_machine.specs.declared.spot.Standing.{Standing}
use Rattle.step_machine.specs.declared.world.SlotChoice.{SlotChoice}
use Rattle.step_machine.specs.Worlds.{StandAs, standing_of}
use Rattle.update_proc.specs.Choices.{AreChosen, HasOther, IsTouched, IsWritten}
use Rattle.update_proc.specs.Moments.{KeepsContents}

-- some entry
abbrev pub no_entry : Entry
no_entry = record { identifier = []; memory = memory.Ram; slots = 0; starts = []; capacity = 0; vendor = None; class = None; device = None }

three : (m n : ℕ) → (m < n) ⊎ ((m ≡ n) ⊎ (n < m))
three m n = grind arith

-- numbers that are not different are the same
one_number : (m n : ℕ) → ((m ≡ n → ⊥) → ⊥) → m ≡ n
one_number m n never =
    ⊎_elim (λ lt. absurd (never (λ e. omega (arith, lt, e)))) (⊎_elim (λ e. e) (λ gt. absurd (never (λ e. omega (arith, gt, e))))) (three m n)

-- ---- places

pub record AreSame (p q : Places) : Type 0 where
  pub count : q.count ≡ p.count
  pub each : (k : ℕ) → k < p.count → get_or q.layout_index k 0 ≡ get_or p.layout_index k 0

pub turned : (p q : Places) → AreSame p q → AreSame q p
turned p q same = record { count = sym same.count; each = λ k lt. sym (same.each k (omega (arith, lt, same.count))) }

module _ (frame : Frame) (size : ℕ) (layout : List Entry) (is : IsLayout frame size layout) where
  one_place : (id : List (List ℕ)) (i j : ℕ) → HasPlace layout id i → HasPlace layout id j → i ≡ j
  one_place id i j a b =
      ⊎_elim (λ lt. absurd ((is.apart i j no_entry lt b.0).other (a.1 no_entry ∙ sym (b.1 no_entry))))
      (⊎_elim (λ e. e) (λ gt. absurd ((is.apart j i no_entry gt a.0).other (b.1 no_entry ∙ sym (a.1 no_entry))))) (three i j)

  pub same_places : (ids : List (List (List ℕ))) (p q : Places) → ArePlaces layout ids p → ArePlaces layout ids q → AreSame p q
  same_places ids p q a b = record {
    count = b.count ∙ sym a.count;
    each = λ k lt. let inside : k < length ids = omega (arith, lt, a.count) in one_place (get_or ids k []) _ _ (b.each k [] inside) (a.each k [] inside);
  }

-- ---- the same holds of the same places

module _ (layout : List Entry) (p q : Places) (same : AreSame p q) (tree : PlanTree) where
  written : (i : ℕ) → IsWritten tree p i → IsWritten tree q i
  written i w = record {
    component = w.component;
    few = omega (arith, w.few, same.count);
    target = w.target;
    there = same.each w.component w.few ∙ w.there;
  }

  touched : (numbers : List ℕ) (slot : Slot) → IsTouched layout p tree numbers slot → IsTouched layout q tree numbers slot
  touched numbers slot t = record { index = t.index; written = written t.index t.written; stands = t.stands }

module _ (layout : List Entry) (p q : Places) (same : AreSame p q) (tree : PlanTree) where
  pub chosen_there : (active numbers : List ℕ) → AreChosen layout p tree active numbers → AreChosen layout q tree active numbers
  chosen_there active numbers c = record {
    size = c.size;
    other = λ i w o. c.other i (written layout q p (turned p q same) tree i w) o;
    same = λ i never. c.same i (λ w. never (written layout p q same tree i w.0, w.1));
    either = c.either;
  }

  pub keeps_there : (numbers before image : List ℕ) → KeepsContents layout p tree numbers before image → KeepsContents layout q tree numbers before image
  keeps_there numbers before image keeps = λ i number slot is never. keeps i number slot is (λ t. never (touched layout p q same tree numbers slot t))

pub stand_there : (layout : List Entry) (p q : Places) → AreSame p q → (slots : SlotChoice) (standings : List Standing) → StandAs layout p slots standings → StandAs layout q slots standings
stand_there layout p q same slots standings s = record {
  count = s.count ∙ sym same.count;
  each = λ k d e lt.
      let below : k < p.count = omega (arith, lt, same.count) in
      s.each k d e below ∙ ap (λ (i : ℕ). standing_of (get_or layout i e) k i (get_or slots.number i 0)) (sym (same.each k below));
}

-- ---- they are determined

pub one_choice : (layout : List Entry) (p : Places) (tree : PlanTree) (active x y : List ℕ) → AreChosen layout p tree active x → AreChosen layout p tree active y → y ≡ x
one_choice layout p tree active x y a b = same_number_lists y x (b.size ∙ sym a.size) (λ k lt. one_number _ _ (never k)) where
  never : (i : ℕ) → (get_or y i 0 ≡ get_or x i 0 → ⊥) → ⊥
  never i other =
      let out : IsWritten tree p i × HasOther layout i → ⊥ = λ w. other (b.other i w.0 w.1 ∙ sym (a.other i w.0 w.1)) in
      other (b.same i out ∙ sym (a.same i out))

-- for slots with the same numbers at the places
pub one_standing : (layout : List Entry) (p : Places) (m n : SlotChoice) (s t : List Standing)
    → ((k : ℕ) → k < p.count → get_or n.number (get_or p.layout_index k 0) 0 ≡ get_or m.number (get_or p.layout_index k 0) 0)
    → StandAs layout p m s → StandAs layout p n t → t ≡ s
one_standing layout p m n s t same a b = same_lists t s (b.count ∙ sym a.count) (λ k d lt.
    let below : k < p.count = omega (arith, lt, b.count) in
    let i = get_or p.layout_index k 0 in
    b.each k d no_entry below ∙ ap (λ (j : ℕ). standing_of (get_or layout i no_entry) k i j) (same k below) ∙ sym (a.each k d no_entry below))
