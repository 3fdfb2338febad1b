-- The slots of a layout share no byte.
use Rattle.std.proofs.Common.{◌≡◌, ◌⊎◌, inl, inr, ⊎_elim, ◌<◌, ◌≤◌, ℕ, ◌+◌, List, length, get_or, take, refl, sym, ◌∙◌, ap, subst, arith, get_or-take}
use Rattle.std.specs.List.{All}
use Rattle.std.proofs.lemmas.Bool.{cases_eq, cases_lt}
use Rattle.std.proofs.lemmas.List.{length-take-le}
use Rattle.std.proofs.lemmas.List.Elements.{All-get_or}
use Rattle.suit_edge.specs.Ranges.{Outside, Within}
use Rattle.suit_edge.specs.RangeLaws.{same_range}
use Rattle.suit_commands.specs.Tree.{PlanTree}
use Rattle.flash_layout.specs.declared.frame.Frame.{Frame}
use Rattle.flash_layout.specs.declared.layout.Entry.{Entry}
use Rattle.flash_layout.specs.declared.layout.Memory.{Memory}
use Rattle.flash_layout.specs.declared.layout.Memory.TheVariants as memory
use Rattle.flash_layout.specs.declared.place.Places.{Places}
use Rattle.flash_layout.specs.declared.slot.Slot.{Slot}
use Rattle.flash_layout.specs.Frames.{frame_size}
use Rattle.flash_layout.specs.Layouts.{AreClear, IsBehindHead, IsClearOf, IsEntry, IsInFlash, IsLayout, IsOfMemory, IsTypedEntry, slot_size, slot_starts, starts_in}
use Rattle.flash_layout.specs.Slots.{content_of, extent_of, slot_content}
use Rattle.update_proc.specs.Choices.{IsSlotOf, IsTouched}

clear_as : (p p' m m' q q' n n' : ℕ) → p ≡ p' → m ≡ m' → q ≡ q' → n ≡ n' → AreClear p m q n → AreClear p' m' q' n'
clear_as p p' m m' q q' n n' ep em eq en c =
    (λ h. let low : p ≤ q = omega (arith, ep, eq, h) in let far = c.0 low in omega (arith, ep, em, eq, far), λ h. let low : q ≤ p = omega (arith, ep, eq, h) in let far = c.1 low in omega (arith, ep, eq, en, far))

orders : (m n : ℕ) → (m < n) ⊎ ((m ≡ n) ⊎ (n < m))
orders m n = grind arith

-- a place in one range is in no other that is clear of it
pub outside_clear : (p m q n i : ℕ) → AreClear p m q n → Within p m i → Outside q n i
outside_clear p m q n i c within = ⊎_elim
    (λ low. let at_most : p ≤ q = omega (arith, low) in let far = c.0 at_most in inl (omega (arith, far, within.1)))
    (λ high. let far = c.1 high in inr (omega (arith, far, within.0)))
    (cases_lt p q)

module _ (frame : Frame) (size : ℕ) (layout : List Entry) (allowed : IsLayout frame size layout) (typed : All IsTypedEntry layout) (d : Entry) where
  abbrev entry : ℕ → Entry
  entry i = get_or layout i d

  in_flash : (i : ℕ) → i < length layout → (entry i).memory ≡ memory.Flash → IsInFlash frame size (entry i)
  in_flash i inside flash = subst (λ (m : Memory). IsOfMemory frame size (entry i) m) flash (All-get_or (IsEntry frame size) layout i d inside allowed.each).held

  module _ (i n : ℕ) (s : Slot) (is : IsSlotOf layout i n s) where
    pub start_at : get_or (slot_starts (entry i)) n 0 ≡ s.start
    start_at =
        ap (λ (m : Memory). get_or (starts_in m (take (entry i).slots (entry i).starts)) n 0) (is.flash d) ∙ get_or-take (entry i).slots (entry i).starts n 0 (is.number d)
        ∙ sym (ap (λ (x : Slot). x.start) (is.is d))

    pub start_in : n < length (slot_starts (entry i))
    start_in =
        let long : length (slot_starts (entry i)) ≡ length (take (entry i).slots (entry i).starts) = ap (λ (m : Memory). length (starts_in m (take (entry i).slots (entry i).starts))) (is.flash d) in
        let two = (All-get_or IsTypedEntry layout i d is.inside typed).starts in
        let few = (in_flash i is.inside (is.flash d)).1 in
        let all = length-take-le (entry i).slots (entry i).starts (omega (arith, two, few)) in
        let below = is.number d in
        omega (arith, long, all, below)

    extent_is : slot_size (entry i) ≡ extent_of s
    extent_is = sym (ap (λ (x : Slot). extent_of x) (is.is d))

    -- it lies behind the head
    pub lies : IsBehindHead frame size s.start (extent_of s)
    lies =
        let there = All-get_or (λ p. IsBehindHead frame size p (slot_size (entry i))) (slot_starts (entry i)) n 0 start_in (in_flash i is.inside (is.flash d)).4 in (
          omega (arith, there.0, start_at),
          omega (arith, there.1, start_at, extent_is),
          clear_as frame.base frame.base (frame_size frame) (frame_size frame) (get_or (slot_starts (entry i)) n 0) s.start (slot_size (entry i)) (extent_of s) refl refl start_at extent_is there.2,
        )

    -- where it is left alone, so is its content
    pub content_kept : (a c : List ℕ) → length a ≡ size → length c ≡ length a → ((k : ℕ) → Within s.start (extent_of s) k → get_or c k 0 ≡ get_or a k 0) → slot_content s c ≡ slot_content s a
    content_kept a c long same agree =
        ap (content_of s.capacity) (same_range c a s.start (s.start + extent_of s) same (omega (arith, long, same, lies.1)) (λ k low high. agree k (low, high)))

  clear_later : (i j n m : ℕ) (s t : Slot) → i < j → IsSlotOf layout i n s → IsSlotOf layout j m t → AreClear s.start (extent_of s) t.start (extent_of t)
  clear_later i j n m s t before one two =
      let pair = allowed.apart i j d before two.inside in
      let each = All-get_or (λ p. IsClearOf p (slot_size (entry i)) (slot_starts (entry j)) (slot_size (entry j))) (slot_starts (entry i)) n 0 (start_in i n s one) pair.clear in
      let there = All-get_or (λ q. AreClear (get_or (slot_starts (entry i)) n 0) (slot_size (entry i)) q (slot_size (entry j))) (slot_starts (entry j)) m 0 (start_in j m t two) each in
      clear_as _ _ _ _ _ _ _ _ (start_at i n s one) (extent_is i n s one) (start_at j m t two) (extent_is j m t two) there

  -- the two slots of a component
  clear_two : (i : ℕ) (s t : Slot) → IsSlotOf layout i 0 s → IsSlotOf layout i 1 t → AreClear s.start (extent_of s) t.start (extent_of t)
  clear_two i s t one two =
      let held = in_flash i one.inside (one.flash d) in
      let more = two.number d in
      let few = held.1 in
      let both = held.3 (omega (arith, more, few)) in
      clear_as _ _ _ _ _ _ _ _ (sym (ap (λ (x : Slot). x.start) (one.is d))) (extent_is i 0 s one) (sym (ap (λ (x : Slot). x.start) (two.is d))) (extent_is i 1 t two) both

  clear_self : (i n m : ℕ) (s t : Slot) → (n ≡ m → ⊥) → IsSlotOf layout i n s → IsSlotOf layout i m t → AreClear s.start (extent_of s) t.start (extent_of t)
  clear_self i n m s t other one two = ⊎_elim
      (λ first. clear_two i s t (subst (λ (k : ℕ). IsSlotOf layout i k s) first one) (subst (λ (k : ℕ). IsSlotOf layout i k t) (last first) two))
      (λ second. let back = clear_two i t s (subst (λ (k : ℕ). IsSlotOf layout i k t) (m_first second) two) (subst (λ (k : ℕ). IsSlotOf layout i k s) (n_last second) one) in (back.1, back.0))
      (cases_eq n 0)
    where
      few : (entry i).slots ≤ 2
      few = (in_flash i one.inside (one.flash d)).1

      below_n : n < (entry i).slots
      below_n = one.number d

      below_m : m < (entry i).slots
      below_m = two.number d

      last : n ≡ 0 → m ≡ 1
      last first = omega (arith, first, other, few, below_m)

      n_last : (n ≡ 0 → ⊥) → n ≡ 1
      n_last second = omega (arith, second, few, below_n)

      m_first : (n ≡ 0 → ⊥) → m ≡ 0
      m_first second = omega (arith, second, few, below_n, below_m, other)

  -- two slots are one, or they share no byte
  pub one_or_clear : (i j n m : ℕ) (s t : Slot) → IsSlotOf layout i n s → IsSlotOf layout j m t → ((i ≡ j) × (n ≡ m)) ⊎ AreClear s.start (extent_of s) t.start (extent_of t)
  one_or_clear i j n m s t one two = ⊎_elim
      (λ before. inr (clear_later i j n m s t before one two))
      (λ rest. ⊎_elim
      (λ same. ⊎_elim (λ e. inl (same, e)) (λ other. inr (clear_self i n m s t other one (subst (λ (k : ℕ). IsSlotOf layout k m t) (sym same) two))) (cases_eq n m))
      (λ after. let back = clear_later j i m n t s after two one in inr (back.1, back.0))
      rest)
      (orders i j)

  module _ (places : Places) (tree : PlanTree) (numbers : List ℕ) where
    -- a slot that is not written shares no byte with one that is
    pub untouched : (i n : ℕ) (s t : Slot) → IsSlotOf layout i n s → (IsTouched layout places tree numbers s → ⊥) → IsTouched layout places tree numbers t → (k : ℕ) → Within s.start (extent_of s) k → Outside t.start (extent_of t) k
    untouched i n s t is not touched k within = ⊎_elim
        (λ same. absurd (not (record {
          index = touched.index;
          written = touched.written;
          stands = subst (λ (m : ℕ). IsSlotOf layout touched.index m s) same.1 (subst (λ (m : ℕ). IsSlotOf layout m n s) same.0 is);
        })))
        (λ clear. outside_clear s.start (extent_of s) t.start (extent_of t) k clear within)
        (one_or_clear i touched.index n (get_or numbers touched.index 0) s t is touched.stands)
