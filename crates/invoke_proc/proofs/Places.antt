-- Places, slots and spots of the components of a manifest.
use Rattle.std.proofs.Common.{◌≡◌, ◌≢◌, inl, ⊎_elim, ◌<◌, ◌≤◌, ℕ, suc, List, [], ◌∷◌, length, map, get_or, take, Some, None, refl, sym, ◌∙◌, ap, subst, arith, get_or-take}
use Rattle.std.specs.List.{All, AllByRecursion}
use Rattle.std.proofs.lemmas.Option.{slice_get-get_or}
use Rattle.std.proofs.lemmas.List.{length-map, length-take-le}
use Rattle.suit_commands.specs.Tree.{PlanTree}
use Rattle.suit_manifest.specs.Components.{AreApart}
use Rattle.flash_layout.specs.declared.frame.Frame.{Frame}
use Rattle.flash_layout.specs.declared.layout.Entry.{Entry}
use Rattle.flash_layout.specs.declared.layout.Memory.{Memory}
use Rattle.flash_layout.specs.declared.layout.Memory.TheVariants as memory
use Rattle.flash_layout.specs.declared.place.Places.{Places}
use Rattle.flash_layout.specs.FrameFacts.{FrameFacts}
use Rattle.flash_layout.specs.Frames.{head_size}
use Rattle.flash_layout.specs.Layouts.{IsBehindHead, IsInFlash, IsLayout, IsOfMemory, IsTypedEntry, slot_size, starts_in}
use Rattle.flash_layout.specs.Placement.{ArePlaces, HaveOtherPlaces}
use Rattle.rollback_record.specs.Committing.{InHead}
use Rattle.step_machine.specs.declared.spot.Standing.{Standing}
use Rattle.step_machine.specs.declared.world.SlotChoice.{SlotChoice}
use Rattle.step_machine.specs.PlanRuns.{OutsideTargets}
use Rattle.step_machine.specs.Spots.{OutsideSpot}
use Rattle.step_machine.specs.Worlds.{AreDistinct, IsChoice, StandAs, spot_of}
use Rattle.path_model.specs.Path.{AreIdentities, IsIdentity}
use Rattle.invoke_proc.specs.Booting.{StandActive}
use Rattle.step_machine.specs.Typing.{HasIdentifiers}
use Rattle.step_machine.specs.InUse.{AreInUse}
use Rattle.step_machine.proofs.Fitting.{few_entries, few_slots, some_slot}
use Rattle.step_machine.proofs.Lifting.{clear_outside}

-- ---- places

-- some entry
abbrev none : Entry
none = record { identifier = []; memory = memory.Ram; slots = 0; starts = []; capacity = 0; vendor = None; class = None; device = None }

abbrev Ids : Type 0
Ids = List (List (List ℕ))

apart_at : (ids : Ids) (j k : ℕ) (d : List (List ℕ)) → AreApart ids → j < k → k < length ids → get_or ids j d ≢ get_or ids k d
apart_at ids j k d apart below inside same =
    apart j k below inside (slice_get-get_or ids j d (omega arith) ∙ ap (λ (id : List (List ℕ)). Some id) same ∙ sym (slice_get-get_or ids k d inside))

other_places : (layout : List Entry) (ids : Ids) (p : Places) → ArePlaces layout ids p → HaveOtherPlaces ids p
other_places layout ids p are j k d below lt other same =
    let one = are.each j d (omega (arith, below, lt)) in
    let two = are.each k d lt in
    other (sym (one.1 none) ∙ ap (λ (i : ℕ). (get_or layout i none).identifier) same ∙ two.1 none)

pub are_distinct : (layout : List Entry) (ids : Ids) (places : Places) → length ids ≤ 8 → AreApart ids → ArePlaces layout ids places → HaveOtherPlaces ids places
    → AreDistinct layout places
are_distinct layout ids places few apart are other = record {
  few = omega (arith, are.count, few);
  inside = λ k below. (are.each k [] (omega (arith, are.count, below))).0;
  other = λ j k below inside. let within : k < length ids = omega (arith, are.count, inside) in other j k [] below within (apart_at ids j k [] apart below within);
}

-- ---- slots

all_identities : (standings : List Standing) → ((k : ℕ) (d : Standing) → k < length standings → IsIdentity (get_or standings k d).identity)
    → AllByRecursion IsIdentity (map (λ (s : Standing). s.identity) standings)
all_identities [] all = tt
all_identities (s ∷ standings) all = (all 0 s (omega arith), all_identities standings (λ k d below. all (suc k) d (omega arith)))

module _ (frame : Frame) (size : ℕ) (layout : List Entry) (is : IsLayout frame size layout) where
  in_use : (active : List ℕ) (slots : SlotChoice) → AreInUse layout active slots.number → (i : ℕ) (e : Entry) → i < length layout
      → get_or slots.number i 0 < (get_or layout i e).slots
  in_use active slots are i e inside =
      subst (λ (n : ℕ). n < (get_or layout i e).slots) (sym (are.each i e inside)) (some_slot (get_or layout i e).slots (get_or active i 0) (few_slots frame size layout is i e inside).0)

  pub is_choice : (active : List ℕ) (slots : SlotChoice) → AreInUse layout active slots.number → IsChoice layout slots
  is_choice active slots are = record {
    few = few_entries frame size layout is;
    one = in_use active slots are;
    two = λ i e inside. (few_slots frame size layout is i e inside).1;
    rest = are.rest;
  }

  -- ---- spots

  starts_behind : (e : Entry) (n : ℕ) → IsInFlash frame size e → e.memory ≡ memory.Flash → length e.starts ≡ 2 → n < e.slots → IsBehindHead frame size (get_or e.starts n 0) (slot_size e)
  starts_behind e n held flash long below =
      let fits : e.slots ≤ length e.starts = omega (arith, long, held.1) in
      let starts : All (λ p. IsBehindHead frame size p (slot_size e)) (take e.slots e.starts) =
      subst (λ (m : Memory). All (λ p. IsBehindHead frame size p (slot_size e)) (starts_in m (take e.slots e.starts))) flash held.4 in
      subst (λ (p : ℕ). IsBehindHead frame size p (slot_size e)) (get_or-take e.slots e.starts n 0 below) (starts n 0 (omega (arith, below, length-take-le e.slots e.starts fits)))

  -- the head lies outside the slots
  outside_of : FrameFacts size frame → (e : Entry) (m : Memory) (index n i : ℕ) → e.memory ≡ m → IsOfMemory frame size e m → length e.starts ≡ 2 → n < e.slots → InHead frame i
      → OutsideSpot (spot_of m e index n) i
  outside_of here e memory.Flash index n i same held long below inside =
      let behind = starts_behind e n held same long below in
      let clear = here.clear (get_or e.starts n 0) (slot_size e) behind in
      ⊎_elim (λ front. inl (omega (arith, front.1, behind.0))) (λ head. clear_outside (get_or e.starts n 0) (slot_size e) frame.base (head_size frame) (clear.1, clear.0) i head.0 head.1) inside
  outside_of here e memory.Ram index n i same held long below inside = tt

  pub head_outside : FrameFacts size frame → (plan : PlanTree) (places : Places) (slots : SlotChoice) (standings : List Standing) → All IsTypedEntry layout → AreDistinct layout places
      → IsChoice layout slots → StandAs layout places slots standings → (i : ℕ) → InHead frame i → OutsideTargets plan standings i
  head_outside here plan places slots standings typed distinct choice stand i inside k d below target =
      let short : k < places.count = omega (arith, below, stand.count) in
      let index = get_or places.layout_index k 0 in
      let e = get_or layout index none in
      let there = distinct.inside k short in
      subst (λ (s : Standing). OutsideSpot s.spot i) (sym (stand.each k d none short))
      (outside_of here e e.memory index (get_or slots.number index 0) i refl (is.each index none there).held (typed index none there).starts (choice.one index none there) inside)

  -- ---- identities

  module _ (places : Places) (slots : SlotChoice) (standings : List Standing) (typed : All HasIdentifiers layout) (distinct : AreDistinct layout places)
      (choice : IsChoice layout slots) (stand : StandAs layout places slots standings) where
    identity_at : (k : ℕ) (d : Standing) → k < length standings → IsIdentity (get_or standings k d).identity
    identity_at k d below =
        let short : k < places.count = omega (arith, below, stand.count) in
        let index = get_or places.layout_index k 0 in
        let there = distinct.inside k short in
        let is_typed = typed index none there in
        let few : get_or slots.number index 0 < 2 = omega (arith, choice.one index none there, choice.two index none there) in
        subst (λ (s : Standing). IsIdentity s.identity) (sym (stand.each k d none short))
        (record { vendor = is_typed.vendor; class = is_typed.class; device = is_typed.device; slot = omega (arith, few) })

    pub are_identities : (plan : PlanTree) → plan.count ≡ length standings → AreIdentities plan (map (λ (s : Standing). s.identity) standings)
    are_identities plan count = record {
      count = length-map standings (λ (s : Standing). s.identity) ∙ sym count;
      each = all_identities standings identity_at;
    }

  -- ---- components that stand in their active slots

  module _ (ids : Ids) (active : List ℕ) (standings : List Standing) (few : length ids ≤ 8) (apart : AreApart ids) (s : StandActive layout ids active standings) where
    distinct_there : AreDistinct layout s.places
    distinct_there = are_distinct layout ids s.places few apart s.placed (other_places layout ids s.places s.placed)

    chosen_there : IsChoice layout s.slots
    chosen_there = is_choice active s.slots s.chosen

    pub head_stays : FrameFacts size frame → (plan : PlanTree) → All IsTypedEntry layout → (i : ℕ) → InHead frame i → OutsideTargets plan standings i
    head_stays here plan typed = head_outside here plan s.places s.slots standings typed distinct_there chosen_there s.stand

    pub identities_there : (plan : PlanTree) → All HasIdentifiers layout → plan.count ≡ length ids → AreIdentities plan (map (λ (s : Standing). s.identity) standings)
    identities_there plan typed count = are_identities s.places s.slots standings typed distinct_there chosen_there s.stand plan (omega (arith, count, s.stand.count, s.placed.count))
