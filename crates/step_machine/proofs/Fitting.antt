-- The components of a world fit the device that its layout describes.
use Rattle.std.proofs.Common.{◌≡◌, ◌≢◌, ◌≤◌, ◌<◌, ◌+◌, ℕ, zero, suc, List, [], ◌∷◌, None, get_or, length, replicate, take, refl, sym, ap, subst, ◌∙◌, arith, ⊎_elim, length-take-le}
use Rattle.std.proofs.lemmas.Bool.{cases_lt}
use Rattle.std.proofs.lemmas.List.{get_or-map, length-map, places}
use Rattle.std.specs.Prelude.{◌==◌, ◌&&◌, if◌then◌else◌, slice_index}
use Rattle.flash_layout.specs.declared.frame.Frame.{Frame}
use Rattle.flash_layout.specs.declared.layout.Entry.{Entry}
use Rattle.flash_layout.specs.declared.layout.Memory.{Memory}
use Rattle.flash_layout.specs.declared.layout.Memory.TheVariants as memory
use Rattle.flash_layout.specs.declared.place.Places.{Places}
use Rattle.flash_layout.specs.Frames.{most}
use Rattle.flash_layout.specs.Layouts.{IsLayout, IsOfMemory, AreApart, AreClear, slot_starts, starts_in}
use Rattle.flash_slots.specs.RamContents.{Held, IsRamOf, capacity_in, empty, empty_ram, held_by, ram_capacity}
use Rattle.step_machine.specs.declared.spot.Spot.{Spot}
use Rattle.step_machine.specs.declared.spot.Spot.TheVariants as spots
use Rattle.step_machine.specs.declared.spot.Standing.{Standing}
use Rattle.step_machine.specs.declared.world.SlotChoice.{SlotChoice}
use Rattle.step_machine.specs.Devices.{AreSpotsClear}
use Rattle.step_machine.specs.Spots.{IsSpot, room_at}
use Rattle.step_machine.specs.Worlds.{AreDistinct, AreStandings, HaveAtMost, HaveTwo, IsChoice, IsStandingAt, StandAs, StandAtMost, spot_of, standing_of}

-- a choice has room for each component of a layout
most_few : (frame : Frame) → most frame ≤ 32
most_few frame = grind arith

pub few_entries : (frame : Frame) (size : ℕ) (layout : List Entry) → IsLayout frame size layout → length layout ≤ 32
few_entries frame size layout is = omega (arith, is.few, most_few frame)

-- a component has one or two slots
few_slots_in : (frame : Frame) (size : ℕ) (e : Entry) (kind : Memory) → IsOfMemory frame size e kind → (1 ≤ e.slots) × (e.slots ≤ 2)
few_slots_in frame size e memory.Flash held = (held.0, held.1)
few_slots_in frame size e memory.Ram held = (omega (arith, held.0), omega (arith, held.0))

pub few_slots : (frame : Frame) (size : ℕ) (layout : List Entry) → IsLayout frame size layout → (i : ℕ) (e : Entry) → i < length layout → (1 ≤ (get_or layout i e).slots) × ((get_or layout i e).slots ≤ 2)
few_slots frame size layout is i e inside = let at = get_or layout i e in few_slots_in frame size at at.memory (is.each i e inside).held

-- and the one in use is one of them
pub some_slot : (slots number : ℕ) → 1 ≤ slots → (if (number == 1) && (slots == 2) then 1 else 0) < slots
some_slot slots number some = grind (arith, some)

-- no place of zeros is set
pub zero_at : (n i : ℕ) → get_or (replicate {A = ℕ} n 0) i 0 ≡ 0
zero_at n i = grind (arith, places)

-- memory is made for its layout
pub made_empty : (layout : List Entry) → IsRamOf layout (empty_ram layout)
made_empty [] = refl
made_empty (e ∷ rest) = ap (λ (l : List ℕ). ram_capacity e ∷ l) (made_empty rest)

no_entry : Entry
no_entry = record {
  identifier = [];
  memory = memory.Ram;
  slots = 0;
  starts = [];
  capacity = 0;
  vendor = None;
  class = None;
  device = None;
}

-- one of the first is one of them
taken : (n i : ℕ) (xs : List ℕ) (d : ℕ) → i < n → get_or (take n xs) i d ≡ get_or xs i d
taken zero i xs d lt = absurd (omega (arith, lt))
taken (suc n) i [] d lt = refl
taken (suc n) zero (x ∷ xs) d lt = refl
taken (suc n) (suc i) (x ∷ xs) d lt = taken n i xs d (omega (arith, lt))

module _ (frame : Frame) (size : ℕ) (layout : List Entry) (is : IsLayout frame size layout) where
  -- a slot of a component
  start_is : (e : Entry) (number : ℕ) → e.memory ≡ memory.Flash → length e.starts ≡ 2 → number < e.slots → e.slots ≤ 2 → number < length (slot_starts e)
  start_is e number flash two lt few =
      let all : slot_starts e ≡ take e.slots e.starts = ap (λ (k : Memory). starts_in k (take e.slots e.starts)) flash in
      let long : length (take e.slots e.starts) ≡ e.slots = length-take-le e.slots e.starts (omega (arith, two, few)) in
      let same : length (slot_starts e) ≡ length (take e.slots e.starts) = ap length all in
      omega (arith, long, same, lt)

  start_at : (e : Entry) (number : ℕ) → e.memory ≡ memory.Flash → number < e.slots → get_or (slot_starts e) number 0 ≡ slice_index e.starts number
  start_at e number flash lt =
      ap (λ (k : Memory). get_or (starts_in k (take e.slots e.starts)) number 0) flash ∙ taken e.slots number e.starts 0 lt

  -- memory that was made for the layout
  made_long : (ram : List Held) → IsRamOf layout ram → length ram ≡ length layout
  made_long ram made = omega (arith, length-map ram (λ (h : Held). h.capacity), ap length made, length-map layout ram_capacity)

  made_room : (ram : List Held) (index : ℕ) → IsRamOf layout ram → index < length layout → (held_by ram index).capacity ≡ ram_capacity (get_or layout index no_entry)
  made_room ram index made inside =
      let here : index < length ram = omega (arith, inside, made_long ram made) in
      sym (get_or-map (λ (h : Held). h.capacity) ram index (empty 0) 0 here) ∙ ap (λ (l : List ℕ). get_or l index 0) made ∙ get_or-map ram_capacity layout index no_entry 0 inside

  spot_fits : (ram : List Held) → IsRamOf layout ram → (e : Entry) (index number : ℕ) (kind : Memory) → e.memory ≡ kind → get_or layout index no_entry ≡ e → index < length layout → IsOfMemory frame size e kind → length e.starts ≡ 2 → number < e.slots → e.slots ≤ 2
      → IsSpot size ram (spot_of kind e index number) × (room_at (spot_of kind e index number) ram ≡ e.capacity)
  spot_fits ram made e index number memory.Flash kind at inside held two lt few =
      let there = held.4 number 0 (start_is e number kind two lt few) in
      let same = start_at e number kind lt in
      (omega (arith, there.1, same), refl)
  spot_fits ram made e index number memory.Ram kind at inside held two lt few =
      let long = made_long ram made in
      (omega (arith, long, inside), made_room ram index made inside ∙ ap (λ (x : Entry). ram_capacity x) at ∙ ap (λ (k : Memory). capacity_in k e.capacity) kind)

  -- two components share no byte
  starts_clear : (a b : Entry) (i j : ℕ) → a.memory ≡ memory.Flash → b.memory ≡ memory.Flash → length a.starts ≡ 2 → length b.starts ≡ 2 → i < a.slots → j < b.slots → a.slots ≤ 2 → b.slots ≤ 2 → AreApart a b
      → AreClear (slice_index a.starts i) (8 + a.capacity) (slice_index b.starts j) (8 + b.capacity)
  starts_clear a b i j fa fb ta tb la lb wa wb apart =
      subst (λ (p : ℕ). AreClear p (8 + a.capacity) (slice_index b.starts j) (8 + b.capacity)) (start_at a i fa la)
      (subst (λ (q : ℕ). AreClear (get_or (slot_starts a) i 0) (8 + a.capacity) q (8 + b.capacity)) (start_at b j fb lb)
      (apart.clear i 0 (start_is a i fa ta la wa) j 0 (start_is b j fb tb lb wb)))

  spots_clear : (a b : Entry) (x y i j : ℕ) (k l : Memory) → a.memory ≡ k → b.memory ≡ l → y ≢ x → length a.starts ≡ 2 → length b.starts ≡ 2 → i < a.slots → j < b.slots → a.slots ≤ 2 → b.slots ≤ 2
      → AreApart a b → AreSpotsClear (spot_of k a x i) (spot_of l b y j)
  spots_clear a b x y i j memory.Flash memory.Flash fa fb other ta tb la lb wa wb apart = starts_clear a b i j fa fb ta tb la lb wa wb apart
  spots_clear a b x y i j memory.Flash memory.Ram fa fb other ta tb la lb wa wb apart = tt
  spots_clear a b x y i j memory.Ram memory.Flash fa fb other ta tb la lb wa wb apart = tt
  spots_clear a b x y i j memory.Ram memory.Ram fa fb other ta tb la lb wa wb apart = other

apart_back : (a b : Spot) → AreSpotsClear a b → AreSpotsClear b a
apart_back (spots.Flash x) (spots.Flash y) clear = (clear.1, clear.0)
apart_back (spots.Flash x) (spots.Ram j) clear = tt
apart_back (spots.Ram i) (spots.Flash y) clear = tt
apart_back (spots.Ram i) (spots.Ram j) clear = λ e. clear (sym e)

module _ (frame : Frame) (size : ℕ) (layout : List Entry) (is : IsLayout frame size layout) (places : Places) (distinct : AreDistinct layout places) (slots : SlotChoice) (choice : IsChoice layout slots)
    (list : List Standing) (stand : StandAs layout places slots list) (two : HaveTwo layout places places.count) where
  stood : (k : ℕ) (d : Standing) → k < places.count
      → get_or list k d ≡ standing_of (get_or layout (slice_index places.layout_index k) no_entry) k (slice_index places.layout_index k) (slice_index slots.number (slice_index places.layout_index k))
  stood k d lt = stand.each k d no_entry lt

  one_fits : (ram : List Held) → IsRamOf layout ram → (k : ℕ) (d : Standing) → k < places.count → IsStandingAt size ram k (get_or list k d)
  one_fits ram made k d lt =
      let index = slice_index places.layout_index k in
      let e = get_or layout index no_entry in
      let inside = distinct.inside k lt in
      let fits = spot_fits frame size layout is ram made e index (slice_index slots.number index) e.memory refl refl inside (is.each index no_entry inside).held (two k no_entry lt) (choice.one index no_entry inside) (choice.two index no_entry inside) in
      subst (λ (s : Standing). IsStandingAt size ram k s) (sym (stood k d lt)) (record { component = refl; spot = fits.0; room = fits.1 })

  pair_clear : (i j : ℕ) → i < length layout → j < length layout → i < j → (x y : ℕ) (d : Standing) → x < places.count → y < places.count → slice_index places.layout_index x ≡ i → slice_index places.layout_index y ≡ j
      → AreSpotsClear (get_or list x d).spot (get_or list y d).spot
  pair_clear i j li lj below x y d lx ly ei ej =
      let p = slice_index places.layout_index x in
      let q = slice_index places.layout_index y in
      let a = get_or layout p no_entry in
      let b = get_or layout q no_entry in
      let ip = distinct.inside x lx in
      let iq = distinct.inside y ly in
      let less : p < q = omega (arith, below, ei, ej) in
      let apart = is.apart p q no_entry less iq in
      let more : q ≢ p = λ e. absurd (omega (arith, e, less)) in
      let clear = spots_clear frame size layout is a b p q (slice_index slots.number p) (slice_index slots.number q) a.memory b.memory refl refl more (two x no_entry lx) (two y no_entry ly)
      (choice.one p no_entry ip) (choice.one q no_entry iq) (choice.two p no_entry ip) (choice.two q no_entry iq) apart in
      subst (λ (s : Standing). AreSpotsClear s.spot (get_or list y d).spot) (sym (stood x d lx))
      (subst (λ (s : Standing). AreSpotsClear (spot_of a.memory a p (slice_index slots.number p)) s.spot) (sym (stood y d ly)) clear)

  indices_differ : (x y : ℕ) → x < places.count → y < places.count → y ≢ x → slice_index places.layout_index y ≢ slice_index places.layout_index x
  indices_differ x y lx ly other same =
      ⊎_elim (λ lt. distinct.other y x lt lx same)
      (λ le. let lt : x < y = omega (arith, le, other) in distinct.other x y lt ly (sym same))
      (cases_lt y x)

  pub world_fits : (ram : List Held) → IsRamOf layout ram → AreStandings size ram list
  world_fits ram made = record {
    few = omega (arith, stand.count, distinct.few);
    each = λ k d lt. one_fits ram made k d (omega (arith, lt, stand.count));
    apart = λ x lx y d ly other.
        let ax : x < places.count = omega (arith, lx, stand.count) in
        let ay : y < places.count = omega (arith, ly, stand.count) in
        let ix = distinct.inside x ax in
        let iy = distinct.inside y ay in
        let differ = indices_differ x y ax ay other in
        ⊎_elim (λ lt. pair_clear (slice_index places.layout_index x) (slice_index places.layout_index y) ix iy lt x y d ax ay refl refl)
        (λ le.
        let lt : slice_index places.layout_index y < slice_index places.layout_index x = omega (arith, le, differ) in
        apart_back (get_or list y d).spot (get_or list x d).spot (pair_clear (slice_index places.layout_index y) (slice_index places.layout_index x) iy ix lt y x d ay ax refl refl))
        (cases_lt (slice_index places.layout_index x) (slice_index places.layout_index y));
  }

-- none has more room than the components of its layout
pub stand_at_most : (layout : List Entry) (places : Places) → AreDistinct layout places → (slots : SlotChoice) (standings : List Standing) → StandAs layout places slots standings
    → (room : ℕ) → HaveAtMost layout room → StandAtMost standings room
stand_at_most layout places distinct slots standings stand room rooms k d lt =
    let index = slice_index places.layout_index k in
    let below : k < places.count = omega (arith, lt, stand.count) in
    let fits : (get_or layout index no_entry).capacity ≤ room = rooms index no_entry (distinct.inside k below) in
    subst (λ (s : Standing). s.capacity ≤ room) (sym (stand.each k d no_entry below)) fits
