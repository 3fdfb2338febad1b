-- Where one content has changed and the rest of flash and memory stayed, the contents are those before, but for that
-- one.
use Rattle.std.proofs.Common.{◌≡◌, ◌≢◌, ◌≤◌, ◌<◌, ◌+◌, ℕ, zero, suc, List, [], ◌∷◌, length, get_or, set, map, refl, ap, subst, ◌∙◌, arith, inl, inr, get_or-set_other}
use Rattle.std.proofs.lemmas.Bool.{cases_lt}
use Rattle.suit_edge.specs.Flash.{Flash, Keeps}
use Rattle.suit_edge.specs.Ranges.{Outside}
use Rattle.suit_edge.specs.RangeLaws.{same_range}
use Rattle.flash_layout.specs.declared.slot.Slot.{Slot}
use Rattle.flash_layout.specs.Layouts.{AreClear}
use Rattle.flash_layout.specs.Slots.{extent_of, slot_content}
use Rattle.flash_layout.specs.Slots.{content_of as content_in}
use Rattle.flash_slots.specs.RamContents.{Held, empty, held_by}
use Rattle.step_machine.specs.declared.spot.Spot.{Spot}
use Rattle.step_machine.specs.declared.spot.Spot.TheVariants as spots
use Rattle.step_machine.specs.declared.spot.Standing.{Standing}
use Rattle.step_machine.specs.Spots.{content_of, IsSpot, OutsideSpot, IsRamBut}
use Rattle.step_machine.specs.Devices.{contents_of, AreSpotsClear, IsApart}

-- ---- one other content

pub clear_outside : (p m q n : ℕ) → AreClear p m q n → (i : ℕ) → q ≤ i → i < q + n → Outside p m i
clear_outside p m q n clear i lo hi = elim (cases_lt q p) [
  | inl lt ↦ let below : q + n ≤ p = clear.1 (omega (arith, lt)) in inl (omega (arith, below, hi))
  | inr le ↦ let above : p + m ≤ q = clear.0 le in inr (omega (arith, above, lo))
]

pub kept_slot : (K : ℕ → Type 0) (slot : Slot) (f g : Flash) → slot.start + extent_of slot ≤ length f.reads → ((i : ℕ) → slot.start ≤ i → i < slot.start + extent_of slot → K i) → Keeps K f g
    → slot_content slot g.reads ≡ slot_content slot f.reads
kept_slot K slot f g fits inside kept =
    let size : length g.reads ≡ length f.reads = kept.reads.size in
    let end : slot.start + extent_of slot ≤ length g.reads = omega (arith, fits, size) in
    ap (content_in slot.capacity) (same_range g.reads f.reads slot.start (slot.start + extent_of slot) size end (λ i lo hi. kept.reads.same i (inside i lo hi)))

-- the content at a spot, by how a slot is read
abbrev pub found_at : (Slot → List ℕ → List ℕ) → Spot → List Held → List ℕ → List ℕ
found_at read (spots.Flash slot) ram reads = read slot reads
found_at read (spots.Ram j) ram reads = (held_by ram j).content

module _ (read : Slot → List ℕ → List ℕ)
    (stays : (K : ℕ → Type 0) (slot : Slot) (f g : Flash) → slot.start + extent_of slot ≤ length f.reads → ((i : ℕ) → slot.start ≤ i → i < slot.start + extent_of slot → K i) → Keeps K f g → read slot g.reads ≡ read slot f.reads) where
  pub kept_found : (a b : Spot) (ram after : List Held) (f g : Flash) → AreSpotsClear a b → IsSpot (length f.reads) ram b → IsRamBut a ram after → Keeps (OutsideSpot a) f g
      → found_at read b after g.reads ≡ found_at read b ram f.reads
  kept_found (spots.Flash x) (spots.Flash y) ram after f g clear fits but kept =
      stays (OutsideSpot (spots.Flash x)) y f g fits (clear_outside x.start (extent_of x) y.start (extent_of y) clear) kept
  kept_found (spots.Flash x) (spots.Ram j) ram after f g clear fits but kept = ap (λ (r : List Held). (held_by r j).content) but
  kept_found (spots.Ram i) (spots.Flash y) ram after f g clear fits but kept = stays (OutsideSpot (spots.Ram i)) y f g fits (λ k lo hi. tt) kept
  kept_found (spots.Ram i) (spots.Ram j) ram after f g clear fits (content, is) kept =
      ap (λ (r : List Held). (held_by r j).content) is
      ∙ ap (λ (h : Held). h.content) (get_or-set_other ram i j (record { capacity = (held_by ram i).capacity; content = content }) (empty 0) clear)

pub kept_content : (a b : Spot) (ram after : List Held) (f g : Flash) → AreSpotsClear a b → IsSpot (length f.reads) ram b → IsRamBut a ram after → Keeps (OutsideSpot a) f g
    → content_of b after g.reads ≡ content_of b ram f.reads
kept_content a (spots.Flash y) ram after f g clear fits but kept = kept_found slot_content kept_slot a (spots.Flash y) ram after f g clear fits but kept
kept_content a (spots.Ram j) ram after f g clear fits but kept = kept_found slot_content kept_slot a (spots.Ram j) ram after f g clear fits but kept

-- ---- all of them

module _ {A B : Type 0} (f g : A → B) where
  pub map_same : (l : List A) → ((k : ℕ) (d : A) → k < length l → g (get_or l k d) ≡ f (get_or l k d)) → map g l ≡ map f l
  map_same [] same = refl
  map_same (x ∷ l) same =
      let here : g x ≡ f x = same 0 x (omega arith) in
      let rest = map_same l (λ k d lt. same (suc k) d (omega (arith, lt))) in
      ap (λ (y : B). y ∷ map g l) here ∙ ap (λ (ys : List B). f x ∷ ys) rest

  pub map_but : (l : List A) (c : ℕ) (d : A) → c < length l → ((k : ℕ) (d : A) → k < length l → k ≢ c → g (get_or l k d) ≡ f (get_or l k d)) → map g l ≡ set (map f l) c (g (get_or l c d))
  map_but [] c d lt same = absurd (omega (arith, lt))
  map_but (x ∷ l) zero d lt same =
      ap (λ (ys : List B). g x ∷ ys) (map_same l (λ k e below. same (suc k) e (omega (arith, below)) (omega arith)))
  map_but (x ∷ l) (suc c) d lt same =
      let here : g x ≡ f x = same 0 x (omega arith) (omega arith) in
      let rest = map_but l c d (omega (arith, lt)) (λ k e below other. same (suc k) e (omega (arith, below)) (omega (arith, other))) in
      ap (λ (y : B). y ∷ map g l) here ∙ ap (λ (ys : List B). f x ∷ ys) rest

pub one_changed : (standings : List Standing) (c : ℕ) (d : Standing) (ram after : List Held) (f g : Flash) → c < length standings → IsApart standings c
    → ((k : ℕ) (e : Standing) → k < length standings → IsSpot (length f.reads) ram (get_or standings k e).spot)
    → IsRamBut (get_or standings c d).spot ram after → Keeps (OutsideSpot (get_or standings c d).spot) f g
    → contents_of standings after g.reads ≡ set (contents_of standings ram f.reads) c (content_of (get_or standings c d).spot after g.reads)
one_changed standings c d ram after f g lt apart fits but kept =
    map_but (λ (s : Standing). content_of s.spot ram f.reads) (λ (s : Standing). content_of s.spot after g.reads) standings c d lt
    (λ k e below other.
    let same : get_or standings c e ≡ get_or standings c d = same_at standings c e d lt in
    kept_content (get_or standings c d).spot (get_or standings k e).spot ram after f g
    (subst (λ (s : Standing). AreSpotsClear s.spot (get_or standings k e).spot) same (apart k e below other)) (fits k e below) but kept)
  where
    same_at : (l : List Standing) (i : ℕ) (e d : Standing) → i < length l → get_or l i e ≡ get_or l i d
    same_at [] i e d lt = absurd (omega (arith, lt))
    same_at (x ∷ l) zero e d lt = refl
    same_at (x ∷ l) (suc i) e d lt = same_at l i e d (omega (arith, lt))
