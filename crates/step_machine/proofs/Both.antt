-- The contents that stay in flash and memory where one has changed, and where two have.
use Rattle.std.proofs.Common.{◌≡◌, ◌≢◌, ◌<◌, ℕ, zero, suc, List, [], ◌∷◌, ◌++◌, length, refl, sym, ap, subst, ◌∙◌, arith, set-set}
use Rattle.std.specs.Prelude.{slice_set}
use Rattle.std.proofs.lemmas.List.{length-set, set_comm}
use Rattle.flash_slots.specs.RamContents.{Held, held_by, holding}
use Rattle.step_machine.specs.declared.spot.Spot.{Spot}
use Rattle.step_machine.specs.declared.spot.Spot.TheVariants as spots
use Rattle.step_machine.specs.Copying.{IsRamButBoth}
use Rattle.step_machine.specs.Spots.{IsSpot, IsRamBut, room_at}
use Rattle.step_machine.specs.Devices.{AreSpotsClear}
use Rattle.step_machine.proofs.Memory.{held_holding, ram_same}

pub clear_back : (a b : Spot) → AreSpotsClear a b → AreSpotsClear b a
clear_back (spots.Flash x) (spots.Flash y) clear = (clear.1, clear.0)
clear_back (spots.Flash x) (spots.Ram j) clear = tt
clear_back (spots.Ram i) (spots.Flash y) clear = tt
clear_back (spots.Ram i) (spots.Ram j) clear = λ e. clear (sym e)

-- ---- one content of the memory

-- the room stays
pub room_holding : (ram : List Held) (i j : ℕ) (content : List ℕ) → (held_by (holding ram i content) j).capacity ≡ (held_by ram j).capacity
room_holding [] i j content = refl
room_holding (h ∷ rest) zero zero content = refl
room_holding (h ∷ rest) zero (suc j) content = refl
room_holding (h ∷ rest) (suc i) zero content = refl
room_holding (h ∷ rest) (suc i) (suc j) content = room_holding rest i j content

holding_again : (ram : List Held) (i : ℕ) (x y : List ℕ) → holding (holding ram i x) i y ≡ holding ram i y
holding_again ram i x y =
    ap (λ (n : ℕ). slice_set (holding ram i x) i (record { capacity = n; content = y })) (room_holding ram i i x)
    ∙ set-set ram i (record { capacity = (held_by ram i).capacity; content = x }) (record { capacity = (held_by ram i).capacity; content = y })

holding_other : (ram : List Held) (i j : ℕ) (x y : List ℕ) → i ≢ j → holding (holding ram i x) j y ≡ holding (holding ram j y) i x
holding_other ram i j x y other =
    ap (λ (n : ℕ). slice_set (holding ram i x) j (record { capacity = n; content = y })) (room_holding ram i j x)
    ∙ set_comm ram i j (record { capacity = (held_by ram i).capacity; content = x }) (record { capacity = (held_by ram j).capacity; content = y }) other
    ∙ sym (ap (λ (n : ℕ). slice_set (holding ram j y) i (record { capacity = n; content = x })) (room_holding ram j i y))

-- ---- where one content has changed

pub ram_long : (a : Spot) (ram after : List Held) → IsRamBut a ram after → length after ≡ length ram
ram_long (spots.Flash x) ram after is = ap length is
ram_long (spots.Ram i) ram after (content, is) =
    ap length is ∙ length-set ram i (record { capacity = (held_by ram i).capacity; content = content })

pub spot_stays : (a b : Spot) (size now : ℕ) (ram after : List Held) → now ≡ size → IsRamBut a ram after → IsSpot size ram b → IsSpot now after b
spot_stays a (spots.Flash y) size now ram after same but inside = subst (λ (n : ℕ). IsSpot n after (spots.Flash y)) (sym same) inside
spot_stays a (spots.Ram j) size now ram after same but inside = let long = ram_long a ram after but in omega (arith, inside, long)

pub room_stays : (a b : Spot) (ram after : List Held) → IsRamBut a ram after → room_at b after ≡ room_at b ram
room_stays a (spots.Flash y) ram after but = refl
room_stays (spots.Flash x) (spots.Ram j) ram after is = ap (λ (r : List Held). (held_by r j).capacity) is
room_stays (spots.Ram i) (spots.Ram j) ram after (content, is) =
    ap (λ (r : List Held). (held_by r j).capacity) is ∙ room_holding ram i j content

-- ---- where two contents have changed

pub first_changed : (a b : Spot) (ram after : List Held) → IsRamBut a ram after → IsRamButBoth a b ram after
first_changed a b ram after is = (after, is, ram_same b after)

ram_then : (a : Spot) (r s t : List Held) → IsRamBut a r s → IsRamBut a s t → IsRamBut a r t
ram_then (spots.Flash x) r s t is next = next ∙ is
ram_then (spots.Ram i) r s t (x, is) (y, next) = (y, next ∙ ap (λ (m : List Held). holding m i y) is ∙ holding_again r i x y)

-- changes of two contents change places
ram_turn : (a b : Spot) (r s t : List Held) → AreSpotsClear a b → IsRamBut b r s → IsRamBut a s t → IsRamButBoth a b r t
ram_turn (spots.Flash x) b r s t clear is next = (r, refl, subst (λ (m : List Held). IsRamBut b r m) (sym next) is)
ram_turn (spots.Ram i) (spots.Flash y) r s t clear is (z, next) = (t, (z, next ∙ ap (λ (m : List Held). holding m i z) is), refl)
ram_turn (spots.Ram i) (spots.Ram j) r s t clear (x, is) (z, next) =
    (holding r i z, (z, refl), (x, next ∙ ap (λ (m : List Held). holding m i z) is ∙ holding_other r j i x z clear))

pub both_then : (a b : Spot) (r s t : List Held) → AreSpotsClear a b → IsRamButBoth a b r s → IsRamButBoth a b s t → IsRamButBoth a b r t
both_then a b r s t clear (m, one, other) (n, next, last) =
    let turned = ram_turn a b m s n clear other next in
    (turned.0, ram_then a r m turned.0 one turned.1, ram_then b turned.0 n t turned.2 last)

-- ---- a piece behind a content that has changed

pub put_behind : (old middle new : List Held) (c : ℕ) (piece : List ℕ) → c < length old → middle ≡ holding old c (held_by middle c).content → new ≡ holding middle c ((held_by middle c).content ++ piece)
    → (new ≡ holding old c (held_by new c).content) × ((held_by new c).content ≡ (held_by middle c).content ++ piece)
put_behind old middle new c piece lt was put =
    let x : List ℕ = (held_by middle c).content in
    let all : List ℕ = x ++ piece in
    let long : length middle ≡ length old = ram_long (spots.Ram c) old middle (x, was) in
    let content : (held_by new c).content ≡ all = ap (λ (r : List Held). (held_by r c).content) put ∙ ap (λ (h : Held). h.content) (held_holding middle c all (omega (arith, lt, long))) in
    (put ∙ ap (λ (r : List Held). holding r c all) was ∙ holding_again old c x all ∙ ap (holding old c) (sym content), content)

pub both_room : (a b e : Spot) (ram after : List Held) → IsRamButBoth a b ram after → room_at e after ≡ room_at e ram
both_room a b e ram after (m, one, two) = room_stays b e m after two ∙ room_stays a e ram m one

-- nothing has changed
pub both_same : (a b : Spot) (ram : List Held) → IsRamButBoth a b ram ram
both_same a b ram = first_changed a b ram ram (ram_same a ram)

-- each is stretched, and then both change
pub stretched_then : (a b : Spot) (ram one two three : List Held) → AreSpotsClear a b → IsRamBut a ram one → IsRamBut b one two → IsRamButBoth a b two three → IsRamButBoth a b ram three
stretched_then a b ram one two three clear first second both = both_then a b ram two three clear (one, first, second) both

pub first_then : (a b : Spot) (ram middle after : List Held) → AreSpotsClear a b → IsRamButBoth a b ram middle → IsRamBut a middle after → IsRamButBoth a b ram after
first_then a b ram middle after clear both is = both_then a b ram middle after clear both (first_changed a b middle after is)
