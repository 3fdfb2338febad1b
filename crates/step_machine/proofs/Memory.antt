-- A content in working memory that is emptied and put anew.
use Rattle.std.proofs.Common.{◌≡◌, ◌≤◌, ◌<◌, ◌+◌, ℕ, List, [], ◌++◌, length, refl, sym, ap, ◌∙◌, arith, set-set, get_or-set_same}
use Rattle.std.specs.Prelude.{slice_set}
use Rattle.std.proofs.lemmas.List.{length-set, set-get_or}
use Rattle.flash_slots.specs.RamContents.{Held, empty, held_by, holding}
use Rattle.step_machine.specs.declared.spot.Spot.{Spot}
use Rattle.step_machine.specs.declared.spot.Spot.TheVariants as spots
use Rattle.step_machine.specs.Spots.{IsRamBut}

-- the contents after a change
pub held_holding : (ram : List Held) (c : ℕ) (content : List ℕ) → c < length ram → held_by (holding ram c content) c ≡ record { capacity = (held_by ram c).capacity; content = content }
held_holding ram c content lt = get_or-set_same ram c (record { capacity = (held_by ram c).capacity; content = content }) (empty 0) lt

-- emptied, and then put behind nothing
pub refilled : (old middle new : List Held) (c : ℕ) (bytes : List ℕ) → c < length old → middle ≡ holding old c [] → new ≡ holding middle c ((held_by middle c).content ++ bytes) → new ≡ holding old c bytes
refilled old middle new c bytes lt is put =
    let emptied : Held = record { capacity = (held_by old c).capacity; content = [] } in
    let here : held_by middle c ≡ emptied = ap (λ (r : List Held). held_by r c) is ∙ held_holding old c [] lt in
    let filled : Held = record { capacity = (held_by old c).capacity; content = bytes } in
    put ∙ ap (λ (h : Held). slice_set middle c (record { capacity = h.capacity; content = h.content ++ bytes })) here
    ∙ ap (λ (r : List Held). slice_set r c filled) is ∙ set-set old c emptied filled

-- an emptied content has room for what fits
pub overfull : (old middle : List Held) (c : ℕ) (bytes : List ℕ) → c < length old → middle ≡ holding old c [] → length bytes ≤ (held_by old c).capacity → (held_by middle c).capacity < length (held_by middle c).content + length bytes → ⊥
overfull old middle c bytes lt is fits large =
    let emptied : Held = record { capacity = (held_by old c).capacity; content = [] } in
    let here : held_by middle c ≡ emptied = ap (λ (r : List Held). held_by r c) is ∙ held_holding old c [] lt in
    let room : (held_by middle c).capacity ≡ (held_by old c).capacity = ap (λ (h : Held). h.capacity) here in
    let none : length (held_by middle c).content ≡ 0 = ap (λ (h : Held). length h.content) here in
    omega (arith, fits, large, room, none)

-- changed twice, it holds the last
pub holding_twice : (old middle new : List Held) (c : ℕ) (x y : List ℕ) → c < length old → middle ≡ holding old c x → new ≡ holding middle c y → new ≡ holding old c y
holding_twice old middle new c x y lt first second =
    let held : Held = record { capacity = (held_by old c).capacity; content = x } in
    let here : held_by middle c ≡ held = ap (λ (r : List Held). held_by r c) first ∙ held_holding old c x lt in
    let last : Held = record { capacity = (held_by old c).capacity; content = y } in
    second ∙ ap (λ (h : Held). slice_set middle c (record { capacity = h.capacity; content = y })) here
    ∙ ap (λ (r : List Held). slice_set r c last) first ∙ set-set old c held last

-- the contents after a change
pub held_then : (old new : List Held) (c : ℕ) (x : List ℕ) → c < length old → new ≡ holding old c x → held_by new c ≡ record { capacity = (held_by old c).capacity; content = x }
held_then old new c x lt is = ap (λ (r : List Held). held_by r c) is ∙ held_holding old c x lt

-- nothing is added or lost
pub same_size : (old new : List Held) (c : ℕ) (x : List ℕ) → new ≡ holding old c x → length new ≡ length old
same_size old new c x is = ap length is ∙ length-set old c (record { capacity = (held_by old c).capacity; content = x })

-- where nothing changed, at most one content has changed
pub ram_same : (spot : Spot) (ram : List Held) → IsRamBut spot ram ram
ram_same (spots.Flash slot) ram = refl
ram_same (spots.Ram c) ram = ((held_by ram c).content, sym (set-get_or ram c (empty 0)))
