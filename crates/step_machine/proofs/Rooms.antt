-- Contents and pieces as bytes of their rooms.
use Rattle.std.proofs.Common.{◌≡◌, ◌≤◌, ◌<◌, ◌+◌, ◌-◌, ℕ, List, ◌++◌, length, take, drop, refl, sym, ap, subst, ◌∙◌, arith, take-take, get_or-set_other}
use Rattle.std.proofs.Math.Seq.{take-add}
use Rattle.std.proofs.lemmas.List.{take_all, take_at}
use Rattle.std.proofs.lemmas.List.Edits.{length-between}
use Rattle.suit_edge.specs.Flash.{Flash, Keeps}
use Rattle.suit_edge.specs.Ranges.{written}
use Rattle.suit_edge.specs.RangeLaws.{same_range}
use Rattle.flash_layout.specs.declared.slot.Slot.{Slot}
use Rattle.flash_layout.specs.Slots.{LiesWithin, extent_of, slot_content}
use Rattle.flash_slots.specs.Contents.{area_of, part_of}
use Rattle.flash_slots.specs.RamContents.{Held, empty, held_by}
use Rattle.flash_slots.proofs.Room.{area_front}
use Rattle.flash_slots.proofs.Stored.{inner_range}
use Rattle.step_machine.specs.declared.spot.Spot.{Spot}
use Rattle.step_machine.specs.declared.spot.Spot.TheVariants as spots
use Rattle.step_machine.specs.Areas.{KeepsFront, area_at, size_at}
use Rattle.step_machine.specs.Spots.{content_of, IsSpot, OutsideSpot, IsRamBut}
use Rattle.step_machine.specs.Devices.{AreSpotsClear}
use Rattle.step_machine.proofs.Image.{content_range}
use Rattle.step_machine.proofs.Lifting.{kept_found}
use Rattle.step_machine.proofs.Mixed.{mixed_all, mixed_more}
use Rattle.step_machine.proofs.Short.{slot_short}

-- ---- what was read

-- a part of a slot's room
pub area_part : (slot : Slot) (image old new : List ℕ) (size from n : ℕ) → LiesWithin (length image) slot → size ≤ slot.capacity → from + n ≤ size → new ≡ part_of slot from n image ++ drop n old
    → take n new ≡ take n (drop from (area_of slot image))
area_part slot image old new size from n inside few within read =
    let p : ℕ = slot.start + 8 in
    let long : length (part_of slot from n image) ≡ n = omega (arith, length-between image (p + from) (p + from + n) (omega (arith, inside, few, within))) in
    ap (take n) read ∙ take_at (part_of slot from n image) (drop n old) n long ∙ sym (inner_range image p slot.capacity from n (omega (arith, few, within)))

-- one piece more
pub more_put : (area before after piece : List ℕ) (from n : ℕ) → before ≡ take from area → piece ≡ take n (drop from area) → after ≡ before ++ piece → after ≡ take (from + n) area
more_put area before after piece from n was is put =
    put ∙ ap (λ (l : List ℕ). l ++ piece) was ∙ ap (λ (l : List ℕ). take from area ++ l) is ∙ sym (take-add from n area)

-- ---- contents

-- a content is the first bytes of its room
pub content_front : (spot : Spot) (ram : List Held) (reads : List ℕ) (n : ℕ) → IsSpot (length reads) ram spot → n ≡ length (content_of spot ram reads) → content_of spot ram reads ≡ take n (area_at spot ram reads)
content_front (spots.Flash slot) ram reads n inside is =
    let short : length (slot_content slot reads) ≤ slot.capacity = slot_short slot reads in
    content_range slot reads n is inside ∙ sym (area_front slot reads n (omega (arith, is, short)))
content_front (spots.Ram component) ram reads n inside is =
    sym (take_all n (held_by ram component).content (omega (arith, is)))

-- ---- contents that stay where another changes

kept_room : (K : ℕ → Type 0) (slot : Slot) (f g : Flash) → slot.start + extent_of slot ≤ length f.reads → ((i : ℕ) → slot.start ≤ i → i < slot.start + extent_of slot → K i) → Keeps K f g
    → area_of slot g.reads ≡ area_of slot f.reads
kept_room K slot f g fits inside kept =
    let size : length g.reads ≡ length f.reads = kept.reads.size in
    same_range g.reads f.reads (slot.start + 8) (slot.start + 8 + slot.capacity) size (omega (arith, fits, size)) (λ i lo hi. kept.reads.same i (inside i (omega (arith, lo)) (omega (arith, hi))))

pub kept_area : (a b : Spot) (ram after : List Held) (f g : Flash) → AreSpotsClear a b → IsSpot (length f.reads) ram b → IsRamBut a ram after → Keeps (OutsideSpot a) f g
    → area_at b after g.reads ≡ area_at b ram f.reads
kept_area a (spots.Flash y) ram after f g clear fits but kept = kept_found area_of kept_room a (spots.Flash y) ram after f g clear fits but kept
kept_area a (spots.Ram j) ram after f g clear fits but kept = kept_found area_of kept_room a (spots.Ram j) ram after f g clear fits but kept

-- ---- rooms that change in place

pub area_long : (spot : Spot) (ram : List Held) (reads : List ℕ) → IsSpot (length reads) ram spot → length (area_at spot ram reads) ≡ size_at spot ram
area_long (spots.Flash slot) ram reads inside =
    omega (arith, length-between reads (slot.start + 8) (slot.start + 8 + slot.capacity) (omega (arith, inside)))
area_long (spots.Ram component) ram reads inside = refl

-- the first bytes stay
pub front_stays : (spot : Spot) (old new : List Held) (reads : List ℕ) (n : ℕ) → KeepsFront spot old new → n ≤ size_at spot old → take n (area_at spot new reads) ≡ take n (area_at spot old reads)
front_stays (spots.Flash slot) old new reads n kept few = refl
front_stays (spots.Ram component) old new reads n kept few =
    let long : ℕ = length (held_by old component).content in
    sym (take-take n long (held_by new component).content few) ∙ ap (take n) kept

-- the sizes stay where another content changes
pub size_stays : (a b : Spot) (ram after : List Held) → AreSpotsClear a b → IsRamBut a ram after → size_at b after ≡ size_at b ram
size_stays a (spots.Flash y) ram after clear but = refl
size_stays (spots.Flash x) (spots.Ram j) ram after clear but = ap (λ (r : List Held). length (held_by r j).content) but
size_stays (spots.Ram i) (spots.Ram j) ram after clear (content, is) =
    ap (λ (r : List Held). length (held_by r j).content) is
    ∙ ap (λ (h : Held). length h.content) (get_or-set_other ram i j (record { capacity = (held_by ram i).capacity; content = content }) (empty 0) clear)

-- and the first bytes of another do
pub front_but : (a b : Spot) (ram after : List Held) (reads : List ℕ) → AreSpotsClear a b → IsRamBut a ram after → area_at b after reads ≡ area_at b ram reads
front_but a (spots.Flash y) ram after reads clear but = refl
front_but (spots.Flash x) (spots.Ram j) ram after reads clear but = ap (λ (r : List Held). (held_by r j).content) but
front_but (spots.Ram i) (spots.Ram j) ram after reads clear (content, is) =
    ap (λ (r : List Held). (held_by r j).content) is
    ∙ ap (λ (h : Held). h.content) (get_or-set_other ram i j (record { capacity = (held_by ram i).capacity; content = content }) (empty 0) clear)

-- ---- rooms whose first bytes change places

-- a piece more
pub piece_mixed : (one other : Spot) (ram later : List Held) (reads now after : List ℕ) (size from n taken : ℕ) → length reads ≡ size → IsSpot size ram one → IsSpot size ram other
    → from + n ≤ size_at one ram → from + n ≤ size_at other ram → taken ≡ n
    → area_at one later now ≡ take from (area_at other ram reads) ++ drop from (area_at one ram reads)
    → area_at other later now ≡ take from (area_at one ram reads) ++ drop from (area_at other ram reads)
    → after ≡ written (area_at one later now) from (take taken (drop from (area_at other later now)))
    → after ≡ take (from + n) (area_at other ram reads) ++ drop (from + n) (area_at one ram reads)
piece_mixed one other ram later reads now after size from n taken fits inside other_inside within other_within count one_is other_is put =
    let long : length (area_at one ram reads) ≡ size_at one ram = area_long one ram reads (subst (λ (i : ℕ). IsSpot i ram one) (sym fits) inside) in
    let other_long : length (area_at other ram reads) ≡ size_at other ram = area_long other ram reads (subst (λ (i : ℕ). IsSpot i ram other) (sym fits) other_inside) in
    put ∙ ap (λ (i : ℕ). written (area_at one later now) from (take i (drop from (area_at other later now)))) count
    ∙ mixed_more (area_at one ram reads) (area_at other ram reads) (area_at one later now) (area_at other later now) from n (omega (arith, within, long)) (omega (arith, other_within, other_long)) one_is other_is

-- all of them
pub all_mixed : (one other : Spot) (ram : List Held) (reads after : List ℕ) (size from n : ℕ) → length reads ≡ size → IsSpot size ram other → from ≡ n → n ≤ size_at other ram
    → after ≡ take from (area_at other ram reads) ++ drop from (area_at one ram reads) → take n after ≡ take n (area_at other ram reads)
all_mixed one other ram reads after size from n fits inside end few is =
    let long : length (area_at other ram reads) ≡ size_at other ram = area_long other ram reads (subst (λ (i : ℕ). IsSpot i ram other) (sym fits) inside) in
    mixed_all (area_at one ram reads) (area_at other ram reads) after n from end (omega (arith, few, long)) is
