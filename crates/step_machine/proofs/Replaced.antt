-- Contents that are replaced: what a power loss on the way may leave of them.
use Rattle.std.proofs.Common.{◌≡◌, ◌≤◌, ◌<◌, ◌+◌, ℕ, List, length, take, inl, inr, ⊎_elim, refl, sym, ap, subst, ◌∙◌, arith, take-take}
use Rattle.suit_edge.specs.Flash.{Flash, ImageOn, IsFlash, IsSame, Keeps, Now, Passes}
use Rattle.suit_edge.specs.FlashLaws.{each_now, joined, keeps_fewer, keeps_then, starts, then_same, weakens}
use Rattle.suit_edge.specs.RangeLaws.{outside_within, same_range}
use Rattle.suit_edge.specs.Ranges.{Outside, SameOn}
use Rattle.flash_layout.specs.declared.slot.Slot.{Slot}
use Rattle.flash_layout.specs.Slots.{LiesWithin, extent_of, slot_content}
use Rattle.flash_slots.specs.Contents.{IsEmptyInEach, IsEmptyOrWhole, IsEmptySlot, area_of, pieces_of}
use Rattle.flash_slots.specs.RamContents.{Held}
use Rattle.flash_slots.proofs.Room.{area_front}
use Rattle.flash_slots.proofs.Stored.{empty_stays}
use Rattle.step_machine.specs.declared.spot.Spot.{Spot}
use Rattle.step_machine.specs.declared.spot.Spot.TheVariants as spots
use Rattle.step_machine.specs.Areas.{IsSlotWithin, OutsideLength, OutsideRoom, area_at}
use Rattle.step_machine.specs.Copying.{OutsideBoth, OutsideLengths, OutsideRooms}
use Rattle.step_machine.specs.Devices.{AreSpotsClear}
use Rattle.step_machine.specs.Replacing.{IsEmptyAt, IsEmptyNow, IsEmptyOrWholeAt, IsSettledAt}
use Rattle.step_machine.specs.Spots.{IsSpot, OutsideSpot, room_at}
use Rattle.step_machine.proofs.Lifting.{clear_outside}

-- ---- parts of a slot

pub length_outside : (spot : Spot) (i : ℕ) → OutsideSpot spot i → OutsideLength spot i
length_outside (spots.Flash slot) i out = outside_within slot.start 8 slot.start (8 + slot.capacity) (omega arith) (omega arith) i out
length_outside (spots.Ram component) i out = tt

pub room_outside : (spot : Spot) (i : ℕ) → OutsideSpot spot i → OutsideRoom spot i
room_outside (spots.Flash slot) i out = outside_within (slot.start + 8) slot.capacity slot.start (8 + slot.capacity) (omega arith) (omega arith) i out
room_outside (spots.Ram component) i out = tt

pub keeps_length : (spot : Spot) (a b : Flash) → Keeps (OutsideLength spot) a b → Keeps (OutsideSpot spot) a b
keeps_length spot a b kept = keeps_fewer (OutsideSpot spot) (OutsideLength spot) (length_outside spot) a b kept

pub keeps_room : (spot : Spot) (a b : Flash) → Keeps (OutsideRoom spot) a b → Keeps (OutsideSpot spot) a b
keeps_room spot a b kept = keeps_fewer (OutsideSpot spot) (OutsideRoom spot) (room_outside spot) a b kept

pub slot_within : (spot : Spot) (ram : List Held) (size now : ℕ) → now ≡ size → IsSpot size ram spot → IsSlotWithin now spot
slot_within (spots.Flash slot) ram size now is inside = omega (arith, is, inside)
slot_within (spots.Ram component) ram size now is inside = tt

pub slot_there : (spot : Spot) (size now : ℕ) → now ≡ size → IsSlotWithin size spot → IsSlotWithin now spot
slot_there (spots.Flash slot) size now is inside = omega (arith, is, inside)
slot_there (spots.Ram component) size now is inside = tt

module _ (one other : Spot) where
  pub first_length : (a b : Flash) → Keeps (OutsideLength one) a b → Keeps (OutsideLengths one other) a b
  first_length a b kept = keeps_fewer (OutsideLengths one other) (OutsideLength one) (λ i out. out.0) a b kept

  pub keeps_lengths : (a b : Flash) → Keeps (OutsideLengths one other) a b → Keeps (OutsideBoth one other) a b
  keeps_lengths a b kept = keeps_fewer (OutsideBoth one other) (OutsideLengths one other) (λ i out. (length_outside one i out.0, length_outside other i out.1)) a b kept

  pub keeps_rooms : (a b : Flash) → Keeps (OutsideRooms one other) a b → Keeps (OutsideBoth one other) a b
  keeps_rooms a b kept = keeps_fewer (OutsideBoth one other) (OutsideRooms one other) (λ i out. (room_outside one i out.0, room_outside other i out.1)) a b kept

  pub lengths_back : (a b : Flash) → Keeps (OutsideLengths one other) a b → Keeps (OutsideLengths other one) a b
  lengths_back a b kept = keeps_fewer (OutsideLengths other one) (OutsideLengths one other) (λ i out. (out.1, out.0)) a b kept

  pub rooms_back : (a b : Flash) → Keeps (OutsideRooms one other) a b → Keeps (OutsideRooms other one) a b
  rooms_back a b kept = keeps_fewer (OutsideRooms other one) (OutsideRooms one other) (λ i out. (out.1, out.0)) a b kept

  -- lengths, rooms, and lengths again
  pub keeps_all : (a b c d : Flash) (m n : ℕ) → IsFlash b m → IsFlash c n → Keeps (OutsideLengths one other) a b → Keeps (OutsideRooms one other) b c → Keeps (OutsideLengths one other) c d
      → Keeps (OutsideBoth one other) a d
  keeps_all a b c d m n law other_law first second third =
      keeps_then (OutsideBoth one other) a b d m law (keeps_lengths a b first)
      (keeps_then (OutsideBoth one other) b c d n other_law (keeps_rooms b c second) (keeps_lengths c d third))

-- the room of a slot is apart from both lengths
room_apart : (x : Slot) (other : Spot) → AreSpotsClear (spots.Flash x) other → (i : ℕ) → x.start + 8 ≤ i → i < x.start + 8 + x.capacity → OutsideLengths (spots.Flash x) other i
room_apart x (spots.Flash y) clear i lo hi =
    (inr lo, length_outside (spots.Flash y) i (clear_outside y.start (extent_of y) x.start (extent_of x) (clear.1, clear.0) i (omega (arith, lo)) (omega (arith, hi))))
room_apart x (spots.Ram j) clear i lo hi = (inr lo, tt)

-- and its length from both rooms
length_apart : (x : Slot) (other : Spot) → AreSpotsClear (spots.Flash x) other → (i : ℕ) → i < x.start + 8 → x.start ≤ i → OutsideRooms (spots.Flash x) other i
length_apart x (spots.Flash y) clear i hi lo =
    (inl hi, room_outside (spots.Flash y) i (clear_outside y.start (extent_of y) x.start (extent_of x) (clear.1, clear.0) i lo (omega (arith, hi))))
length_apart x (spots.Ram j) clear i hi lo = (inl hi, tt)

-- a room stays
same_room : (K : ℕ → Type 0) (x : Slot) → ((i : ℕ) → x.start + 8 ≤ i → i < x.start + 8 + x.capacity → K i) → (from image : List ℕ) → LiesWithin (length from) x → SameOn K from image → area_of x image ≡ area_of x from
same_room K x there from image inside same =
    same_range image from (x.start + 8) (x.start + 8 + x.capacity) same.size (omega (arith, same.size, inside)) (λ i lo hi. same.same i (there i lo hi))

-- the rooms stay where the lengths are written
pub area_stays : (one other : Spot) (ram : List Held) (f g : Flash) → AreSpotsClear one other → IsSlotWithin (length f.reads) one → Keeps (OutsideLengths one other) f g → area_at one ram g.reads ≡ area_at one ram f.reads
area_stays (spots.Flash x) other ram f g clear inside kept = same_room (OutsideLengths (spots.Flash x) other) x (room_apart x other clear) f.reads g.reads inside kept.reads
area_stays (spots.Ram j) other ram f g clear inside kept = refl

-- ---- one slot

module _ (slot : Slot) (bytes : List ℕ) (a : Flash) where
  abbrev Holds : List ℕ → Type 0
  Holds image = IsEmptyOrWholeAt (spots.Flash slot) bytes a image

  -- its room is not written yet
  pub unwritten_slot : (K : ℕ → Type 0) → ((i : ℕ) → slot.start + 8 ≤ i → i < slot.start + 8 + slot.capacity → K i) → (b : Flash) (size : ℕ) → IsFlash a size → LiesWithin size slot → Keeps K a b
      → Passes a b (IsEmptyOrWholeAt (spots.Flash slot) bytes a)
  unwritten_slot K there b size law inside kept =
      weakens a b (ImageOn K a) Holds
      (λ image on.
      let long : length on.from ≡ size = law.sized a.clock on.from (omega arith) on.was in
      inr (inl (on.from, on.was, same_room K slot there on.from image (omega (arith, inside, long)) on.same))) kept.images

  -- it is filled while it is empty
  pub filled_slot : (b c : Flash) → Passes a b (IsEmptyOrWholeAt (spots.Flash slot) bytes a) → Passes b c (IsEmptySlot slot) → Passes a c (IsEmptyOrWholeAt (spots.Flash slot) bytes a)
  filled_slot b c first empty = joined a b c Holds first (weakens b c (IsEmptySlot slot) Holds (λ image is. inl is) empty)

  -- and gets its length, where the bytes stand in it
  pub whole_slot : (b c : Flash) (n : ℕ) → n ≡ length bytes → pieces_of slot n b.reads ≡ bytes → Passes a b (IsEmptyOrWholeAt (spots.Flash slot) bytes a)
      → Passes b c (IsEmptyOrWhole slot n b.reads) → Passes a c (IsEmptyOrWholeAt (spots.Flash slot) bytes a)
  whole_slot b c n is put first whole =
      joined a b c Holds first
      (weakens b c (IsEmptyOrWhole slot n b.reads) Holds
      (λ image either. ⊎_elim (λ empty. inl empty) (λ same. inr (inr (ap (λ (k : ℕ). pieces_of slot k image) (sym is) ∙ same ∙ put))) either) whole)

-- a read, and a piece more
pub moment_more : (slot same : Slot) → same ≡ slot → (a b c d : Flash) (m n : ℕ) → IsFlash b m → IsFlash c n → Passes a b (IsEmptySlot slot) → IsSame b c → (IsEmptyInEach same c → Passes c d (IsEmptySlot same)) → Passes a d (IsEmptySlot slot)
moment_more slot same is a b c d m n law other_law first read put =
    let read_too : Passes a c (IsEmptySlot slot) = then_same a b c m (IsEmptySlot slot) law first read in
    let here : IsEmptyInEach same c = subst (λ (x : Slot). IsEmptyInEach x c) (sym is) (each_now a c n (IsEmptySlot slot) other_law read_too) in
    joined a c d (IsEmptySlot slot) read_too (subst (λ (x : Slot). Passes c d (IsEmptySlot x)) is (put here))

-- its length is set to 0, it is filled, and gets its length
module _ (slot begun : Slot) (bytes : List ℕ) (is : begun ≡ slot) (a b : Flash) (size : ℕ) (law : IsFlash a size) (inside : LiesWithin size slot) (first : Keeps (Outside slot.start 8) a b) where
  pub begun_slot : Passes a b (IsEmptyOrWholeAt (spots.Flash slot) bytes a)
  begun_slot = unwritten_slot slot bytes a (Outside slot.start 8) (λ i lo hi. inr lo) b size law inside first

  module _ (c : Flash) (empty : Passes b c (IsEmptySlot begun)) where
    pub put_slot : Passes a c (IsEmptyOrWholeAt (spots.Flash slot) bytes a)
    put_slot = filled_slot slot bytes a b c begun_slot (subst (λ (x : Slot). Passes b c (IsEmptySlot x)) is empty)

    pub finished_slot : (put : Slot) (n : ℕ) (d : Flash) → put ≡ slot → n ≡ length bytes → pieces_of put n c.reads ≡ bytes → Passes c d (IsEmptyOrWhole put n c.reads) → Passes a d (IsEmptyOrWholeAt (spots.Flash slot) bytes a)
    finished_slot put n d put_is n_is stands whole =
        whole_slot slot bytes a c d n n_is (ap (λ (x : Slot). pieces_of x n c.reads) (sym put_is) ∙ stands) put_slot (subst (λ (x : Slot). Passes c d (IsEmptyOrWhole x n c.reads)) put_is whole)

-- of a slot that is another's name
pub replaced_as : (spot : Spot) (slot : Slot) → spot ≡ spots.Flash slot → (bytes : List ℕ) (a b : Flash) → Passes a b (IsEmptyOrWholeAt (spots.Flash slot) bytes a) → Passes a b (IsEmptyOrWholeAt spot bytes a)
replaced_as spot slot is bytes a b moments = subst (λ (x : Spot). Passes a b (IsEmptyOrWholeAt x bytes a)) (sym is) moments

-- by equal bytes
pub same_bytes : (spot : Spot) (x y : List ℕ) (a b : Flash) → x ≡ y → Passes a b (IsEmptyOrWholeAt spot x a) → Passes a b (IsEmptyOrWholeAt spot y a)
same_bytes spot x y a b is moments = subst (λ (l : List ℕ). Passes a b (IsEmptyOrWholeAt spot l a)) is moments

-- in working memory
pub replaced_held : (spot : Spot) (component : ℕ) → spot ≡ spots.Ram component → (bytes : List ℕ) (a b : Flash) → IsSame a b → Passes a b (IsEmptyOrWholeAt spot bytes a)
replaced_held spot component is bytes a b same =
    subst (λ (x : Spot). Passes a b (IsEmptyOrWholeAt x bytes a)) (sym is) (weakens a b (Now a) (IsEmptyOrWholeAt (spots.Ram component) bytes a) (λ image now. tt) same.images)

-- ---- two contents

-- the lengths are set to 0
unwritten : (one other : Spot) (bytes : List ℕ) (a b : Flash) (size : ℕ) → IsFlash a size → AreSpotsClear one other → IsSlotWithin size one → Keeps (OutsideLengths one other) a b → Passes a b (IsEmptyOrWholeAt one bytes a)
unwritten (spots.Flash x) other bytes a b size law clear inside kept = unwritten_slot x bytes a (OutsideLengths (spots.Flash x) other) (room_apart x other clear) b size law inside kept
unwritten (spots.Ram j) other bytes a b size law clear inside kept = weakens a b (ImageOn (OutsideLengths (spots.Ram j) other) a) (IsEmptyOrWholeAt (spots.Ram j) bytes a) (λ image on. tt) kept.images

-- the rooms are written
emptied : (one other : Spot) (bytes : List ℕ) (a b c : Flash) (size : ℕ) → IsFlash b size → AreSpotsClear one other → IsSlotWithin size one → IsEmptyNow one b → Keeps (OutsideRooms one other) b c → Passes b c (IsEmptyOrWholeAt one bytes a)
emptied (spots.Flash x) other bytes a b c size law clear inside empty kept =
    weakens b c (ImageOn (OutsideRooms (spots.Flash x) other) b) (IsEmptyOrWholeAt (spots.Flash x) bytes a)
    (λ image on.
    let long : length on.from ≡ size = law.sized b.clock on.from (omega arith) on.was in
    inl (empty_stays x on.from image (omega (arith, inside, long)) on.same.size (λ i hi lo. on.same.same i (length_apart x other clear i hi lo)) (empty on.from on.was))) kept.images
emptied (spots.Ram j) other bytes a b c size law clear inside empty kept = weakens b c (ImageOn (OutsideRooms (spots.Ram j) other) b) (IsEmptyOrWholeAt (spots.Ram j) bytes a) (λ image on. tt) kept.images

-- the lengths are set
whole : (one other : Spot) (bytes : List ℕ) (a b c : Flash) (size : ℕ) → IsFlash b size → AreSpotsClear one other → IsSlotWithin size one → IsSettledAt one b
    → (held ram : List Held) (n : ℕ) → length bytes ≡ n → n ≤ room_at one held → take n (area_at one ram b.reads) ≡ bytes → Keeps (OutsideLengths one other) b c → Passes b c (IsEmptyOrWholeAt one bytes a)
whole (spots.Flash x) other bytes a b c size law clear inside settled held ram n long few stands kept =
    weakens b c (ImageOn (OutsideLengths (spots.Flash x) other) b) (IsEmptyOrWholeAt (spots.Flash x) bytes a)
    (λ image on.
    let size_is : length on.from ≡ size = law.sized b.clock on.from (omega arith) on.was in
    inr (inr (
    ap (λ (k : ℕ). pieces_of x k image) long ∙ sym (area_front x image n few)
    ∙ ap (take n) (same_room (OutsideLengths (spots.Flash x) other) x (room_apart x other clear) on.from image (omega (arith, inside, size_is)) on.same)
    ∙ ap (λ (l : List ℕ). take n (area_of x l)) (settled on.from on.was)
    ∙ stands))) kept.images
whole (spots.Ram j) other bytes a b c size law clear inside settled held ram n long few stands kept = weakens b c (ImageOn (OutsideLengths (spots.Ram j) other) b) (IsEmptyOrWholeAt (spots.Ram j) bytes a) (λ image on. tt) kept.images

-- all three, one after another
module _ (one other : Spot) (bytes : List ℕ) (a b : Flash) (size : ℕ) (law : IsFlash a size) (clear : AreSpotsClear one other) (inside : IsSlotWithin size one) (first : Keeps (OutsideLengths one other) a b) where
  pub lengths_moment : Passes a b (IsEmptyOrWholeAt one bytes a)
  lengths_moment = unwritten one other bytes a b size law clear inside first

  module _ (c : Flash) (second_size : ℕ) (second_law : IsFlash b second_size) (is : second_size ≡ size) (empty : IsEmptyNow one b) (second : Keeps (OutsideRooms one other) b c) where
    pub rooms_moment : Passes a c (IsEmptyOrWholeAt one bytes a)
    rooms_moment = joined a b c (IsEmptyOrWholeAt one bytes a) lengths_moment (emptied one other bytes a b c second_size second_law clear (slot_there one size second_size is inside) empty second)

    pub whole_moment : (d : Flash) (third_size : ℕ) → IsFlash c third_size → third_size ≡ size → IsSettledAt one c → (held ram : List Held) (n : ℕ) → length bytes ≡ n → n ≤ room_at one held → take n (area_at one ram c.reads) ≡ bytes → Keeps (OutsideLengths one other) c d
        → Passes a d (IsEmptyOrWholeAt one bytes a)
    whole_moment d third_size third_law third_is settled held ram n long few stands third =
        joined a c d (IsEmptyOrWholeAt one bytes a) rooms_moment (whole one other bytes a c d third_size third_law clear (slot_there one size third_size third_is inside) settled held ram n long few stands third)

-- ---- reads

pub now_held : (spot : Spot) (bytes : List ℕ) (a : Flash) (image : List ℕ) → Now a image → IsEmptyOrWholeAt spot bytes a image
now_held (spots.Flash slot) bytes a image now = inr (inl (image, now, refl))
now_held (spots.Ram component) bytes a image now = tt

-- nothing was done
pub untouched : (spot : Spot) (bytes : List ℕ) (a : Flash) → Passes a a (IsEmptyOrWholeAt spot bytes a)
untouched spot bytes a = starts a (IsEmptyOrWholeAt spot bytes a) (now_held spot bytes a)

-- it was only read
pub only_read : (spot : Spot) (bytes : List ℕ) (a b : Flash) → IsSame a b → Passes a b (IsEmptyOrWholeAt spot bytes a)
only_read spot bytes a b same = weakens a b (Now a) (IsEmptyOrWholeAt spot bytes a) (now_held spot bytes a) same.images

-- and then a content is replaced
pub read_first : (spot : Spot) (bytes now : List ℕ) (a b c : Flash) (size : ℕ) → IsFlash b size → IsSame a b → now ≡ bytes → Passes b c (IsEmptyOrWholeAt spot now b) → Passes a c (IsEmptyOrWholeAt spot bytes a)
read_first spot bytes now a b c size law same is replaced =
    joined a b c (IsEmptyOrWholeAt spot bytes a) (only_read spot bytes a b same)
    (weakens b c (IsEmptyOrWholeAt spot now b) (IsEmptyOrWholeAt spot bytes a) (λ image held. since spot image (subst (λ (l : List ℕ). IsEmptyOrWholeAt spot l b image) is held)) replaced)
  where
    since : (spot : Spot) (image : List ℕ) → IsEmptyOrWholeAt spot bytes b image → IsEmptyOrWholeAt spot bytes a image
    since (spots.Flash slot) image held =
        ⊎_elim (λ empty. inl empty) (λ rest. ⊎_elim (λ before. inr (inl (before.0, each_now a b size (Now a) law same.images before.0 before.1, before.2))) (λ whole. inr (inr whole)) rest) held
    since (spots.Ram component) image held = tt

-- ---- what was written

-- the first bytes of a room, which came from another
pub front_came : (one other : Spot) (ram stretched moved : List Held) (first emptied last : List ℕ) (n size : ℕ) → n ≤ size
    → take size (area_at one moved last) ≡ take size (area_at other stretched emptied)
    → area_at other stretched emptied ≡ area_at other stretched first
    → take n (area_at other stretched first) ≡ take n (area_at other ram first)
    → take n (area_at one moved last) ≡ take n (area_at other ram first)
front_came one other ram stretched moved first emptied last n size few came stays front =
    sym (take-take n size (area_at one moved last) few) ∙ ap (take n) came ∙ take-take n size (area_at other stretched emptied) few ∙ ap (take n) stays ∙ front

-- a slot is empty until the rooms are written
pub empty_now : (one : Spot) (f g : Flash) → IsEmptyAt one f.reads → g.reads ≡ f.reads → IsSettledAt one g → IsEmptyNow one g
empty_now (spots.Flash x) f g empty same settled = λ image now. ap (slot_content x) (settled image now ∙ same) ∙ empty
empty_now (spots.Ram j) f g empty same settled = tt

-- and stays so where another length is written
pub empty_behind : (one other : Spot) (f g : Flash) → AreSpotsClear other one → IsSlotWithin (length f.reads) one → Keeps (OutsideLength other) f g → IsEmptyAt one f.reads → IsEmptyAt one g.reads
empty_behind (spots.Flash x) (spots.Flash y) f g clear inside kept empty =
    empty_stays x f.reads g.reads inside kept.reads.size
    (λ i hi lo. kept.reads.same i (length_outside (spots.Flash y) i (clear_outside y.start (extent_of y) x.start (extent_of x) clear i lo (omega (arith, hi))))) empty
empty_behind (spots.Flash x) (spots.Ram j) f g clear inside kept empty = empty_stays x f.reads g.reads inside kept.reads.size (λ i hi lo. kept.reads.same i tt) empty
empty_behind (spots.Ram j) other f g clear inside kept empty = tt
