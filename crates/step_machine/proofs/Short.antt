-- A content has no more bytes than there is room for.
use Rattle.std.proofs.Common.{◌≡◌, ◌≤◌, ℕ, zero, suc, Bool, true, false, cond, List, [], ◌∷◌, length, take, drop, refl, sym, subst, arith}
use Rattle.std.specs.Prelude.{nat_le}
use Rattle.std.proofs.lemmas.Bool.{leb-true}
use Rattle.flash_layout.specs.declared.slot.Slot.{Slot}
use Rattle.flash_layout.specs.Slots.{content_of, extent_of, stored_length, slot_bytes, slot_content}
use Rattle.flash_layout.specs.declared.frame.TheConstants.{LENGTH_SIZE}
use Rattle.flash_slots.specs.RamContents.{Held}
use Rattle.suit_edge.specs.Flash.{Flash, Keeps}
use Rattle.suit_edge.specs.Ranges.{Outside}
use Rattle.step_machine.specs.declared.spot.Spot.{Spot}
use Rattle.step_machine.specs.declared.spot.Spot.TheVariants as spots
use Rattle.step_machine.specs.Spots.{OutsideSpot, room_at}
use Rattle.step_machine.specs.Spots.{content_of as spot_content}

take_short : (n : ℕ) (xs : List ℕ) → length (take n xs) ≤ n
take_short zero xs = omega arith
take_short (suc n) [] = omega arith
take_short (suc n) (x ∷ xs) = let h = take_short n xs in omega (arith, h)

chosen_short : (n capacity : ℕ) (xs : List ℕ) (b : Bool) → nat_le n capacity ≡ b → length (cond b (take n xs) []) ≤ capacity
chosen_short n capacity xs true e = let h = take_short n xs in let le = leb-true n capacity e in omega (arith, h, le)
chosen_short n capacity xs false e = omega arith

pub slot_short : (slot : Slot) (image : List ℕ) → length (slot_content slot image) ≤ slot.capacity
unfolding content_of
slot_short slot image =
    let bytes : List ℕ = slot_bytes slot image in
    chosen_short (stored_length bytes) slot.capacity (drop LENGTH_SIZE bytes) (nat_le (stored_length bytes) slot.capacity) refl

-- ---- the content of a component whose slot that is

pub spot_short : (spot : Spot) (slot : Slot) → spot ≡ spots.Flash slot → (ram : List Held) (reads : List ℕ) → length (spot_content spot ram reads) ≤ room_at spot ram
spot_short spot slot is ram reads = subst (λ (x : Spot). length (spot_content x ram reads) ≤ room_at x ram) (sym is) (slot_short slot reads)

pub spot_kept : (spot : Spot) (slot : Slot) → spot ≡ spots.Flash slot → (f g : Flash) → Keeps (Outside slot.start (extent_of slot)) f g → Keeps (OutsideSpot spot) f g
spot_kept spot slot is f g kept = subst (λ (x : Spot). Keeps (OutsideSpot x) f g) (sym is) kept
