-- Places that are left alone, of wider ranges.
use Rattle.std.proofs.Common.{◌≡◌, ◌≤◌, ◌+◌, ℕ, ap, subst, arith, inl, inr}
use Rattle.flash_layout.specs.declared.slot.Slot.{Slot}
use Rattle.suit_edge.specs.Flash.{Flash, IsFlash, IsSame, Keeps}
use Rattle.suit_edge.specs.FlashLaws.{keeps_fewer, keeps_same, keeps_then}
use Rattle.suit_edge.specs.Ranges.{Outside}

outside_wider : (p n q m : ℕ) → p ≤ q → q + m ≤ p + n → (i : ℕ) → Outside p n i → Outside q m i
outside_wider p n q m le fits i out = elim out [
  | inl lt ↦ inl (omega (arith, lt, le))
  | inr ge ↦ inr (omega (arith, ge, fits))
]

-- keeping all but a range keeps all but a wider one
pub keeps_wider : (p n q m : ℕ) → p ≤ q → q + m ≤ p + n → (a b : Flash) → Keeps (Outside q m) a b → Keeps (Outside p n) a b
keeps_wider p n q m le fits a b kept = keeps_fewer (Outside p n) (Outside q m) (outside_wider p n q m le fits) a b kept

-- ---- all but a slot

abbrev pub KeepsOut : Slot → Flash → Flash → Type 0
KeepsOut slot a b = Keeps (Outside slot.start (8 + slot.capacity)) a b

-- only the length was written
pub length_put : (slot : Slot) (a b : Flash) → Keeps (Outside slot.start 8) a b → KeepsOut slot a b
length_put slot a b kept = keeps_wider slot.start (8 + slot.capacity) slot.start 8 (omega arith) (omega arith) a b kept

-- and then the pieces
pub pieces_put : (slot same : Slot) (a b c : Flash) (size : ℕ) → same ≡ slot → IsFlash b size → Keeps (Outside slot.start 8) a b → KeepsOut same b c → KeepsOut slot a c
pieces_put slot same a b c size is law first second =
    keeps_then (Outside slot.start (8 + slot.capacity)) a b c size law (length_put slot a b first) (subst (λ (x : Slot). KeepsOut x b c) is second)

-- and then the length again
pub whole_put : (slot same : Slot) (a b c : Flash) (size : ℕ) → same ≡ slot → IsFlash b size → KeepsOut slot a b → Keeps (Outside same.start 8) b c → KeepsOut slot a c
whole_put slot same a b c size is law first second =
    keeps_then (Outside slot.start (8 + slot.capacity)) a b c size law first (length_put slot b c (subst (λ (x : Slot). Keeps (Outside x.start 8) b c) is second))

-- all three
pub slot_put : (slot one other : Slot) (a b c d : Flash) (m n : ℕ) → one ≡ slot → other ≡ slot → IsFlash b m → IsFlash c n → Keeps (Outside slot.start 8) a b → KeepsOut one b c → Keeps (Outside other.start 8) c d → KeepsOut slot a d
slot_put slot one other a b c d m n one_is other_is one_law other_law first second third =
    whole_put slot other a c d n other_is other_law (pieces_put slot one a b c m one_is one_law first second) third

-- a piece at a place within it
pub piece_put_there : (slot same : Slot) (a b : Flash) (place size : ℕ) → same ≡ slot → place + size ≤ slot.capacity → Keeps (Outside (same.start + 8 + place) size) a b → KeepsOut slot a b
piece_put_there slot same a b place size is fits kept =
    let start : same.start ≡ slot.start = ap (λ (x : Slot). x.start) is in
    keeps_wider slot.start (8 + slot.capacity) (same.start + 8 + place) size (omega (arith, start)) (omega (arith, start, fits)) a b kept

-- a piece more
pub more_put_there : (slot same : Slot) (a b c : Flash) (place size n : ℕ) → same ≡ slot → place + size ≤ slot.capacity → IsFlash b n → KeepsOut slot a b → Keeps (Outside (same.start + 8 + place) size) b c → KeepsOut slot a c
more_put_there slot same a b c place size n is fits law first second =
    keeps_then (Outside slot.start (8 + slot.capacity)) a b c n law first (piece_put_there slot same b c place size is fits second)

-- a read, and a piece more
pub read_and_put : (slot same : Slot) (a b c d : Flash) (place size m n : ℕ) → same ≡ slot → place + size ≤ slot.capacity → IsFlash b m → IsFlash c n → KeepsOut slot a b → IsSame b c → Keeps (Outside (same.start + 8 + place) size) c d → KeepsOut slot a d
read_and_put slot same a b c d place size m n is fits one_law other_law first read second =
    more_put_there slot same a c d place size n is fits other_law
    (keeps_then (Outside slot.start (8 + slot.capacity)) a b c m one_law first (keeps_same (Outside slot.start (8 + slot.capacity)) b c read)) second
