-- A content as bytes of the flash.
use Rattle.std.proofs.Common.{◌≡◌, ◌≤◌, ◌+◌, ◌-◌, ℕ, Bool, true, false, cond, List, [], length, take, drop, refl, ap, ◌∙◌, arith, drop-drop, take-take, length-take-le, length-drop}
use Rattle.std.specs.Prelude.{nat_le, slice_range}
use Rattle.std.proofs.lemmas.Bool.{leb-true}
use Rattle.std.proofs.lemmas.List.{drop-take}
use Rattle.flash_layout.specs.declared.slot.Slot.{Slot}
use Rattle.flash_layout.specs.Slots.{content_of, stored_length, slot_bytes, slot_content, extent_of}
use Rattle.step_machine.proofs.Short.{slot_short}

stored_by : (capacity k n : ℕ) (bytes : List ℕ) (b : Bool) → nat_le k capacity ≡ b → capacity ≤ length (drop 8 bytes) → n ≡ length (cond b (take k (drop 8 bytes)) []) → cond b (take k (drop 8 bytes)) [] ≡ take n (drop 8 bytes)
stored_by capacity k n bytes true e long is =
    let few : k ≤ capacity = leb-true k capacity e in
    let size : length (take k (drop 8 bytes)) ≡ k = length-take-le k (drop 8 bytes) (omega (arith, few, long)) in
    let same : k ≡ n = omega (arith, is, size) in
    ap (λ (j : ℕ). take j (drop 8 bytes)) same
stored_by capacity k n bytes false e long is =
    let none : 0 ≡ n = omega (arith, is) in
    ap (λ (j : ℕ). take j (drop 8 bytes)) none

pub content_range : (slot : Slot) (image : List ℕ) (n : ℕ) → n ≡ length (slot_content slot image) → slot.start + extent_of slot ≤ length image → slot_content slot image ≡ slice_range image (slot.start + 8) (slot.start + 8 + n)
unfolding content_of
content_range slot image n is fits =
    let cap : ℕ = slot.capacity in
    let p : ℕ = slot.start in
    let short : length (slot_content slot image) ≤ cap = slot_short slot image in
    let few : n ≤ cap = omega (arith, short, is) in
    let bytes : List ℕ = slot_bytes slot image in
    let size : p + (8 + cap) - p ≡ 8 + cap = omega arith in
    let whole : bytes ≡ take (8 + cap) (drop p image) = ap (λ (j : ℕ). take j (drop p image)) size in
    let inner : drop 8 bytes ≡ take cap (drop (p + 8) image) =
    ap (λ (l : List ℕ). drop 8 l) whole ∙ drop-take 8 cap (drop p image) ∙ ap (take cap) (drop-drop 8 p image) in
    let rest : length (drop (p + 8) image) ≡ length image - (p + 8) = length-drop (p + 8) image in
    let full : length (take cap (drop (p + 8) image)) ≡ cap = length-take-le cap (drop (p + 8) image) (omega (arith, rest, fits)) in
    let same : length (drop 8 bytes) ≡ length (take cap (drop (p + 8) image)) = ap length inner in
    let long : cap ≤ length (drop 8 bytes) = omega (arith, same, full) in
    let back : n ≡ p + 8 + n - (p + 8) = omega arith in
    stored_by cap (stored_length bytes) n bytes (nat_le (stored_length bytes) cap) refl long is
    ∙ ap (take n) inner ∙ take-take n cap (drop (p + 8) image) few
    ∙ ap (λ (j : ℕ). take j (drop (p + 8) image)) back
