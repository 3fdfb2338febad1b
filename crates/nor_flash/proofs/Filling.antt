-- What a program or a failed call leaves, byte by byte.
use Rattle.std.proofs.Common.{◌≡◌, ◌<◌, ◌≤◌, ℕ, zero, suc, ◌+◌, ◌%◌, ◌==◌, List, [], ◌∷◌, if◌then◌else◌, length, get_or, bit_and, refl, ◌∙◌, ap, arith}
use Rattle.std.specs.List.{slice_range}
use Rattle.std.proofs.lemmas.List.{ext_get_or}
use Rattle.std.proofs.lemmas.List.Edits.{length-between, get_or-between}
use Rattle.std.proofs.lemmas.Nat.{and_comm, and_mask}
use Rattle.suit_edge.specs.Ranges.{AreBytes, written}
use Rattle.nor_flash.specs.Blocks.{ands, cleared}
use Rattle.nor_flash.specs.MemoryNor.{spoiled_from}
use Rattle.nor_flash.specs.MemoryNorLaws.{length-ands}

pub get_or-ands : (xs ys : List ℕ) (i : ℕ) → length xs ≡ length ys → i < length xs → get_or (ands xs ys) i 0 ≡ bit_and (get_or xs i 0) (get_or ys i 0)
get_or-ands [] ys i long lt = absurd (omega arith)
get_or-ands (x ∷ xs) [] i long lt = absurd (omega arith)
get_or-ands (x ∷ xs) (y ∷ ys) zero long lt = refl
get_or-ands (x ∷ xs) (y ∷ ys) (suc i) long lt = get_or-ands xs ys i (omega arith) (omega arith)

pub get_or-spoiled : (n : ℕ) (xs : List ℕ) (i : ℕ) → i < length xs → get_or (spoiled_from n xs) i 0 ≡ (if (n + i) % 2 == 0 then 85 else get_or xs i 0)
unfolding spoiled_from
get_or-spoiled n [] i lt = absurd (omega arith)
get_or-spoiled n (x ∷ xs) zero lt = ap (λ (k : ℕ). if k % 2 == 0 then 85 else x) (omega arith)
get_or-spoiled n (x ∷ xs) (suc i) lt =
    let at : n + 1 + i ≡ n + suc i = omega arith in
    get_or-spoiled (n + 1) xs i (omega arith) ∙ ap (λ (k : ℕ). if k % 2 == 0 then 85 else get_or xs i 0) at

-- ---- a program that writes its bytes

-- each byte is what it would be ANDed with the old one
pub cleared_by : (old bytes : List ℕ) (place : ℕ) → place + length bytes ≤ length old
    → ((i : ℕ) → i < length bytes → bit_and (get_or old (place + i) 0) (get_or bytes i 0) ≡ get_or bytes i 0) → cleared old place bytes ≡ written old place bytes
unfolding cleared
cleared_by old bytes place fits each =
    let part : List ℕ = slice_range old place (place + length bytes) in
    let long : length part ≡ length bytes = omega (arith, length-between old place (place + length bytes) fits) in
    let size : length (ands part bytes) ≡ length bytes = length-ands part bytes long in
    ap (written old place) (ext_get_or 0 (ands part bytes) bytes size
    (λ i lt. let near : i < length bytes = omega (arith, lt, size) in
    get_or-ands part bytes i long (omega (arith, near, long))
    ∙ ap (λ (x : ℕ). bit_and x (get_or bytes i 0)) (get_or-between old place (place + length bytes) i 0 (omega (arith, near))) ∙ each i near))

byte_kept : (x y : ℕ) → x ≡ 255 → y < 256 → bit_and x y ≡ y
byte_kept x y full byte = ap (λ z. bit_and z y) full ∙ and_comm 255 y ∙ and_mask y 8 ∙ omega (arith, byte)

-- the range is erased
pub cleared_erased : (old bytes : List ℕ) (place : ℕ) → place + length bytes ≤ length old → ((i : ℕ) → i < length bytes → get_or old (place + i) 0 ≡ 255) → AreBytes bytes
    → cleared old place bytes ≡ written old place bytes
cleared_erased old bytes place fits erased are = cleared_by old bytes place fits (λ i lt. byte_kept (get_or old (place + i) 0) (get_or bytes i 0) (erased i lt) (are i))
