-- The mask of lanes that differ, and facts about chunks carried over to whole lists.
use Rattle.std.proofs.Common.{◌≡◌, ◌+◌, ◌-◌, ◌<◌, ◌≤◌, ℕ, zero, suc, List, [], ◌∷◌, ◌++◌, length, take, drop, Bool, true, false, not, eqb, slice_index, inl, inr, min, refl, ap, sym, ◌∙◌, subst, arith}
use Rattle.std.specs.Int.{bit_at}
use Rattle.std.specs.Int.Bits.{bit_and}
use Rattle.std.specs.Simd.Lanes.{zip2, mask_l, chunk}
use Rattle.std.specs.Str.{bytes_eq}
use lib.Pointwise.{bytes_decides}
use Rattle.std.proofs.lemmas.Bool.{cases_lt}
use Rattle.std.proofs.lemmas.List.{take-append-drop, take_all}
use Rattle.std.proofs.lemmas.Nat.Bits.{bit_at_and, same_from_bits}
use Rattle.std.proofs.lemmas.Simd.{get_or-chunk}
use Rattle.lane_bytes.specs.Bytes.{SetsNoBit, ClearsBelow}

abbrev pub neb : ℕ → ℕ → Bool
neb a b = not (eqb a b)

-- ---- the mask of lanes that differ is 0 if and only if the lists are equal

pub same_if_zero : (xs ys : List ℕ) → length xs ≡ length ys → mask_l (zip2 neb xs ys) ≡ 0 → xs ≡ ys
same_if_zero [] [] l z = refl
same_if_zero [] (y ∷ ys) l z = grind arith
same_if_zero (x ∷ xs) [] l z = grind arith
same_if_zero (x ∷ xs) (y ∷ ys) l z = grind (arith, same_if_zero xs ys)

pub zero_if_same : (xs : List ℕ) → mask_l (zip2 neb xs xs) ≡ 0
zero_if_same [] = refl
zero_if_same (x ∷ xs) = grind (arith, zero_if_same xs)

-- lists with the same front are equal if the rests are, as a test of slices compares them
pub joined : (i n m : ℕ) (xs ys : List ℕ) → take i xs ≡ take i ys → take n (drop i xs) ≡ take m (drop i ys) → length (drop i xs) ≤ n → length (drop i ys) ≤ m → xs ≡ ys
joined i n m xs ys front back a b =
    let behind : drop i xs ≡ drop i ys = sym (take_all n (drop i xs) a) ∙ back ∙ take_all m (drop i ys) b in
    sym (take-append-drop i xs) ∙ ap (λ t. t ++ drop i xs) front ∙ ap (λ t. take i ys ++ t) behind ∙ take-append-drop i ys

-- a test that is true of just the equal lists is the test for equality
pub decided : (answer : Bool) (xs ys : List ℕ) → (answer ≡ true → xs ≡ ys) → (xs ≡ ys → answer ≡ true) → answer ≡ bytes_eq xs ys
decided answer xs ys forward back = by_test answer (bytes_eq xs ys) refl refl
  where
    by_test : (a t : Bool) → answer ≡ a → bytes_eq xs ys ≡ t → answer ≡ bytes_eq xs ys
    by_test true t is test = is ∙ sym ((bytes_decides xs ys).1 (forward is))
    by_test false true is test = back ((bytes_decides xs ys).0 test) ∙ sym test
    by_test false false is test = is ∙ sym test

-- ---- one byte: it sets no new bit if and only if the old byte has all of its bits

pub sets_no_bit : (x y : ℕ) → bit_and x y ≡ y → SetsNoBit x y
sets_no_bit x y kept bit set = omega (arith, bit_at_and x y bit, ap (λ z. bit_at z bit) kept, set)

least : (a b : ℕ) → b < 2 → (b ≡ 1 → a ≡ 1) → min a b ≡ b
least a b two h = elim (cases_lt b 1) [
  | inl none ↦ omega arith
  | inr some ↦ omega (arith, h (omega arith))
]

pub kept_by_and : (x y : ℕ) → SetsNoBit x y → bit_and x y ≡ y
kept_by_and x y clears = same_from_bits (bit_and x y) y (λ bit. bit_at_and x y bit ∙ least (bit_at x bit) (bit_at y bit) (omega arith) (clears bit))

-- ---- many bytes

-- each byte of the new list keeps its bits
abbrev AllKept : List ℕ → List ℕ → Type 0
AllKept xs ys = mask_l (zip2 neb (zip2 bit_and xs ys) ys) ≡ 0

pub clears_if_zero : (xs ys : List ℕ) → length xs ≡ length ys → AllKept xs ys → (i : ℕ) → i < length ys → bit_and (slice_index xs i) (slice_index ys i) ≡ slice_index ys i
clears_if_zero [] [] l z i lt = omega arith
clears_if_zero [] (y ∷ ys) l z i lt = omega arith
clears_if_zero (x ∷ xs) [] l z i lt = omega arith
clears_if_zero (x ∷ xs) (y ∷ ys) l z zero lt = grind (arith, z)
clears_if_zero (x ∷ xs) (y ∷ ys) l z (suc i) lt = grind (arith, z, clears_if_zero xs ys, i)

pub zero_if_clears : (xs ys : List ℕ) → length xs ≡ length ys → ((i : ℕ) → i < length ys → bit_and (slice_index xs i) (slice_index ys i) ≡ slice_index ys i) → AllKept xs ys
zero_if_clears [] [] l h = refl
zero_if_clears [] (y ∷ ys) l h = grind arith
zero_if_clears (x ∷ xs) [] l h = grind arith
zero_if_clears (x ∷ xs) (y ∷ ys) l h = grind (arith, zero_if_clears xs ys (omega arith) (λ i lt. h (suc i) (omega arith)), h 0 (omega arith))

-- bits that are only cleared up to a place, and in the bytes that follow
pub clears_more : (old new : List ℕ) (at count : ℕ) → ClearsBelow at old new
    → ((k : ℕ) → k < count → SetsNoBit (slice_index old (at + k)) (slice_index new (at + k))) → ClearsBelow (at + count) old new
clears_more old new at count below next i lt = elim (cases_lt i at) [
  | inl less ↦ below i less
  | inr from ↦ let is : at + (i - at) ≡ i = omega arith in subst (λ j. SetsNoBit (slice_index old j) (slice_index new j)) is (next (i - at) (omega arith))
]

-- a byte of a chunk, as a byte of the list
pub chunk_of_list : (old new : List ℕ) (from k : ℕ) → k < 32 → SetsNoBit (slice_index old (from + k)) (slice_index new (from + k)) → SetsNoBit (slice_index (chunk from 32 old) k) (slice_index (chunk from 32 new) k)
chunk_of_list old new from k lt h bit set =
    ap (λ x. bit_at x bit) (get_or-chunk from 32 old k 0 lt) ∙ h bit (ap (λ x. bit_at x bit) (sym (get_or-chunk from 32 new k 0 lt)) ∙ set)

pub list_of_chunk : (old new : List ℕ) (from k : ℕ) → k < 32 → SetsNoBit (slice_index (chunk from 32 old) k) (slice_index (chunk from 32 new) k) → SetsNoBit (slice_index old (from + k)) (slice_index new (from + k))
list_of_chunk old new from k lt h bit set =
    ap (λ x. bit_at x bit) (sym (get_or-chunk from 32 old k 0 lt)) ∙ h bit (ap (λ x. bit_at x bit) (get_or-chunk from 32 new k 0 lt) ∙ set)
