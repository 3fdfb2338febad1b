-- NOR flash in memory obeys the laws of every device.
use Rattle.std.proofs.Common.{◌≡◌, ◌<◌, ◌≤◌, inl, inr, ⊎_elim, ℕ, zero, suc, ◌+◌, ◌-◌, ◌*◌, ◌%◌, ◌==◌, List, [], ◌∷◌, Bool, true, false, if◌then◌else◌, nat_le, length, take, drop, get_or, replicate, refl, sym, ◌∙◌, ap, subst, arith}
use Rattle.std.specs.List.{slice_range}
use Rattle.std.proofs.lemmas.Bool.{cases_lt, leb-true}
use Rattle.std.proofs.lemmas.List.{length-replicate, get_or-replicate, get_or_past, take_all, drop_all}
use Rattle.std.proofs.lemmas.List.Edits.{length-between, get_or-between}
use Rattle.std.proofs.lemmas.Nat.{and_le_l}
use Rattle.suit_edge.specs.Flash.{IsFlash, IsSettled, Now}
use Rattle.suit_edge.specs.Ranges.{AreBytes, written}
use Rattle.suit_edge.specs.RangeLaws.{length-written, written_outside, written_within}
use Rattle.nor_flash.specs.declared.step.Step.{Step}
use Rattle.nor_flash.specs.declared.step.Step.TheVariants.{Programmed, Erased, Spoiled}
use Rattle.nor_flash.specs.Blocks.{ands}
use Rattle.nor_flash.specs.MemoryNor.{NorState, IsLeft, after_step, after_steps, filled_by, memory_nor, nor_reads, range_of, spoiled_from, with_range}

-- ---- sizes

pub length-ands : (xs ys : List ℕ) → length xs ≡ length ys → length (ands xs ys) ≡ length ys
length-ands [] [] long = refl
length-ands [] (y ∷ ys) long = absurd (omega arith)
length-ands (x ∷ xs) [] long = absurd (omega arith)
length-ands (x ∷ xs) (y ∷ ys) long = omega (arith, length-ands xs ys (omega arith))

pub length-spoiled : (i : ℕ) (xs : List ℕ) → length (spoiled_from i xs) ≡ length xs
unfolding spoiled_from
length-spoiled i [] = refl
length-spoiled i (x ∷ xs) = omega (arith, length-spoiled (i + 1) xs)

pub length-filled : (s : Step) (old : List ℕ) → length old ≡ (range_of s).size
    → length (filled_by s old) ≡ (range_of s).size
length-filled (Programmed p) old long = length-ands old p.bytes long
length-filled (Erased block) old long = length-replicate {A = ℕ} 4096 255
length-filled (Spoiled span) old long = length-spoiled 0 old ∙ long

module _ (bytes : List ℕ) (s : Step) (fits : (range_of s).place + (range_of s).size ≤ length bytes) where
  length-old : length (slice_range bytes (range_of s).place ((range_of s).place + (range_of s).size)) ≡ (range_of s).size
  length-old = omega (arith, length-between bytes (range_of s).place ((range_of s).place + (range_of s).size) fits)

  pub length-new : length (filled_by s (slice_range bytes (range_of s).place ((range_of s).place + (range_of s).size))) ≡ (range_of s).size
  length-new = length-filled s (slice_range bytes (range_of s).place ((range_of s).place + (range_of s).size)) length-old

  pub fits_new : (range_of s).place + length (filled_by s (slice_range bytes (range_of s).place ((range_of s).place + (range_of s).size))) ≤ length bytes
  fits_new = omega (arith, fits, length-new)

  pub length-with_range : length (with_range bytes s (range_of s)) ≡ length bytes
  length-with_range = length-written bytes (range_of s).place (filled_by s (slice_range bytes (range_of s).place ((range_of s).place + (range_of s).size))) fits_new

pub length-after_step : (bytes : List ℕ) (s : Step) → length (after_step bytes s) ≡ length bytes
unfolding after_step
length-after_step bytes s = by_test (nat_le ((range_of s).place + (range_of s).size) (length bytes)) refl
  where
    by_test : (b : Bool) → nat_le ((range_of s).place + (range_of s).size) (length bytes) ≡ b
        → length (if b then with_range bytes s (range_of s) else bytes) ≡ length bytes
    by_test true is = length-with_range bytes s (leb-true _ _ is)
    by_test false is = refl

length-after_steps : (bytes : List ℕ) (steps : List Step) → length (after_steps bytes steps) ≡ length bytes
unfolding after_steps
length-after_steps bytes [] = refl
length-after_steps bytes (s ∷ steps) = length-after_steps (after_step bytes s) steps ∙ length-after_step bytes s

pub length-nor_reads : (blocks : ℕ) (steps : List Step) → length (nor_reads blocks steps) ≡ 4096 * blocks
unfolding nor_reads
length-nor_reads blocks steps = length-after_steps (replicate (4096 * blocks) 255) steps ∙ length-replicate {A = ℕ} (4096 * blocks) 255

-- ---- bytes

ands_bytes : (xs ys : List ℕ) → AreBytes xs → AreBytes (ands xs ys)
ands_bytes [] ys are i = are i
ands_bytes (x ∷ xs) [] are i = omega arith
ands_bytes (x ∷ xs) (y ∷ ys) are zero = omega (arith, are 0, and_le_l x y)
ands_bytes (x ∷ xs) (y ∷ ys) are (suc i) = ands_bytes xs ys (λ k. are (suc k)) i

spoiled_bytes : (n : ℕ) (xs : List ℕ) → AreBytes xs → AreBytes (spoiled_from n xs)
unfolding spoiled_from
spoiled_bytes n [] are i = are i
spoiled_bytes n (x ∷ xs) are zero = by_test (n % 2 == 0)
  where
    by_test : (b : Bool) → (if b then 85 else x) < 256
    by_test true = omega arith
    by_test false = are 0
spoiled_bytes n (x ∷ xs) are (suc i) = spoiled_bytes (n + 1) xs (λ k. are (suc k)) i

replicate_bytes : (n b : ℕ) → b < 256 → AreBytes (replicate n b)
replicate_bytes n b byte i = ⊎_elim
    (λ low. omega (arith, get_or-replicate n i b 0 low, byte))
    (λ high. omega (arith, get_or_past (replicate n b) i 0 (omega (arith, length-replicate n b, high))))
    (cases_lt i n)

filled_bytes : (s : Step) (old : List ℕ) → AreBytes old → AreBytes (filled_by s old)
filled_bytes (Programmed p) old are = ands_bytes old p.bytes are
filled_bytes (Erased block) old are = replicate_bytes 4096 255 (omega arith)
filled_bytes (Spoiled span) old are = spoiled_bytes 0 old are

between_bytes : (xs : List ℕ) (from to : ℕ) → to ≤ length xs → AreBytes xs → AreBytes (slice_range xs from to)
between_bytes xs from to fits are i = ⊎_elim
    (λ low. omega (arith, get_or-between xs from to i 0 low, are (from + i)))
    (λ high. omega (arith, get_or_past (slice_range xs from to) i 0 (omega (arith, length-between xs from to fits, high))))
    (cases_lt (from + i) to)

written_bytes : (old : List ℕ) (place : ℕ) (bytes : List ℕ) → place + length bytes ≤ length old → AreBytes old → AreBytes bytes
    → AreBytes (written old place bytes)
written_bytes old place bytes fits are news i = ⊎_elim
    (λ low. omega (arith, (written_outside old place bytes fits).same i (inl low), are i))
    (λ from. ⊎_elim
    (λ inside. let at : place + (i - place) ≡ i = omega (arith, from) in
    subst (λ (k : ℕ). get_or (written old place bytes) k 0 < 256) at
    (omega (arith, written_within old place bytes fits (i - place) (omega (arith, from, inside)), news (i - place))))
    (λ behind. omega (arith, (written_outside old place bytes fits).same i (inr behind), are i))
    (cases_lt i (place + length bytes)))
    (cases_lt i place)

after_step_bytes : (bytes : List ℕ) (s : Step) → AreBytes bytes → AreBytes (after_step bytes s)
unfolding after_step
after_step_bytes bytes s are = by_test (nat_le ((range_of s).place + (range_of s).size) (length bytes)) refl
  where
    by_test : (b : Bool) → nat_le ((range_of s).place + (range_of s).size) (length bytes) ≡ b
        → AreBytes (if b then with_range bytes s (range_of s) else bytes)
    by_test true is =
        let fits = leb-true _ _ is in
        let old = slice_range bytes (range_of s).place ((range_of s).place + (range_of s).size) in
        written_bytes bytes (range_of s).place (filled_by s old) (fits_new bytes s fits) are
        (filled_bytes s old (between_bytes bytes (range_of s).place ((range_of s).place + (range_of s).size) fits are))
    by_test false is = are

after_steps_bytes : (bytes : List ℕ) (steps : List Step) → AreBytes bytes → AreBytes (after_steps bytes steps)
unfolding after_steps
after_steps_bytes bytes [] are = are
after_steps_bytes bytes (s ∷ steps) are = after_steps_bytes (after_step bytes s) steps (after_step_bytes bytes s are)

pub nor_reads_bytes : (blocks : ℕ) (steps : List Step) → AreBytes (nor_reads blocks steps)
unfolding nor_reads
nor_reads_bytes blocks steps = after_steps_bytes (replicate (4096 * blocks) 255) steps (replicate_bytes (4096 * blocks) 255 (omega arith))

-- ---- the laws

pub memory_cells : (s : NorState) → AreBytes (memory_nor s).reads
memory_cells s = nor_reads_bytes s.blocks s.steps

-- what a power loss leaves at the last moment
left_last : (reads : List ℕ) (later : List Step) (image : List ℕ) → later ≡ [] → IsLeft reads later image → image ≡ reads
left_last reads later image none left = subst (λ (l : List Step). IsLeft reads l image) none left

length-left : (reads : List ℕ) (later : List Step) (image : List ℕ) → IsLeft reads later image → length image ≡ length reads
length-left reads [] image left = ap length left
length-left reads (s ∷ later) image left = left.0.size

pub memory_rests : (s : NorState) → IsSettled (memory_nor s)
memory_rests s image now =
    left_last (nor_reads s.blocks (take now.moment s.steps)) (drop now.moment s.steps) image (drop_all now.moment s.steps now.since) now.left
    ∙ ap (nor_reads s.blocks) (take_all now.moment s.steps now.since)

pub now_reads : (s : NorState) → Now (memory_nor s) (memory_nor s).reads
now_reads s = record {
  moment = length s.steps;
  since = omega arith;
  past = omega arith;
  left = subst (λ (l : List Step). IsLeft (nor_reads s.blocks (take (length s.steps) s.steps)) l (nor_reads s.blocks s.steps)) (sym (drop_all (length s.steps) s.steps (omega arith)))
      (ap (nor_reads s.blocks) (sym (take_all (length s.steps) s.steps (omega arith))));
}

pub memory_obeys : (s : NorState) → IsFlash (memory_nor s) (4096 * s.blocks)
memory_obeys s = record {
  fits = length-nor_reads s.blocks s.steps;
  sized = λ t image le may. length-left (nor_reads s.blocks (take may.moment s.steps)) (drop may.moment s.steps) image may.left ∙ length-nor_reads s.blocks (take may.moment s.steps);
  reads_may = now_reads s;
  bytes = λ reads image now. subst AreBytes (sym (memory_rests s image now)) reads;
  sooner = λ t u image le high may. record { moment = may.moment; since = omega (arith, le, may.since); past = may.past; left = may.left };
}
