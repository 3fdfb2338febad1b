-- Writing a range of a block as a whole block.
use Rattle.std.proofs.Common.{◌≡◌, inl, inr, ⊎_elim, ◌<◌, ◌≤◌, ◌+◌, ◌*◌, ℕ, List, length, get_or, sym, ◌∙◌, subst, arith}
use Rattle.std.specs.List.{slice_range}
use Rattle.std.proofs.lemmas.List.{ext_get_or}
use Rattle.std.proofs.lemmas.List.Edits.{length-between, get_or-between}
use Rattle.suit_edge.specs.Ranges.{Outside, written}
use Rattle.suit_edge.specs.RangeLaws.{length-written, written_outside, written_within}
use Rattle.nor_flash.specs.NorLaws.{by_range}

module _ (old : List ℕ) (bytes : List ℕ) (block from place : ℕ) (at : place ≡ 4096 * block + from) (inside : from + length bytes ≤ 4096)
    (fits : 4096 * block + 4096 ≤ length old) where
  abbrev piece : List ℕ
  piece = slice_range old (4096 * block) (4096 * block + 4096)

  long : length piece ≡ 4096
  long = omega (arith, length-between old (4096 * block) (4096 * block + 4096) fits)

  abbrev whole : List ℕ
  whole = written piece from bytes

  whole_long : length whole ≡ 4096
  whole_long = length-written piece from bytes (omega (arith, long, inside)) ∙ long

  abbrev as_block : List ℕ
  as_block = written old (4096 * block) whole

  abbrev as_range : List ℕ
  as_range = written old place bytes

  block_fits : 4096 * block + length whole ≤ length old
  block_fits = omega (arith, whole_long, fits)

  range_fits : place + length bytes ≤ length old
  range_fits = omega (arith, at, inside, fits)

  -- outside the block
  out_of_block : (i : ℕ) → Outside (4096 * block) 4096 i → get_or as_block i 0 ≡ get_or as_range i 0
  out_of_block i out =
      (written_outside old (4096 * block) whole block_fits).same i (⊎_elim (λ low. inl low) (λ high. inr (omega (arith, high, whole_long))) out)
      ∙ sym ((written_outside old place bytes range_fits).same i (⊎_elim (λ low. inl (omega (arith, low, at))) (λ high. inr (omega (arith, high, at, inside))) out))

  -- in the block, outside the range
  beside : (k : ℕ) → k < 4096 → Outside from (length bytes) k → get_or as_block (4096 * block + k) 0 ≡ get_or as_range (4096 * block + k) 0
  beside k lt out =
      written_within old (4096 * block) whole block_fits k (omega (arith, whole_long, lt))
      ∙ (written_outside piece from bytes (omega (arith, long, inside))).same k out
      ∙ get_or-between old (4096 * block) (4096 * block + 4096) k 0 (omega arith)
      ∙ sym ((written_outside old place bytes range_fits).same (4096 * block + k) (⊎_elim (λ low. inl (omega (arith, low, at))) (λ high. inr (omega (arith, high, at))) out))

  -- in the range
  in_range : (j : ℕ) → j < length bytes → get_or as_block (4096 * block + (from + j)) 0 ≡ get_or as_range (4096 * block + (from + j)) 0
  in_range j lt =
      let is : place + j ≡ 4096 * block + (from + j) = omega (arith, at) in
      written_within old (4096 * block) whole block_fits (from + j) (omega (arith, whole_long, lt, inside))
      ∙ written_within piece from bytes (omega (arith, long, inside)) j lt
      ∙ sym (subst (λ (i : ℕ). get_or as_range i 0 ≡ get_or bytes j 0) is (written_within old place bytes range_fits j lt))

  in_block : (k : ℕ) → k < 4096 → get_or as_block (4096 * block + k) 0 ≡ get_or as_range (4096 * block + k) 0
  in_block k lt = by_range (λ (i : ℕ). get_or as_block (4096 * block + i) 0 ≡ get_or as_range (4096 * block + i) 0) from (length bytes) k (beside k lt) in_range

  pub block_written : as_block ≡ as_range
  block_written =
      ext_get_or 0 as_block as_range (length-written old (4096 * block) whole block_fits ∙ sym (length-written old place bytes range_fits))
      (λ i lt. by_range (λ (k : ℕ). get_or as_block k 0 ≡ get_or as_range k 0) (4096 * block) 4096 i (out_of_block i) in_block)
