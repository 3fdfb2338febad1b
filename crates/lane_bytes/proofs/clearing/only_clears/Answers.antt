use Rattle.std.proofs.Common.{◌≡◌, ◌+◌, ◌*◌, ℕ, slice_index, subst, sym, ◌∙◌, arith}
use Rattle.std.proofs.lemmas.Simd.{length-chunk}
use Rattle.lane_bytes.proofs.Lanes.{clears_more, chunk_of_list, list_of_chunk, sets_no_bit, kept_by_and}
use Rattle.lane_bytes.specs.Bytes.{ClearsBelow, SetsNoBit}
use Rattle.lane_bytes.proofs.clearing.only_clears.Goals as goal

pub returns-then-not-chunk_clears : goal.returns-then-not-chunk_clears
returns-then-not-chunk_clears c =
    let from = 32 * c.chunks.k in
    let long = length-chunk from 32 c.args.new.now in (
      λ no. absurd (cc no),
      λ all. sym c.if-not-chunk_clears.true ∙ c.chunk_clears.ensures.1 (λ i lt. chunk_of_list c.args.old.now c.args.new.now from i (omega (arith, long, lt)) (all (from + i) (omega (arith, long, lt)))),
    )

pub chunks-preserved : goal.chunks-preserved
chunks-preserved c =
    let from = 32 * c.chunks.k in
    let long = length-chunk from 32 c.args.new.now (omega arith) in
    let next : from + 32 ≡ 32 * (c.chunks.k + 1) = omega arith in
    subst (λ (n : ℕ). ClearsBelow n c.args.old.now c.args.new.now) next
    (clears_more c.args.old.now c.args.new.now from 32 c.chunks.invariant
    (λ k lt. list_of_chunk c.args.old.now c.args.new.now from k lt (c.chunk_clears.ensures.0 c.if-not-chunk_clears.false k (omega (arith, long)))))

pub returns-then-old-i : goal.returns-then-old-i
returns-then-old-i c = (λ no. absurd (cc no), λ all. absurd (c.if-old-i.true (kept_by_and _ _ (all c.rest.i (omega arith)))))

pub rest-preserved : goal.rest-preserved
rest-preserved c =
    clears_more c.args.old.now c.args.new.now c.rest.i 1 c.rest.invariant
    (λ k lt. let here : c.rest.i ≡ c.rest.i + k = omega (arith, lt) in subst (λ (i : ℕ). SetsNoBit (slice_index c.args.old.now i) (slice_index c.args.new.now i)) here (sets_no_bit _ _ c.if-old-i.false))
