use Rattle.std.proofs.Common.{sym, ap, ◌∙◌, arith, w8}
use lib.Count.{count_trailing_zeros}
use lib.Lanes.{chunk}
use Rattle.std.proofs.lemmas.Simd.{length-chunk, bitmask_splat, leading_from_mask_l, trailing_mask_l}
use Rattle.lane_bytes.proofs.Lanes.{neb}
use Rattle.lane_bytes.proofs.search.run_in_chunk.Goals as goal

pub returns-then-others-eq0 : goal.returns-then-others-eq0
returns-then-others-eq0 c =
    let v = chunk c.args.from 32 c.args.a.now in
    let long = length-chunk c.args.from 32 c.args.a.now c.requires in
    let hits = bitmask_splat w8 neb v 32 c.args.byte long (omega arith) in
    sym (leading_from_mask_l (λ x. neb x c.args.byte) v (sym hits ∙ c.if-others-eq0.true) ∙ long)

pub returns-else-others-eq0 : goal.returns-else-others-eq0
returns-else-others-eq0 c =
    let v = chunk c.args.from 32 c.args.a.now in
    let long = length-chunk c.args.from 32 c.args.a.now c.requires in
    let hits = bitmask_splat w8 neb v 32 c.args.byte long (omega arith) in
    ap (count_trailing_zeros 64) hits ∙ trailing_mask_l (λ x. neb x c.args.byte) 64 v (omega arith) (omega arith)
