use Rattle.std.proofs.Common.{length, ◌≡◌, ◌%◌, ◌^◌, ap, sym, ◌∙◌, arith, w8}
use Rattle.std.specs.Int.Bits.{bit_and}
use Rattle.std.specs.Simd.Lanes.{zip2, mask_l, chunk}
use Rattle.std.proofs.lemmas.Bool.{eqb-true, eq-eqb}
use Rattle.std.proofs.lemmas.Simd.{tops_compared, length-zip2, length-chunk, mask_l-mod}
use Rattle.lane_bytes.proofs.Lanes.{neb, clears_if_zero, zero_if_clears, sets_no_bit, kept_by_and}
use Rattle.lane_bytes.proofs.clearing.chunk_clears.Goals as goal

pub returns : goal.returns
returns c =
    let old = chunk c.args.from 32 c.args.old.now in
    let new = chunk c.args.from 32 c.args.new.now in
    let both = zip2 bit_and old new in
    let old_long : length old ≡ 32 = length-chunk c.args.from 32 c.args.old.now c.requires.old_room in
    let new_long : length new ≡ 32 = length-chunk c.args.from 32 c.args.new.now c.requires.new_room in
    let both_long : length both ≡ 32 = length-zip2 bit_and old new (old_long ∙ sym new_long) ∙ old_long in
    let mask_long = length-zip2 neb both new (both_long ∙ sym new_long) in
    let mask_is = ap (λ ms. mask_l ms % 2 ^ 64) (tops_compared w8 neb both new) ∙ mask_l-mod (zip2 neb both new) 64 (omega arith) in (
      λ t i lt. sets_no_bit _ _ (clears_if_zero old new (old_long ∙ sym new_long) (sym mask_is ∙ eqb-true _ _ t) i lt),
      λ clears. eq-eqb _ _ (mask_is ∙ zero_if_clears old new (old_long ∙ sym new_long) (λ i lt. kept_by_and _ _ (clears i lt))),
    )
