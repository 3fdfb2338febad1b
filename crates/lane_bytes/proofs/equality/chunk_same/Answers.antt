use Rattle.std.proofs.Common.{length, ◌≡◌, ◌%◌, ◌^◌, ap, subst, sym, ◌∙◌, arith, w8}
use Rattle.std.specs.Simd.Lanes.{zip2, mask_l, chunk}
use Rattle.std.proofs.lemmas.Bool.{eqb-true, eq-eqb}
use Rattle.std.proofs.lemmas.Simd.{tops_compared, length-zip2, length-chunk, mask_l-mod}
use Rattle.lane_bytes.proofs.Lanes.{neb, same_if_zero, zero_if_same}
use Rattle.lane_bytes.proofs.equality.chunk_same.Goals as goal

pub returns : goal.returns
returns c =
    let a = chunk c.args.from 32 c.args.a.now in
    let b = chunk c.args.from 32 c.args.b.now in
    let la : length a ≡ 32 = length-chunk c.args.from 32 c.args.a.now c.requires.a_room in
    let lb : length b ≡ 32 = length-chunk c.args.from 32 c.args.b.now c.requires.b_room in
    let lz = length-zip2 neb a b (la ∙ sym lb) in
    let e = ap (λ ms. mask_l ms % 2 ^ 64) (tops_compared w8 neb a b) ∙ mask_l-mod (zip2 neb a b) 64 (omega arith) in (
      λ t. same_if_zero a b (la ∙ sym lb) (sym e ∙ eqb-true _ _ t),
      λ s. eq-eqb _ _ (e ∙ subst (λ y. mask_l (zip2 neb a y) ≡ 0) s (zero_if_same a)),
    )
