use Rattle.std.proofs.Common.{below_more, arith}
use Rattle.flash_layout.proofs.placing.find.Goals as goal

pub loop-i-preserved : goal.loop-i-preserved
loop-i-preserved c =
    below_more _ _ c.loop-i.invariant
    (λ has. let yes = c.is_same.ensures.1 (has.1 c.index-entries-i.result) in cc)

pub returns : goal.returns
returns c i has = c.loop-i.invariant i (omega (arith, has.0, c.loop-i-test.false)) has
