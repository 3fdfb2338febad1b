use Rattle.std.proofs.Common.{arith}
use Rattle.path_model.proofs.Looking.{earlier, nowhere}
use Rattle.path_model.proofs.cover.has_matched.Goals as goal

pub loop-left-preserved : goal.loop-left-preserved
loop-left-preserved c = record {
  within = omega (arith, c.loop-left.invariant.within);
  same = earlier c.args.events.now c.loop-left.left c.index-events-left.result _ c.args.component c.args.digest.now c.args.size c.loop-left-test.true c.loop-left.invariant.within c.index-events-left.is c.loop-left.invariant.same c.in-Leaves.ensures.0 c.in-Leaves.ensures.1;
}

pub returns : goal.returns
returns c = (λ t. absurd cc, λ h. absurd (nowhere c.args.events.now c.loop-left.left c.args.component c.args.digest.now c.args.size (omega (arith, c.loop-left-test.false)) c.loop-left.invariant.same h))
