use Rattle.std.proofs.Common.{arith}
use Rattle.path_checker.proofs.Unconditional.{in_place_more}
use Rattle.path_checker.proofs.judge_plan.straight.in_place_from.Goals as goal

pub loop-end-preserved : goal.loop-end-preserved
loop-end-preserved c =
    let within = c.is_in_place_at.ensures.within c.loop-end-test.true in
    record {
      behind = omega (arith, c.loop-end.invariant.behind);
      within = within;
      in_place = in_place_more c.args.tests c.args.steps.now c.args.at c.loop-end.end c.loop-end.invariant.behind (omega (arith, within)) c.loop-end.invariant.in_place (λ d. (c.is_in_place_at.ensures.in_place d (omega (arith, within))).0 c.loop-end-test.true);
    }
