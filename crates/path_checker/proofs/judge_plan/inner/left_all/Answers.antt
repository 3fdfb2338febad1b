use Rattle.std.proofs.Common.{◌∙◌, ap, arith}
use Rattle.std.proofs.lemmas.List.{length-set}
use Rattle.path_checker.specs.Exploring.{Kept}
use Rattle.path_checker.specs.Inner.{left}
use Rattle.path_checker.proofs.InnerSteps.{left_next, left_end}
use Rattle.path_checker.proofs.judge_plan.inner.left_all.Goals as goal

pub loop-at-preserved : goal.loop-at-preserved
loop-at-preserved c = record {
  count = length-set c.loop-at.now.items c.loop-at.at c.leave_in.new.k ∙ c.loop-at.invariant.count;
  is = left_next c.args.outer.now c.args.from.items c.loop-at.now.items c.loop-at.at c.index_mut.result.now c.leave_in.new.k (omega (arith, c.loop-at-test.true, c.len-at-end.ensures, c.args.from.ok.0)) c.loop-at.invariant.is (c.leave_in.ensures ∙ ap (λ (k : Kept). left c.args.outer.now k) c.index_mut.ensures.value);
}

pub returns : goal.returns
returns c = left_end c.args.outer.now c.args.from.items c.loop-at.now.items c.loop-at.at (omega (arith, c.loop-at-test.false, c.len-at-end.ensures, c.args.from.ok.0)) c.loop-at.invariant.is
