use Rattle.path_checker.proofs.InnerSteps.{softly_next, hardly_next}
use Rattle.path_checker.proofs.judge_plan.inner.split.Goals as goal

pub loop-stop-preserved : goal.loop-stop-preserved
loop-stop-preserved c = record {
  next = softly_next c.args.outer.now c.args.next.now.items c.loop-stop.next.items c.split_one.new.next.items c.loop-stop.yielded c.in-Some.stop c.loop-stop.invariant.next c.in_ok-split_one.ensures.soft;
  failed = hardly_next c.args.outer.now c.args.failed.now c.loop-stop.failed c.split_one.new.failed c.loop-stop.yielded c.in-Some.stop c.loop-stop.invariant.failed c.in_ok-split_one.ensures.hard;
}
