use Rattle.path_checker.proofs.InnerSteps.{exhausted_step}
use Rattle.path_checker.proofs.judge_plan.inner.exhaust.Goals as goal

pub loop-k-preserved : goal.loop-k-preserved
loop-k-preserved c = exhausted_step c.args.outer.now c.args.place c.args.failed.now c.loop-k.failed c.add.new.self c.loop-k.yielded c.in-Some.k _ c.loop-k.invariant c.in_ok-add.ensures c.exhaust_one.ensures
