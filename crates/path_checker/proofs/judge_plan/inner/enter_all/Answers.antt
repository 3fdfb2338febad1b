use Rattle.std.proofs.Common.{true}
use Rattle.path_checker.proofs.InnerSteps.{entered_step}
use Rattle.path_checker.proofs.judge_plan.inner.enter_all.Goals as goal

pub loop-k-preserved : goal.loop-k-preserved
loop-k-preserved c = entered_step c.args.outer.now c.args.component true c.loop-k.inside.items c.push.new.self.items c.loop-k.yielded c.in-Some.k _ c.loop-k.invariant c.in_ok-push.ensures.items c.in_ok-enter_branch.ensures
