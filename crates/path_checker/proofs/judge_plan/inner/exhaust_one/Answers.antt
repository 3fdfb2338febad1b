use Rattle.std.proofs.Common.{refl}
use Rattle.path_checker.proofs.judge_plan.inner.exhaust_one.Goals as goal

pub returns : goal.returns
returns c = rw (← c.k.view_is, ← c.outer.view_is) refl
