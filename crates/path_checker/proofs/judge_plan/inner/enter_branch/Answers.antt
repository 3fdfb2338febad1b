use Rattle.std.proofs.Common.{refl}
use Rattle.path_checker.proofs.judge_plan.inner.enter_branch.Goals as goal

pub returns : goal.returns
returns c = rw (← c.k.view_is, ← c.outer.view_is, c.in_ok-params.ensures, c.one.ensures) refl
