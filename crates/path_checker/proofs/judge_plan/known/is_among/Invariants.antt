use Rattle.std.proofs.Common.{take}
use Rattle.path_checker.proofs.Outside.{IsApart}
use Rattle.path_checker.proofs.judge_plan.known.is_among.Given as goal

abbrev pub invariant-loop-other : goal.invariant-loop-other
invariant-loop-other g l = IsApart l.value (take l.other-index l.values)
