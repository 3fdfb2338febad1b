use Rattle.std.proofs.Common.{◌+◌, ◌-◌, length}
use Rattle.path_checker.proofs.Among.{AllBelow}
use Rattle.path_checker.proofs.judge_plan.choice.least_outside.Given as goal

abbrev pub invariant-loop-number : goal.invariant-loop-number
invariant-loop-number l = AllBelow l.numbers l.number

abbrev pub decreases-loop-number : goal.decreases-loop-number
decreases-loop-number l = (length l.numbers + 1) - l.number
