use Rattle.std.proofs.Common.{drop}
use Rattle.path_checker.specs.Rests.{AreFew}
use Rattle.path_checker.proofs.judge_plan.wide_try.are_few.Given as goal

-- few are selected in all, if in those that are left
abbrev pub invariant-loop-k : goal.invariant-loop-k
invariant-loop-k l = AreFew (drop l.k-index l.states) → AreFew l.states
