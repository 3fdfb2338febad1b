use Rattle.std.proofs.Common.{take}
use Rattle.path_checker.specs.Matches.{all_lent, SameMembers}
use Rattle.path_checker.proofs.judge_plan.matches.Matches.once.Given as goal

abbrev pub invariant-loop-lent : goal.invariant-loop-lent
invariant-loop-lent l = SameMembers l.held (all_lent (take l.lent-index l.lent-items))
