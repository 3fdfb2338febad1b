use Rattle.std.proofs.Common.{take}
use Rattle.path_checker.specs.Exploring.{In}
use Rattle.path_checker.specs.Matches.{match_of, all_lent}
use Rattle.path_checker.proofs.judge_plan.matches.Matches.is_among.Given as goal

abbrev pub invariant-loop-lent : goal.invariant-loop-lent
invariant-loop-lent l = In (match_of l.wanted) (all_lent (take l.lent-index l.lent-items)) → ⊥
