use Rattle.std.proofs.Common.{take}
use Rattle.path_checker.specs.Exploring.{In}
use Rattle.path_checker.specs.Matches.{Match, all_lent}
use Rattle.path_checker.proofs.judge_plan.matches.Matches.is_within.Given as goal

abbrev pub invariant-loop-at : goal.invariant-loop-at
invariant-loop-at l = (one : Match) → In one (all_lent (take l.at l.all)) → In one l.others
