use Rattle.std.proofs.Common.{◌≡◌, take}
use Rattle.path_checker.proofs.judge_plan.standing.StandingMatches.copy.Given as goal

abbrev pub invariant-loop-held : goal.invariant-loop-held
invariant-loop-held l = l.of.items ≡ take l.held-index l.held-items
