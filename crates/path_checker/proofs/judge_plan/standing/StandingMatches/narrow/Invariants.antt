use Rattle.std.proofs.Common.{◌≤◌, length}
use Rattle.path_checker.proofs.HeldLaws.{NoneFrom}
use Rattle.path_checker.proofs.judge_plan.standing.StandingMatches.narrow.Given as goal

abbrev pub invariant-loop-len : goal.invariant-loop-len
invariant-loop-len l = record {
  within : l.len ≤ length l.self.of.items;
  none : NoneFrom l.len l.self.of.items;
}

abbrev pub decreases-loop-len : goal.decreases-loop-len
decreases-loop-len l = l.len
