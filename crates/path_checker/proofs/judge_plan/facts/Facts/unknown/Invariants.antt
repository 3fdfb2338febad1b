use Rattle.std.proofs.Common.{◌≡◌}
use Rattle.path_checker.specs.Knowing.{nothing_known}
use Rattle.path_checker.proofs.judge_plan.facts.Facts.unknown.Given as goal

abbrev pub invariant-loop : goal.invariant-loop
invariant-loop l = l.held.items ≡ nothing_known l.counter
