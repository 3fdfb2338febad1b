use Rattle.std.proofs.Common.{◌≡◌, take}
use Rattle.path_checker.proofs.judge_plan.facts.Facts.copied.Given as goal

abbrev pub invariant-loop-known : goal.invariant-loop-known
invariant-loop-known l = l.held.items ≡ take l.known-index l.known-items
