use Rattle.std.proofs.Common.{◌≡◌, ℕ}
use Rattle.path_checker.specs.Standing.{held_of}
use Rattle.path_checker.proofs.judge_plan.standing.StandingMatches.widen.Given as goal

abbrev pub invariant-loop : goal.invariant-loop
invariant-loop l = (component : ℕ) → held_of l.self component ≡ held_of l.initial.self component
