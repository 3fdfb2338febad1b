use Rattle.std.proofs.Common.{◌≡◌, replicate, None}
use Rattle.path_checker.proofs.judge_plan.in_force.empty_rows.Given as goal

abbrev pub invariant-loop : goal.invariant-loop
invariant-loop l = l.rows.items ≡ replicate l.counter (replicate 12 None)
