use Rattle.std.proofs.Common.{◌≡◌, drop}
use Rattle.path_checker.specs.Rows.{overridden_row}
use Rattle.path_checker.proofs.judge_plan.in_force.Cells.override_with.Given as goal

-- the rest of the list still to be set gives the whole
abbrev pub invariant-loop-param : goal.invariant-loop-param
invariant-loop-param l = overridden_row l.self (drop l.param-index l.param-items) ≡ overridden_row l.fn.self l.param-items
