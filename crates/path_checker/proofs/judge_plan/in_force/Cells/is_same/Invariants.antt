use Rattle.std.proofs.Common.{◌≡◌, ◌-◌, take, map}
use Rattle.std.specs.Option.{option_copied}
use Rattle.path_checker.proofs.judge_plan.in_force.Cells.is_same.Given as goal

abbrev pub invariant-loop-index : goal.invariant-loop-index
invariant-loop-index l = take l.index (map option_copied l.mine) ≡ take l.index (map option_copied l.theirs)

abbrev pub decreases-loop-index : goal.decreases-loop-index
decreases-loop-index l = 12 - l.index
