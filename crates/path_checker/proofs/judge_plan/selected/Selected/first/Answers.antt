use Rattle.path_checker.proofs.Counting.{small_range}
use Rattle.path_checker.proofs.judge_plan.selected.Selected.first.Goals as goal

pub invariant_of-result : goal.invariant_of-result
invariant_of-result c = small_range c.args.count c.requires
