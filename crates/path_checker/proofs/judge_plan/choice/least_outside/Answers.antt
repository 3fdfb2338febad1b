use Rattle.std.proofs.Common.{rules}
use Rattle.path_checker.proofs.Among.{one_more}
use Rattle.path_checker.proofs.judge_plan.choice.least_outside.Goals as goal

pub loop-number-preserved : goal.loop-number-preserved
loop-number-preserved c = search (rules, one_more)
