use Rattle.path_checker.proofs.KeyedLaws.{source_only}
use Rattle.path_checker.proofs.judge_plan.in_force.source_of.Goals as goal

pub returns-in_default : goal.returns-in_default
returns-in_default c = source_only c.args.param.now c.requires c.in_default.not-Source
