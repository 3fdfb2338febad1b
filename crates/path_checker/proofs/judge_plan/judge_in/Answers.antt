use Rattle.suit_commands.specs.Plans.{plan_tree}
use Rattle.path_checker.proofs.PlanJudging.{is_safe}
use Rattle.path_checker.proofs.judge_plan.judge_in.Goals as goal

pub returns-in-Ok : goal.returns-in-Ok
returns-in-Ok c = λ none. is_safe (plan_tree c.args.plan) c.in_ok-from.from.items c.in_ok-from.ensures c.in-Ok.ensures.ok
