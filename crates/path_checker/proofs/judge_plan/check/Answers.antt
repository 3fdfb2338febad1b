use Rattle.std.proofs.Common.{arith}
use Rattle.suit_commands.specs.Plans.{plan_tree}
use Rattle.suit_commands.specs.Numbers.{width_number}
use Rattle.path_checker.proofs.PlanSmall.{small_plan}
use Rattle.path_checker.proofs.PlanJudging.{too_wide, judges_plan}
use Rattle.path_checker.proofs.judge_plan.check.Goals as goal

pub returns-then-width-gt-WIDEST : goal.returns-then-width-gt-WIDEST
returns-then-width-gt-WIDEST c = record { judged = (too_wide c.width-width.result (width_number (plan_tree c.args.plan.now)) c.width-width.ensures c.if-width-gt-WIDEST.true, c.width-width.ensures) }

pub judge-requires : goal.judge-requires
judge-requires c = small_plan (plan_tree c.args.plan.now) c.requires

pub returns : goal.returns
returns c = record { judged = judges_plan (plan_tree c.args.plan.now) c.judge.result c.width-width.result c.width-width.ensures (omega (arith, c.if-width-gt-WIDEST.false)) c.judge.ensures }
