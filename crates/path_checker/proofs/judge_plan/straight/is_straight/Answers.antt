use Rattle.path_checker.proofs.Passing.{straight_unconditional}
use Rattle.suit_commands.specs.View.{command_tree}
use Rattle.path_checker.proofs.Unconditional.{unconditional_straight}
use Rattle.path_checker.proofs.judge_plan.straight.is_straight.Goals as goal

pub returns-in_default : goal.returns-in_default
returns-in_default c = (λ h. unconditional_straight (command_tree c.args.command.now) (c.is_unconditional.ensures.0 h), λ h. c.is_unconditional.ensures.1 (straight_unconditional c.args.command.now c.in_default.not-Test h))
