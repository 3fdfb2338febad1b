use Rattle.std.proofs.Common.{subst, arith}
use Rattle.suit_commands.specs.declared.command.Step.{Step}
use Rattle.suit_commands.specs.View.{command_tree}
use Rattle.path_checker.specs.Overriding.{IsOverride}
use Rattle.path_checker.proofs.Overriding.{overrides_more}
use Rattle.path_checker.proofs.judge_plan.overriding.overrides_from.Goals as goal

pub loop-step-preserved : goal.loop-step-preserved
loop-step-preserved c = record {
  behind = omega (arith, c.loop-step.invariant.behind);
  within = omega (arith, c.in-Some.ensures.within);
  overrides = overrides_more c.args.steps.now c.args.at c.loop-step.end c.in-Some.step.now c.loop-step.invariant.behind c.in-Some.ensures.within c.loop-step.invariant.overrides (subst (λ (s : Step). IsOverride (command_tree s.command)) c.in-Some.ensures.is c.in-Some.ensures.overriding);
}
