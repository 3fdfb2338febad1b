use Rattle.std.proofs.Common.{Bool, [], subst}
use Rattle.std.specs.Prelude.{IsTrue}
use Rattle.std.proofs.lemmas.Result.{IfOk-weaker}
use Rattle.suit_commands.specs.View.{command_tree}
use Rattle.path_checker.specs.Exploring.{Adds, Passes}
use Rattle.path_checker.proofs.DirectiveLeaves.{never_true}
use Rattle.path_checker.proofs.Passing.{Passes-added}
use Rattle.path_checker.proofs.Unconditional.{unconditional_straight}
use Rattle.path_checker.proofs.Walking.{does_course}
use Rattle.path_checker.proofs.judge_plan.outermost.outermost.Goals as goal

pub returns-clause-ok : goal.returns-clause-ok
returns-clause-ok c =
    let course = does_course (command_tree c.args.step.now.command) c.args.count c.args.step.now.place in
    IfOk-weaker c.command.result (λ v. Adds course c.args.from.items [] v.items c.none-ended.result c.command.new.failed) (λ v. Passes course c.args.from.items v.items)
    (λ v a. Passes-added course c.args.from.items v.items c.none-ended.result c.command.new.failed a) c.command.ensures.ok

pub command-requires : goal.command-requires
command-requires c = record {
  small = c.requires.small;
  conditional = λ none. never_true (subst (λ (b : Bool). IsTrue b) c.if-is_straight.false (c.is_straight.ensures.1 (unconditional_straight (command_tree c.args.step.now.command) none)));
}
