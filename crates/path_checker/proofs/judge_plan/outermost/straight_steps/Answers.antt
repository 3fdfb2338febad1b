use Rattle.std.proofs.Common.{rules, [], ◌∷◌, sym, subst, arith}
use Rattle.std.proofs.lemmas.Result.{err_from_is_err_and}
use Rattle.suit_commands.specs.declared.command.Step.{Step}
use Rattle.suit_commands.specs.View.{sequence_tree, command_tree}
use Rattle.path_checker.specs.Exploring.{Continues, kept_if}
use Rattle.path_checker.specs.Rests.{RunsRest, RunsThen}
use Rattle.path_checker.specs.Small.{IsSmallCommand}
use Rattle.path_checker.specs.Unconditional.{IsUnconditional}
use Rattle.path_checker.proofs.Continuing.{Continues-passes}
use Rattle.path_checker.proofs.Going.{GoesOn-start, GoesOn-step, GoesOn-stops, Covers-none}
use Rattle.path_checker.proofs.Smallness.{small_step}
use Rattle.path_checker.proofs.Walking.{does_course}
use Rattle.path_checker.proofs.judge_plan.outermost.straight_steps.Goals as goal

pub loop-step-init : goal.loop-step-init
loop-step-init c = record {
  within = search rules;
  small = c.requires.small;
  goes = λ rest. GoesOn-start (RunsThen (sequence_tree c.args.steps.now) rest c.args.count) (c.args.k.now ∷ []);
}

pub command_in-requires : goal.command_in-requires
command_in-requires c = record {
  small = subst (λ (s : Step). IsSmallCommand c.args.count (command_tree s.command)) (sym c.in-Some.ensures.is) (small_step c.args.count c.args.steps.now c.loop-step.at c.in-Some.step.now c.in-Some.ensures.within c.loop-step.invariant.small).0;
  straight = c.in-Some.ensures.straight;
}

pub loop-step-preserved : goal.loop-step-preserved
loop-step-preserved c =
    let quiet = IsUnconditional (command_tree c.in-Some.step.now.command) in
    let does = does_course (command_tree c.in-Some.step.now.command) c.args.count c.in-Some.step.now.place in
    let passes = Continues-passes quiet does (c.loop-step.k ∷ []) (c.command_in.new.k ∷ []) (subst (λ b. Continues quiet does (c.loop-step.k ∷ []) (kept_if b c.command_in.new.k)) c.if-not-goes_on.false c.in_ok-goes_on.ensures.ok) in
    record {
      within = omega (arith, c.in-Some.ensures.within);
      small = (small_step c.args.count c.args.steps.now c.loop-step.at c.in-Some.step.now c.in-Some.ensures.within c.loop-step.invariant.small).1;
      goes = λ rest. GoesOn-step c.args.steps.now c.loop-step.at c.args.count c.in-Some.step.now c.in-Some.ensures.within c.in-Some.ensures.is (RunsRest rest c.args.count) (RunsThen (sequence_tree c.args.steps.now) rest c.args.count) (c.args.k.now ∷ []) (c.loop-step.k ∷ []) (c.loop-step.invariant.goes rest) (c.command_in.new.k ∷ []) passes;
    }

pub returns-in_err-goes_on-clause-err : goal.returns-in_err-goes_on-clause-err
returns-in_err-goes_on-clause-err c =
    let p = err_from_is_err_and c.from_residual.result c.from_residual.ensures.1 in
    rw (p.1, p.2) (λ rest. GoesOn-stops c.args.steps.now c.loop-step.at c.args.count c.in-Some.step.now c.in-Some.ensures.within c.in-Some.ensures.is (RunsRest rest c.args.count) (RunsThen (sequence_tree c.args.steps.now) rest c.args.count) (c.args.k.now ∷ []) (c.loop-step.k ∷ []) (c.loop-step.invariant.goes rest) c.in_err-goes_on.field-0.0 c.in_err-goes_on.ensures.err)

pub returns-then-not-goes_on-clause-ended : goal.returns-then-not-goes_on-clause-ended
returns-then-not-goes_on-clause-ended c =
    let quiet = IsUnconditional (command_tree c.in-Some.step.now.command) in
    let does = does_course (command_tree c.in-Some.step.now.command) c.args.count c.in-Some.step.now.place in
    let passes = Continues-passes quiet does (c.loop-step.k ∷ []) [] (subst (λ b. Continues quiet does (c.loop-step.k ∷ []) (kept_if b c.command_in.new.k)) c.if-not-goes_on.true c.in_ok-goes_on.ensures.ok) in
    λ none rest. (GoesOn-step c.args.steps.now c.loop-step.at c.args.count c.in-Some.step.now c.in-Some.ensures.within c.in-Some.ensures.is (RunsRest rest c.args.count) (RunsThen (sequence_tree c.args.steps.now) rest c.args.count) (c.args.k.now ∷ []) (c.loop-step.k ∷ []) (c.loop-step.invariant.goes rest) [] passes).covers (Covers-none _)
