use Rattle.std.proofs.Common.{rules, ◌≡◌, ◌<◌, [], ◌∷◌}
use Rattle.std.proofs.lemmas.Result.{err_from_is_err_and}
use Rattle.std.specs.Vec.{vec_len}
use Rattle.suit_commands.specs.View.{command_tree}
use Rattle.path_checker.specs.Exploring.{kept_if}
use Rattle.path_checker.specs.Unconditional.{IsUnconditional}
use Rattle.path_checker.proofs.Continuing.{Continues-passes}
use Rattle.path_checker.proofs.DirectiveLeaves.{never_true}
use Rattle.path_checker.proofs.Passing.{Passed-start, Passed-step, Passed-halt, Passed-end}
use Rattle.path_checker.proofs.Popping.{none_left}
use Rattle.path_checker.proofs.Walking.{does_course}
use Rattle.path_checker.proofs.judge_plan.straight.straight.Goals as goal

pub loop-one-init : goal.loop-one-init
loop-one-init c = Passed-start (does_course (command_tree c.args.step.now.command) c.args.count c.args.step.now.place) c.args.from.items c.new-next.result.items c.new-next.ensures.items

pub loop-one-preserved : goal.loop-one-preserved
loop-one-preserved c =
    Passed-step (does_course (command_tree c.args.step.now.command) c.args.count c.args.step.now.place) c.args.from.items c.loop-one.now.items c.pop.new.self.items c.reuse.new.now.items c.loop-one.next.items c.reuse.new.next.items (kept_if c.in_ok-goes_on.goes_on c.command_in.new.k) c.add_if.new.next.items c.in-Some.one c.loop-one.invariant c.in-Some.ensures.items c.reuse.ensures.now c.reuse.ensures.next
    (Continues-passes (IsUnconditional (command_tree c.args.step.now.command)) (does_course (command_tree c.args.step.now.command) c.args.count c.args.step.now.place) (c.in-Some.one ∷ []) (kept_if c.in_ok-goes_on.goes_on c.command_in.new.k) c.in_ok-goes_on.ensures.ok) c.in_ok-add_if.ensures

pub returns-in_err-goes_on-clause-err : goal.returns-in_err-goes_on-clause-err
returns-in_err-goes_on-clause-err c =
    let p = err_from_is_err_and c.from_residual.result c.from_residual.ensures.1 in
    rw (p.1, p.2) (Passed-halt (does_course (command_tree c.args.step.now.command) c.args.count c.args.step.now.place) c.args.from.items c.loop-one.now.items c.pop.new.self.items c.loop-one.next.items c.in-Some.one c.loop-one.invariant c.in-Some.ensures.items c.in_err-goes_on.field-0.0 c.in_err-goes_on.ensures.err)

pub returns-clause-ok : goal.returns-clause-ok
returns-clause-ok c =
    let none : c.loop-one.now.items ≡ [] = none_left c.loop-one.now.items (λ lt. let l : 0 < vec_len c.loop-one.now = search rules in never_true (c.in_default.ensures.variant.1 l)) in
    Passed-end (does_course (command_tree c.args.step.now.command) c.args.count c.args.step.now.place) c.args.from.items c.loop-one.now.items c.loop-one.next.items c.loop-one.invariant none
