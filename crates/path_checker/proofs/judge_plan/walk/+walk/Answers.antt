use Rattle.std.proofs.Common.{rules, true, false, ◌≡◌, ◌<◌, ◌≤◌, ◌+◌, ◌-◌, ltb, [], ◌∷◌, length, drop, sym, ap, ◌∙◌, subst, arith}
use Rattle.std.proofs.lemmas.Bool.{lt-ltb}
use Rattle.std.proofs.lemmas.List.{drop_all}
use Rattle.std.proofs.lemmas.Result.{err_from_is_err_and, on_ok_weaker, IfErr-weaker}
use Rattle.std.specs.Prelude.{OnOk, IfErr}
use Rattle.std.specs.Vec.{vec_len}
use Rattle.suit_commands.specs.Tree.{SequenceTree, BranchesTree}
use Rattle.suit_commands.specs.View.{sequence_tree, command_tree, branches_tree}
use Rattle.suit_commands.specs.Size.{sequence_size, branches_size}
use Rattle.suit_commands.specs.declared.command.Step.{Step}
use Rattle.suit_commands.specs.declared.command.Command.{Command}
use Rattle.suit_commands.specs.declared.command.Branches.TheDeep.{deep-Step}
use Rattle.suit_commands.specs.Smaller.{step_smaller, branch_smaller}
use Rattle.path_checker.specs.Exploring.{Course, Failures, Adds}
use Rattle.path_checker.specs.Steps.{At, AtEach, RunsAll, TriesIn}
use Rattle.path_checker.specs.Halting.{Halts}
use Rattle.path_checker.specs.Small.{IsSmallSequence, IsSmallCommand, AreSmallBranches, AreInPlace}
use Rattle.path_checker.proofs.DirectiveLeaves.{never_true}
use Rattle.path_checker.proofs.Overriding.{Walks-steps, Walks-halted, small_part, small_steps}
use Rattle.path_checker.proofs.Unconditional.{in_place_straight, in_place_unconditional, conditional_each, conditional_holds, conditional_next}
use Rattle.path_checker.proofs.Smallness.{small_step, small_branch}
use Rattle.path_checker.proofs.Walking.{Walks, Walks-start, Walks-step, Walks-stops, Walks-end, does_course}
use Rattle.path_checker.proofs.Popping.{Pops-start, Pops-step, Pops-halt, Pops-moved, Pops-end, none_left, each_sole, does_each, Adds-same, Halts-same, Each-step, Each-stops}
use Rattle.path_checker.proofs.Branching.{Trying, Trying-start, Trying-branch, Trying-halt, Trying-null, Trying-end, at_some, at_none, Adds-run, Halts-run, Adds-branch, Adds-appended}
use Rattle.path_checker.proofs.Merging.{Adds-states, Adds-behind, Walks-settled}
use Rattle.path_checker.proofs.Keeping.{none_of, after_unkept}
use Rattle.path_checker.proofs.judge_plan.walk.+walk.Goals as goal

pub all_at-loop-k-init : goal.all_at-loop-k-init
all_at-loop-k-init t c = Pops-start (At (command_tree c.args.step.now.command) c.args.count c.args.step.now.place c.args.component) c.args.from.items c.args.failed.now c.new-next.result.items c.new-next.ensures.items

pub all_at-loop-k-preserved : goal.all_at-loop-k-preserved
all_at-loop-k-preserved t c = Pops-step (At (command_tree c.args.step.now.command) c.args.count c.args.step.now.place c.args.component) c.args.from.items c.args.failed.now c.loop-k.now.items c.pop.new.self.items c.loop-k.next.items c.loop-k.failed c.in-Some.k c.loop-k.invariant c.in-Some.ensures.items c.one.new.next.items c.one.new.failed c.in_ok-one.ensures.ok

pub all_at-returns-in_err-one-clause-err : goal.all_at-returns-in_err-one-clause-err
all_at-returns-in_err-one-clause-err t c =
    let p = err_from_is_err_and c.from_residual.result c.from_residual.ensures.1 in rw (p.1, p.2) (Pops-halt (At (command_tree c.args.step.now.command) c.args.count c.args.step.now.place c.args.component) c.args.from.items c.args.failed.now c.loop-k.now.items c.pop.new.self.items c.loop-k.next.items c.loop-k.failed c.in-Some.k c.loop-k.invariant c.in-Some.ensures.items c.in_err-one.field-0.0 c.in_err-one.ensures.err)

pub command-loop-k-init : goal.command-loop-k-init
command-loop-k-init t c = Pops-start (does_course (command_tree c.args.step.now.command) c.args.count c.args.step.now.place) c.args.from.items c.args.failed.now c.new-next.result.items c.new-next.ensures.items

pub command-loop-k-preserved : goal.command-loop-k-preserved
command-loop-k-preserved t c =
    let w = Pops-moved (does_course (command_tree c.args.step.now.command) c.args.count c.args.step.now.place) c.args.from.items c.args.failed.now c.loop-k.now.items c.pop.new.self.items c.reuse.new.now.items c.loop-k.next.items c.reuse.new.next.items c.loop-k.failed c.in-Some.k c.loop-k.invariant c.in-Some.ensures.items c.reuse.ensures.now c.reuse.ensures.next in
    Pops-step (does_course (command_tree c.args.step.now.command) c.args.count c.args.step.now.place) c.args.from.items c.args.failed.now c.loop-k.now.items c.reuse.new.now.items c.reuse.new.next.items c.loop-k.failed c.in-Some.k w.0 w.1 c.each.new.next.items c.each.new.failed (Adds-same c.in-Some.k (AtEach (command_tree c.args.step.now.command) c.args.count c.args.step.now.place c.in-Some.k.state.selection) (does_course (command_tree c.args.step.now.command) c.args.count c.args.step.now.place) c.reuse.new.next.items c.each.new.next.items c.loop-k.failed c.each.new.failed (does_each c.args.step.now.command (conditional_each c.args.step.now.command c.requires.conditional) c.args.count c.args.step.now.place c.in-Some.k) c.in_ok-each.ensures.ok)

pub command-returns-in_err-each : goal.command-returns-in_err-each
command-returns-in_err-each t c =
    let p = err_from_is_err_and c.from_residual.result c.from_residual.ensures.1 in
    let w = Pops-moved (does_course (command_tree c.args.step.now.command) c.args.count c.args.step.now.place) c.args.from.items c.args.failed.now c.loop-k.now.items c.pop.new.self.items c.reuse.new.now.items c.loop-k.next.items c.reuse.new.next.items c.loop-k.failed c.in-Some.k c.loop-k.invariant c.in-Some.ensures.items c.reuse.ensures.now c.reuse.ensures.next in
    rw (p.1, p.2) (record { ok = tt; err = Pops-halt (does_course (command_tree c.args.step.now.command) c.args.count c.args.step.now.place) c.args.from.items c.args.failed.now c.loop-k.now.items c.reuse.new.now.items c.reuse.new.next.items c.loop-k.failed c.in-Some.k w.0 w.1 c.in_err-each.field-0.0 (Halts-same c.in-Some.k (AtEach (command_tree c.args.step.now.command) c.args.count c.args.step.now.place c.in-Some.k.state.selection) (does_course (command_tree c.args.step.now.command) c.args.count c.args.step.now.place) (does_each c.args.step.now.command (conditional_each c.args.step.now.command c.requires.conditional) c.args.count c.args.step.now.place c.in-Some.k) c.in_err-each.field-0.0 c.in_err-each.ensures.err) })

pub each-returns-in-Some-clause-ok : goal.each-returns-in-Some-clause-ok
each-returns-in-Some-clause-ok t c =
    let sole = sym (ap (λ k. k.state.selection) c.k.view_is) ∙ c.in-Some.ensures.sole in
    on_ok_weaker c.one.result (λ h. Adds-same c.args.k (At (command_tree c.args.step.now.command) c.args.count c.args.step.now.place c.in-Some.component) (AtEach (command_tree c.args.step.now.command) c.args.count c.args.step.now.place c.args.k.state.selection) c.args.next.now.items c.one.new.next.items c.args.failed.now c.one.new.failed (each_sole (command_tree c.args.step.now.command) c.args.count c.args.step.now.place c.in-Some.component c.args.k sole) h) c.one.ensures.ok

pub each-returns-in-Some-clause-err : goal.each-returns-in-Some-clause-err
each-returns-in-Some-clause-err t c =
    let sole = sym (ap (λ k. k.state.selection) c.k.view_is) ∙ c.in-Some.ensures.sole in
    IfErr-weaker c.one.result (λ h. Halts (At (command_tree c.args.step.now.command) c.args.count c.args.step.now.place c.in-Some.component) (c.args.k ∷ []) h) (λ h. Halts (AtEach (command_tree c.args.step.now.command) c.args.count c.args.step.now.place c.args.k.state.selection) (c.args.k ∷ []) h) (λ h u. Halts-same c.args.k (At (command_tree c.args.step.now.command) c.args.count c.args.step.now.place c.in-Some.component) (AtEach (command_tree c.args.step.now.command) c.args.count c.args.step.now.place c.args.k.state.selection) (each_sole (command_tree c.args.step.now.command) c.args.count c.args.step.now.place c.in-Some.component c.args.k sole) h u) c.one.ensures.err

pub each-loop-index-init : goal.each-loop-index-init
each-loop-index-init t c =
    let same : c.copy-selection.result ≡ c.args.k.state.selection = c.copy-selection.ensures ∙ ap (λ k. k.state.selection) c.k.view_is in
    let one : c.in_ok-now.now.items ≡ c.args.k ∷ [] = c.in_ok-now.ensures in
    subst (λ cs. Walks (AtEach (command_tree c.args.step.now.command) c.args.count c.args.step.now.place c.args.k.state.selection) (c.args.k ∷ []) c.args.failed.now (AtEach (command_tree c.args.step.now.command) c.args.count c.args.step.now.place cs) c.in_ok-now.now.items c.args.failed.now) (sym same) (subst (λ n. Walks (AtEach (command_tree c.args.step.now.command) c.args.count c.args.step.now.place c.args.k.state.selection) (c.args.k ∷ []) c.args.failed.now (AtEach (command_tree c.args.step.now.command) c.args.count c.args.step.now.place c.args.k.state.selection) n c.args.failed.now) (sym one) (Walks-start (AtEach (command_tree c.args.step.now.command) c.args.count c.args.step.now.place c.args.k.state.selection) (c.args.k ∷ []) c.args.failed.now))

pub each-returns-in_err-now-2-clause-err : goal.each-returns-in_err-now-2-clause-err
each-returns-in_err-now-2-clause-err t c =
    let p = err_from_is_err_and c.from_residual-in_err-now-2.result c.from_residual-in_err-now-2.ensures.1 in
    rw (p.1, p.2) (Each-stops (command_tree c.args.step.now.command) c.args.count c.args.step.now.place c.copy-selection.result c.loop-index.index c.at.result (omega (arith, c.loop-index-test.true, c.len-index-end.ensures)) c.at.ensures.value (AtEach (command_tree c.args.step.now.command) c.args.count c.args.step.now.place c.args.k.state.selection) (c.args.k ∷ []) c.loop-index.now.items c.args.failed.now c.loop-index.failed c.loop-index.invariant c.in_err-now-2.field-0.0 c.in_err-now-2.ensures.err)

pub each-loop-index-preserved : goal.each-loop-index-preserved
each-loop-index-preserved t c = Each-step (command_tree c.args.step.now.command) c.args.count c.args.step.now.place c.copy-selection.result c.loop-index.index c.at.result (omega (arith, c.loop-index-test.true, c.len-index-end.ensures)) c.at.ensures.value (AtEach (command_tree c.args.step.now.command) c.args.count c.args.step.now.place c.args.k.state.selection) (c.args.k ∷ []) c.loop-index.now.items c.args.failed.now c.loop-index.failed c.loop-index.invariant c.in_ok-now-2.now.items c.all_at.new.failed c.in_ok-now-2.ensures.ok

pub each-returns-clause-ok : goal.each-returns-clause-ok
each-returns-clause-ok t c =
    let none : drop c.loop-index.index c.copy-selection.result ≡ [] = drop_all c.loop-index.index c.copy-selection.result (omega (arith, c.loop-index-test.false, c.len-index-end.ensures)) in
    Adds-appended (AtEach (command_tree c.args.step.now.command) c.args.count c.args.step.now.place c.args.k.state.selection) (c.args.k ∷ []) c.args.next.now.items c.append.new.self.items c.loop-index.now.items c.args.failed.now c.loop-index.failed (Walks-end (AtEach (command_tree c.args.step.now.command) c.args.count c.args.step.now.place c.args.k.state.selection) (c.args.k ∷ []) c.loop-index.now.items c.args.failed.now c.loop-index.failed (subst (λ cs. Walks (AtEach (command_tree c.args.step.now.command) c.args.count c.args.step.now.place c.args.k.state.selection) (c.args.k ∷ []) c.args.failed.now (AtEach (command_tree c.args.step.now.command) c.args.count c.args.step.now.place cs) c.loop-index.now.items c.loop-index.failed) none c.loop-index.invariant)) c.in_ok-append.ensures.items

pub one-returns-in_ok-test-in-Test-clause-ok : goal.one-returns-in_ok-test-in-Test-clause-ok
one-returns-in_ok-test-in-Test-clause-ok t c = subst (λ (m : Command). Adds (At (command_tree m) c.args.count c.args.step.now.place c.args.component) (c.args.k ∷ []) c.args.next.now.items c.test.new.next.items c.args.failed.now c.test.new.failed) (sym c.in-Test.is) c.in_ok-test-in-Test.ensures

pub one-unreachable-requires : goal.one-unreachable-requires
one-unreachable-requires t c = conditional_holds c.args.step.now.command c.in_default.not-Test c.in_default.not-TryEach c.in_default.not-Run c.requires.conditional

pub one-returns-in-TryEach-clause-ok : goal.one-returns-in-TryEach-clause-ok
one-returns-in-TryEach-clause-ok t c = subst (λ (m : Command). OnOk c.try_each.result (Adds (At (command_tree m) c.args.count c.args.step.now.place c.args.component) (c.args.k ∷ []) c.args.next.now.items c.try_each.new.next.items c.args.failed.now c.try_each.new.failed)) (sym c.in-TryEach.is) c.try_each.ensures.ok

pub one-returns-in-TryEach-clause-err : goal.one-returns-in-TryEach-clause-err
one-returns-in-TryEach-clause-err t c = subst (λ (m : Command). IfErr c.try_each.result (λ h. Halts (At (command_tree m) c.args.count c.args.step.now.place c.args.component) (c.args.k ∷ []) h)) (sym c.in-TryEach.is) c.try_each.ensures.err

pub one-returns-in-Run-clause-ok : goal.one-returns-in-Run-clause-ok
one-returns-in-Run-clause-ok t c = subst (λ (m : Command). OnOk c.run.result (Adds (At (command_tree m) c.args.count c.args.step.now.place c.args.component) (c.args.k ∷ []) c.args.next.now.items c.run.new.next.items c.args.failed.now c.run.new.failed)) (sym c.in-Run.is) c.run.ensures.ok

pub one-returns-in-Run-clause-err : goal.one-returns-in-Run-clause-err
one-returns-in-Run-clause-err t c = subst (λ (m : Command). IfErr c.run.result (λ h. Halts (At (command_tree m) c.args.count c.args.step.now.place c.args.component) (c.args.k ∷ []) h)) (sym c.in-Run.is) c.run.ensures.err

pub run-returns-clause-ok : goal.run-returns-clause-ok
run-returns-clause-ok t c = Adds-run (RunsAll c.args.inner.now c.args.count) c.in_ok-outer.outer c.args.component c.args.k c.enter.result c.in_ok-from.from.items c.in_ok-done.done.items c.args.next.now.items c.leave.new.next.items c.none_inside-stops.result c.sequence.new.failed c.args.failed.now c.leave.new.failed c.in_ok-outer.ensures c.enter.ensures c.in_ok-from.ensures c.in_ok-done.ensures.ok c.none_inside-stops.ensures c.in_ok-leave.ensures.on c.in_ok-leave.ensures.hard

pub run-returns-in_err-done-clause-err : goal.run-returns-in_err-done-clause-err
run-returns-in_err-done-clause-err t c =
    let p = err_from_is_err_and c.from_residual-in_err-done.result c.from_residual-in_err-done.ensures.1 in
    rw (p.1, p.2) (Halts-run (RunsAll c.args.inner.now c.args.count) c.in_ok-outer.outer c.args.component c.args.k c.enter.result c.in_ok-from.from.items c.in_ok-outer.ensures c.enter.ensures c.in_ok-from.ensures c.in_err-done.field-0.0 c.in_err-done.ensures.err)

pub sequence-loop-at-init : goal.sequence-loop-at-init
sequence-loop-at-init t c = record {
  within = search rules;
  small = subst (λ (s : SequenceTree). IsSmallSequence c.args.count s) (sym c.as_slice-steps.ensures) c.requires.small;
  walks = subst (λ (s : SequenceTree). Walks (RunsAll c.args.sequence.now c.args.count) c.args.from.items (none_of c.args.failed.now) (RunsAll s c.args.count) c.args.from.items c.none_like-stops.result) (sym c.as_slice-steps.ensures) (subst (λ (f : Failures). Walks (RunsAll c.args.sequence.now c.args.count) c.args.from.items (none_of c.args.failed.now) (RunsAll c.args.sequence.now c.args.count) c.args.from.items f) (sym c.none_like-stops.ensures) (Walks-start (RunsAll c.args.sequence.now c.args.count) c.args.from.items (none_of c.args.failed.now)));
}

pub sequence-command-requires : goal.sequence-command-requires
sequence-command-requires t c =
    let e : deep-Step c.index-steps-at.result ≤ sequence_size c.args.sequence.now = step_smaller c.as_slice-steps.result.now c.loop-at.at c.index-steps-at.result c.index-steps-at.result c.args.sequence.now c.loop-at-test.true c.index-steps-at.is c.as_slice-steps.ensures in
    let small : IsSmallCommand c.args.count (command_tree c.index-steps-at.result.command) = subst (λ (s : Step). IsSmallCommand c.args.count (command_tree s.command)) (sym c.index-steps-at.is) (small_step c.args.count c.as_slice-steps.result.now c.loop-at.at c.index-steps-at.result c.loop-at-test.true c.loop-at.invariant.small).0 in
    let conditional = conditional_next c.keeps_none.result c.as_slice-steps.result.now c.in_place_from-in_place.result.now c.loop-at.at c.index-steps-at.result c.if-in_place-gt0.false c.loop-at-test.true c.index-steps-at.is c.in_place_from-in_place.ensures.next in
    (omega (arith, e, c.decreases), (small, conditional))

pub sequence-returns-in_err-now-2-clause-err : goal.sequence-returns-in_err-now-2-clause-err
sequence-returns-in_err-now-2-clause-err t c =
    let p = err_from_is_err_and c.from_residual-in_err-now-2.result c.from_residual-in_err-now-2.ensures.1 in
    rw (p.1, p.2) (Walks-stops c.as_slice-steps.result.now c.loop-at.at c.args.count c.index-steps-at.result c.loop-at-test.true (RunsAll c.args.sequence.now c.args.count) c.args.from.items c.loop-at.now.items (none_of c.args.failed.now) c.loop-at.stops c.loop-at.invariant.walks c.in_err-now-2.field-0.0 (subst (λ (s : Step). Halts (does_course (command_tree s.command) c.args.count s.place) c.loop-at.now.items c.in_err-now-2.field-0.0) c.index-steps-at.is c.in_err-now-2.ensures.err))

pub sequence-steps_in_all-requires : goal.sequence-steps_in_all-requires
sequence-steps_in_all-requires t c = record {
  small = small_part c.as_slice-steps.result.now c.in_place_from-in_place.result.now c.loop-at.at c.args.count c.in_place_from-in_place.ensures.part c.loop-at.invariant.small;
  straight = in_place_straight c.keeps_none.result (sequence_tree c.in_place_from-in_place.result.now) c.in_place_from-in_place.ensures.in_place;
}

pub sequence-returns-in_err-now-clause-err : goal.sequence-returns-in_err-now-clause-err
sequence-returns-in_err-now-clause-err t c =
    let p = err_from_is_err_and c.from_residual.result c.from_residual.ensures.1 in
    rw (p.1, p.2) (Walks-halted c.as_slice-steps.result.now c.in_place_from-in_place.result.now c.loop-at.at c.args.count (RunsAll c.args.sequence.now c.args.count) c.args.from.items c.loop-at.now.items (none_of c.args.failed.now) c.loop-at.stops c.loop-at.invariant.walks c.in_place_from-in_place.ensures.part c.in_err-now.field-0.0 c.in_err-now.ensures.err)

pub sequence-loop-at-preserved-then-in_place-gt0 : goal.sequence-loop-at-preserved-then-in_place-gt0
sequence-loop-at-preserved-then-in_place-gt0 t c =
    let tests = c.keeps_none.result in
    let done = c.in_ok-now.ensures.ok in
    let quiet : c.keeps_none.result ≡ false → done.0 ≡ [] = λ off. done.2 (in_place_unconditional (sequence_tree c.in_place_from-in_place.result.now) (subst (λ b. AreInPlace b (sequence_tree c.in_place_from-in_place.result.now)) off c.in_place_from-in_place.ensures.in_place)) in
    record {
      within = omega (arith, c.in_place_from-in_place.ensures.fits);
      small = small_steps c.as_slice-steps.result.now c.in_place_from-in_place.result.now c.loop-at.at c.args.count c.in_place_from-in_place.ensures.part c.loop-at.invariant.small;
      walks = Walks-steps c.as_slice-steps.result.now c.in_place_from-in_place.result.now c.loop-at.at c.args.count (RunsAll c.args.sequence.now c.args.count) c.args.from.items c.loop-at.now.items c.in_ok-now.now.items (none_of c.args.failed.now) c.loop-at.stops done.0 c.loop-at.invariant.walks c.in_place_from-in_place.ensures.part done.1 (after_unkept c.loop-at.stops tests done.0 c.keeps_none.ensures.soft c.keeps_none.ensures.hard quiet);
    }

pub sequence-loop-at-preserved : goal.sequence-loop-at-preserved
sequence-loop-at-preserved t c = record {
  within = omega (arith, c.loop-at-test.true);
  small = (small_step c.args.count c.as_slice-steps.result.now c.loop-at.at c.index-steps-at.result c.loop-at-test.true c.loop-at.invariant.small).1;
  walks = Walks-settled (RunsAll c.args.sequence.now c.args.count) _ c.args.from.items c.in_ok-now-2.now.items c.args.failed.now c.command.new.failed c.in_ok-stops.stops (Walks-step c.as_slice-steps.result.now c.loop-at.at c.args.count c.index-steps-at.result c.loop-at-test.true (RunsAll c.args.sequence.now c.args.count) c.args.from.items c.loop-at.now.items (none_of c.args.failed.now) c.loop-at.stops c.loop-at.invariant.walks c.in_ok-now-2.now.items c.command.new.failed (subst (λ (s : Step). Adds (does_course (command_tree s.command) c.args.count s.place) c.loop-at.now.items [] c.in_ok-now-2.now.items c.loop-at.stops c.command.new.failed) c.index-steps-at.is c.in_ok-now-2.ensures.ok)) c.in_ok-stops.ensures;
}

pub sequence-returns-clause-ok : goal.sequence-returns-clause-ok
sequence-returns-clause-ok t c =
    let none : drop c.loop-at.at c.as_slice-steps.result.now ≡ [] = drop_all c.loop-at.at c.as_slice-steps.result.now c.loop-at-test.false in
    Adds-behind (RunsAll c.args.sequence.now c.args.count) c.args.from.items c.loop-at.now.items c.args.failed.now c.join.new.self c.loop-at.stops
    (Walks-end (RunsAll c.args.sequence.now c.args.count) c.args.from.items c.loop-at.now.items (none_of c.args.failed.now) c.loop-at.stops (subst (λ xs. Walks (RunsAll c.args.sequence.now c.args.count) c.args.from.items (none_of c.args.failed.now) (RunsAll (sequence_tree xs) c.args.count) c.loop-at.now.items c.loop-at.stops) none c.loop-at.invariant.walks)) c.in_ok-join.ensures

pub try_around-loop-branch-init : goal.try_around-loop-branch-init
try_around-loop-branch-init t c =
    let one : c.in_ok-now.now.items ≡ c.args.k ∷ [] = c.in_ok-now.ensures in
    record {
      whole = c.as_slice-all.ensures;
      left = omega arith;
      small = subst (λ (b : BranchesTree). AreSmallBranches c.args.count b) (sym c.as_slice-all.ensures) c.requires.small;
      trying = subst (λ b. Trying (TriesIn c.args.branches.now c.args.count c.args.around.now.site.place c.args.around.now.site.component) c.args.k c.args.around.now.outer c.args.next.now.items c.args.next.now.items c.args.failed.now c.args.failed.now (TriesIn b c.args.count c.args.around.now.site.place c.args.around.now.site.component) c.in_ok-now.now.items (0 < length c.as_slice-all.result.now)) (sym c.as_slice-all.ensures) (Trying-start (TriesIn c.args.branches.now c.args.count c.args.around.now.site.place c.args.around.now.site.component) c.args.k c.args.around.now.outer c.args.next.now.items c.args.failed.now c.in_ok-now.now.items (0 < length c.as_slice-all.result.now) c.requires.outer one);
    }

pub try_around-returns-in-None-clause-ok : goal.try_around-returns-in-None-clause-ok
try_around-returns-in-None-clause-ok t c = Trying-null (TriesIn c.args.branches.now c.args.count c.args.around.now.site.place c.args.around.now.site.component) c.args.k c.args.around.now.outer c.args.next.now.items c.loop-branch.next.items c.append.new.self.items c.args.failed.now c.loop-branch.failed c.loop-branch.now.items (c.loop-branch.branch-index < length c.as_slice-all.result.now) (subst (λ (r : Course). Trying (TriesIn c.args.branches.now c.args.count c.args.around.now.site.place c.args.around.now.site.component) c.args.k c.args.around.now.outer c.args.next.now.items c.loop-branch.next.items c.args.failed.now c.loop-branch.failed r c.loop-branch.now.items (c.loop-branch.branch-index < length c.as_slice-all.result.now)) (at_none c.as_slice-all.result.now c.loop-branch.branch-index c.args.count c.args.around.now.site.place c.args.around.now.site.component c.branch-item.result c.loop-branch-test.true (sym c.branch-item.is ∙ c.in-None.is)) c.loop-branch.invariant.trying) c.loop-branch-test.true c.in_ok-append-in-None.ensures.items

pub try_around-returns-in_err-now-in-Some-clause-err : goal.try_around-returns-in_err-now-in-Some-clause-err
try_around-returns-in_err-now-in-Some-clause-err t c =
    let p = err_from_is_err_and c.from_residual-in_err-now-in-Some.result c.from_residual-in_err-now-in-Some.ensures.1 in
    rw (p.1, p.2) (Trying-halt (TriesIn c.args.branches.now c.args.count c.args.around.now.site.place c.args.around.now.site.component) (RunsAll c.in-Some.inner c.args.count) (TriesIn (branches_tree (drop (c.loop-branch.branch-index + 1) c.as_slice-all.result.now)) c.args.count c.args.around.now.site.place) c.args.k c.args.around.now.outer c.args.around.now.site.component c.args.next.now.items c.loop-branch.next.items c.args.failed.now c.loop-branch.failed c.loop-branch.now.items c.in_ok-states-in-Some.states.items (c.loop-branch.branch-index < length c.as_slice-all.result.now) (subst (λ (r : Course). Trying (TriesIn c.args.branches.now c.args.count c.args.around.now.site.place c.args.around.now.site.component) c.args.k c.args.around.now.outer c.args.next.now.items c.loop-branch.next.items c.args.failed.now c.loop-branch.failed r c.loop-branch.now.items (c.loop-branch.branch-index < length c.as_slice-all.result.now)) (at_some c.as_slice-all.result.now c.loop-branch.branch-index c.args.count c.args.around.now.site.place c.args.around.now.site.component c.branch-item.result c.in-Some.inner c.loop-branch-test.true (sym c.branch-item.is ∙ c.in-Some.is)) c.loop-branch.invariant.trying) c.loop-branch-test.true c.in_ok-states-in-Some.ensures c.in_err-now-in-Some.field-0.0 c.in_err-now-in-Some.ensures.err)

pub try_around-loop-branch-preserved : goal.try_around-loop-branch-preserved
try_around-loop-branch-preserved t c = record {
  whole = c.loop-branch.invariant.whole;
  left = omega (arith, c.loop-branch.invariant.left, c.loop-branch-test.true);
  small = (small_branch c.args.count c.as_slice-all.result.now c.loop-branch.branch-index c.branch-item.result c.in-Some.inner c.loop-branch-test.true (sym c.branch-item.is ∙ c.in-Some.is) c.loop-branch.invariant.small).1;
  trying = Trying-branch (TriesIn c.args.branches.now c.args.count c.args.around.now.site.place c.args.around.now.site.component) (RunsAll c.in-Some.inner c.args.count) (TriesIn (branches_tree (drop (c.loop-branch.branch-index + 1) c.as_slice-all.result.now)) c.args.count c.args.around.now.site.place) c.args.k c.args.around.now.outer c.args.around.now.site.component c.args.next.now.items c.loop-branch.next.items c.one_branch.new.next.items c.args.failed.now c.loop-branch.failed c.one_branch.new.failed c.none_inside-stops.result c.loop-branch.now.items c.in_ok-states-in-Some.states.items c.in_ok-now-in-Some.now.items (c.loop-branch.branch-index < length c.as_slice-all.result.now) (c.loop-branch.branch-index + 1 < length c.as_slice-all.result.now) (ltb 0 (c.loop-branch.left - 1)) (subst (λ (r : Course). Trying (TriesIn c.args.branches.now c.args.count c.args.around.now.site.place c.args.around.now.site.component) c.args.k c.args.around.now.outer c.args.next.now.items c.loop-branch.next.items c.args.failed.now c.loop-branch.failed r c.loop-branch.now.items (c.loop-branch.branch-index < length c.as_slice-all.result.now)) (at_some c.as_slice-all.result.now c.loop-branch.branch-index c.args.count c.args.around.now.site.place c.args.around.now.site.component c.branch-item.result c.in-Some.inner c.loop-branch-test.true (sym c.branch-item.is ∙ c.in-Some.is)) c.loop-branch.invariant.trying) c.loop-branch-test.true (λ goes. lt-ltb 0 (c.loop-branch.left - 1) (omega (arith, c.loop-branch.invariant.left, goes))) c.in_ok-states-in-Some.ensures c.none_inside-stops.ensures c.in_ok-now-in-Some.ensures.ok;
}

pub try_around-returns-clause-ok : goal.try_around-returns-clause-ok
try_around-returns-clause-ok t c =
    let none : drop c.loop-branch.branch-index c.as_slice-all.result.now ≡ [] = drop_all c.loop-branch.branch-index c.as_slice-all.result.now c.loop-branch-test.false in
    Trying-end (TriesIn c.args.branches.now c.args.count c.args.around.now.site.place c.args.around.now.site.component) c.args.k c.args.around.now.outer c.args.around.now.site.place c.args.next.now.items c.loop-branch.next.items c.args.failed.now c.loop-branch.failed c.exhaust.new.failed c.loop-branch.now.items (c.loop-branch.branch-index < length c.as_slice-all.result.now) (subst (λ bs. Trying (TriesIn c.args.branches.now c.args.count c.args.around.now.site.place c.args.around.now.site.component) c.args.k c.args.around.now.outer c.args.next.now.items c.loop-branch.next.items c.args.failed.now c.loop-branch.failed (TriesIn (branches_tree bs) c.args.count c.args.around.now.site.place c.args.around.now.site.component) c.loop-branch.now.items (c.loop-branch.branch-index < length c.as_slice-all.result.now)) none c.loop-branch.invariant.trying) c.in_ok-exhaust.ensures

pub try_around-one_branch-requires : goal.try_around-one_branch-requires
try_around-one_branch-requires t c =
    let e : sequence_size c.in-Some.inner + 1 ≤ branches_size (branches_tree c.as_slice-all.result.now) = branch_smaller c.as_slice-all.result.now c.loop-branch.branch-index c.branch-item.result c.in-Some.inner c.loop-branch-test.true (sym c.branch-item.is ∙ c.in-Some.is) in
    let w : branches_size (branches_tree c.as_slice-all.result.now) ≡ branches_size c.args.branches.now = ap branches_size c.loop-branch.invariant.whole in
    let small : IsSmallSequence c.args.count c.in-Some.inner = (small_branch c.args.count c.as_slice-all.result.now c.loop-branch.branch-index c.branch-item.result c.in-Some.inner c.loop-branch-test.true (sym c.branch-item.is ∙ c.in-Some.is) c.loop-branch.invariant.small).0 in
    (omega (arith, e, w, c.decreases), small)

pub command-returns-clause-ok : goal.command-returns-clause-ok
command-returns-clause-ok t c =
    let none : c.loop-k.now.items ≡ [] = none_left c.loop-k.now.items (λ lt. let l : 0 < vec_len c.loop-k.now = search rules in never_true (c.in_default.ensures.variant.1 l)) in
    Adds-states (does_course (command_tree c.args.step.now.command) c.args.count c.args.step.now.place) c.args.from.items c.loop-k.next.items c.in_ok-merged.merged.items c.args.failed.now c.loop-k.failed
    (Pops-end (does_course (command_tree c.args.step.now.command) c.args.count c.args.step.now.place) c.args.from.items c.args.failed.now c.loop-k.now.items c.loop-k.next.items c.loop-k.failed c.loop-k.invariant none) c.in_ok-merged.ensures

pub one_branch-returns-clause-ok : goal.one_branch-returns-clause-ok
one_branch-returns-clause-ok t c = Adds-branch (RunsAll c.args.inner.now c.args.count) c.args.outer.now c.args.inside.states.items c.in_ok-done.done.items c.args.next.now.items c.leave_branch.new.next.items c.in_ok-leave_branch.field-0.items c.args.inside.stops c.sequence.new.failed c.args.failed.now c.leave_branch.new.failed c.in_ok-done.ensures.ok c.in_ok-leave_branch.ensures.done c.in_ok-leave_branch.ensures.soft c.in_ok-leave_branch.ensures.hard

pub one_branch-returns-in_err-done-clause-err : goal.one_branch-returns-in_err-done-clause-err
one_branch-returns-in_err-done-clause-err t c =
    let p = err_from_is_err_and c.from_residual.result c.from_residual.ensures.1 in rw (p.1, p.2) c.in_err-done.ensures.err
