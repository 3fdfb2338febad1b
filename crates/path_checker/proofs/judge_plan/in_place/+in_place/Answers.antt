use Rattle.std.proofs.Common.{refl, sym, ap, subst, arith, true, false, [], ◌∷◌, ◌≡◌, ◌∙◌}
use Rattle.std.specs.Prelude.{IfOk, IfErr}
use Rattle.std.proofs.lemmas.Result.{err_from_is_err_and, IfOk-weaker, IfErr-weaker}
use Rattle.suit_commands.specs.declared.command.Command.{Command}
use Rattle.suit_commands.specs.Size.{sequence_size}
use Rattle.suit_commands.specs.Tree.{SequenceTree}
use Rattle.suit_commands.specs.View.{sequence_tree, command_tree}
use Rattle.path_checker.specs.Exploring.{Kept, Explores, Continues, kept_if, kept_of, state_of}
use Rattle.path_checker.specs.Halting.{Halts}
use Rattle.path_checker.specs.Inner.{RunsInside, entered}
use Rattle.path_checker.specs.Small.{IsSmallSequence, AreStraight}
use Rattle.path_checker.specs.Steps.{At, AtEach, RunsAll, TriesIn}
use Rattle.path_checker.specs.Unconditional.{IsUnconditional, AreUnconditional}
use Rattle.path_checker.proofs.Continuing.{Continues-none, Continues-test, Continues-at_index, Continues-same, Continues-quiet, Goes, Goes-start, Goes-none, Goes-step, Goes-stops, Goes-steps, Goes-over, Goes-at, Goes-at_stops, Goes-at_over}
use Rattle.path_checker.proofs.InnerSequences.{inner_course}
use Rattle.path_checker.proofs.Overriding.{Explores-overrides, small_steps}
use Rattle.path_checker.proofs.Popping.{each_sole, does_each, Halts-same}
use Rattle.path_checker.proofs.Unconditional.{are_straight, straight_step, straight_steps, unconditional_at, small_next, size_at, Explores-inside, Halts-inside, Explores-first, Halts-first, Explores-begun, Halts-begun, Explores-index, entered_is, left_is}
use Rattle.path_checker.proofs.Walking.{does_course}
use Rattle.path_checker.proofs.judge_plan.in_place.+in_place.Goals as goal

-- ---- steps

pub steps_in-loop-at-preserved-then-overrides-gt-FEW : goal.steps_in-loop-at-preserved-then-overrides-gt-FEW
steps_in-loop-at-preserved-then-overrides-gt-FEW t c = record {
  within = omega (arith, c.overrides_from-overrides.ensures.fits);
  small = small_steps c.args.steps.now c.overrides_from-overrides.result.now c.loop-at.at c.args.count c.overrides_from-overrides.ensures.part c.loop-at.invariant.small;
  straight = straight_steps c.args.steps.now c.overrides_from-overrides.result.now c.loop-at.at c.overrides_from-overrides.ensures.part c.loop-at.invariant.straight;
  goes =
      Goes-steps (AreUnconditional (sequence_tree c.args.steps.now)) c.args.steps.now c.overrides_from-overrides.result.now c.loop-at.at c.args.count (RunsAll (sequence_tree c.args.steps.now) c.args.count) (c.args.k.now ∷ []) (c.loop-at.k ∷ []) (c.overrides_in.new.k ∷ []) c.loop-at.invariant.goes c.overrides_from-overrides.ensures.part
      (subst (λ (to : Kept). Explores (RunsAll (sequence_tree c.overrides_from-overrides.result.now) c.args.count) (c.loop-at.k ∷ []) (to ∷ []) []) (sym c.in_ok-overrides_in.ensures) (Explores-overrides (sequence_tree c.overrides_from-overrides.result.now) c.overrides_from-overrides.ensures.overrides c.args.count c.loop-at.k));
}

pub steps_in-command_in-requires : goal.steps_in-command_in-requires
steps_in-command_in-requires t c = (
  omega (arith, size_at c.args.steps.now c.loop-at.at c.index-steps-at.result c.loop-at-test.true c.index-steps-at.is, c.decreases),
  ((small_next c.args.count c.args.steps.now c.loop-at.at c.index-steps-at.result c.loop-at-test.true c.index-steps-at.is c.loop-at.invariant.small).0, (straight_step c.args.steps.now c.loop-at.at c.index-steps-at.result c.loop-at-test.true c.index-steps-at.is c.loop-at.invariant.straight).0),
)

pub steps_in-returns-in_err-goes_on-clause-err : goal.steps_in-returns-in_err-goes_on-clause-err
steps_in-returns-in_err-goes_on-clause-err t c =
    let p = err_from_is_err_and c.from_residual-in_err-goes_on.result c.from_residual-in_err-goes_on.ensures.1 in
    rw (p.1, p.2) (Goes-stops (AreUnconditional (sequence_tree c.args.steps.now)) c.args.steps.now c.loop-at.at c.args.count c.index-steps-at.result c.loop-at-test.true c.index-steps-at.is (RunsAll (sequence_tree c.args.steps.now) c.args.count) (c.args.k.now ∷ []) (c.loop-at.k ∷ []) c.loop-at.invariant.goes c.in_err-goes_on.field-0.0 c.in_err-goes_on.ensures.err)

pub steps_in-returns-then-not-goes_on-clause-ok : goal.steps_in-returns-then-not-goes_on-clause-ok
steps_in-returns-then-not-goes_on-clause-ok t c =
    let quiet = AreUnconditional (sequence_tree c.args.steps.now) in
    let none = subst (λ b. Continues (IsUnconditional (command_tree c.index-steps-at.result.command)) (does_course (command_tree c.index-steps-at.result.command) c.args.count c.index-steps-at.result.place) (c.loop-at.k ∷ []) (kept_if b c.command_in.new.k)) c.if-not-goes_on.true c.in_ok-goes_on.ensures.ok in
    Goes-none quiet (RunsAll (sequence_tree c.args.steps.now) c.args.count) (c.args.k.now ∷ []) _
    (Goes-step quiet c.args.steps.now c.loop-at.at c.args.count c.index-steps-at.result c.loop-at-test.true c.index-steps-at.is (RunsAll (sequence_tree c.args.steps.now) c.args.count) (c.args.k.now ∷ []) (c.loop-at.k ∷ []) c.loop-at.invariant.goes (IsUnconditional (command_tree c.index-steps-at.result.command)) []
    (λ all. unconditional_at c.args.steps.now c.loop-at.at c.index-steps-at.result c.loop-at-test.true c.index-steps-at.is all) none)

pub steps_in-loop-at-preserved : goal.steps_in-loop-at-preserved
steps_in-loop-at-preserved t c =
    let quiet = AreUnconditional (sequence_tree c.args.steps.now) in
    let one = subst (λ b. Continues (IsUnconditional (command_tree c.index-steps-at.result.command)) (does_course (command_tree c.index-steps-at.result.command) c.args.count c.index-steps-at.result.place) (c.loop-at.k ∷ []) (kept_if b c.command_in.new.k)) c.if-not-goes_on.false c.in_ok-goes_on.ensures.ok in
    record {
      within = omega (arith, c.loop-at-test.true);
      small = (small_next c.args.count c.args.steps.now c.loop-at.at c.index-steps-at.result c.loop-at-test.true c.index-steps-at.is c.loop-at.invariant.small).1;
      straight = (straight_step c.args.steps.now c.loop-at.at c.index-steps-at.result c.loop-at-test.true c.index-steps-at.is c.loop-at.invariant.straight).1;
      goes =
          Goes-step quiet c.args.steps.now c.loop-at.at c.args.count c.index-steps-at.result c.loop-at-test.true c.index-steps-at.is (RunsAll (sequence_tree c.args.steps.now) c.args.count) (c.args.k.now ∷ []) (c.loop-at.k ∷ []) c.loop-at.invariant.goes (IsUnconditional (command_tree c.index-steps-at.result.command)) (c.command_in.new.k ∷ [])
          (λ all. unconditional_at c.args.steps.now c.loop-at.at c.index-steps-at.result c.loop-at-test.true c.index-steps-at.is all) one;
    }

pub steps_in-returns-clause-ok : goal.steps_in-returns-clause-ok
steps_in-returns-clause-ok t c = Goes-over (AreUnconditional (sequence_tree c.args.steps.now)) c.args.steps.now c.loop-at.at c.args.count (RunsAll (sequence_tree c.args.steps.now) c.args.count) (c.args.k.now ∷ []) (c.loop-at.k ∷ []) c.loop-at-test.false c.loop-at.invariant.goes

-- ---- one step

pub command_in-returns-in-Index-clause-ok : goal.command_in-returns-in-Index-clause-ok
command_in-returns-in-Index-clause-ok t c =
    Continues-none (IsUnconditional (command_tree c.args.step.now.command)) (does_course (command_tree c.args.step.now.command) c.args.count c.args.step.now.place) (c.args.k.now ∷ []) _
    (Explores-index c.args.k.now _ c.in-Index.selection c.args.count c.args.step.now.place c.args.step.now.command c.in-Index.is (rw (← c.k.view_is, c.by-k-inside.ensures) refl))

pub command_in-returns : goal.command_in-returns
command_in-returns t c =
    let quiet = IsUnconditional (command_tree c.args.step.now.command) in
    let each = AtEach (command_tree c.args.step.now.command) c.args.count c.args.step.now.place c.args.k.now.state.selection in
    let does = does_course (command_tree c.args.step.now.command) c.args.count c.args.step.now.place in
    record {
      ok = IfOk-weaker c.each_in.result (λ b. Continues quiet each (c.args.k.now ∷ []) (kept_if b c.each_in.new.k)) (λ b. Continues quiet does (c.args.k.now ∷ []) (kept_if b c.each_in.new.k))
          (λ b x. Continues-same quiet c.args.k.now each does (kept_if b c.each_in.new.k) (does_each c.args.step.now.command c.in_default.not-Index c.args.count c.args.step.now.place c.args.k.now) x) c.each_in.ensures.ok;
      err = IfErr-weaker c.each_in.result (λ h. Halts each (c.args.k.now ∷ []) h) (λ h. Halts does (c.args.k.now ∷ []) h)
          (λ h u. Halts-same c.args.k.now each does (does_each c.args.step.now.command c.in_default.not-Index c.args.count c.args.step.now.place c.args.k.now) h u) c.each_in.ensures.err;
    }

pub each_in-returns-in-Some-clause-ok : goal.each_in-returns-in-Some-clause-ok
each_in-returns-in-Some-clause-ok t c =
    let sole = sym (ap (λ k. k.state.selection) c.k.view_is) ∙ c.in-Some.ensures.sole in
    let one = At (command_tree c.args.step.now.command) c.args.count c.args.step.now.place c.in-Some.component in
    let each = AtEach (command_tree c.args.step.now.command) c.args.count c.args.step.now.place c.args.k.now.state.selection in
    let quiet = IsUnconditional (command_tree c.args.step.now.command) in
    IfOk-weaker c.one_in.result (λ b. Continues quiet one (c.args.k.now ∷ []) (kept_if b c.one_in.new.k)) (λ b. Continues quiet each (c.args.k.now ∷ []) (kept_if b c.one_in.new.k))
    (λ b x. Continues-same quiet c.args.k.now one each (kept_if b c.one_in.new.k) (each_sole (command_tree c.args.step.now.command) c.args.count c.args.step.now.place c.in-Some.component c.args.k.now sole) x) c.one_in.ensures.ok

pub each_in-returns-in-Some-clause-err : goal.each_in-returns-in-Some-clause-err
each_in-returns-in-Some-clause-err t c =
    let sole = sym (ap (λ k. k.state.selection) c.k.view_is) ∙ c.in-Some.ensures.sole in
    let one = At (command_tree c.args.step.now.command) c.args.count c.args.step.now.place c.in-Some.component in
    let each = AtEach (command_tree c.args.step.now.command) c.args.count c.args.step.now.place c.args.k.now.state.selection in
    IfErr-weaker c.one_in.result (λ h. Halts one (c.args.k.now ∷ []) h) (λ h. Halts each (c.args.k.now ∷ []) h) (λ h u. Halts-same c.args.k.now one each (each_sole (command_tree c.args.step.now.command) c.args.count c.args.step.now.place c.in-Some.component c.args.k.now sole) h u) c.one_in.ensures.err

pub each_in-returns-in-Override-clause-ok : goal.each_in-returns-in-Override-clause-ok
each_in-returns-in-Override-clause-ok t c =
    Continues-none (IsUnconditional (command_tree c.args.step.now.command)) (AtEach (command_tree c.args.step.now.command) c.args.count c.args.step.now.place c.args.k.now.state.selection) (c.args.k.now ∷ []) (c.override_each_in.new.k ∷ [])
    (subst (λ (m : Command). Explores (AtEach (command_tree m) c.args.count c.args.step.now.place c.args.k.now.state.selection) (c.args.k.now ∷ []) (c.override_each_in.new.k ∷ []) []) (sym c.in-Override.is) c.in_ok-override_each_in.ensures)

pub each_in-returns-in_err-goes_on : goal.each_in-returns-in_err-goes_on
each_in-returns-in_err-goes_on t c =
    let p = err_from_is_err_and c.from_residual-in_err-goes_on.result c.from_residual-in_err-goes_on.ensures.1 in
    rw (p.1, p.2) (record { ok = tt; err = Goes-at_stops (IsUnconditional (command_tree c.args.step.now.command)) (command_tree c.args.step.now.command) c.args.count c.args.step.now.place c.copy-selection.result c.loop-index.index c.at.result (omega (arith, c.loop-index-test.true, c.len-index-end.ensures)) c.at.ensures.value (AtEach (command_tree c.args.step.now.command) c.args.count c.args.step.now.place c.args.k.now.state.selection) (c.args.k.now ∷ []) (c.loop-index.k ∷ []) c.loop-index.invariant c.in_err-goes_on.field-0.0 c.in_err-goes_on.ensures.err })

pub each_in-returns-then-not-goes_on : goal.each_in-returns-then-not-goes_on
each_in-returns-then-not-goes_on t c =
    let none = subst (λ b. Continues (IsUnconditional (command_tree c.args.step.now.command)) (At (command_tree c.args.step.now.command) c.args.count c.args.step.now.place c.at.result) (c.loop-index.k ∷ []) (kept_if b c.one_in-in-loop-index.new.k)) c.if-not-goes_on.true c.in_ok-goes_on.ensures.ok in
    record { ok = Goes-none (IsUnconditional (command_tree c.args.step.now.command)) (AtEach (command_tree c.args.step.now.command) c.args.count c.args.step.now.place c.args.k.now.state.selection) (c.args.k.now ∷ []) _ (Goes-at (IsUnconditional (command_tree c.args.step.now.command)) (command_tree c.args.step.now.command) c.args.count c.args.step.now.place c.copy-selection.result c.loop-index.index c.at.result (omega (arith, c.loop-index-test.true, c.len-index-end.ensures)) c.at.ensures.value (AtEach (command_tree c.args.step.now.command) c.args.count c.args.step.now.place c.args.k.now.state.selection) (c.args.k.now ∷ []) (c.loop-index.k ∷ []) c.loop-index.invariant [] none); err = tt }

pub each_in-loop-index-init : goal.each_in-loop-index-init
each_in-loop-index-init t c =
    let quiet = IsUnconditional (command_tree c.args.step.now.command) in
    let same : c.copy-selection.result ≡ c.args.k.now.state.selection = c.copy-selection.ensures ∙ ap (λ k. k.state.selection) c.k.view_is in
    subst (λ cs. Goes quiet (AtEach (command_tree c.args.step.now.command) c.args.count c.args.step.now.place c.args.k.now.state.selection) (c.args.k.now ∷ []) (AtEach (command_tree c.args.step.now.command) c.args.count c.args.step.now.place cs) (c.args.k.now ∷ [])) (sym same)
    (Goes-start quiet (AtEach (command_tree c.args.step.now.command) c.args.count c.args.step.now.place c.args.k.now.state.selection) (c.args.k.now ∷ []))

pub each_in-loop-index-preserved : goal.each_in-loop-index-preserved
each_in-loop-index-preserved t c =
    let one = subst (λ b. Continues (IsUnconditional (command_tree c.args.step.now.command)) (At (command_tree c.args.step.now.command) c.args.count c.args.step.now.place c.at.result) (c.loop-index.k ∷ []) (kept_if b c.one_in-in-loop-index.new.k)) c.if-not-goes_on.false c.in_ok-goes_on.ensures.ok in
    Goes-at (IsUnconditional (command_tree c.args.step.now.command)) (command_tree c.args.step.now.command) c.args.count c.args.step.now.place c.copy-selection.result c.loop-index.index c.at.result (omega (arith, c.loop-index-test.true, c.len-index-end.ensures)) c.at.ensures.value (AtEach (command_tree c.args.step.now.command) c.args.count c.args.step.now.place c.args.k.now.state.selection) (c.args.k.now ∷ []) (c.loop-index.k ∷ []) c.loop-index.invariant (c.one_in-in-loop-index.new.k ∷ []) one

pub each_in-returns : goal.each_in-returns
each_in-returns t c = record {
  ok = Goes-at_over (IsUnconditional (command_tree c.args.step.now.command)) (command_tree c.args.step.now.command) c.args.count c.args.step.now.place c.copy-selection.result c.loop-index.index (AtEach (command_tree c.args.step.now.command) c.args.count c.args.step.now.place c.args.k.now.state.selection) (c.args.k.now ∷ []) (c.loop-index.k ∷ []) (omega (arith, c.loop-index-test.false, c.len-index-end.ensures)) c.loop-index.invariant;
  err = tt;
}

-- ---- at one component

pub one_in-returns-in_ok-pass_test-in-Test-clause-ok : goal.one_in-returns-in_ok-pass_test-in-Test-clause-ok
one_in-returns-in_ok-pass_test-in-Test-clause-ok t c =
    subst (λ (m : Command). Continues (IsUnconditional (command_tree m)) (At (command_tree m) c.args.count c.args.step.now.place c.args.component) (c.args.k.now ∷ []) (kept_if c.in_ok-pass_test-in-Test.field-0 c.pass_test.new.k)) (sym c.in-Test.is)
    (Continues-test _ (c.args.k.now ∷ []) (kept_if c.in_ok-pass_test-in-Test.field-0 c.pass_test.new.k) c.in_ok-pass_test-in-Test.ensures)

pub one_in-returns-in-Act-clause-ok : goal.one_in-returns-in-Act-clause-ok
one_in-returns-in-Act-clause-ok t c =
    let at = At (command_tree c.args.step.now.command) c.args.count c.args.step.now.place c.args.component in
    IfOk-weaker c.act_in.result (λ b. Explores at (c.args.k.now ∷ []) (kept_if b c.act_in.new.k) []) (λ b. Continues (IsUnconditional (command_tree c.args.step.now.command)) at (c.args.k.now ∷ []) (kept_if b c.act_in.new.k)) (λ b x. Continues-none (IsUnconditional (command_tree c.args.step.now.command)) at (c.args.k.now ∷ []) (kept_if b c.act_in.new.k) x)
    (subst (λ (m : Command). IfOk c.act_in.result (λ b. Explores (At (command_tree m) c.args.count c.args.step.now.place c.args.component) (c.args.k.now ∷ []) (kept_if b c.act_in.new.k) [])) (sym c.in-Act.is) c.act_in.ensures.ok)

pub one_in-returns-in-Act-clause-err : goal.one_in-returns-in-Act-clause-err
one_in-returns-in-Act-clause-err t c = subst (λ (m : Command). IfErr c.act_in.result (λ h. Halts (At (command_tree m) c.args.count c.args.step.now.place c.args.component) (c.args.k.now ∷ []) h)) (sym c.in-Act.is) c.act_in.ensures.err

pub one_in-returns-in_ok-override_in-in-Override-clause-ok :
    goal.one_in-returns-in_ok-override_in-in-Override-clause-ok
one_in-returns-in_ok-override_in-in-Override-clause-ok t c =
    Continues-none (IsUnconditional (command_tree c.args.step.now.command)) (At (command_tree c.args.step.now.command) c.args.count c.args.step.now.place c.args.component) (c.args.k.now ∷ []) (c.override_in.new.k ∷ [])
    (subst (λ (m : Command). Explores (At (command_tree m) c.args.count c.args.step.now.place c.args.component) (c.args.k.now ∷ []) (c.override_in.new.k ∷ []) []) (sym c.in-Override.is) c.in_ok-override_in-in-Override.ensures)

pub one_in-returns-in-TryEach-clause-ok : goal.one_in-returns-in-TryEach-clause-ok
one_in-returns-in-TryEach-clause-ok t c =
    let at = At (command_tree c.args.step.now.command) c.args.count c.args.step.now.place c.args.component in
    IfOk-weaker c.try_in.result (λ b. Explores at (c.args.k.now ∷ []) (kept_if b c.try_in.new.k) []) (λ b. Continues (IsUnconditional (command_tree c.args.step.now.command)) at (c.args.k.now ∷ []) (kept_if b c.try_in.new.k)) (λ b x. Continues-none (IsUnconditional (command_tree c.args.step.now.command)) at (c.args.k.now ∷ []) (kept_if b c.try_in.new.k) x)
    (subst (λ (m : Command). IfOk c.try_in.result (λ b. Explores (At (command_tree m) c.args.count c.args.step.now.place c.args.component) (c.args.k.now ∷ []) (kept_if b c.try_in.new.k) [])) (sym c.in-TryEach.is) c.try_in.ensures.ok)

pub one_in-returns-in-Run-clause-ok : goal.one_in-returns-in-Run-clause-ok
one_in-returns-in-Run-clause-ok t c =
    let body = RunsAll c.in-Run.inner c.args.count in
    let at = At (command_tree c.args.step.now.command) c.args.count c.args.step.now.place c.args.component in
    IfOk-weaker c.inside.result (λ b. Explores at (c.args.k.now ∷ []) (kept_if b c.inside.new.k) []) (λ b. Continues (IsUnconditional (command_tree c.args.step.now.command)) at (c.args.k.now ∷ []) (kept_if b c.inside.new.k)) (λ b x. Continues-none (IsUnconditional (command_tree c.args.step.now.command)) at (c.args.k.now ∷ []) (kept_if b c.inside.new.k) x)
    (subst (λ (m : Command). IfOk c.inside.result (λ b. Explores (At (command_tree m) c.args.count c.args.step.now.place c.args.component) (c.args.k.now ∷ []) (kept_if b c.inside.new.k) [])) (sym c.in-Run.is)
    (IfOk-weaker c.inside.result (λ b. RunsInside body c.args.component false c.args.k.now b c.inside.new.k) (λ b. Explores (inner_course body c.args.component) (c.args.k.now ∷ []) (kept_if b c.inside.new.k) []) (λ b r. Explores-inside body c.args.component c.args.k.now c.inside.new.k b r) c.inside.ensures.ok))

pub one_in-returns-in-Run-clause-err : goal.one_in-returns-in-Run-clause-err
one_in-returns-in-Run-clause-err t c =
    let body = RunsAll c.in-Run.inner c.args.count in
    subst (λ (m : Command). IfErr c.inside.result (λ h. Halts (At (command_tree m) c.args.count c.args.step.now.place c.args.component) (c.args.k.now ∷ []) h)) (sym c.in-Run.is)
    (IfErr-weaker c.inside.result (λ h. Halts body (entered c.args.k.now.state c.args.component false c.args.k.now ∷ []) h) (λ h. Halts (inner_course body c.args.component) (c.args.k.now ∷ []) h) (λ h u. Halts-inside body c.args.component c.args.k.now h u) c.inside.ensures.err)

pub one_in-returns-in-Index-clause-ok : goal.one_in-returns-in-Index-clause-ok
one_in-returns-in-Index-clause-ok t c = Continues-at_index c.args.k.now _ c.args.count c.args.step.now.place c.args.component c.args.step.now.command c.in-Index.is

-- ---- inside

pub inside-steps_in-requires : goal.inside-steps_in-requires
inside-steps_in-requires t c =
    let size : sequence_size (sequence_tree c.as_slice.result.now) ≡ sequence_size c.args.inner.now = ap sequence_size c.as_slice.ensures in
    (omega (arith, size, c.decreases), (subst (λ (s : SequenceTree). IsSmallSequence c.args.count s) (sym c.as_slice.ensures) c.requires.small, subst AreStraight (sym c.as_slice.ensures) (are_straight c.args.inner.now c.requires.unconditional)))

pub inside-returns-in_err-goes_on-clause-err : goal.inside-returns-in_err-goes_on-clause-err
inside-returns-in_err-goes_on-clause-err t c =
    let p = err_from_is_err_and c.from_residual.result c.from_residual.ensures.1 in
    rw (p.1, p.2) (Halts-begun (RunsAll (sequence_tree c.as_slice.result.now) c.args.count) (RunsAll c.args.inner.now c.args.count) (kept_of c.k.inside.facts c.k.inside.history (state_of c.k.inside.params c.one-k-inside.result c.args.soft)) (entered c.args.k.now.state c.args.component c.args.soft c.args.k.now) c.in_err-goes_on.field-0.0
    (ap (λ (s : SequenceTree). RunsAll s c.args.count) c.as_slice.ensures) (entered_is c.args.k.now c.k.inside.facts c.k.inside.history c.k.inside.params c.k.inside.selection c.one-k-inside.result c.k.inside.soft_failure c.args.soft c.args.component c.k.view_is c.one-k-inside.ensures) c.in_err-goes_on.ensures.err)

pub inside-returns-clause-ok : goal.inside-returns-clause-ok
inside-returns-clause-ok t c = record {
  inside = c.steps_in.new.k;
  to_is = left_is c.args.k.now c.steps_in.new.k c.k.inside.facts c.k-2.inside.facts c.k.inside.history c.k-2.inside.history c.k.inside.params c.k-2.inside.params c.k.inside.selection c.k-2.inside.selection c.copy-selection.result c.k.inside.soft_failure c.k-2.inside.soft_failure c.k.view_is c.k-2.view_is c.copy-selection.ensures;
  explores =
      Explores-begun (RunsAll (sequence_tree c.as_slice.result.now) c.args.count) (RunsAll c.args.inner.now c.args.count) (kept_of c.k.inside.facts c.k.inside.history (state_of c.k.inside.params c.one-k-inside.result c.args.soft)) (entered c.args.k.now.state c.args.component c.args.soft c.args.k.now) (kept_if c.in_ok-goes_on.goes_on c.steps_in.new.k)
      (ap (λ (s : SequenceTree). RunsAll s c.args.count) c.as_slice.ensures) (entered_is c.args.k.now c.k.inside.facts c.k.inside.history c.k.inside.params c.k.inside.selection c.one-k-inside.result c.k.inside.soft_failure c.args.soft c.args.component c.k.view_is c.one-k-inside.ensures)
      (Continues-quiet (AreUnconditional (sequence_tree c.as_slice.result.now)) (RunsAll (sequence_tree c.as_slice.result.now) c.args.count) (kept_of c.k.inside.facts c.k.inside.history (state_of c.k.inside.params c.one-k-inside.result c.args.soft) ∷ []) (kept_if c.in_ok-goes_on.goes_on c.steps_in.new.k) (subst AreUnconditional (sym c.as_slice.ensures) c.requires.unconditional) c.in_ok-goes_on.ensures.ok);
}

pub try_in-returns-in-Some-clause-ok : goal.try_in-returns-in-Some-clause-ok
try_in-returns-in-Some-clause-ok t c =
    IfOk-weaker c.inside.result (λ b. RunsInside (RunsAll c.in-Some.inner c.args.count) c.args.component true c.args.k.now b c.inside.new.k) (λ b. Explores (TriesIn c.args.branches.now c.args.count c.args.place c.args.component) (c.args.k.now ∷ []) (kept_if b c.inside.new.k) [])
    (λ b r. Explores-first c.as_slice-all.result.now c.args.branches.now c.as_slice-all.ensures c.requires.unconditional c.args.count c.args.place c.args.component c.index-all-0.result c.in-Some.inner (sym c.index-all-0.is ∙ c.in-Some.is) c.args.k.now c.inside.new.k b r) c.inside.ensures.ok

pub try_in-returns-in-Some-clause-err : goal.try_in-returns-in-Some-clause-err
try_in-returns-in-Some-clause-err t c =
    IfErr-weaker c.inside.result (λ h. Halts (RunsAll c.in-Some.inner c.args.count) (entered c.args.k.now.state c.args.component true c.args.k.now ∷ []) h) (λ h. Halts (TriesIn c.args.branches.now c.args.count c.args.place c.args.component) (c.args.k.now ∷ []) h)
    (λ h u. Halts-first c.as_slice-all.result.now c.args.branches.now c.as_slice-all.ensures c.requires.unconditional c.args.count c.args.place c.args.component c.index-all-0.result c.in-Some.inner (sym c.index-all-0.is ∙ c.in-Some.is) c.args.k.now c.inside.new.k h u) c.inside.ensures.err
