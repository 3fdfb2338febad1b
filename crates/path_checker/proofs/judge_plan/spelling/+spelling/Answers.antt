use Rattle.std.proofs.Common.{◌≡◌, ◌≤◌, ◌+◌, ◌-◌, [], ◌∷◌, List, Option, Some, None, drop, refl, sym, ap, ◌∙◌, subst, inl, arith}
use Rattle.std.specs.Prelude.{IfErr}
use Rattle.std.proofs.lemmas.List.{drop_all}
use Rattle.std.proofs.lemmas.Result.{err_from_is_err_and}
use Rattle.suit_commands.specs.declared.command.Command.{Command}
use Rattle.suit_commands.specs.declared.command.Step.{Step}
use Rattle.suit_commands.specs.declared.command.Branches.TheDeep.{deep-Step}
use Rattle.suit_commands.specs.Size.{sequence_size, branches_size}
use Rattle.suit_commands.specs.Smaller.{step_smaller, branch_smaller}
use Rattle.suit_commands.specs.View.{sequence_tree, command_tree, branches_tree}
use Rattle.path_checker.specs.declared.judge_plan.turn.Turn.{Turn}
use Rattle.path_checker.specs.declared.judge_plan.turn.Turn.TheVariants as turns
use Rattle.path_checker.specs.Exploring.{Course, Kept, Continues, kept_if}
use Rattle.path_checker.specs.Halting.{Halts}
use Rattle.path_checker.specs.Inner.{left}
use Rattle.path_checker.specs.Small.{IsSmallSequence, IsSmallCommand}
use Rattle.path_checker.specs.Spelling.{Comes, IsAfter}
use Rattle.path_checker.specs.Steps.{At, AtEach, RunsAll, TriesIn}
use Rattle.path_checker.specs.Unconditional.{IsUnconditional}
use Rattle.path_checker.proofs.Branching.{at_some, at_none, Halts-run}
use Rattle.path_checker.proofs.Popping.{does_each, Halts-same}
use Rattle.path_checker.proofs.Smallness.{small_step, small_branch}
use Rattle.path_checker.proofs.Spelling.{Follows, Follows-end, Step-on, Step-over, Step-halts, At-on, At-over, At-halts, Fails-same, Comes-same, Run-done, Run-after, Branch-done, Branch-over, Branch-on, Branch-halts, Fails-exhausted}
use Rattle.path_checker.proofs.Unconditional.{conditional_each, unconditional_straight}
use Rattle.path_checker.proofs.Walking.{does_course}
use Rattle.path_checker.proofs.judge_plan.spelling.+spelling.Goals as goal

is_none : {A : Type 0} (o : Option A) → ((x : A) → o ≡ Some x → ⊥) → o ≡ None
is_none None never = refl
is_none (Some x) never = absurd (never x refl)

pub sequence-command-requires : goal.sequence-command-requires
sequence-command-requires t c =
    let e : deep-Step c.step-item.result ≤ sequence_size c.args.sequence.now = step_smaller c.as_slice-steps.result.now c.loop-step.step-index c.step-item.result c.step-item.result c.args.sequence.now c.loop-step-test.true c.step-item.is c.as_slice-steps.ensures in
    let small : IsSmallCommand c.args.count (command_tree c.step-item.result.command) = subst (λ (s : Step). IsSmallCommand c.args.count (command_tree s.command)) (sym c.step-item.is) (small_step c.args.count c.as_slice-steps.result.now c.loop-step.step-index c.step-item.result c.loop-step-test.true c.loop-step.invariant.small).0 in
    (omega (arith, e, c.decreases), small)

pub sequence-returns-in_err-k-clause-err : goal.sequence-returns-in_err-k-clause-err
sequence-returns-in_err-k-clause-err t c =
    let p = err_from_is_err_and c.from_residual.result c.from_residual.ensures.1 in
    rw (p.1, p.2) (Step-halts c.as_slice-steps.result.now c.loop-step.step-index c.args.count c.step-item.result c.loop-step-test.true c.step-item.is (RunsAll c.args.sequence.now c.args.count) (c.args.from ∷ []) c.loop-step.now c.loop-step.invariant.follows c.in_err-k.field-0.0 c.in_err-k.ensures.err)

pub sequence-returns-in-Over-clause-ok : goal.sequence-returns-in-Over-clause-ok
sequence-returns-in-Over-clause-ok t c =
    let over = subst (λ (u : Turn). Comes (does_course (command_tree c.step-item.result.command) c.args.count c.step-item.result.place) (c.loop-step.now ∷ []) u) c.in-Over.is c.in_ok-k.ensures.ok in
    Step-over c.as_slice-steps.result.now c.loop-step.step-index c.args.count c.step-item.result c.loop-step-test.true c.step-item.is (RunsAll c.args.sequence.now c.args.count) (c.args.from ∷ []) c.loop-step.now c.loop-step.invariant.follows c.in-Over.stop over

pub sequence-loop-step-preserved : goal.sequence-loop-step-preserved
sequence-loop-step-preserved t c =
    let on = subst (λ (u : Turn). Comes (does_course (command_tree c.step-item.result.command) c.args.count c.step-item.result.place) (c.loop-step.now ∷ []) u) c.in-On.is c.in_ok-k.ensures.ok in
    record {
      small = (small_step c.args.count c.as_slice-steps.result.now c.loop-step.step-index c.step-item.result c.loop-step-test.true c.loop-step.invariant.small).1;
      follows = Step-on c.as_slice-steps.result.now c.loop-step.step-index c.args.count c.step-item.result c.loop-step-test.true c.step-item.is (RunsAll c.args.sequence.now c.args.count) (c.args.from ∷ []) c.loop-step.now c.loop-step.invariant.follows c.in-On.k on;
    }

pub sequence-returns-clause-ok : goal.sequence-returns-clause-ok
sequence-returns-clause-ok t c =
    let none : drop c.loop-step.step-index c.as_slice-steps.result.now ≡ [] = drop_all c.loop-step.step-index c.as_slice-steps.result.now c.loop-step-test.false in
    Follows-end (RunsAll c.args.sequence.now c.args.count) (c.args.from ∷ []) c.loop-step.now (subst (λ (xs : List Step). Follows (RunsAll c.args.sequence.now c.args.count) (c.args.from ∷ []) (RunsAll (sequence_tree xs) c.args.count) c.loop-step.now) none c.loop-step.invariant.follows)

pub command-command_in-requires : goal.command-command_in-requires
command-command_in-requires t c = record {
  small = c.requires.small;
  straight = unconditional_straight (command_tree c.args.step.now.command) (c.is_unconditional.ensures.0 c.if-not-is_unconditional.false);
}

pub command-returns-then-goes_on-clause-ok : goal.command-returns-then-goes_on-clause-ok
command-returns-then-goes_on-clause-ok t c =
    let on = subst (λ b. Continues (IsUnconditional (command_tree c.args.step.now.command)) (does_course (command_tree c.args.step.now.command) c.args.count c.args.step.now.place) (c.args.k ∷ []) (kept_if b c.command_in.new.k)) c.if-goes_on.true c.in_ok-goes_on.ensures.ok in
    on.1.reached c.command_in.new.k (inl refl)

pub each-returns-in_err-k-clause-err : goal.each-returns-in_err-k-clause-err
each-returns-in_err-k-clause-err t c =
    let p = err_from_is_err_and c.from_residual.result c.from_residual.ensures.1 in
    let whole = AtEach (command_tree c.args.step.now.command) c.args.count c.args.step.now.place c.args.k.state.selection in
    let same = does_each c.args.step.now.command (conditional_each c.args.step.now.command c.requires.conditional) c.args.count c.args.step.now.place c.args.k in
    rw (p.1, p.2) (Halts-same c.args.k whole (does_course (command_tree c.args.step.now.command) c.args.count c.args.step.now.place) same c.in_err-k.field-0.0
    (At-halts (command_tree c.args.step.now.command) c.args.count c.args.step.now.place c.copy-selection.result c.loop-index.index c.at.result (omega (arith, c.loop-index-test.true, c.len-index-end.ensures)) c.at.ensures.value whole (c.args.k ∷ []) c.loop-index.now c.loop-index.invariant c.in_err-k.field-0.0 c.in_err-k.ensures.err))

pub each-returns-in-Over-clause-ok : goal.each-returns-in-Over-clause-ok
each-returns-in-Over-clause-ok t c =
    let whole = AtEach (command_tree c.args.step.now.command) c.args.count c.args.step.now.place c.args.k.state.selection in
    let same = does_each c.args.step.now.command (conditional_each c.args.step.now.command c.requires.conditional) c.args.count c.args.step.now.place c.args.k in
    let over = subst (λ (u : Turn). Comes (At (command_tree c.args.step.now.command) c.args.count c.args.step.now.place c.at.result) (c.loop-index.now ∷ []) u) c.in-Over.is c.in_ok-k.ensures.ok in
    Fails-same c.args.k whole (does_course (command_tree c.args.step.now.command) c.args.count c.args.step.now.place) c.in-Over.stop same
    (At-over (command_tree c.args.step.now.command) c.args.count c.args.step.now.place c.copy-selection.result c.loop-index.index c.at.result (omega (arith, c.loop-index-test.true, c.len-index-end.ensures)) c.at.ensures.value whole (c.args.k ∷ []) c.loop-index.now c.loop-index.invariant c.in-Over.stop over)

pub each-loop-index-preserved : goal.each-loop-index-preserved
each-loop-index-preserved t c =
    let whole = AtEach (command_tree c.args.step.now.command) c.args.count c.args.step.now.place c.args.k.state.selection in
    let on = subst (λ (u : Turn). Comes (At (command_tree c.args.step.now.command) c.args.count c.args.step.now.place c.at.result) (c.loop-index.now ∷ []) u) c.in-On.is c.in_ok-k.ensures.ok in
    At-on (command_tree c.args.step.now.command) c.args.count c.args.step.now.place c.copy-selection.result c.loop-index.index c.at.result (omega (arith, c.loop-index-test.true, c.len-index-end.ensures)) c.at.ensures.value whole (c.args.k ∷ []) c.loop-index.now c.loop-index.invariant c.in-On.k on

pub each-returns-clause-ok : goal.each-returns-clause-ok
each-returns-clause-ok t c =
    let none : drop c.loop-index.index c.copy-selection.result ≡ [] = drop_all c.loop-index.index c.copy-selection.result (omega (arith, c.loop-index-test.false, c.len-index-end.ensures)) in
    let whole = AtEach (command_tree c.args.step.now.command) c.args.count c.args.step.now.place c.args.k.state.selection in
    let same = does_each c.args.step.now.command (conditional_each c.args.step.now.command c.requires.conditional) c.args.count c.args.step.now.place c.args.k in
    Comes-same c.args.k whole (does_course (command_tree c.args.step.now.command) c.args.count c.args.step.now.place) (turns.On c.loop-index.now) same
    (Follows-end whole (c.args.k ∷ []) c.loop-index.now (subst (λ cs. Follows whole (c.args.k ∷ []) (AtEach (command_tree c.args.step.now.command) c.args.count c.args.step.now.place cs) c.loop-index.now) none c.loop-index.invariant))

pub one-returns-in-TryEach-clause-err : goal.one-returns-in-TryEach-clause-err
one-returns-in-TryEach-clause-err t c = subst (λ (m : Command). IfErr c.try_each.result (λ h. Halts (At (command_tree m) c.args.count c.args.step.now.place c.args.component) (c.args.k ∷ []) h)) (sym c.in-TryEach.is) c.try_each.ensures.err

pub one-returns-in-Run-clause-err : goal.one-returns-in-Run-clause-err
one-returns-in-Run-clause-err t c = subst (λ (m : Command). IfErr c.run.result (λ h. Halts (At (command_tree m) c.args.count c.args.step.now.place c.args.component) (c.args.k ∷ []) h)) (sym c.in-Run.is) c.run.ensures.err

pub run-returns-in_err-done-clause-err : goal.run-returns-in_err-done-clause-err
run-returns-in_err-done-clause-err t c =
    let p = err_from_is_err_and c.from_residual-in_err-done.result c.from_residual-in_err-done.ensures.1 in
    rw (p.1, p.2) (Halts-run (RunsAll c.args.inner.now c.args.count) c.in_ok-outer.outer c.args.component c.args.k c.enter.result (c.enter.result ∷ []) c.in_ok-outer.ensures c.enter.ensures refl c.in_err-done.field-0.0 c.in_err-done.ensures.err)

pub run-returns-in-On-clause-ok : goal.run-returns-in-On-clause-ok
run-returns-in-On-clause-ok t c =
    let body = RunsAll c.args.inner.now c.args.count in
    let done = subst (λ (u : Turn). Comes body (c.enter.result ∷ []) u) c.in-On.is c.in_ok-done.ensures.ok in
    Run-done body c.args.component c.in_ok-outer.outer c.args.k c.enter.result c.in_ok-outer.ensures c.enter.ensures c.in-On.done c.left.result done c.left.ensures

pub run-returns-clause-ok : goal.run-returns-clause-ok
run-returns-clause-ok t c =
    let body = RunsAll c.args.inner.now c.args.count in
    let over = subst (λ (u : Turn). Comes body (c.enter.result ∷ []) u) c.in-Over.is c.in_ok-done.ensures.ok in
    Run-after body c.args.component c.in_ok-outer.outer c.args.k c.enter.result c.in_ok-outer.ensures c.enter.ensures c.in-Over.stop c.in_ok-after_failure-in-Over.field-0 over c.in_ok-after_failure-in-Over.ensures

pub try_around-returns-in_default-clause-ok : goal.try_around-returns-in_default-clause-ok
try_around-returns-in_default-clause-ok t c =
    let whole = TriesIn c.args.branches.now c.args.count c.args.site.place c.args.site.component in
    Follows-end whole (c.args.k ∷ []) c.loop-branch.now
    (subst (λ (r : Course). Follows whole (c.args.k ∷ []) r c.loop-branch.now) (at_none c.as_slice-all.result.now c.loop-branch.branch-index c.args.count c.args.site.place c.args.site.component c.branch-item.result c.loop-branch-test.true (sym c.branch-item.is ∙ is_none c.branch-item.result c.in_default.not-Some)) c.loop-branch.invariant.follows)

pub try_around-sequence-requires : goal.try_around-sequence-requires
try_around-sequence-requires t c =
    let e : sequence_size c.in-Some.inner + 1 ≤ branches_size (branches_tree c.as_slice-all.result.now) = branch_smaller c.as_slice-all.result.now c.loop-branch.branch-index c.branch-item.result c.in-Some.inner c.loop-branch-test.true (sym c.branch-item.is ∙ c.in-Some.is) in
    let w : branches_size (branches_tree c.as_slice-all.result.now) ≡ branches_size c.args.branches.now = ap branches_size c.loop-branch.invariant.whole in
    let small : IsSmallSequence c.args.count c.in-Some.inner = (small_branch c.args.count c.as_slice-all.result.now c.loop-branch.branch-index c.branch-item.result c.in-Some.inner c.loop-branch-test.true (sym c.branch-item.is ∙ c.in-Some.is) c.loop-branch.invariant.small).0 in
    (omega (arith, e, w, c.decreases), small)

pub try_around-returns-in_err-done-clause-err : goal.try_around-returns-in_err-done-clause-err
try_around-returns-in_err-done-clause-err t c =
    let p = err_from_is_err_and c.from_residual-in_err-done.result c.from_residual-in_err-done.ensures.1 in
    let whole = TriesIn c.args.branches.now c.args.count c.args.site.place c.args.site.component in
    let body = RunsAll c.in-Some.inner c.args.count in
    let others = TriesIn (branches_tree (drop (c.loop-branch.branch-index + 1) c.as_slice-all.result.now)) c.args.count c.args.site.place in
    let follows = subst (λ (r : Course). Follows whole (c.args.k ∷ []) r c.loop-branch.now) (at_some c.as_slice-all.result.now c.loop-branch.branch-index c.args.count c.args.site.place c.args.site.component c.branch-item.result c.in-Some.inner c.loop-branch-test.true (sym c.branch-item.is ∙ c.in-Some.is)) c.loop-branch.invariant.follows in
    rw (p.1, p.2) (Branch-halts whole body others c.args.site.component c.args.outer.now (c.args.k ∷ []) c.loop-branch.now c.in_ok-inside.inside c.loop-branch.invariant.at c.in_ok-inside.ensures follows c.in_err-done.field-0.0 c.in_err-done.ensures.err)

pub try_around-returns-in-On-clause-ok : goal.try_around-returns-in-On-clause-ok
try_around-returns-in-On-clause-ok t c =
    let whole = TriesIn c.args.branches.now c.args.count c.args.site.place c.args.site.component in
    let body = RunsAll c.in-Some.inner c.args.count in
    let others = TriesIn (branches_tree (drop (c.loop-branch.branch-index + 1) c.as_slice-all.result.now)) c.args.count c.args.site.place in
    let follows = subst (λ (r : Course). Follows whole (c.args.k ∷ []) r c.loop-branch.now) (at_some c.as_slice-all.result.now c.loop-branch.branch-index c.args.count c.args.site.place c.args.site.component c.branch-item.result c.in-Some.inner c.loop-branch-test.true (sym c.branch-item.is ∙ c.in-Some.is)) c.loop-branch.invariant.follows in
    let done = subst (λ (u : Turn). Comes body (c.in_ok-inside.inside ∷ []) u) c.in-On.is c.in_ok-done.ensures.ok in
    Branch-done whole body others c.args.site.component c.args.outer.now (c.args.k ∷ []) c.loop-branch.now c.in_ok-inside.inside c.loop-branch.invariant.at c.in_ok-inside.ensures follows c.in-On.done c.left.result done c.left.ensures

pub try_around-returns-in-Over-2-clause-ok : goal.try_around-returns-in-Over-2-clause-ok
try_around-returns-in-Over-2-clause-ok t c =
    let whole = TriesIn c.args.branches.now c.args.count c.args.site.place c.args.site.component in
    let body = RunsAll c.in-Some.inner c.args.count in
    let others = TriesIn (branches_tree (drop (c.loop-branch.branch-index + 1) c.as_slice-all.result.now)) c.args.count c.args.site.place in
    let follows = subst (λ (r : Course). Follows whole (c.args.k ∷ []) r c.loop-branch.now) (at_some c.as_slice-all.result.now c.loop-branch.branch-index c.args.count c.args.site.place c.args.site.component c.branch-item.result c.in-Some.inner c.loop-branch-test.true (sym c.branch-item.is ∙ c.in-Some.is)) c.loop-branch.invariant.follows in
    let over = subst (λ (u : Turn). Comes body (c.in_ok-inside.inside ∷ []) u) c.in-Over.is c.in_ok-done.ensures.ok in
    Branch-over whole body others c.args.site.component c.args.outer.now (c.args.k ∷ []) c.loop-branch.now c.in_ok-inside.inside c.loop-branch.invariant.at c.in_ok-inside.ensures follows c.in-Over.stop c.in-Over-2.stop over
    (subst (λ (u : Turn). IsAfter c.args.outer.now c.in-Over.stop u) c.in-Over-2.is c.in_ok-k.ensures)

pub try_around-loop-branch-preserved : goal.try_around-loop-branch-preserved
try_around-loop-branch-preserved t c =
    let whole = TriesIn c.args.branches.now c.args.count c.args.site.place c.args.site.component in
    let body = RunsAll c.in-Some.inner c.args.count in
    let others = TriesIn (branches_tree (drop (c.loop-branch.branch-index + 1) c.as_slice-all.result.now)) c.args.count c.args.site.place in
    let follows = subst (λ (r : Course). Follows whole (c.args.k ∷ []) r c.loop-branch.now) (at_some c.as_slice-all.result.now c.loop-branch.branch-index c.args.count c.args.site.place c.args.site.component c.branch-item.result c.in-Some.inner c.loop-branch-test.true (sym c.branch-item.is ∙ c.in-Some.is)) c.loop-branch.invariant.follows in
    let over = subst (λ (u : Turn). Comes body (c.in_ok-inside.inside ∷ []) u) c.in-Over.is c.in_ok-done.ensures.ok in
    let after = subst (λ (u : Turn). IsAfter c.args.outer.now c.in-Over.stop u) c.in-On-2.is c.in_ok-k.ensures in
    record {
      whole = c.loop-branch.invariant.whole;
      small = (small_branch c.args.count c.as_slice-all.result.now c.loop-branch.branch-index c.branch-item.result c.in-Some.inner c.loop-branch-test.true (sym c.branch-item.is ∙ c.in-Some.is) c.loop-branch.invariant.small).1;
      at = sym (ap (λ (x : Kept). x.state) after.1);
      follows = Branch-on whole body others c.args.site.component c.args.outer.now (c.args.k ∷ []) c.loop-branch.now c.in_ok-inside.inside c.loop-branch.invariant.at c.in_ok-inside.ensures follows c.in-Over.stop c.in-On-2.k over after;
    }

pub try_around-returns-clause-ok : goal.try_around-returns-clause-ok
try_around-returns-clause-ok t c =
    let none : drop c.loop-branch.branch-index c.as_slice-all.result.now ≡ [] = drop_all c.loop-branch.branch-index c.as_slice-all.result.now c.loop-branch-test.false in
    let whole = TriesIn c.args.branches.now c.args.count c.args.site.place c.args.site.component in
    Fails-exhausted whole (c.args.k ∷ []) c.loop-branch.now c.args.outer.now c.args.site.place c.exhaust_one.result c.loop-branch.invariant.at
    (subst (λ bs. Follows whole (c.args.k ∷ []) (TriesIn (branches_tree bs) c.args.count c.args.site.place c.args.site.component) c.loop-branch.now) none c.loop-branch.invariant.follows) c.exhaust_one.ensures
