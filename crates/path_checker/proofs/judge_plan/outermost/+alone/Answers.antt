use Rattle.std.proofs.Common.{rules, ◌≡◌, ℕ, ◌<◌, ◌≤◌, ◌+◌, ◌*◌, ◌-◌, [], ◌∷◌, List, Option, Some, None, length, get_or, take, drop, refl, sym, ap, ◌∙◌, subst, arith, length-drop, take_all}
use Rattle.std.proofs.lemmas.List.{drop_all}
use Rattle.std.proofs.lemmas.Result.{err_from_is_err_and, on_ok_weaker, IfErr-weaker}
use Rattle.std.specs.Prelude.{OnOk, IfErr, IfSome}
use Rattle.std.specs.Vec.{vec_len}
use Rattle.suit_commands.specs.declared.command.Step.{Step}
use Rattle.suit_commands.specs.Tree.{SequenceTree, TryEach}
use Rattle.suit_commands.specs.View.{sequence_tree, command_tree}
use Rattle.path_checker.specs.Exploring.{Kept}
use Rattle.path_checker.specs.Going.{GoesOn, GoesLast}
use Rattle.path_checker.specs.Halting.{Halts}
use Rattle.path_checker.specs.Invoking.{Covers}
use Rattle.path_checker.specs.RestViews.{tried_branches, all_of}
use Rattle.path_checker.specs.Rests.{Later, OfPart, OfSteps, OfTries, OfLeave, RunsRest, RunsThen, TriesAt, TriesThen, IsSmallRest, AreFew}
use Rattle.path_checker.specs.Small.{IsSmallSequence, IsSmallCommand}
use Rattle.path_checker.proofs.Besides.{GoesLast-halts, GoesLast-ends, small_last}
use Rattle.path_checker.proofs.DirectiveLeaves.{never_true}
use Rattle.path_checker.proofs.Going.{GoesOn-start, GoesOn-halts, GoesOn-step, GoesOn-stops, GoesOn-end, GoesOn-popped, GoesOn-halted, GoesOn-covers, Covers-none, Covers-end}
use Rattle.path_checker.proofs.Popping.{none_left, not_empty}
use Rattle.path_checker.proofs.Smallness.{small_step, small_after, drop_next}
use Rattle.path_checker.proofs.Trying.{GoesOn-part, GoesOn-steps, GoesOn-leave, GoesOn-tries, GoesOn-each, GoesOn-first, GoesOn-at_none, few_popped}
use Rattle.path_checker.proofs.Weights.{weight, once_weight, rest_weight, branches_weight, step_weight, weight_after, last_weight, few_components, tries_weight}
use Rattle.path_checker.proofs.judge_plan.outermost.+alone.Goals as goal

-- what is left of a list from an index on
same_rest : (steps : List Step) (n : ℕ) → take (length steps - n) (drop n steps) ≡ drop n steps
same_rest steps n = take_all (length steps - n) (drop n steps) (omega (arith, length-drop n steps))

pub commands-loop-at-init : goal.commands-loop-at-init
commands-loop-at-init t c = record {
  small = c.requires.small;
  goes = GoesOn-start (RunsThen (sequence_tree c.args.steps.now) c.args.rest.now c.args.count) c.args.from.items;
}

pub commands-outermost-requires : goal.commands-outermost-requires
commands-outermost-requires t c = record { small = subst (λ (s : Step). IsSmallCommand c.args.count (command_tree s.command)) (sym c.index-steps-at-in-loop-at.is) (small_step c.args.count c.args.steps.now c.loop-at.at c.index-steps-at-in-loop-at.result c.loop-at-test.true c.loop-at.invariant.small).0 }

pub commands-returns-in_err-now-clause-err : goal.commands-returns-in_err-now-clause-err
commands-returns-in_err-now-clause-err t c =
    let p = err_from_is_err_and c.from_residual-in_err-now.result c.from_residual-in_err-now.ensures.1 in
    rw (p.1, p.2) (GoesOn-stops c.args.steps.now c.loop-at.at c.args.count c.index-steps-at-in-loop-at.result c.loop-at-test.true c.index-steps-at-in-loop-at.is (RunsRest c.args.rest.now c.args.count) (RunsThen (sequence_tree c.args.steps.now) c.args.rest.now c.args.count) c.args.from.items c.loop-at.now.items c.loop-at.invariant.goes c.in_err-now.field-0.0 c.in_err-now.ensures.err)

pub commands-loop-at-preserved : goal.commands-loop-at-preserved
commands-loop-at-preserved t c = record {
  small = (small_step c.args.count c.args.steps.now c.loop-at.at c.index-steps-at-in-loop-at.result c.loop-at-test.true c.loop-at.invariant.small).1;
  goes = GoesOn-step c.args.steps.now c.loop-at.at c.args.count c.index-steps-at-in-loop-at.result c.loop-at-test.true c.index-steps-at-in-loop-at.is (RunsRest c.args.rest.now c.args.count) (RunsThen (sequence_tree c.args.steps.now) c.args.rest.now c.args.count) c.args.from.items c.loop-at.now.items c.loop-at.invariant.goes c.in_ok-now.now.items c.in_ok-now.ensures.ok;
}

-- a command, and those behind it, weigh no more than all
next_weight : (steps : List Step) (i : ℕ) (d : Step) → i < length steps → weight (sequence_tree (drop (i + 1) steps)) + 4 + 22 * once_weight (command_tree (get_or steps i d).command) ≤ weight (sequence_tree steps)
next_weight steps i d lt = omega (arith, step_weight steps i d lt, weight_after steps i)

pub commands-each_alone-requires : goal.commands-each_alone-requires
commands-each_alone-requires t c =
    let same = same_rest c.args.steps.now (c.loop-at.at + 1) in (
      omega (arith, c.decreases, next_weight c.args.steps.now c.loop-at.at c.index-steps-at-in-loop-at.result c.loop-at-test.true, ap (λ (s : List Step). weight (sequence_tree s)) same),
      (subst (λ (s : List Step). IsSmallSequence c.args.count (sequence_tree s)) (sym same) (small_step c.args.count c.args.steps.now c.loop-at.at c.index-steps-at-in-loop-at.result c.loop-at-test.true c.loop-at.invariant.small).1, c.requires.rest),
    )

pub commands-returns-then-go_alone-clause-ok : goal.commands-returns-then-go_alone-clause-ok
commands-returns-then-go_alone-clause-ok t c =
    let goes = GoesOn-step c.args.steps.now c.loop-at.at c.args.count c.index-steps-at-in-loop-at.result c.loop-at-test.true c.index-steps-at-in-loop-at.is (RunsRest c.args.rest.now c.args.count) (RunsThen (sequence_tree c.args.steps.now) c.args.rest.now c.args.count) c.args.from.items c.loop-at.now.items c.loop-at.invariant.goes c.in_ok-now.now.items c.in_ok-now.ensures.ok in
    on_ok_weaker c.each_alone.result goes.covers
    (subst (λ (s : List Step). OnOk c.each_alone.result (Covers (RunsThen (sequence_tree s) c.args.rest.now c.args.count) c.in_ok-now.now.items)) (same_rest c.args.steps.now (c.loop-at.at + 1)) c.each_alone.ensures.ok)

pub commands-returns-then-go_alone-clause-err : goal.commands-returns-then-go_alone-clause-err
commands-returns-then-go_alone-clause-err t c =
    let goes = GoesOn-step c.args.steps.now c.loop-at.at c.args.count c.index-steps-at-in-loop-at.result c.loop-at-test.true c.index-steps-at-in-loop-at.is (RunsRest c.args.rest.now c.args.count) (RunsThen (sequence_tree c.args.steps.now) c.args.rest.now c.args.count) c.args.from.items c.loop-at.now.items c.loop-at.invariant.goes c.in_ok-now.now.items c.in_ok-now.ensures.ok in
    let rest = RunsThen (sequence_tree (drop (c.loop-at.at + 1) c.args.steps.now)) c.args.rest.now c.args.count in
    IfErr-weaker c.each_alone.result (λ h. Halts rest c.in_ok-now.now.items h) (λ h. Halts (RunsThen (sequence_tree c.args.steps.now) c.args.rest.now c.args.count) c.args.from.items h)
    (λ h u. GoesOn-halts (RunsThen (sequence_tree c.args.steps.now) c.args.rest.now c.args.count) rest c.args.from.items c.in_ok-now.now.items goes h u)
    (subst (λ (s : List Step). IfErr c.each_alone.result (λ h. Halts (RunsThen (sequence_tree s) c.args.rest.now c.args.count) c.in_ok-now.now.items h)) (same_rest c.args.steps.now (c.loop-at.at + 1)) c.each_alone.ensures.err)

pub commands-returns-clause-ok : goal.commands-returns-clause-ok
commands-returns-clause-ok t c =
    let goes = GoesOn-end c.args.steps.now c.loop-at.at c.args.count (RunsRest c.args.rest.now c.args.count) (RunsThen (sequence_tree c.args.steps.now) c.args.rest.now c.args.count) c.args.from.items c.loop-at.now.items (drop_all c.loop-at.at c.args.steps.now c.loop-at-test.false) c.loop-at.invariant.goes in
    on_ok_weaker c.follow.result goes.covers c.follow.ensures.ok

pub commands-returns-clause-err : goal.commands-returns-clause-err
commands-returns-clause-err t c =
    let goes = GoesOn-end c.args.steps.now c.loop-at.at c.args.count (RunsRest c.args.rest.now c.args.count) (RunsThen (sequence_tree c.args.steps.now) c.args.rest.now c.args.count) c.args.from.items c.loop-at.now.items (drop_all c.loop-at.at c.args.steps.now c.loop-at-test.false) c.loop-at.invariant.goes in
    IfErr-weaker c.follow.result (λ h. Halts (RunsRest c.args.rest.now c.args.count) c.loop-at.now.items h) (λ h. Halts (RunsThen (sequence_tree c.args.steps.now) c.args.rest.now c.args.count) c.args.from.items h)
    (λ h u. GoesOn-halts (RunsThen (sequence_tree c.args.steps.now) c.args.rest.now c.args.count) (RunsRest c.args.rest.now c.args.count) c.args.from.items c.loop-at.now.items goes h u) c.follow.ensures.err

pub commands-returns-then-is_empty-clause-ok : goal.commands-returns-then-is_empty-clause-ok
commands-returns-then-is_empty-clause-ok t c =
    let none : c.loop-at.now.items ≡ [] = none_left c.loop-at.now.items (λ lt. let l : 0 < vec_len c.loop-at.now = search rules in not_empty (vec_len c.loop-at.now) c.is_empty.result c.is_empty.ensures c.if-is_empty.true l) in
    c.loop-at.invariant.goes.covers (subst (Covers (RunsThen (sequence_tree (drop c.loop-at.at c.args.steps.now)) c.args.rest.now c.args.count)) (sym none) (Covers-none _))

pub commands-each_tried-requires : goal.commands-each_tried-requires
commands-each_tried-requires t c =
    let same = same_rest c.args.steps.now (c.loop-at.at + 1) in
    let steps = small_step c.args.count c.args.steps.now c.loop-at.at c.index-steps-at.result c.loop-at-test.true c.loop-at.invariant.small in
    let behind : c.in_ok-behind.behind.now ≡ OfSteps (sequence_tree (drop (c.loop-at.at + 1) c.args.steps.now)) ∷ c.args.rest.now = c.in_ok-behind.ensures ∙ ap (λ (ss : List Step). OfSteps (sequence_tree ss) ∷ c.args.rest.now) same in
    let is : command_tree (get_or c.args.steps.now c.loop-at.at c.index-steps-at.result).command ≡ TryEach (tried_branches c.in-Some.tried) = ap (λ (s : Step). command_tree s.command) (sym c.index-steps-at.is) ∙ c.in-Some.ensures.is in
    let once : once_weight (command_tree (get_or c.args.steps.now c.loop-at.at c.index-steps-at.result).command) ≡ 4 + branches_weight (tried_branches c.in-Some.tried) = ap once_weight is in (
      omega (arith, c.decreases, next_weight c.args.steps.now c.loop-at.at c.index-steps-at.result c.loop-at-test.true, ap rest_weight behind, once),
      (subst AreFew c.deref.ensures.value c.in-Some.ensures.few, (subst (IsSmallCommand c.args.count) is steps.0, subst (IsSmallRest c.args.count) (sym behind) (steps.1, c.requires.rest))),
    )

pub commands-returns-in-Some-clause-ok : goal.commands-returns-in-Some-clause-ok
commands-returns-in-Some-clause-ok t c =
    let same = same_rest c.args.steps.now (c.loop-at.at + 1) in
    let behind : c.in_ok-behind.behind.now ≡ OfSteps (sequence_tree (drop (c.loop-at.at + 1) c.args.steps.now)) ∷ c.args.rest.now = c.in_ok-behind.ensures ∙ ap (λ (ss : List Step). OfSteps (sequence_tree ss) ∷ c.args.rest.now) same in
    let goes = GoesOn-tries c.args.steps.now c.loop-at.at c.args.count c.index-steps-at.result c.loop-at-test.true c.index-steps-at.is c.args.rest.now (RunsThen (sequence_tree c.args.steps.now) c.args.rest.now c.args.count) c.args.from.items c.loop-at.now.items c.loop-at.invariant.goes (tried_branches c.in-Some.tried) c.in-Some.tried.place c.in-Some.ensures.is c.in-Some.ensures.place in
    on_ok_weaker c.each_tried.result goes.covers
    (subst (λ (r : List Later). OnOk c.each_tried.result (Covers (TriesThen (tried_branches c.in-Some.tried) c.in-Some.tried.place r c.args.count) c.loop-at.now.items)) behind c.each_tried.ensures.ok)

pub commands-returns-in-Some-clause-err : goal.commands-returns-in-Some-clause-err
commands-returns-in-Some-clause-err t c =
    let same = same_rest c.args.steps.now (c.loop-at.at + 1) in
    let behind : c.in_ok-behind.behind.now ≡ OfSteps (sequence_tree (drop (c.loop-at.at + 1) c.args.steps.now)) ∷ c.args.rest.now = c.in_ok-behind.ensures ∙ ap (λ (ss : List Step). OfSteps (sequence_tree ss) ∷ c.args.rest.now) same in
    let goes = GoesOn-tries c.args.steps.now c.loop-at.at c.args.count c.index-steps-at.result c.loop-at-test.true c.index-steps-at.is c.args.rest.now (RunsThen (sequence_tree c.args.steps.now) c.args.rest.now c.args.count) c.args.from.items c.loop-at.now.items c.loop-at.invariant.goes (tried_branches c.in-Some.tried) c.in-Some.tried.place c.in-Some.ensures.is c.in-Some.ensures.place in
    let tries = TriesThen (tried_branches c.in-Some.tried) c.in-Some.tried.place (OfSteps (sequence_tree (drop (c.loop-at.at + 1) c.args.steps.now)) ∷ c.args.rest.now) c.args.count in
    IfErr-weaker c.each_tried.result (λ h. Halts tries c.loop-at.now.items h) (λ h. Halts (RunsThen (sequence_tree c.args.steps.now) c.args.rest.now c.args.count) c.args.from.items h)
    (λ h u. GoesOn-halts (RunsThen (sequence_tree c.args.steps.now) c.args.rest.now c.args.count) tries c.args.from.items c.loop-at.now.items goes h u)
    (subst (λ (r : List Later). IfErr c.each_tried.result (λ h. Halts (TriesThen (tried_branches c.in-Some.tried) c.in-Some.tried.place r c.args.count) c.loop-at.now.items h)) behind c.each_tried.ensures.err)

pub each_alone-loop-k-init : goal.each_alone-loop-k-init
each_alone-loop-k-init t c = GoesOn-start (RunsThen (sequence_tree c.args.steps.now) c.args.rest.now c.args.count) c.args.from.items

pub each_alone-returns-clause-ok : goal.each_alone-returns-clause-ok
each_alone-returns-clause-ok t c =
    GoesOn-covers (RunsThen (sequence_tree c.args.steps.now) c.args.rest.now c.args.count) c.args.from.items c.loop-k.now.items c.loop-k.invariant
    (none_left c.loop-k.now.items (λ lt. let l : 0 < vec_len c.loop-k.now = search rules in never_true (c.in_default.ensures.variant.1 l)))

pub each_alone-alone-requires : goal.each_alone-alone-requires
each_alone-alone-requires t c = (omega (arith, c.decreases), (c.requires.small, c.requires.rest))

pub each_alone-returns-in_err-alone-clause-err : goal.each_alone-returns-in_err-alone-clause-err
each_alone-returns-in_err-alone-clause-err t c =
    let p = err_from_is_err_and c.from_residual.result c.from_residual.ensures.1 in
    rw (p.1, p.2) (GoesOn-halted (RunsThen (sequence_tree c.args.steps.now) c.args.rest.now c.args.count) c.args.from.items c.loop-k.now.items c.pop.new.self.items c.in-Some.k c.loop-k.invariant c.in-Some.ensures.items c.in_err-alone.field-0.0 c.in_err-alone.ensures.err)

pub each_alone-loop-k-preserved : goal.each_alone-loop-k-preserved
each_alone-loop-k-preserved t c = GoesOn-popped (RunsThen (sequence_tree c.args.steps.now) c.args.rest.now c.args.count) c.args.from.items c.loop-k.now.items c.pop.new.self.items c.in-Some.k c.loop-k.invariant c.in-Some.ensures.items c.in_ok-alone.ensures.ok

-- what stands where there is one, and where there is none
at_some : {A : Type 0} (P : A → Type 0) (o : Option A) (x : A) → o ≡ Some x → IfSome o P → P x
at_some {A} P o x is h = subst (λ (p : Option A). IfSome p P) is h

is_none : {A : Type 0} (o : Option A) → ((x : A) → o ≡ Some x → ⊥) → o ≡ None
is_none None never = refl
is_none (Some x) never = absurd (never x refl)

pub alone-returns-in_err-done-clause-err : goal.alone-returns-in_err-done-clause-err
alone-returns-in_err-done-clause-err t c =
    let p = err_from_is_err_and c.from_residual.result c.from_residual.ensures.1 in
    rw (p.1, p.2) (c.in_err-done.ensures.err c.args.rest.now)

pub alone-returns-in_default-clause-ok : goal.alone-returns-in_default-clause-ok
alone-returns-in_default-clause-ok t c = c.in_ok-done.ensures.ended (is_none c.in_ok-done.done c.in_default.not-Some) c.args.rest.now

pub alone-follow_alone-requires : goal.alone-follow_alone-requires
alone-follow_alone-requires t c = (omega (arith, c.decreases), c.requires.rest)

-- the commands that are left, in the state after the others
alone_goes : (steps : List Step) (at count : ℕ) (rest : List Later) (from k : Kept) (done : Option ℕ) → done ≡ Some at
    → IfSome done (λ (n : ℕ). (r : List Later) → GoesOn (RunsThen (sequence_tree steps) r count) (from ∷ []) (RunsThen (sequence_tree (drop n steps)) r count) (k ∷ []))
    → GoesOn (RunsThen (sequence_tree steps) rest count) (from ∷ []) (RunsThen (sequence_tree (drop at steps)) rest count) (k ∷ [])
alone_goes steps at count rest from k done is on =
    at_some (λ (n : ℕ). (r : List Later) → GoesOn (RunsThen (sequence_tree steps) r count) (from ∷ []) (RunsThen (sequence_tree (drop n steps)) r count) (k ∷ [])) done at is on rest

pub alone-returns-then-at-steps-clause-ok : goal.alone-returns-then-at-steps-clause-ok
alone-returns-then-at-steps-clause-ok t c =
    let on = alone_goes c.args.steps.now c.in-Some.at c.args.count c.args.rest.now c.args.from c.straight_steps.new.k c.in_ok-done.done c.in-Some.is c.in_ok-done.ensures.on in
    let goes = GoesOn-end c.args.steps.now c.in-Some.at c.args.count (RunsRest c.args.rest.now c.args.count) (RunsThen (sequence_tree c.args.steps.now) c.args.rest.now c.args.count) (c.args.from ∷ []) (c.straight_steps.new.k ∷ []) (drop_all c.in-Some.at c.args.steps.now (omega (arith, c.if-at-steps.true))) on in
    on_ok_weaker c.follow_alone.result goes.covers c.follow_alone.ensures.ok

pub alone-returns-then-at-steps-clause-err : goal.alone-returns-then-at-steps-clause-err
alone-returns-then-at-steps-clause-err t c =
    let on = alone_goes c.args.steps.now c.in-Some.at c.args.count c.args.rest.now c.args.from c.straight_steps.new.k c.in_ok-done.done c.in-Some.is c.in_ok-done.ensures.on in
    let goes = GoesOn-end c.args.steps.now c.in-Some.at c.args.count (RunsRest c.args.rest.now c.args.count) (RunsThen (sequence_tree c.args.steps.now) c.args.rest.now c.args.count) (c.args.from ∷ []) (c.straight_steps.new.k ∷ []) (drop_all c.in-Some.at c.args.steps.now (omega (arith, c.if-at-steps.true))) on in
    IfErr-weaker c.follow_alone.result (λ h. Halts (RunsRest c.args.rest.now c.args.count) (c.straight_steps.new.k ∷ []) h) (λ h. Halts (RunsThen (sequence_tree c.args.steps.now) c.args.rest.now c.args.count) (c.args.from ∷ []) h)
    (λ h u. GoesOn-halts (RunsThen (sequence_tree c.args.steps.now) c.args.rest.now c.args.count) (RunsRest c.args.rest.now c.args.count) (c.args.from ∷ []) (c.straight_steps.new.k ∷ []) goes h u) c.follow_alone.ensures.err

pub alone-commands-requires : goal.alone-commands-requires
alone-commands-requires t c =
    let same = same_rest c.args.steps.now c.in-Some.at in (
      omega (arith, c.decreases, weight_after c.args.steps.now c.in-Some.at, ap (λ (s : List Step). weight (sequence_tree s)) same),
      (subst (λ (s : List Step). IsSmallSequence c.args.count (sequence_tree s)) (sym same) (small_after c.args.count c.args.steps.now c.in-Some.at c.requires.small), c.requires.rest),
    )

pub alone-returns-clause-ok : goal.alone-returns-clause-ok
alone-returns-clause-ok t c =
    let on = alone_goes c.args.steps.now c.in-Some.at c.args.count c.args.rest.now c.args.from c.straight_steps.new.k c.in_ok-done.done c.in-Some.is c.in_ok-done.ensures.on in
    let rest = RunsThen (sequence_tree (drop c.in-Some.at c.args.steps.now)) c.args.rest.now c.args.count in
    on_ok_weaker c.commands.result on.covers
    (subst (λ (ks : List Kept). OnOk c.commands.result (Covers rest ks)) c.in_ok-one.ensures (subst (λ (s : List Step). OnOk c.commands.result (Covers (RunsThen (sequence_tree s) c.args.rest.now c.args.count) c.in_ok-one.one.items)) (same_rest c.args.steps.now c.in-Some.at) c.commands.ensures.ok))

pub alone-returns-clause-err : goal.alone-returns-clause-err
alone-returns-clause-err t c =
    let on = alone_goes c.args.steps.now c.in-Some.at c.args.count c.args.rest.now c.args.from c.straight_steps.new.k c.in_ok-done.done c.in-Some.is c.in_ok-done.ensures.on in
    let rest = RunsThen (sequence_tree (drop c.in-Some.at c.args.steps.now)) c.args.rest.now c.args.count in
    IfErr-weaker c.commands.result (λ h. Halts rest (c.straight_steps.new.k ∷ []) h) (λ h. Halts (RunsThen (sequence_tree c.args.steps.now) c.args.rest.now c.args.count) (c.args.from ∷ []) h)
    (λ h u. GoesOn-halts (RunsThen (sequence_tree c.args.steps.now) c.args.rest.now c.args.count) rest (c.args.from ∷ []) (c.straight_steps.new.k ∷ []) on h u)
    (subst (λ (ks : List Kept). IfErr c.commands.result (λ h. Halts rest ks h)) c.in_ok-one.ensures (subst (λ (s : List Step). IfErr c.commands.result (λ h. Halts (RunsThen (sequence_tree s) c.args.rest.now c.args.count) c.in_ok-one.one.items h)) (same_rest c.args.steps.now c.in-Some.at) c.commands.ensures.err))

-- ---- what follows

pub follow-loop-k-init : goal.follow-loop-k-init
follow-loop-k-init t c = GoesOn-start (RunsRest c.args.rest.now c.args.count) c.args.from.items

pub follow-follow_alone-requires : goal.follow-follow_alone-requires
follow-follow_alone-requires t c = (omega (arith, c.decreases), c.requires.small)

pub follow-returns-in_err-follow_alone-clause-err : goal.follow-returns-in_err-follow_alone-clause-err
follow-returns-in_err-follow_alone-clause-err t c =
    let p = err_from_is_err_and c.from_residual.result c.from_residual.ensures.1 in
    rw (p.1, p.2) (GoesOn-halted (RunsRest c.args.rest.now c.args.count) c.args.from.items c.loop-k.now.items c.pop.new.self.items c.in-Some.k c.loop-k.invariant c.in-Some.ensures.items c.in_err-follow_alone.field-0.0 c.in_err-follow_alone.ensures.err)

pub follow-loop-k-preserved : goal.follow-loop-k-preserved
follow-loop-k-preserved t c = GoesOn-popped (RunsRest c.args.rest.now c.args.count) c.args.from.items c.loop-k.now.items c.pop.new.self.items c.in-Some.k c.loop-k.invariant c.in-Some.ensures.items c.in_ok-follow_alone.ensures.ok

pub follow-returns-clause-ok : goal.follow-returns-clause-ok
follow-returns-clause-ok t c =
    GoesOn-covers (RunsRest c.args.rest.now c.args.count) c.args.from.items c.loop-k.now.items c.loop-k.invariant
    (none_left c.loop-k.now.items (λ lt. let l : 0 < vec_len c.loop-k.now = search rules in never_true (c.in_default.ensures.variant.1 l)))

pub follow_alone-returns-in-End-clause-ok : goal.follow_alone-returns-in-End-clause-ok
follow_alone-returns-in-End-clause-ok t c =
    let is : c.args.rest.now ≡ [] = sym c.rest.view_is ∙ ap all_of c.in-End.is in
    subst (λ (r : List Later). Covers (RunsRest r c.args.count) (c.args.from ∷ [])) (sym is) (Covers-end c.args.count (c.args.from ∷ []))

pub follow_alone-alone-requires : goal.follow_alone-alone-requires
follow_alone-alone-requires t c =
    let is : c.args.rest.now ≡ OfPart (sequence_tree c.in-Part.steps.now) ∷ c.in-Part.behind.now = sym c.rest.view_is ∙ ap all_of c.in-Part.is in
    let small = subst (IsSmallRest c.args.count) is c.requires.small in
    (omega (arith, c.decreases, ap rest_weight is), (small.0, small.1))

pub follow_alone-returns-in-Part-clause-ok : goal.follow_alone-returns-in-Part-clause-ok
follow_alone-returns-in-Part-clause-ok t c =
    let is : c.args.rest.now ≡ OfPart (sequence_tree c.in-Part.steps.now) ∷ c.in-Part.behind.now = sym c.rest.view_is ∙ ap all_of c.in-Part.is in
    let goes = GoesOn-part c.args.rest.now c.in-Part.behind.now c.args.count c.args.from (sequence_tree c.in-Part.steps.now) c.restart.result is c.restart.ensures in
    on_ok_weaker c.alone.result goes.covers c.alone.ensures.ok

pub follow_alone-returns-in-Part-clause-err : goal.follow_alone-returns-in-Part-clause-err
follow_alone-returns-in-Part-clause-err t c =
    let is : c.args.rest.now ≡ OfPart (sequence_tree c.in-Part.steps.now) ∷ c.in-Part.behind.now = sym c.rest.view_is ∙ ap all_of c.in-Part.is in
    let goes = GoesOn-part c.args.rest.now c.in-Part.behind.now c.args.count c.args.from (sequence_tree c.in-Part.steps.now) c.restart.result is c.restart.ensures in
    let then = RunsThen (sequence_tree c.in-Part.steps.now) c.in-Part.behind.now c.args.count in
    IfErr-weaker c.alone.result (λ h. Halts then (c.restart.result ∷ []) h) (λ h. Halts (RunsRest c.args.rest.now c.args.count) (c.args.from ∷ []) h) (λ h u. GoesOn-halts (RunsRest c.args.rest.now c.args.count) then (c.args.from ∷ []) (c.restart.result ∷ []) goes h u) c.alone.ensures.err

pub follow_alone-alone-requires-in-Steps : goal.follow_alone-alone-requires-in-Steps
follow_alone-alone-requires-in-Steps t c =
    let is : c.args.rest.now ≡ OfSteps (sequence_tree c.in-Steps.steps.now) ∷ c.in-Steps.behind.now = sym c.rest.view_is ∙ ap all_of c.in-Steps.is in
    let small = subst (IsSmallRest c.args.count) is c.requires.small in
    (omega (arith, c.decreases, ap rest_weight is), (small.0, small.1))

pub follow_alone-returns-in-Steps-clause-ok : goal.follow_alone-returns-in-Steps-clause-ok
follow_alone-returns-in-Steps-clause-ok t c =
    let is : c.args.rest.now ≡ OfSteps (sequence_tree c.in-Steps.steps.now) ∷ c.in-Steps.behind.now = sym c.rest.view_is ∙ ap all_of c.in-Steps.is in
    let goes = GoesOn-steps c.args.rest.now c.in-Steps.behind.now c.args.count c.args.from (sequence_tree c.in-Steps.steps.now) is in
    on_ok_weaker c.alone-in-Steps.result goes.covers c.alone-in-Steps.ensures.ok

pub follow_alone-returns-in-Steps-clause-err : goal.follow_alone-returns-in-Steps-clause-err
follow_alone-returns-in-Steps-clause-err t c =
    let is : c.args.rest.now ≡ OfSteps (sequence_tree c.in-Steps.steps.now) ∷ c.in-Steps.behind.now = sym c.rest.view_is ∙ ap all_of c.in-Steps.is in
    let goes = GoesOn-steps c.args.rest.now c.in-Steps.behind.now c.args.count c.args.from (sequence_tree c.in-Steps.steps.now) is in
    let then = RunsThen (sequence_tree c.in-Steps.steps.now) c.in-Steps.behind.now c.args.count in
    IfErr-weaker c.alone-in-Steps.result (λ h. Halts then (c.args.from ∷ []) h) (λ h. Halts (RunsRest c.args.rest.now c.args.count) (c.args.from ∷ []) h) (λ h u. GoesOn-halts (RunsRest c.args.rest.now c.args.count) then (c.args.from ∷ []) (c.args.from ∷ []) goes h u) c.alone-in-Steps.ensures.err

pub follow_alone-tries-requires : goal.follow_alone-tries-requires
follow_alone-tries-requires t c =
    let is : c.args.rest.now ≡ OfTries (tried_branches c.in-Tries.tried) c.in-Tries.tried.place (drop c.in-Tries.at c.in-Tries.selection) ∷ c.in-Tries.behind.now = sym c.rest.view_is ∙ ap all_of c.in-Tries.is in
    let small = subst (IsSmallRest c.args.count) is c.requires.small in
    (omega (arith, c.decreases, ap rest_weight is), (small.0, small.1))

pub follow_alone-returns-in-Tries-clause-ok : goal.follow_alone-returns-in-Tries-clause-ok
follow_alone-returns-in-Tries-clause-ok t c =
    let is : c.args.rest.now ≡ OfTries (tried_branches c.in-Tries.tried) c.in-Tries.tried.place (drop c.in-Tries.at c.in-Tries.selection) ∷ c.in-Tries.behind.now = sym c.rest.view_is ∙ ap all_of c.in-Tries.is in
    subst (λ (r : List Later). OnOk c.tries.result (Covers (RunsRest r c.args.count) (c.args.from ∷ []))) (sym is) c.tries.ensures.ok

pub follow_alone-returns-in-Tries-clause-err : goal.follow_alone-returns-in-Tries-clause-err
follow_alone-returns-in-Tries-clause-err t c =
    let is : c.args.rest.now ≡ OfTries (tried_branches c.in-Tries.tried) c.in-Tries.tried.place (drop c.in-Tries.at c.in-Tries.selection) ∷ c.in-Tries.behind.now = sym c.rest.view_is ∙ ap all_of c.in-Tries.is in
    subst (λ (r : List Later). IfErr c.tries.result (λ h. Halts (RunsRest r c.args.count) (c.args.from ∷ []) h)) (sym is) c.tries.ensures.err

pub follow_alone-follow_alone-requires : goal.follow_alone-follow_alone-requires
follow_alone-follow_alone-requires t c =
    let is : c.args.rest.now ≡ OfLeave c.in-Leave.selection c.in-Leave.soft_failure ∷ c.in-Leave.behind.now = sym c.rest.view_is ∙ ap all_of c.in-Leave.is in
    let small = subst (IsSmallRest c.args.count) is c.requires.small in
    (omega (arith, c.decreases, ap rest_weight is), small.1)

pub follow_alone-returns-clause-ok : goal.follow_alone-returns-clause-ok
follow_alone-returns-clause-ok t c =
    let is : c.args.rest.now ≡ OfLeave c.in-Leave.selection c.in-Leave.soft_failure ∷ c.in-Leave.behind.now = sym c.rest.view_is ∙ ap all_of c.in-Leave.is in
    let goes = GoesOn-leave c.args.rest.now c.in-Leave.behind.now c.args.count c.args.from c.in-Leave.selection c.in-Leave.soft_failure c.leave_one-left.result is c.leave_one-left.ensures in
    on_ok_weaker c.follow_alone.result goes.covers c.follow_alone.ensures.ok

pub follow_alone-returns-clause-err : goal.follow_alone-returns-clause-err
follow_alone-returns-clause-err t c =
    let is : c.args.rest.now ≡ OfLeave c.in-Leave.selection c.in-Leave.soft_failure ∷ c.in-Leave.behind.now = sym c.rest.view_is ∙ ap all_of c.in-Leave.is in
    let goes = GoesOn-leave c.args.rest.now c.in-Leave.behind.now c.args.count c.args.from c.in-Leave.selection c.in-Leave.soft_failure c.leave_one-left.result is c.leave_one-left.ensures in
    IfErr-weaker c.follow_alone.result (λ h. Halts (RunsRest c.in-Leave.behind.now c.args.count) (c.leave_one-left.result ∷ []) h) (λ h. Halts (RunsRest c.args.rest.now c.args.count) (c.args.from ∷ []) h) (λ h u. GoesOn-halts (RunsRest c.args.rest.now c.args.count) (RunsRest c.in-Leave.behind.now c.args.count) (c.args.from ∷ []) (c.leave_one-left.result ∷ []) goes h u) c.follow_alone.ensures.err

-- ---- a try each at each selected component

pub each_tried-loop-k-init : goal.each_tried-loop-k-init
each_tried-loop-k-init t c = record { few = c.requires.few; goes = GoesOn-start (TriesThen (tried_branches c.args.tried) c.args.tried.place c.args.behind.now c.args.count) c.args.from.items }

pub each_tried-tries-requires : goal.each_tried-tries-requires
each_tried-tries-requires t c =
    let few = (few_popped c.loop-k.now.items c.pop.new.self.items c.in-Some.k c.in-Some.ensures.items c.loop-k.invariant.few).1.0 in
    let same_selection : c.copy-selection.result ≡ c.in-Some.k.state.selection = c.copy-selection.ensures ∙ ap (λ (k : Kept). k.state.selection) c.k.view_is in
    let le : length c.copy-selection.result ≤ 22 = subst (λ (cs : List ℕ). length cs ≤ 22) (sym same_selection) few in
    (omega (arith, c.decreases, few_components (length c.copy-selection.result) 22 (4 + branches_weight (tried_branches c.args.tried)) le), (c.requires.small, c.requires.behind))

pub each_tried-loop-k-preserved : goal.each_tried-loop-k-preserved
each_tried-loop-k-preserved t c =
    let whole = TriesThen (tried_branches c.args.tried) c.args.tried.place c.args.behind.now c.args.count in
    let same_selection : c.copy-selection.result ≡ c.in-Some.k.state.selection = c.copy-selection.ensures ∙ ap (λ (k : Kept). k.state.selection) c.k.view_is in
    let goes = GoesOn-each (tried_branches c.args.tried) c.args.tried.place c.copy-selection.result c.args.behind.now c.args.count c.in-Some.k same_selection in
    record {
      few = (few_popped c.loop-k.now.items c.pop.new.self.items c.in-Some.k c.in-Some.ensures.items c.loop-k.invariant.few).0;
      goes = GoesOn-popped whole c.args.from.items c.loop-k.now.items c.pop.new.self.items c.in-Some.k c.loop-k.invariant.goes c.in-Some.ensures.items (goes.covers c.in_ok-tries.ensures.ok);
    }

pub each_tried-returns-in_err-tries-clause-err : goal.each_tried-returns-in_err-tries-clause-err
each_tried-returns-in_err-tries-clause-err t c =
    let whole = TriesThen (tried_branches c.args.tried) c.args.tried.place c.args.behind.now c.args.count in
    let same_selection : c.copy-selection.result ≡ c.in-Some.k.state.selection = c.copy-selection.ensures ∙ ap (λ (k : Kept). k.state.selection) c.k.view_is in
    let goes = GoesOn-each (tried_branches c.args.tried) c.args.tried.place c.copy-selection.result c.args.behind.now c.args.count c.in-Some.k same_selection in
    let p = err_from_is_err_and c.from_residual.result c.from_residual.ensures.1 in
    rw (p.1, p.2) (GoesOn-halted whole c.args.from.items c.loop-k.now.items c.pop.new.self.items c.in-Some.k c.loop-k.invariant.goes c.in-Some.ensures.items c.in_err-tries.field-0.0
    (GoesOn-halts whole (RunsRest (OfTries (tried_branches c.args.tried) c.args.tried.place c.copy-selection.result ∷ c.args.behind.now) c.args.count) (c.in-Some.k ∷ []) (c.in-Some.k ∷ []) goes c.in_err-tries.field-0.0 c.in_err-tries.ensures.err))

pub each_tried-returns-clause-ok : goal.each_tried-returns-clause-ok
each_tried-returns-clause-ok t c =
    GoesOn-covers (TriesThen (tried_branches c.args.tried) c.args.tried.place c.args.behind.now c.args.count) c.args.from.items c.loop-k.now.items c.loop-k.invariant.goes
    (none_left c.loop-k.now.items (λ lt. let l : 0 < vec_len c.loop-k.now = search rules in never_true (c.in_default.ensures.variant.1 l)))

-- ---- at one component after another

pub tries-follow_alone-requires : goal.tries-follow_alone-requires
tries-follow_alone-requires t c = (omega (arith, c.decreases), c.requires.behind)

pub tries-returns-then-at-len-clause-ok : goal.tries-returns-then-at-len-clause-ok
tries-returns-then-at-len-clause-ok t c =
    let none = drop_all c.args.at c.args.selection.now (omega (arith, c.if-at-len.true, c.len.ensures)) in
    let goes = GoesOn-at_none (tried_branches c.args.tried) c.args.tried.place (drop c.args.at c.args.selection.now) c.args.behind.now c.args.count c.args.k none in
    on_ok_weaker c.follow_alone.result goes.covers c.follow_alone.ensures.ok

pub tries-returns-then-at-len-clause-err : goal.tries-returns-then-at-len-clause-err
tries-returns-then-at-len-clause-err t c =
    let none = drop_all c.args.at c.args.selection.now (omega (arith, c.if-at-len.true, c.len.ensures)) in
    let goes = GoesOn-at_none (tried_branches c.args.tried) c.args.tried.place (drop c.args.at c.args.selection.now) c.args.behind.now c.args.count c.args.k none in
    let whole = RunsRest (OfTries (tried_branches c.args.tried) c.args.tried.place (drop c.args.at c.args.selection.now) ∷ c.args.behind.now) c.args.count in
    IfErr-weaker c.follow_alone.result (λ h. Halts (RunsRest c.args.behind.now c.args.count) (c.args.k ∷ []) h) (λ h. Halts whole (c.args.k ∷ []) h) (λ h u. GoesOn-halts whole (RunsRest c.args.behind.now c.args.count) (c.args.k ∷ []) (c.args.k ∷ []) goes h u) c.follow_alone.ensures.err

pub tries-tries_at-requires : goal.tries-tries_at-requires
tries-tries_at-requires t c =
    let lt : c.args.at < length c.args.selection.now = omega (arith, c.if-at-len.false, c.len.ensures) in
    let is : drop c.args.at c.args.selection.now ≡ c.at.result ∷ drop (c.args.at + 1) c.args.selection.now = drop_next c.args.selection.now c.args.at c.at.result lt ∙ ap (λ (x : ℕ). x ∷ drop (c.args.at + 1) c.args.selection.now) (sym c.at.ensures.value) in
    let later : c.in_ok-later.later.now ≡ OfTries (tried_branches c.args.tried) c.args.tried.place (drop (c.args.at + 1) c.args.selection.now) ∷ c.args.behind.now =
    c.in_ok-later.ensures ∙ ap (λ (cs : List ℕ). OfTries (tried_branches c.args.tried) c.args.tried.place (drop (c.args.at + 1) cs) ∷ c.args.behind.now) c.copy.ensures
    in (
      omega (arith, c.decreases, tries_weight (tried_branches c.args.tried) c.args.tried.place c.at.result (drop c.args.at c.args.selection.now) (drop (c.args.at + 1) c.args.selection.now) c.args.behind.now c.in_ok-later.later.now is later),
      (c.at.ensures.small, (c.requires.small, subst (IsSmallRest c.args.count) (sym later) (c.requires.small, c.requires.behind))),
    )

pub tries-returns-clause-ok : goal.tries-returns-clause-ok
tries-returns-clause-ok t c =
    let lt : c.args.at < length c.args.selection.now = omega (arith, c.if-at-len.false, c.len.ensures) in
    let is : drop c.args.at c.args.selection.now ≡ c.at.result ∷ drop (c.args.at + 1) c.args.selection.now = drop_next c.args.selection.now c.args.at c.at.result lt ∙ ap (λ (x : ℕ). x ∷ drop (c.args.at + 1) c.args.selection.now) (sym c.at.ensures.value) in
    let later : c.in_ok-later.later.now ≡ OfTries (tried_branches c.args.tried) c.args.tried.place (drop (c.args.at + 1) c.args.selection.now) ∷ c.args.behind.now =
    c.in_ok-later.ensures ∙ ap (λ (cs : List ℕ). OfTries (tried_branches c.args.tried) c.args.tried.place (drop (c.args.at + 1) cs) ∷ c.args.behind.now) c.copy.ensures
    in
    let goes = GoesOn-first (tried_branches c.args.tried) c.args.tried.place (drop c.args.at c.args.selection.now) c.args.behind.now c.args.count c.at.result (drop (c.args.at + 1) c.args.selection.now) c.in_ok-later.later.now (c.args.k ∷ []) is later in
    on_ok_weaker c.tries_at.result goes.covers c.tries_at.ensures.ok

pub tries-returns-clause-err : goal.tries-returns-clause-err
tries-returns-clause-err t c =
    let lt : c.args.at < length c.args.selection.now = omega (arith, c.if-at-len.false, c.len.ensures) in
    let is : drop c.args.at c.args.selection.now ≡ c.at.result ∷ drop (c.args.at + 1) c.args.selection.now = drop_next c.args.selection.now c.args.at c.at.result lt ∙ ap (λ (x : ℕ). x ∷ drop (c.args.at + 1) c.args.selection.now) (sym c.at.ensures.value) in
    let later : c.in_ok-later.later.now ≡ OfTries (tried_branches c.args.tried) c.args.tried.place (drop (c.args.at + 1) c.args.selection.now) ∷ c.args.behind.now =
    c.in_ok-later.ensures ∙ ap (λ (cs : List ℕ). OfTries (tried_branches c.args.tried) c.args.tried.place (drop (c.args.at + 1) cs) ∷ c.args.behind.now) c.copy.ensures
    in
    let goes = GoesOn-first (tried_branches c.args.tried) c.args.tried.place (drop c.args.at c.args.selection.now) c.args.behind.now c.args.count c.at.result (drop (c.args.at + 1) c.args.selection.now) c.in_ok-later.later.now (c.args.k ∷ []) is later in
    let whole = RunsRest (OfTries (tried_branches c.args.tried) c.args.tried.place (drop c.args.at c.args.selection.now) ∷ c.args.behind.now) c.args.count in
    let then = TriesAt (tried_branches c.args.tried) c.args.tried.place c.at.result c.in_ok-later.later.now c.args.count in
    IfErr-weaker c.tries_at.result (λ h. Halts then (c.args.k ∷ []) h) (λ h. Halts whole (c.args.k ∷ []) h) (λ h u. GoesOn-halts whole then (c.args.k ∷ []) (c.args.k ∷ []) goes h u) c.tries_at.ensures.err

-- ---- at one component

pub tries_at-returns-in_err-last-clause-err : goal.tries_at-returns-in_err-last-clause-err
tries_at-returns-in_err-last-clause-err t c =
    let p = err_from_is_err_and c.from_residual-in_err-last.result c.from_residual-in_err-last.ensures.1 in rw (p.1, p.2) (c.in_err-last.ensures.err c.args.behind.now)

pub tries_at-commands-requires : goal.tries_at-commands-requires
tries_at-commands-requires t c = (
  omega (arith, c.decreases, last_weight c.args.tried.before.now c.args.tried.last.now, ap rest_weight c.in_ok-leave.ensures, ap weight c.as_slice.ensures),
  (subst (IsSmallSequence c.args.count) (sym c.as_slice.ensures) (small_last c.args.tried.before.now c.args.tried.last.now c.args.count c.requires.small), subst (IsSmallRest c.args.count) (sym c.in_ok-leave.ensures) (tt, c.requires.behind)),
)

pub tries_at-returns-in_err-commands-clause-err : goal.tries_at-returns-in_err-commands-clause-err
tries_at-returns-in_err-commands-clause-err t c =
    let after = RunsRest c.args.behind.now c.args.count in
    let through = RunsThen c.args.tried.last.now c.in_ok-leave.leave.now c.args.count in
    let goes = subst (λ (r : List Later). GoesLast (TriesAt (tried_branches c.args.tried) c.args.tried.place c.args.component c.args.behind.now c.args.count) (c.args.k ∷ []) (RunsThen c.args.tried.last.now r c.args.count) after c.in_ok-last.last.items c.until_last.new.done.items) (sym c.in_ok-leave.ensures) (c.in_ok-last.ensures.ok c.args.behind.now) in
    let halts = subst (λ (s : SequenceTree). Halts (RunsThen s c.in_ok-leave.leave.now c.args.count) c.in_ok-last.last.items c.in_err-commands.field-0.0) c.as_slice.ensures c.in_err-commands.ensures.err in
    let p = err_from_is_err_and c.from_residual-in_err-commands.result c.from_residual-in_err-commands.ensures.1 in
    rw (p.1, p.2) (GoesLast-halts (TriesAt (tried_branches c.args.tried) c.args.tried.place c.args.component c.args.behind.now c.args.count) through after (c.args.k ∷ []) c.in_ok-last.last.items c.until_last.new.done.items goes c.in_err-commands.field-0.0 halts)

pub tries_at-follow-requires : goal.tries_at-follow-requires
tries_at-follow-requires t c = (omega (arith, c.decreases), c.requires.behind)

pub tries_at-returns-clause-ok : goal.tries_at-returns-clause-ok
tries_at-returns-clause-ok t c =
    let after = RunsRest c.args.behind.now c.args.count in
    let through = RunsThen c.args.tried.last.now c.in_ok-leave.leave.now c.args.count in
    let goes = subst (λ (r : List Later). GoesLast (TriesAt (tried_branches c.args.tried) c.args.tried.place c.args.component c.args.behind.now c.args.count) (c.args.k ∷ []) (RunsThen c.args.tried.last.now r c.args.count) after c.in_ok-last.last.items c.until_last.new.done.items) (sym c.in_ok-leave.ensures) (c.in_ok-last.ensures.ok c.args.behind.now) in
    let covers = subst (λ (s : SequenceTree). Covers (RunsThen s c.in_ok-leave.leave.now c.args.count) c.in_ok-last.last.items) c.as_slice.ensures c.in_ok-commands.ensures.ok in
    on_ok_weaker c.follow.result (goes.covers covers) c.follow.ensures.ok

pub tries_at-returns-clause-err : goal.tries_at-returns-clause-err
tries_at-returns-clause-err t c =
    let after = RunsRest c.args.behind.now c.args.count in
    let through = RunsThen c.args.tried.last.now c.in_ok-leave.leave.now c.args.count in
    let goes = subst (λ (r : List Later). GoesLast (TriesAt (tried_branches c.args.tried) c.args.tried.place c.args.component c.args.behind.now c.args.count) (c.args.k ∷ []) (RunsThen c.args.tried.last.now r c.args.count) after c.in_ok-last.last.items c.until_last.new.done.items) (sym c.in_ok-leave.ensures) (c.in_ok-last.ensures.ok c.args.behind.now) in
    IfErr-weaker c.follow.result (λ h. Halts after c.until_last.new.done.items h) (λ h. Halts (TriesAt (tried_branches c.args.tried) c.args.tried.place c.args.component c.args.behind.now c.args.count) (c.args.k ∷ []) h)
    (λ h u. GoesLast-ends (TriesAt (tried_branches c.args.tried) c.args.tried.place c.args.component c.args.behind.now c.args.count) through after (c.args.k ∷ []) c.in_ok-last.last.items c.until_last.new.done.items goes h u) c.follow.ensures.err
