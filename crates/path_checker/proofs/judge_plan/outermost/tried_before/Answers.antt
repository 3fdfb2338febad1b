use Rattle.std.proofs.Common.{◌≡◌, ◌+◌, List, [], ◌∷◌, ◌++◌, Option, Some, None, drop, refl, sym, ◌∙◌, subst}
use Rattle.std.proofs.lemmas.List.{drop_all}
use Rattle.std.proofs.lemmas.Result.{err_from_is_err_and}
use Rattle.suit_commands.specs.Tree.{SequenceTree}
use Rattle.suit_commands.specs.View.{branches_tree}
use Rattle.path_model.specs.Behaviour.{State}
use Rattle.path_checker.specs.Exploring.{Course}
use Rattle.path_checker.specs.Going.{GoesLast}
use Rattle.path_checker.specs.Inner.{AllAt}
use Rattle.path_checker.specs.RestViews.{tried_branches}
use Rattle.path_checker.specs.Rests.{Later, OfLeave, RunsRest, RunsThen, TriesAt}
use Rattle.path_checker.specs.Steps.{RunsAll, TriesIn}
use Rattle.path_checker.proofs.Besides.{GoesBoth, GoesBoth-start, GoesBoth-branch, GoesBoth-halts, GoesBoth-null, GoesBoth-last, before_some, before_none, small_before}
use Rattle.path_checker.proofs.Branching.{at-one}
use Rattle.path_checker.proofs.judge_plan.outermost.tried_before.Goals as goal

-- what is no sequence is null
none_there : (branch : Option SequenceTree) → ((inner : SequenceTree) → branch ≡ Some inner → ⊥) → branch ≡ None
none_there None never = refl
none_there (Some inner) never = absurd (never inner refl)

pub loop-branch-init : goal.loop-branch-init
loop-branch-init c = record {
  small = c.requires.small;
  at = subst (AllAt c.args.outer.now) (sym c.in_ok-now.ensures) (at-one c.args.k c.args.outer.now c.requires.outer);
  both = λ behind. GoesBoth-start (TriesIn (tried_branches c.args.tried) c.args.count c.args.tried.place c.args.component) (RunsRest behind c.args.count) (c.args.k ∷ []) c.in_ok-now.now.items c.args.done.now.items c.in_ok-now.ensures c.requires.none;
}

pub one_branch-requires : goal.one_branch-requires
one_branch-requires c = record {
  small = (small_before c.args.tried.before.now (Some c.args.tried.last.now ∷ []) c.loop-branch.branch-index c.branch-item.result c.loop-branch-test.true c.in-Some.inner c.args.count (sym c.branch-item.is ∙ c.in-Some.is) c.loop-branch.invariant.small).0;
}

pub loop-branch-preserved : goal.loop-branch-preserved
loop-branch-preserved c =
    let tail : List (Option SequenceTree) = Some c.args.tried.last.now ∷ [] in
    let bs = c.args.tried.before.now in
    let is = sym c.branch-item.is ∙ c.in-Some.is in
    let next = λ (behind : List Later).
    GoesBoth-branch (TriesAt (tried_branches c.args.tried) c.args.tried.place c.args.component behind c.args.count) (RunsAll c.in-Some.inner c.args.count) (TriesIn (branches_tree (drop (c.loop-branch.branch-index + 1) bs ++ tail)) c.args.count c.args.tried.place) (RunsRest behind c.args.count) c.args.outer.now c.args.component (c.args.k ∷ []) c.loop-branch.now.items c.loop-branch.done.items c.loop-branch.invariant.at
    (subst (λ (r : Course). GoesBoth (TriesAt (tried_branches c.args.tried) c.args.tried.place c.args.component behind c.args.count) (c.args.k ∷ []) r (RunsRest behind c.args.count) c.loop-branch.now.items c.loop-branch.done.items) (before_some bs tail c.loop-branch.branch-index c.branch-item.result c.loop-branch-test.true c.in-Some.inner c.args.count c.args.tried.place c.args.component is) (c.loop-branch.invariant.both behind))
    c.in_ok-states.states.items c.in_ok-now-2.now.items c.one_branch.new.next.items c.none_inside-stops.result c.loop-branch.ended c.one_branch.new.failed c.in_ok-states.ensures c.none_inside-stops.ensures c.in_ok-now-2.ensures.ok in
    record {
      small = (small_before bs tail c.loop-branch.branch-index c.branch-item.result c.loop-branch-test.true c.in-Some.inner c.args.count is c.loop-branch.invariant.small).1;
      at = (next []).1;
      both = λ behind. (next behind).0;
    }

pub returns-in_err-now-2-clause-err : goal.returns-in_err-now-2-clause-err
returns-in_err-now-2-clause-err c =
    let tail : List (Option SequenceTree) = Some c.args.tried.last.now ∷ [] in
    let bs = c.args.tried.before.now in
    let is = sym c.branch-item.is ∙ c.in-Some.is in
    let p = err_from_is_err_and c.from_residual-in_err-now-2.result c.from_residual-in_err-now-2.ensures.1 in
    rw (p.1, p.2) (λ behind.
    GoesBoth-halts (TriesAt (tried_branches c.args.tried) c.args.tried.place c.args.component behind c.args.count) (RunsAll c.in-Some.inner c.args.count) (TriesIn (branches_tree (drop (c.loop-branch.branch-index + 1) bs ++ tail)) c.args.count c.args.tried.place) (RunsRest behind c.args.count) c.args.outer.now c.args.component (c.args.k ∷ []) c.loop-branch.now.items c.loop-branch.done.items c.loop-branch.invariant.at
    (subst (λ (r : Course). GoesBoth (TriesAt (tried_branches c.args.tried) c.args.tried.place c.args.component behind c.args.count) (c.args.k ∷ []) r (RunsRest behind c.args.count) c.loop-branch.now.items c.loop-branch.done.items) (before_some bs tail c.loop-branch.branch-index c.branch-item.result c.loop-branch-test.true c.in-Some.inner c.args.count c.args.tried.place c.args.component is) (c.loop-branch.invariant.both behind))
    c.in_ok-states.states.items c.in_ok-states.ensures c.in_err-now-2.field-0.0 c.in_err-now-2.ensures.err)

pub returns-in_default-clause-ok : goal.returns-in_default-clause-ok
returns-in_default-clause-ok c = λ behind.
    GoesBoth-null (TriesAt (tried_branches c.args.tried) c.args.tried.place c.args.component behind c.args.count) (RunsThen c.args.tried.last.now (OfLeave c.args.k.state.selection c.args.k.state.soft_failure ∷ behind) c.args.count) (RunsRest behind c.args.count) (c.args.k ∷ []) c.loop-branch.now.items c.append.new.other.items c.loop-branch.done.items c.append.new.self.items
    (subst (λ (r : Course). GoesBoth (TriesAt (tried_branches c.args.tried) c.args.tried.place c.args.component behind c.args.count) (c.args.k ∷ []) r (RunsRest behind c.args.count) c.loop-branch.now.items c.loop-branch.done.items) (before_none c.args.tried.before.now (Some c.args.tried.last.now ∷ []) c.loop-branch.branch-index c.branch-item.result c.loop-branch-test.true c.args.count c.args.tried.place c.args.component (sym c.branch-item.is ∙ none_there c.branch-item.result c.in_default.not-Some)) (c.loop-branch.invariant.both behind))
    c.in_ok-append.ensures.other_items c.in_ok-append.ensures.items

pub returns-clause-ok : goal.returns-clause-ok
returns-clause-ok c = λ behind.
    let none : drop c.loop-branch.branch-index c.args.tried.before.now ≡ [] = drop_all c.loop-branch.branch-index c.args.tried.before.now c.loop-branch-test.false in
    let after = RunsRest behind c.args.count in
    let both = subst (λ (bs : List (Option SequenceTree)). GoesBoth (TriesAt (tried_branches c.args.tried) c.args.tried.place c.args.component behind c.args.count) (c.args.k ∷ []) (TriesIn (branches_tree (bs ++ Some c.args.tried.last.now ∷ [])) c.args.count c.args.tried.place c.args.component) after c.loop-branch.now.items c.loop-branch.done.items) none (c.loop-branch.invariant.both behind) in
    let goes = GoesBoth-last (TriesAt (tried_branches c.args.tried) c.args.tried.place c.args.component behind c.args.count) (RunsAll c.args.tried.last.now c.args.count) after c.args.outer.now c.args.component c.args.tried.place (c.args.k ∷ []) c.loop-branch.now.items c.in_ok-enter_all.field-0.items c.loop-branch.done.items c.loop-branch.invariant.at both c.in_ok-enter_all.ensures in
    subst (λ (s : State). GoesLast (TriesAt (tried_branches c.args.tried) c.args.tried.place c.args.component behind c.args.count) (c.args.k ∷ []) (RunsThen c.args.tried.last.now (OfLeave s.selection s.soft_failure ∷ behind) c.args.count) after c.in_ok-enter_all.field-0.items c.loop-branch.done.items) c.requires.outer goes
