use Rattle.std.proofs.Common.{List, [], ◌∷◌, ◌+◌, arith, sym, subst}
use Rattle.std.proofs.lemmas.Result.{err_from_is_err_and}
use Rattle.suit_commands.specs.View.{sequence_tree}
use Rattle.path_checker.specs.Exploring.{Kept, Continues, kept_if}
use Rattle.path_checker.specs.Halting.{Halts}
use Rattle.path_checker.specs.Unconditional.{AreUnconditional}
use Rattle.path_checker.specs.Steps.{RunsAll}
use Rattle.path_checker.proofs.Unconditional.{Compacts, Compacts-gone, Compacts-kept, Compacts-halts, Compacts-end}
use Rattle.path_checker.proofs.judge_plan.in_place.steps_in_all.Goals as goal

pub returns-in_err-goes_on-clause-err : goal.returns-in_err-goes_on-clause-err
returns-in_err-goes_on-clause-err c =
    let p = err_from_is_err_and c.from_residual.result c.from_residual.ensures.1 in
    rw (p.1, p.2) (Compacts-halts (AreUnconditional (sequence_tree c.args.steps.now)) (RunsAll (sequence_tree c.args.steps.now) c.args.count) c.args.from.items c.loop-at.now.items c.loop-at.at c.loop-at.kept c.index_mut-k.result.now c.loop-at.invariant (omega (arith, c.loop-at-test.true, c.len-at-end.ensures, c.args.from.ok.0, c.loop-at.invariant.count)) c.in_err-goes_on.field-0.0 (subst (λ (k : Kept). Halts (RunsAll (sequence_tree c.args.steps.now) c.args.count) (k ∷ []) c.in_err-goes_on.field-0.0) c.index_mut-k.ensures.value c.in_err-goes_on.ensures.err))

pub loop-at-preserved-then-not-goes_on : goal.loop-at-preserved-then-not-goes_on
loop-at-preserved-then-not-goes_on c =
    let none = subst (λ b. Continues (AreUnconditional (sequence_tree c.args.steps.now)) (RunsAll (sequence_tree c.args.steps.now) c.args.count) (c.index_mut-k.result.now ∷ []) (kept_if b c.steps_in.new.k)) c.if-not-goes_on.true c.in_ok-goes_on.ensures.ok in
    Compacts-gone (AreUnconditional (sequence_tree c.args.steps.now)) (RunsAll (sequence_tree c.args.steps.now) c.args.count) c.args.from.items c.loop-at.now.items c.loop-at.at c.loop-at.kept c.index_mut-k.result.now c.loop-at.invariant (omega (arith, c.loop-at-test.true, c.len-at-end.ensures, c.args.from.ok.0, c.loop-at.invariant.count)) c.settle.new.k (subst (λ (k : Kept). Continues (AreUnconditional (sequence_tree c.args.steps.now)) (RunsAll (sequence_tree c.args.steps.now) c.args.count) (k ∷ []) []) c.index_mut-k.ensures.value none)

pub loop-at-preserved : goal.loop-at-preserved
loop-at-preserved c =
    let one = subst (λ b. Continues (AreUnconditional (sequence_tree c.args.steps.now)) (RunsAll (sequence_tree c.args.steps.now) c.args.count) (c.index_mut-k.result.now ∷ []) (kept_if b c.steps_in.new.k)) c.if-not-goes_on.false c.in_ok-goes_on.ensures.ok in
    let same = subst (λ (to : Kept). Continues (AreUnconditional (sequence_tree c.args.steps.now)) (RunsAll (sequence_tree c.args.steps.now) c.args.count) (c.index_mut-k.result.now ∷ []) (to ∷ [])) (sym c.in_ok-settle.ensures) one in
    subst (λ (ks : List Kept). Compacts (AreUnconditional (sequence_tree c.args.steps.now)) (RunsAll (sequence_tree c.args.steps.now) c.args.count) c.args.from.items ks (c.loop-at.at + 1) (c.loop-at.kept + 1)) (sym c.swap.ensures.items)
    (Compacts-kept (AreUnconditional (sequence_tree c.args.steps.now)) (RunsAll (sequence_tree c.args.steps.now) c.args.count) c.args.from.items c.loop-at.now.items c.loop-at.at c.loop-at.kept c.index_mut-k.result.now c.loop-at.invariant (omega (arith, c.loop-at-test.true, c.len-at-end.ensures, c.args.from.ok.0, c.loop-at.invariant.count)) c.settle.new.k (subst (λ (k : Kept). Continues (AreUnconditional (sequence_tree c.args.steps.now)) (RunsAll (sequence_tree c.args.steps.now) c.args.count) (k ∷ []) (c.settle.new.k ∷ [])) c.index_mut-k.ensures.value same))

pub returns-clause-ok : goal.returns-clause-ok
returns-clause-ok c =
    subst (λ (ks : List Kept). Continues (AreUnconditional (sequence_tree c.args.steps.now)) (RunsAll (sequence_tree c.args.steps.now) c.args.count) c.args.from.items ks) (sym c.truncate.ensures.items)
    (Compacts-end (AreUnconditional (sequence_tree c.args.steps.now)) (RunsAll (sequence_tree c.args.steps.now) c.args.count) c.args.from.items c.loop-at.now.items c.loop-at.at c.loop-at.kept c.loop-at.invariant (omega (arith, c.loop-at-test.false, c.len-at-end.ensures, c.args.from.ok.0)))
