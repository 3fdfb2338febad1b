use Rattle.std.proofs.Common.{◌≡◌, [], ◌∷◌, List, Option, sym, subst}
use Rattle.std.proofs.lemmas.Result.{err_from_is_err_and, IfErr-weaker}
use Rattle.std.specs.Borrow.{Bor}
use Rattle.suit_commands.specs.Plans.{lent_tree}
use Rattle.suit_commands.specs.Tree.{SequenceTree}
use Rattle.path_checker.specs.declared.judge_plan.turn.Turn.{Turn}
use Rattle.path_checker.specs.Halting.{Halts}
use Rattle.path_checker.specs.Rests.{RunsRest, of_parts}
use Rattle.path_checker.specs.Spelling.{Comes}
use Rattle.path_checker.specs.Steps.{RunsAll}
use Rattle.path_checker.proofs.Spelling.{Part-halts, Part-on}
use Rattle.path_checker.proofs.judge_plan.spelling.+spell.Goals as goal

pub returns-in_err-k : goal.returns-in_err-k
returns-in_err-k t c =
    let p = err_from_is_err_and c.from_residual.result c.from_residual.ensures.1 in
    let parts : c.args.parts.now ≡ c.in-Some.lent.now ∷ c.in-Some.others.now = c.in-Some.ensures.cases.0 in
    rw (p.1, p.2) (subst (λ (ps : List (Option (Bor SequenceTree))). Halts (RunsRest (of_parts ps) c.args.count) (c.args.k ∷ []) c.in_err-k.field-0.0) (sym parts)
    (Part-halts (lent_tree c.in-Some.lent.now) (of_parts c.in-Some.others.now) c.args.count c.args.k c.restart.result c.restart.ensures c.in_err-k.field-0.0 c.in_err-k.ensures.err))

pub returns-in-On : goal.returns-in-On
returns-in-On t c =
    let parts : c.args.parts.now ≡ c.in-Some.lent.now ∷ c.in-Some.others.now = c.in-Some.ensures.cases.0 in
    let on = subst (λ (u : Turn). Comes (RunsAll (lent_tree c.in-Some.lent.now) c.args.count) (c.restart.result ∷ []) u) c.in-On.is c.in_ok-k.ensures.ok in
    IfErr-weaker c.spell.result (λ h. Halts (RunsRest (of_parts c.in-Some.others.now) c.args.count) (c.in-On.k ∷ []) h) (λ h. Halts (RunsRest (of_parts c.args.parts.now) c.args.count) (c.args.k ∷ []) h)
    (λ h u. subst (λ (ps : List (Option (Bor SequenceTree))). Halts (RunsRest (of_parts ps) c.args.count) (c.args.k ∷ []) h) (sym parts)
    (Part-on (lent_tree c.in-Some.lent.now) (of_parts c.in-Some.others.now) c.args.count c.args.k c.restart.result c.restart.ensures c.in-On.k on h u)) c.spell.ensures
