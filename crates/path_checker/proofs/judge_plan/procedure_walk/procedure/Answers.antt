use Rattle.std.proofs.Common.{Bool, subst}
use Rattle.std.proofs.lemmas.Result.{on_ok_weaker, IfErr-weaker}
use Rattle.std.specs.Prelude.{IsTrue}
use Rattle.suit_commands.specs.Plans.{plan_tree}
use Rattle.path_model.specs.Path.{RunsPlan}
use Rattle.path_checker.specs.Halting.{Halts}
use Rattle.path_checker.proofs.DirectiveLeaves.{never_true}
use Rattle.path_checker.proofs.Going.{StandsFor-covers, StandsFor-halts, all_parts, up_to_second, up_to_first, stands_all, stands_second, stands_first}
use Rattle.path_checker.proofs.judge_plan.procedure_walk.procedure.Goals as goal

pub returns-then-third_invokes-clause-ok : goal.returns-then-third_invokes-clause-ok
returns-then-third_invokes-clause-ok c =
    let plan = plan_tree c.args.plan.now in
    on_ok_weaker c.parts.result (StandsFor-covers (all_parts plan) (RunsPlan plan) c.args.from.items (stands_all plan)) c.parts.ensures.ok

pub returns-then-third_invokes-clause-err : goal.returns-then-third_invokes-clause-err
returns-then-third_invokes-clause-err c =
    let plan = plan_tree c.args.plan.now in
    IfErr-weaker c.parts.result (λ h. Halts (all_parts plan) c.args.from.items h) (λ h. Halts (RunsPlan plan) c.args.from.items h) (λ h u. StandsFor-halts (all_parts plan) (RunsPlan plan) c.args.from.items (stands_all plan) h u) c.parts.ensures.err

pub returns-then-second_invokes-clause-ok : goal.returns-then-second_invokes-clause-ok
returns-then-second_invokes-clause-ok c =
    let plan = plan_tree c.args.plan.now in
    let stands = stands_second plan (λ i. never_true (subst (λ (b : Bool). IsTrue b) c.if-third_invokes.false (c.third_invokes.ensures.1 i))) in
    on_ok_weaker c.parts-then-second_invokes.result (StandsFor-covers (up_to_second plan) (RunsPlan plan) c.args.from.items stands) c.parts-then-second_invokes.ensures.ok

pub returns-then-second_invokes-clause-err : goal.returns-then-second_invokes-clause-err
returns-then-second_invokes-clause-err c =
    let plan = plan_tree c.args.plan.now in
    let stands = stands_second plan (λ i. never_true (subst (λ (b : Bool). IsTrue b) c.if-third_invokes.false (c.third_invokes.ensures.1 i))) in
    IfErr-weaker c.parts-then-second_invokes.result (λ h. Halts (up_to_second plan) c.args.from.items h) (λ h. Halts (RunsPlan plan) c.args.from.items h) (λ h u. StandsFor-halts (up_to_second plan) (RunsPlan plan) c.args.from.items stands h u) c.parts-then-second_invokes.ensures.err

pub returns-clause-ok : goal.returns-clause-ok
returns-clause-ok c =
    let plan = plan_tree c.args.plan.now in
    let stands = stands_first plan (λ i. never_true (subst (λ (b : Bool). IsTrue b) c.if-second_invokes.false (c.second_invokes.ensures.1 i))) in
    on_ok_weaker c.parts-2.result (StandsFor-covers (up_to_first plan) (RunsPlan plan) c.args.from.items stands) c.parts-2.ensures.ok

pub returns-clause-err : goal.returns-clause-err
returns-clause-err c =
    let plan = plan_tree c.args.plan.now in
    let stands = stands_first plan (λ i. never_true (subst (λ (b : Bool). IsTrue b) c.if-second_invokes.false (c.second_invokes.ensures.1 i))) in
    IfErr-weaker c.parts-2.result (λ h. Halts (up_to_first plan) c.args.from.items h) (λ h. Halts (RunsPlan plan) c.args.from.items h) (λ h u. StandsFor-halts (up_to_first plan) (RunsPlan plan) c.args.from.items stands h u) c.parts-2.ensures.err
