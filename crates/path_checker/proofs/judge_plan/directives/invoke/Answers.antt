use Rattle.std.proofs.Common.{ap, refl, sym, ◌∙◌, subst, [], ◌∷◌, Some}
use Rattle.std.specs.Prelude.{IsTrue, false}
use Rattle.suit_params.specs.declared.digest.Digest.{Digest}
use Rattle.path_model.specs.declared.event.Event.TheVariants.{Invoked}
use Rattle.path_model.specs.Safe.{HasMatched}
use Rattle.path_checker.specs.Matches.{Match, covered_event}
use Rattle.path_checker.specs.Steps.{with_events, ActsAt}
use Rattle.path_checker.proofs.DirectiveLeaves.{Adds-invoke, Uncovers-invoke, never_true}
use Rattle.suit_commands.specs.declared.kinds.ActKind.TheVariants as acts
use Rattle.path_checker.proofs.Passing.{Explores-added}
use Rattle.path_checker.proofs.judge_plan.directives.invoke.Goals as goal

pub returns-in_ok-take-in-None-clause-err : goal.returns-in_ok-take-in-None-clause-err
returns-in_ok-take-in-None-clause-err c = Uncovers-invoke c.args.place c.args.component c.args.k.now c.in_ok-take-in-None.field-0 c.k.inside.params _ _ (ap (λ k. k.state.parameters) c.k.view_is) c.in-None.ensures c.size-size.ensures (λ h. h) (c.in_ok-take-in-None.ensures ∙ c.in_ok-happens-in-None.ensures)

pub returns-then-asked-clause-ok : goal.returns-then-asked-clause-ok
returns-then-asked-clause-ok c =
    Explores-added (ActsAt acts.Invoke c.args.place c.args.component) (c.args.k.now ∷ []) (c.happens-then-asked.new.k ∷ [])
    (Adds-invoke c.args.place c.args.component c.args.k.now c.happens-then-asked.new.k c.k.inside.params c.in-Some.stated.digest.now c.in-Some.stated.size [] (c.happens-then-asked.new.k ∷ []) (ap (λ k. k.state.parameters) c.k.view_is) c.in-Some.ensures.0 c.in-Some.ensures.1
    (subst (λ es. HasMatched es c.args.component c.in-Some.stated.digest.now c.in-Some.stated.size) (ap (λ k. k.events) c.k.view_is)
    (c.in_ok-asked-in-Some.ensures.stands.0 c.if-asked.true))
    (c.in_ok-happens-in-Some.ensures ∙ ap (λ (m : Match). with_events c.args.k.now (covered_event c.args.component m ∷ [])) c.in_ok-asked-in-Some.ensures.own) refl)

pub returns-in_ok-take-in-Some-clause-err : goal.returns-in_ok-take-in-Some-clause-err
returns-in_ok-take-in-Some-clause-err c =
    Uncovers-invoke c.args.place c.args.component c.args.k.now c.in_ok-take-in-Some.field-0 c.k.inside.params (Some c.in-Some.stated.digest.now) c.in-Some.stated.size (ap (λ k. k.state.parameters) c.k.view_is) c.in-Some.ensures.0 c.in-Some.ensures.1
    (λ h. never_true (subst IsTrue c.if-asked.false (c.in_ok-asked-in-Some.ensures.stands.1
    (subst (λ es. HasMatched es c.args.component c.in-Some.stated.digest.now c.in-Some.stated.size) (sym (ap (λ k. k.events) c.k.view_is)) h))))
    (c.in_ok-take-in-Some.ensures ∙ c.in_ok-happens-in-Some-2.ensures
    ∙ ap (λ (d : Digest). with_events c.args.k.now (Invoked c.args.component (Some d) c.in-Some.stated.size false ∷ [])) c.get.ensures)
