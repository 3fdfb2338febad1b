use Rattle.std.proofs.Common.{[], ◌∷◌, ap, refl, ◌∙◌}
use Rattle.suit_commands.specs.declared.kinds.TestKind.TheVariants as tests
use Rattle.path_model.specs.declared.event.Event.TheVariants.{Missed, Failed}
use Rattle.path_checker.specs.Exploring.{after_stops}
use Rattle.path_checker.specs.Matches.{Match, match_event}
use Rattle.path_checker.specs.Steps.{stopped_by, with_events, TestsAt}
use Rattle.path_checker.proofs.ConditionLeaves.{Adds-missed, Adds-matched}
use Rattle.path_checker.proofs.Passing.{none_yet, Passes-added}
use Rattle.path_checker.proofs.judge_plan.conditions.pass_image_match.Goals as goal

pub returns-in_ok-happens-in-Some : goal.returns-in_ok-happens-in-Some
returns-in_ok-happens-in-Some c =
    let missed = stopped_by c.args.k.now (Missed c.args.component ∷ Failed c.args.place ∷ []) c.args.place in
    Passes-added (TestsAt tests.ImageMatch c.args.place c.args.component) (c.args.k.now ∷ []) (c.happens.new.k ∷ []) none_yet (after_stops none_yet (missed ∷ []))
    (Adds-matched c.args.place c.args.component c.args.k.now c.args.k.now c.k.inside.params _ _ [] (c.happens.new.k ∷ []) none_yet (after_stops none_yet (missed ∷ [])) (ap (λ k. k.state.parameters) c.k.view_is) c.in-Some.ensures.0 c.in-Some.ensures.1 refl (ap (λ x. x ∷ []) (c.in_ok-happens-in-Some.ensures ∙ ap (λ (m : Match). with_events c.args.k.now (match_event c.args.component m ∷ [])) c.in_ok-own-in-Some.ensures)) refl)

pub returns-in-None : goal.returns-in-None
returns-in-None c =
    let missed = stopped_by c.args.k.now (Missed c.args.component ∷ Failed c.args.place ∷ []) c.args.place in
    Passes-added (TestsAt tests.ImageMatch c.args.place c.args.component) (c.args.k.now ∷ []) [] none_yet (after_stops none_yet (missed ∷ []))
    (Adds-missed c.args.place c.args.component c.args.k.now c.k.inside.params [] none_yet (after_stops none_yet (missed ∷ [])) (ap (λ k. k.state.parameters) c.k.view_is) c.in-None.ensures refl)
