use Rattle.std.proofs.Common.{◌≡◌, [], ◌∷◌, ◌++◌, sym, ap, ◌∙◌}
use Rattle.path_model.specs.declared.event.Event.TheVariants.{Failed}
use Rattle.path_checker.specs.Happening.{event_of, after_end}
use Rattle.path_checker.proofs.judge_plan.history.History.with_end.Goals as goal
use Rattle.path_checker.proofs.judge_plan.history.History.with_end.Goals.{in-Tried, in-Missed}

pub returns : goal.returns
returns c =
    let told : after_end c.args.self c.args.ended c.args.place ≡ c.args.self ++ event_of c.match-ended.event ∷ Failed c.args.place ∷ [] =
    elim c.match-ended.branch [
      | in-Tried w ↦ ap (λ e. after_end c.args.self e c.args.place) w.in-Tried.is ∙ ap (λ h. c.args.self ++ event_of h ∷ Failed c.args.place ∷ []) (sym w.event-is)
      | in-Missed w ↦ ap (λ e. after_end c.args.self e c.args.place) w.in-Missed.is ∙ ap (λ h. c.args.self ++ event_of h ∷ Failed c.args.place ∷ []) (sym w.event-is)
    ]
    in
    c.in_ok-add_failure.ensures ∙ sym told
