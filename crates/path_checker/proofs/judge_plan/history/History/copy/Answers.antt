use Rattle.std.proofs.Common.{List, sym, ◌∙◌, subst}
use Rattle.path_model.specs.declared.event.Event.{Event}
use Rattle.path_checker.specs.Standing.{Stands}
use Rattle.path_checker.proofs.StandingLaws.{stands_same}
use Rattle.path_checker.proofs.TrailLaws.{history-same}
use Rattle.path_checker.proofs.judge_plan.history.History.copy.Goals as goal

pub invariant_of-result : goal.invariant_of-result
invariant_of-result c =
    history-same c.in_ok-standing.standing c.in_ok-trail.trail c.self.inside.past _ c.copy-past.ensures
    (subst (λ (es : List Event). Stands c.in_ok-standing.standing es) (sym c.copy-past.ensures) (stands_same c.self.inside.standing c.in_ok-standing.standing c.self.inside.past c.in_ok-standing.ensures c.self.invariant.stands)) (c.in_ok-trail.ensures ∙ c.self.invariant.trail_is)
