use Rattle.std.proofs.Common.{List, subst}
use Rattle.path_model.specs.declared.event.Event.{Event}
use Rattle.path_model.specs.Following.{SameMatches}
use Rattle.path_checker.proofs.StandingLaws.{same_standing}
use Rattle.path_checker.proofs.judge_plan.history.History.same_matches.Goals as goal

pub returns : goal.returns
returns c t =
    subst (λ (es : List Event). SameMatches es c.args.other.now) c.self.view_is
    (subst (λ (es : List Event). SameMatches c.self.inside.past es) c.other.view_is
    (same_standing c.self.inside.standing c.other.inside.standing _ _ c.self.invariant.stands c.other.invariant.stands (c.is_same.ensures t)))
