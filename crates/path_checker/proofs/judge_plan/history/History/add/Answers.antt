use Rattle.std.proofs.Common.{List, [], ◌∷◌, sym, subst}
use Rattle.path_model.specs.declared.event.Event.{Event}
use Rattle.path_checker.specs.Standing.{Stands}
use Rattle.path_checker.specs.Happening.{event_of}
use Rattle.path_checker.proofs.StandingLaws.{stands_none}
use Rattle.path_checker.proofs.TrailLaws.{history-same, history-more, history-none}
use Rattle.path_checker.proofs.judge_plan.history.History.add.Goals as goal

pub invariant_of-self : goal.invariant_of-self
invariant_of-self c = history-same c.self.inside.standing c.self.inside.trail c.self.inside.past _ c.in_err-add.ensures.err (subst (λ (es : List Event). Stands c.self.inside.standing es) (sym c.in_err-add.ensures.err) c.self.invariant.stands) c.self.invariant.trail_is

pub invariant_of-self-in-Ok : goal.invariant_of-self-in-Ok
invariant_of-self-in-Ok c =
    history-more c.follow.new.standing c.self.inside.trail c.follow.new.trail c.self.inside.past (event_of c.args.event ∷ []) _ c.in_ok-add.ensures.ok
    (subst (λ (es : List Event). Stands c.follow.new.standing es) (sym c.in_ok-add.ensures.ok) (c.in-Ok.ensures.stands c.self.inside.past c.self.invariant.stands)) c.self.invariant.trail_is c.in-Ok.ensures.trail

pub invariant_of-self-in-Err : goal.invariant_of-self-in-Err
invariant_of-self-in-Err c = history-none c.none.result c.new.result _ c.clear.ensures (subst (λ (es : List Event). Stands c.none.result es) (sym c.clear.ensures) (stands_none c.none.result c.none.ensures)) c.new.ensures
