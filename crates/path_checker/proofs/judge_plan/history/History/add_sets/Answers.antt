use Rattle.std.proofs.Common.{List, sym, subst}
use Rattle.path_model.specs.declared.event.Event.{Event}
use Rattle.path_checker.specs.Standing.{Stands}
use Rattle.path_checker.specs.Happening.{sets_at}
use Rattle.path_checker.specs.Selecting.{components_of}
use Rattle.path_checker.proofs.StandingLaws.{stands_sets}
use Rattle.path_checker.proofs.TrailLaws.{trail-sets_at, history-same, history-sets}
use Rattle.path_checker.proofs.judge_plan.history.History.add_sets.Goals as goal

pub invariant_of-self : goal.invariant_of-self
invariant_of-self c = history-same c.self.inside.standing c.self.inside.trail c.self.inside.past _ c.in_err-add.ensures.err (subst (λ (es : List Event). Stands c.self.inside.standing es) (sym c.in_err-add.ensures.err) c.self.invariant.stands) c.self.invariant.trail_is

pub invariant_of-self-2 : goal.invariant_of-self-2
invariant_of-self-2 c =
    history-sets c.self.inside.standing c.self.inside.trail c.self.inside.past (sets_at (components_of c.args.components) c.args.list.now) _ c.in_ok-add.ensures.ok
    (subst (λ (es : List Event). Stands c.self.inside.standing es) (sym c.in_ok-add.ensures.ok)
    (stands_sets c.self.inside.standing c.self.inside.past (components_of c.args.components) c.args.list.now c.self.invariant.stands)) c.self.invariant.trail_is
    (trail-sets_at c.self.inside.trail (components_of c.args.components) c.args.list.now)
