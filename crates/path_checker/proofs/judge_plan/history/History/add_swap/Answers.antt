use Rattle.std.proofs.Common.{List, [], ◌∷◌, ap, ◌∙◌, sym, subst}
use Rattle.path_model.specs.declared.event.Event.{Event}
use Rattle.path_model.specs.declared.event.Event.TheVariants.{Wrote}
use Rattle.path_checker.specs.Standing.{Stands}
use Rattle.path_checker.specs.Trails.{Trail, trail_after}
use Rattle.path_checker.proofs.StandingLaws.{stands_swap}
use Rattle.path_checker.proofs.TrailLaws.{history-same, history-more}
use Rattle.path_checker.proofs.judge_plan.history.History.add_swap.Goals as goal

pub invariant_of-self : goal.invariant_of-self
invariant_of-self c = history-same c.self.inside.standing c.self.inside.trail c.self.inside.past _ c.in_err-add.ensures.err (subst (λ (es : List Event). Stands c.self.inside.standing es) (sym c.in_err-add.ensures.err) c.self.invariant.stands) c.self.invariant.trail_is

pub invariant_of-self-2 : goal.invariant_of-self-2
invariant_of-self-2 c =
    history-more c.lose-2.new.self c.self.inside.trail c.count-2.new.self c.self.inside.past (Wrote c.args.component ∷ Wrote c.args.source ∷ []) _ c.in_ok-add.ensures.ok
    (subst (λ (es : List Event). Stands c.lose-2.new.self es) (sym c.in_ok-add.ensures.ok)
    (stands_swap c.self.inside.standing c.lose.new.self c.lose-2.new.self c.self.inside.past c.args.component c.args.source c.lose.ensures c.lose-2.ensures c.self.invariant.stands)) c.self.invariant.trail_is
    (c.count-2.ensures ∙ ap (λ (t : Trail). trail_after t (Wrote c.args.source)) c.count.ensures)
