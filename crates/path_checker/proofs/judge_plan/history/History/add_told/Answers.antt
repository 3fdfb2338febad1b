use Rattle.std.proofs.Common.{List, ◌++◌, sym, ap, ◌∙◌, subst}
use Rattle.suit_commands.specs.View.{sequence_tree}
use Rattle.path_model.specs.declared.event.Event.{Event}
use Rattle.path_checker.specs.Standing.{Stands}
use Rattle.path_checker.specs.Happening.{sequence_sets}
use Rattle.path_checker.specs.Selecting.{components_of}
use Rattle.path_checker.proofs.StandingLaws.{stands_sequence}
use Rattle.path_checker.proofs.TrailLaws.{trail-sequence, history-same, history-sets}
use Rattle.path_checker.proofs.judge_plan.history.History.add_told.Goals as goal

pub invariant_of-self : goal.invariant_of-self
invariant_of-self c = history-same c.self.inside.standing c.self.inside.trail c.self.inside.past _ c.in_err-add.ensures.err (subst (λ (es : List Event). Stands c.self.inside.standing es) (sym c.in_err-add.ensures.err) c.self.invariant.stands) c.self.invariant.trail_is

pub invariant_of-self-2 : goal.invariant_of-self-2
invariant_of-self-2 c =
    let added = c.in_ok-add.ensures.ok ∙ ap (λ (part : List Event). c.self.inside.past ++ part) c.requires in
    history-sets c.self.inside.standing c.self.inside.trail c.self.inside.past (sequence_sets (sequence_tree c.args.steps.now) (components_of c.args.components)) _ added
    (subst (λ (es : List Event). Stands c.self.inside.standing es) (sym added)
    (stands_sequence c.self.inside.standing c.self.inside.past (sequence_tree c.args.steps.now) (components_of c.args.components) c.self.invariant.stands)) c.self.invariant.trail_is
    (trail-sequence c.self.inside.trail (sequence_tree c.args.steps.now) (components_of c.args.components))
