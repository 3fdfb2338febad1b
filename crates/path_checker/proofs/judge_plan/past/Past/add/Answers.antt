use Rattle.std.proofs.Common.{List, ◌++◌, sym, ap, ◌∙◌}
use Rattle.path_model.specs.declared.event.Event.{Event}
use Rattle.path_checker.specs.Happening.{told_by, log_told}
use Rattle.path_checker.proofs.PastLaws.{log_told-last, not_there}
use Rattle.path_checker.proofs.judge_plan.past.Past.add.Goals as goal

pub invariant_of-self : goal.invariant_of-self
invariant_of-self c = not_there _ c.self.inside.recorded (sym c.is_some.ensures ∙ c.if-is_some.false)

pub returns-clause-ok : goal.returns-clause-ok
returns-clause-ok c =
    ap log_told c.and-self-inside.ensures ∙ log_told-last c.self.inside.log.items c.args.told ∙ ap (λ (es : List Event). es ++ told_by c.args.told) c.self.view_is
