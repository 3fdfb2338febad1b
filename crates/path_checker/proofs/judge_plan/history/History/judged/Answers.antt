use Rattle.std.proofs.Common.{List, subst}
use Rattle.std.specs.Prelude.{◌↔◌, IsTrue}
use Rattle.path_model.specs.declared.event.Event.{Event}
use Rattle.path_model.specs.Safe.{HasMatched}
use Rattle.path_checker.specs.Matches.{match_of}
use Rattle.path_checker.proofs.judge_plan.history.History.judged.Goals as goal

pub returns-clause-stands : goal.returns-clause-stands
returns-clause-stands c =
    let same = c.self.invariant.stands c.args.component (match_of c.args.own.now).0 (match_of c.args.own.now).1 in
    subst (λ (es : List Event). IsTrue c.has-stands.result ↔ HasMatched es c.args.component (match_of c.args.own.now).0 (match_of c.args.own.now).1) c.self.view_is
    (λ t. same.0 (c.has-stands.ensures.0 t), λ h. c.has-stands.ensures.1 (same.1 h))
