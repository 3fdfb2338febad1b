use Rattle.std.proofs.Common.{List, sym, subst}
use Rattle.path_model.specs.declared.event.Event.{Event}
use Rattle.path_checker.specs.Standing.{Stands}
use Rattle.path_checker.proofs.StandingLaws.{stands_none}
use Rattle.path_checker.proofs.TrailLaws.{history-none}
use Rattle.path_checker.proofs.judge_plan.history.History.recording.Goals as goal

pub invariant_of-result : goal.invariant_of-result
invariant_of-result c = history-none c.none.result c.new.result _ c.in_ok-past.ensures (subst (λ (es : List Event). Stands c.none.result es) (sym c.in_ok-past.ensures) (stands_none c.none.result c.none.ensures)) c.new.ensures
