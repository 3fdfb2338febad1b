use Rattle.std.proofs.Common.{[], ◌∷◌, ◌++◌, ap, refl, ◌∙◌}
use Rattle.std.proofs.lemmas.Result.{on_ok_weaker}
use Rattle.path_checker.specs.Matches.{Match, match_event}
use Rattle.path_checker.specs.Steps.{with_events}
use Rattle.path_checker.proofs.ConditionLeaves.{Adds-missed, Adds-matched}
use Rattle.path_checker.proofs.judge_plan.conditions.image_match.Goals as goal

pub returns-in-None : goal.returns-in-None
returns-in-None c = on_ok_weaker c.stop.result (λ ended. Adds-missed c.args.place c.args.component c.args.k c.k.inside.params c.args.next.now.items c.args.failed.now c.stop.new.failed (ap (λ k. k.state.parameters) c.k.view_is) c.in-None.ensures ended) c.stop.ensures

pub returns-in_ok-stop_also-in-Some : goal.returns-in_ok-stop_also-in-Some
returns-in_ok-stop_also-in-Some c = on_ok_weaker c.pass.result (λ passed. Adds-matched c.args.place c.args.component c.args.k c.args.k c.k.inside.params _ _ c.args.next.now.items _ c.args.failed.now _ (ap (λ k. k.state.parameters) c.k.view_is) c.in-Some.ensures.0 c.in-Some.ensures.1 refl (passed ∙ ap (λ (m : Match). c.args.next.now.items ++ with_events c.args.k (match_event c.args.component m ∷ []) ∷ []) c.in_ok-own-in-Some.ensures) c.in_ok-stop_also-in-Some.ensures) c.pass.ensures
