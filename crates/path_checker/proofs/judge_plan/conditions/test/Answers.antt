use Rattle.std.proofs.Common.{◌≡◌, subst, sym, [], ◌∷◌}
use Rattle.std.specs.Prelude.{OnOk}
use Rattle.std.proofs.lemmas.Result.{on_ok_weaker}
use Rattle.suit_commands.specs.declared.kinds.TestKind.{TestKind}
use Rattle.path_checker.specs.Exploring.{after_stops, Adds}
use Rattle.path_checker.specs.Steps.{TestsAt}
use Rattle.path_checker.proofs.ConditionLeaves.{missed_by, Adds-abort}
use Rattle.path_checker.proofs.judge_plan.conditions.test.Goals as goal

pub returns-in-ImageMatch : goal.returns-in-ImageMatch
returns-in-ImageMatch c = subst (λ (m : TestKind). OnOk c.image_match.result (Adds (TestsAt m c.args.place c.args.component) (c.args.k ∷ []) c.args.next.now.items c.image_match.new.next.items c.args.failed.now c.image_match.new.failed)) (sym c.in-ImageMatch.is) c.image_match.ensures

pub returns-in-CheckContent : goal.returns-in-CheckContent
returns-in-CheckContent c = subst (λ (m : TestKind). OnOk c.check_content.result (Adds (TestsAt m c.args.place c.args.component) (c.args.k ∷ []) c.args.next.now.items c.check_content.new.next.items c.args.failed.now c.check_content.new.failed)) (sym c.in-CheckContent.is) c.check_content.ensures

pub returns-in-Abort : goal.returns-in-Abort
returns-in-Abort c =
    on_ok_weaker c.stop.result
    (λ ended. subst (λ (m : TestKind). Adds (TestsAt m c.args.place c.args.component) (c.args.k ∷ []) c.args.next.now.items c.args.next.now.items c.args.failed.now c.stop.new.failed) (sym c.in-Abort.is)
    (Adds-abort c.args.place c.args.component c.args.k c.args.failed.now c.stop.new.failed (subst (λ (m : TestKind). c.stop.new.failed ≡ after_stops c.args.failed.now (missed_by m c.args.component c.args.place c.args.k ∷ [])) c.in-Abort.is ended) c.args.next.now.items)) c.stop.ensures
