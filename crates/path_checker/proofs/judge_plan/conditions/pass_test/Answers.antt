use Rattle.std.proofs.Common.{◌≡◌, true, ap, subst, sym, [], ◌∷◌, refl}
use Rattle.std.specs.Prelude.{IfOk}
use Rattle.std.proofs.lemmas.Result.{IfOk-weaker}
use Rattle.suit_commands.specs.declared.kinds.TestKind.{TestKind}
use Rattle.suit_commands.specs.declared.kinds.TestKind.TheVariants as tests
use Rattle.path_checker.specs.Exploring.{Passes, after_stops, kept_if}
use Rattle.path_checker.specs.Steps.{with_events, TestsAt}
use Rattle.path_checker.proofs.ConditionLeaves.{told, missed_by, Adds-abort}
use Rattle.path_checker.proofs.Passing.{none_yet, Passes-added, Passes-content}
use Rattle.path_checker.proofs.judge_plan.conditions.pass_test.Goals as goal

pub returns-in-ImageMatch : goal.returns-in-ImageMatch
returns-in-ImageMatch c = subst (λ (m : TestKind). IfOk c.pass_image_match.result (λ b. Passes (TestsAt m c.args.place c.args.component) (c.args.k.now ∷ []) (kept_if b c.pass_image_match.new.k))) (sym c.in-ImageMatch.is) c.pass_image_match.ensures

pub returns-in-CheckContent : goal.returns-in-CheckContent
returns-in-CheckContent c =
    IfOk-weaker c.happens_if.result _ _
    (λ b made. subst (λ (m : TestKind). Passes (TestsAt m c.args.place c.args.component) (c.args.k.now ∷ []) (kept_if b c.happens_if.new.k)) (sym c.in-CheckContent.is)
    (Passes-content c.args.place c.args.component c.args.k.now c.happens_if.new.k c.k.inside.params c.has_content.result b (ap (λ k. k.state.parameters) c.k.view_is) c.has_content.ensures
    (subst (λ (m : TestKind). kept_if b c.happens_if.new.k ≡ kept_if c.has_content.result (with_events c.args.k.now (told m c.args.component true ∷ []))) c.in-CheckContent.is made))) c.happens_if.ensures

pub returns-in-Abort : goal.returns-in-Abort
returns-in-Abort c =
    subst (λ (m : TestKind). Passes (TestsAt m c.args.place c.args.component) (c.args.k.now ∷ []) []) (sym c.in-Abort.is)
    (Passes-added (TestsAt tests.Abort c.args.place c.args.component) (c.args.k.now ∷ []) [] none_yet (after_stops none_yet (missed_by tests.Abort c.args.component c.args.place c.args.k.now ∷ [])) (Adds-abort c.args.place c.args.component c.args.k.now none_yet (after_stops none_yet (missed_by tests.Abort c.args.component c.args.place c.args.k.now ∷ [])) refl []))
