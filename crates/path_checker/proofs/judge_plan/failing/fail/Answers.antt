use Rattle.std.proofs.Common.{◌≡◌, subst, sym, [], ◌∷◌}
use Rattle.suit_commands.specs.declared.kinds.TestKind.{TestKind}
use Rattle.path_checker.specs.Spelling.{Fails}
use Rattle.path_checker.specs.Steps.{TestsAt}
use Rattle.path_checker.proofs.ConditionLeaves.{missed_by}
use Rattle.path_checker.proofs.Spelling.{Fails-match, Fails-content, Fails-abort}
use Rattle.path_checker.proofs.judge_plan.failing.fail.Goals as goal

pub returns-in-ImageMatch : goal.returns-in-ImageMatch
returns-in-ImageMatch c =
    subst (λ (m : TestKind). Fails (TestsAt m c.args.site.place c.args.site.component) (c.args.k ∷ []) c.failed_at.result) (sym c.in-ImageMatch.is)
    (Fails-match c.args.site.place c.args.site.component c.args.k c.failed_at.result c.failed_at.ensures)

pub returns-in-CheckContent : goal.returns-in-CheckContent
returns-in-CheckContent c =
    subst (λ (m : TestKind). Fails (TestsAt m c.args.site.place c.args.site.component) (c.args.k ∷ []) c.failed_at-in-CheckContent.result) (sym c.in-CheckContent.is)
    (Fails-content c.args.site.place c.args.site.component c.args.k c.failed_at-in-CheckContent.result (subst (λ (m : TestKind). c.failed_at-in-CheckContent.result ≡ missed_by m c.args.site.component c.args.site.place c.args.k) c.in-CheckContent.is c.failed_at-in-CheckContent.ensures))

pub returns-in-Abort : goal.returns-in-Abort
returns-in-Abort c =
    subst (λ (m : TestKind). Fails (TestsAt m c.args.site.place c.args.site.component) (c.args.k ∷ []) c.failed_at-in-Abort.result) (sym c.in-Abort.is)
    (Fails-abort c.args.site.place c.args.site.component c.args.k c.failed_at-in-Abort.result (subst (λ (m : TestKind). c.failed_at-in-Abort.result ≡ missed_by m c.args.site.component c.args.site.place c.args.k) c.in-Abort.is c.failed_at-in-Abort.ensures))
