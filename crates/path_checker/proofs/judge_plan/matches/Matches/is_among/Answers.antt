use Rattle.std.proofs.Common.{List, Bool, refl, ap, ◌∙◌, subst}
use Rattle.std.specs.Prelude.{IsTrue}
use Rattle.path_checker.specs.Exploring.{In}
use Rattle.path_checker.specs.Matches.{Match, match_of, all_lent}
use Rattle.path_checker.proofs.DirectiveLeaves.{never_true}
use Rattle.path_checker.proofs.MatchLaws.{lent_here, lent_next}
use Rattle.path_checker.proofs.judge_plan.matches.Matches.is_among.Goals as goal

pub returns-then-is : goal.returns-then-is
returns-then-is c = (
  λ h. subst (λ (ms : List Match). In (match_of c.args.wanted.now) ms) (ap all_lent c.as_slice-lent-items.ensures.value ∙ c.self.view_is)
      (subst (λ (m : Match). In m (all_lent c.as_slice-lent-items.result.now)) (c.is.ensures.0 c.if-is.true) (lent_here c.as_slice-lent-items.result.now c.loop-lent.lent-index c.lent-item.result c.loop-lent-test.true c.lent-item.is)),
  λ h. refl,
)

pub loop-lent-preserved : goal.loop-lent-preserved
loop-lent-preserved c = lent_next (match_of c.args.wanted.now) c.as_slice-lent-items.result.now c.loop-lent.lent-index c.lent-item.result c.loop-lent-test.true c.lent-item.is c.loop-lent.invariant
    (λ e. never_true (subst (λ (b : Bool). IsTrue b) c.if-is.false (c.is.ensures.1 e)))
