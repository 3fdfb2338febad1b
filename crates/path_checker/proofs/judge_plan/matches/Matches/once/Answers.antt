use Rattle.std.proofs.Common.{List, sym, ap, ◌∙◌, subst}
use Rattle.std.proofs.lemmas.List.{take_all}
use Rattle.path_checker.specs.Matches.{Match, all_lent, SameMembers}
use Rattle.path_checker.proofs.MatchLaws.{once_next}
use Rattle.path_checker.proofs.judge_plan.matches.Matches.once.Goals as goal

pub loop-lent-preserved : goal.loop-lent-preserved
loop-lent-preserved c = once_next c.push_once.new.self c.loop-lent.held c.as_slice-lent-items.result.now c.loop-lent.lent-index c.lent-item.result c.loop-lent-test.true c.lent-item.is c.loop-lent.invariant c.in_ok-push_once.ensures

pub returns : goal.returns
returns c =
    subst (λ (ms : List Match). SameMembers ms c.args.self.now) (sym c.held-2.view_is)
    (subst (λ (ms : List Match). SameMembers c.loop-lent.held ms) (ap all_lent (take_all c.loop-lent.lent-index c.as_slice-lent-items.result.now c.loop-lent-test.false ∙ c.as_slice-lent-items.ensures.value) ∙ c.self.view_is) c.loop-lent.invariant)
