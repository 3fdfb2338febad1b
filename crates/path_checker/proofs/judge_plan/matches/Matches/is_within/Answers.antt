use Rattle.std.proofs.Common.{rules, List, arith, sym, ap, ◌∙◌, subst}
use Rattle.std.proofs.lemmas.List.{take_all}
use Rattle.path_checker.specs.Exploring.{In}
use Rattle.path_checker.specs.Matches.{Match, all_lent}
use Rattle.path_checker.proofs.MatchLaws.{within_next}
use Rattle.path_checker.proofs.judge_plan.matches.Matches.is_within.Goals as goal

pub loop-at-preserved : goal.loop-at-preserved
loop-at-preserved c = within_next c.args.others.now c.as_slice-all.result.now c.loop-at.at c.index-all-at.result (omega (arith, c.loop-at-test.true)) c.index-all-at.is c.loop-at.invariant (c.finds_from.ensures (search rules))

pub returns : goal.returns
returns c t one h =
    c.loop-at.invariant one
    (subst (λ xs. In one (all_lent xs)) (sym (take_all c.loop-at.at c.as_slice-all.result.now (omega (arith, c.loop-at-test.false))))
    (subst (λ (ms : List Match). In one ms) (sym (ap all_lent c.as_slice-all.ensures.value ∙ c.self.view_is)) h))
