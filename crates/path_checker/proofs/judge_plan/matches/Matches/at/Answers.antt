use Rattle.std.proofs.Common.{List, ap, ◌∙◌, subst, arith}
use Rattle.path_checker.specs.Exploring.{In}
use Rattle.path_checker.specs.Matches.{Match, match_of, all_lent}
use Rattle.path_checker.proofs.MatchLaws.{lent_here}
use Rattle.path_checker.proofs.judge_plan.matches.Matches.at.Goals as goal

pub returns-then-is_alike-clause-among : goal.returns-then-is_alike-clause-among
returns-then-is_alike-clause-among c =
    subst (λ (ms : List Match). In (match_of c.args.wanted.now) ms) (ap all_lent c.as_slice-all.ensures.value ∙ c.self.view_is)
    (subst (λ (m : Match). In m (all_lent c.as_slice-all.result.now)) (c.is_alike.ensures c.if-is_alike.true)
    (lent_here c.as_slice-all.result.now c.args.at c.index-all-at.result (omega (arith, c.if-at-all.false)) c.index-all-at.is))
