use Rattle.std.proofs.Common.{subst, arith}
use Rattle.path_checker.specs.Exploring.{In}
use Rattle.path_checker.specs.Matches.{Match, all_lent}
use Rattle.path_checker.proofs.MatchLaws.{lent_here}
use Rattle.path_checker.proofs.judge_plan.links.is_at.Goals as goal

pub returns : goal.returns
returns c t =
    subst (λ (m : Match). In m (all_lent c.args.all.now)) (c.is_alike.ensures t) (lent_here c.args.all.now c.args.at c.index-all-at.result (omega (arith, c.if-at-all.false)) c.index-all-at.is)
