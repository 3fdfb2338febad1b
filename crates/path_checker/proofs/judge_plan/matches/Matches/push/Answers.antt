use Rattle.std.proofs.Common.{◌∷◌, List, ap, ◌∙◌, subst}
use Rattle.path_checker.specs.Matches.{Match, match_of, all_lent, SameMembers}
use Rattle.path_checker.proofs.MatchLaws.{same_lent}
use Rattle.path_checker.proofs.judge_plan.matches.Matches.push.Goals as goal

pub returns : goal.returns
returns c =
    subst (λ (xs : List Match). SameMembers (all_lent c.push.new.self.items) (match_of c.args.own.now ∷ xs)) (ap all_lent c.reserve_exact.ensures.items ∙ c.self.view_is)
    (same_lent c.reserve_exact.new.self.items c.push.new.self.items _ c.in_ok-push.ensures.items)
