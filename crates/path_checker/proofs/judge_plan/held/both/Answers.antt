use Rattle.std.proofs.Common.{[], ◌∷◌, List, sym, subst}
use Rattle.path_checker.specs.Matches.{Match, match_of, SameMembers}
use Rattle.path_checker.proofs.MatchLaws.{same_over}
use Rattle.path_checker.proofs.judge_plan.held.both.Goals as goal

pub returns : goal.returns
returns c =
    subst (λ (ms : List Match). SameMembers ms (match_of c.args.other.now ∷ match_of c.args.one.now ∷ [])) (sym c.in_ok-held.ensures.ok)
    (same_over (match_of c.args.other.now) c.push-2.new.self c.push.new.self (match_of c.args.one.now ∷ []) c.in_ok-push-2.ensures
    (subst (λ (xs : List Match). SameMembers c.push.new.self (match_of c.args.one.now ∷ xs)) c.none-all.ensures c.in_ok-push.ensures))
