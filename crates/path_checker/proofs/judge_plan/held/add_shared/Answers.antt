use Rattle.std.proofs.Common.{◌∷◌, List, subst}
use Rattle.std.specs.Prelude.{OnOk}
use Rattle.path_checker.specs.Matches.{Match, match_of, SameMembers}
use Rattle.path_checker.proofs.judge_plan.held.add_shared.Goals as goal

pub returns-in-Some : goal.returns-in-Some
returns-in-Some c = subst (λ (xs : List Match). OnOk c.put.result (SameMembers c.put.new.self (match_of c.args.own.now ∷ xs))) c.in-Some.ensures.value c.put.ensures
