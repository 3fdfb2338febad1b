use Rattle.std.proofs.Common.{◌∷◌, List, sym, ◌∙◌, subst}
use Rattle.path_checker.specs.Matches.{Match, match_of, SameMembers}
use Rattle.path_checker.proofs.judge_plan.held.put_apart.Goals as goal

pub returns : goal.returns
returns c =
    subst (λ (ms : List Match). SameMembers ms (match_of c.args.own.now ∷ c.args.held.now.value)) (sym c.in_ok-held.ensures.ok)
    (subst (λ (xs : List Match). SameMembers c.put.new.self (match_of c.args.own.now ∷ xs)) (c.in_ok-all.ensures ∙ c.deref.ensures) c.in_ok-put.ensures)
