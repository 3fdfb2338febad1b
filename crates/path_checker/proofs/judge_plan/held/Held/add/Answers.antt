use Rattle.std.proofs.Common.{◌∷◌, List, sym, ap, ◌∙◌, subst}
use Rattle.std.specs.Prelude.{OnOk}
use Rattle.path_checker.specs.Holding.{held_matches}
use Rattle.path_checker.specs.Matches.{Match, match_of, SameMembers}
use Rattle.path_checker.proofs.judge_plan.held.Held.add.Goals as goal
use Rattle.path_checker.proofs.judge_plan.held.Held.add.Goals.{in-Several-2, in-Nothing-2}

pub returns-in_ok-both-in-One : goal.returns-in_ok-both-in-One
returns-in_ok-both-in-One c =
    let added : SameMembers c.in_ok-both-in-One.field-0.value (match_of c.args.own.now ∷ c.args.self.now) =
    subst (λ (xs : List Match). SameMembers c.in_ok-both-in-One.field-0.value (match_of c.args.own.now ∷ xs)) (sym (ap held_matches c.in-One.is) ∙ c.self.view_is) c.in_ok-both-in-One.ensures
    in
    elim c.match-self-2.branch [
      | in-Several-2 w ↦ subst (λ (ms : List Match). SameMembers ms (match_of c.args.own.now ∷ c.args.self.now)) (sym w.self-is) added
      | in-Nothing-2 w ↦ subst (λ (ms : List Match). SameMembers ms (match_of c.args.own.now ∷ c.args.self.now)) (sym w.self-is) added
    ]

pub returns-in-Several : goal.returns-in-Several
returns-in-Several c =
    subst (λ (xs : List Match). OnOk c.add_shared.result (SameMembers c.add_shared.new.held.value (match_of c.args.own.now ∷ xs))) (sym (ap held_matches c.in-Several.is) ∙ c.self.view_is) c.add_shared.ensures
