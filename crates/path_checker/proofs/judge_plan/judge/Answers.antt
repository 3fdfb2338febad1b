use Rattle.std.proofs.Common.{Bool, [], ◌∷◌, refl, subst}
use Rattle.std.specs.Prelude.{IsTrue}
use Rattle.suit_commands.specs.Plans.{plan_tree}
use Rattle.path_checker.specs.Procedures.{first_kept}
use Rattle.path_checker.proofs.DirectiveLeaves.{never_true}
use Rattle.path_checker.proofs.PlanJudging.{is_safe}
use Rattle.path_checker.proofs.Starting.{first_covers}
use Rattle.path_checker.proofs.judge_plan.judge.Goals as goal

pub returns-then-not-invokes : goal.returns-then-not-invokes
returns-then-not-invokes c =
    let plan = plan_tree c.args.plan.now in
    is_safe plan (first_kept plan.count ∷ []) refl (first_covers plan (first_kept plan.count ∷ []) (λ i. never_true (subst (λ (b : Bool). IsTrue b) c.if-not-invokes.true (c.invokes.ensures.1 i))))
