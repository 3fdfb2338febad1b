use Rattle.std.proofs.Common.{[], ◌∷◌, ap, subst}
use Rattle.suit_commands.specs.Plans.{plan_tree}
use Rattle.path_model.specs.Path.{RunsPlan}
use Rattle.path_checker.specs.declared.judge_plan.halt.Halt.{Halt}
use Rattle.path_checker.specs.Exploring.{Kept}
use Rattle.path_checker.specs.Halting.{Halts}
use Rattle.path_checker.specs.PlanVerdicts.{Tells}
use Rattle.path_checker.proofs.PlanJudging.{told_judges}
use Rattle.path_checker.proofs.judge_plan.spell_in.Goals as goal

pub returns-in-Err-Uncovered : goal.returns-in-Err-Uncovered
returns-in-Err-Uncovered c =
    told_judges (plan_tree c.args.plan) (c.in-Ok.from ∷ []) c.in-Err-Uncovered.k c.verdict_on.result (ap (λ (k : Kept). k ∷ []) c.in-Ok.ensures)
    (subst (λ (h : Halt). Halts (RunsPlan (plan_tree c.args.plan)) (c.in-Ok.from ∷ []) h) c.in-Err-Uncovered.field-0-is c.in-Err-Uncovered.ensures) (subst (λ (k : Kept). Tells k c.verdict_on.result) c.into_kept.ensures c.verdict_on.ensures)
