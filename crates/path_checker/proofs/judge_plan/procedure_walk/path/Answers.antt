use Rattle.std.proofs.Common.{[], ◌∷◌}
use Rattle.std.proofs.lemmas.Result.{IfErr-weaker}
use Rattle.suit_commands.specs.Plans.{plan_tree}
use Rattle.path_model.specs.Path.{RunsPlan}
use Rattle.path_checker.specs.Halting.{Halts}
use Rattle.path_checker.proofs.Going.{StandsFor-halts, all_parts, stands_all}
use Rattle.path_checker.proofs.judge_plan.procedure_walk.path.Goals as goal

pub returns : goal.returns
returns c =
    let plan = plan_tree c.args.plan.now in
    IfErr-weaker c.spell.result (λ h. Halts (all_parts plan) (c.args.from ∷ []) h) (λ h. Halts (RunsPlan plan) (c.args.from ∷ []) h) (λ h u. StandsFor-halts (all_parts plan) (RunsPlan plan) (c.args.from ∷ []) (stands_all plan) h u) c.spell.ensures
