use Rattle.std.proofs.Common.{List, ℕ, Option, Some, ap, ◌∙◌}
use Rattle.std.specs.Prelude.{slice_set}
use Rattle.suit_params.specs.declared.param.Param.{Param}
use Rattle.suit_params.specs.InForce.{rank}
use Rattle.suit_params.proofs.Overriding.{set_lent}
use Rattle.path_checker.proofs.judge_plan.in_force.Cells.set.Goals as goal

pub returns : goal.returns
returns c =
    set_lent c.self.inside.params c.rank.result c.args.param
    ∙ ap (λ (cells : List (Option Param)). slice_set cells c.rank.result (Some c.args.param.now)) c.self.view_is
    ∙ ap (λ (i : ℕ). slice_set c.args.self.now i (Some c.args.param.now)) (c.rank.ensures.is ∙ ap rank c.key.ensures)
