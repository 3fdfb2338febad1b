use Rattle.std.proofs.Common.{List, ℕ, ◌+◌, ◌*◌, Option, Some, ap, ◌∙◌}
use Rattle.std.specs.Prelude.{slice_set}
use Rattle.suit_params.specs.declared.param.Param.{Param}
use Rattle.suit_params.specs.InForce.{rank}
use Rattle.suit_params.specs.ParamSlices.{param_of}
use Rattle.suit_cursor.proofs.SlicesInForce.{set_lent}
use Rattle.suit_cursor.proofs.slice_params.SliceParams.put.Goals as goal

pub returns : goal.returns
returns c =
    set_lent c.self.inside.held (12 * c.args.component + c.rank.result) c.args.param
    ∙ ap (λ (cells : List (Option Param)). slice_set cells (12 * c.args.component + c.rank.result) (Some (param_of c.args.param))) c.self.view_is
    ∙ ap (λ (i : ℕ). slice_set c.args.self.now (12 * c.args.component + i) (Some (param_of c.args.param))) (c.rank.ensures.is ∙ ap rank c.key.ensures)
