use Rattle.std.proofs.Common.{ap, ◌∙◌}
use Rattle.suit_params.specs.InForce.{in_force}
use Rattle.path_checker.proofs.RowLaws.{in_row_at}
use Rattle.path_checker.proofs.judge_plan.in_force.InForce.get.Goals as goal

pub returns : goal.returns
returns c = in_row_at c.rows-rows.result.now c.args.component c.args.key c.index-rows-index.result _ c.rows-rows.ensures.keyed c.requires.room c.index-rows-index.is c.get.ensures ∙ ap (λ ps. in_force ps c.args.component c.args.key) c.rows-rows.ensures.is
