use Rattle.std.proofs.Common.{rules, arith}
use Rattle.path_checker.proofs.RowLaws.{cells_next}
use Rattle.path_checker.proofs.judge_plan.in_force.Cells.is_same.Goals as goal

pub loop-index-preserved : goal.loop-index-preserved
loop-index-preserved c = cells_next c.self.inside.params c.other.inside.params c.loop-index.index c.index-mine-index.result c.index-theirs-index.result (omega arith) (omega arith) (omega (arith, c.loop-index-test.true)) c.index-mine-index.is c.index-theirs-index.is (c.same_param.ensures (search rules)) c.loop-index.invariant
