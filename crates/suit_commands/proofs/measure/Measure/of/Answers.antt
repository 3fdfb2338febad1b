use Rattle.std.proofs.Common.{sym, arith}
use Rattle.suit_commands.proofs.Capping.{capped_small}
use Rattle.suit_commands.proofs.measure.Measure.of.Goals as goal

pub returns-in-None : goal.returns-in-None
returns-in-None c = record {
  work = rw c.in-None.is (sym (capped_small 0 (omega arith)));
  on = rw c.in-None.is (sym (capped_small 1 (omega arith)));
}
