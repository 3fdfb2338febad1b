use Rattle.std.proofs.Common.{◌*◌}
use Rattle.lane_bytes.specs.Bytes.{ClearsBelow}
use Rattle.lane_bytes.proofs.clearing.only_clears.Given as goal

abbrev pub invariant-chunks : goal.invariant-chunks
invariant-chunks l = ClearsBelow (32 * l.k) l.old l.new

abbrev pub invariant-rest : goal.invariant-rest
invariant-rest l = ClearsBelow l.i l.old l.new
