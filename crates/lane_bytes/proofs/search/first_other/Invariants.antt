use Rattle.std.proofs.Common.{length, ◌+◌, ◌-◌, ◌≤◌}
use Rattle.lane_bytes.specs.Bytes.{AreAll}
use Rattle.lane_bytes.proofs.search.first_other.Given as goal

abbrev pub invariant-chunks : goal.invariant-chunks
invariant-chunks l = AreAll l.byte l.at l.a × (l.at ≤ length l.a)

abbrev pub decreases-chunks : goal.decreases-chunks
decreases-chunks l = length l.a + 1 - l.at

abbrev pub invariant-rest : goal.invariant-rest
invariant-rest l = AreAll l.byte l.at l.a × (l.at ≤ length l.a)

abbrev pub decreases-rest : goal.decreases-rest
decreases-rest l = length l.a - l.at
