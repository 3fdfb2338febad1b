use Rattle.std.proofs.Common.{◌≡◌, ◌*◌, take}
use Rattle.lane_bytes.proofs.equality.same.Given as goal

abbrev pub invariant-chunks : goal.invariant-chunks
invariant-chunks l = take (32 * l.k) l.a ≡ take (32 * l.k) l.b
