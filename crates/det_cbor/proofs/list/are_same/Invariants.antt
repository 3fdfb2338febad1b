use Rattle.std.proofs.Common.{◌≡◌, take}
use Rattle.det_cbor.proofs.list.are_same.Given as goal

-- so far, the parts are equal
abbrev pub invariant-loop-i : goal.invariant-loop-i
invariant-loop-i l = take l.i l.a ≡ take l.i l.b
