use Rattle.std.proofs.Common.{◌≡◌, ◌++◌, drop}
use Rattle.det_cbor.proofs.duplicate.Duplicate.copy_all.Given as goal

-- the values copied so far, followed by those that are left, are all the values
abbrev pub invariant-loop-value : goal.invariant-loop-value
invariant-loop-value g l = l.copies.items ++ drop l.value-index l.values ≡ l.values
