use Rattle.std.proofs.Common.{◌≡◌, ◌++◌, take, drop, map, bit_xor}
use Rattle.hmac_mac0.proofs.key.xored.Given as goal

abbrev pub invariant-loop-byte : goal.invariant-loop-byte
invariant-loop-byte g l = l.byte-items ≡ map (λ b. bit_xor b l.with) (take l.byte-index l.block) ++ drop l.byte-index l.block
