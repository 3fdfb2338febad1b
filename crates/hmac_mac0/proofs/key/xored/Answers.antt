use Rattle.std.proofs.Common.{bit_xor, arith}
use Rattle.hmac_mac0.proofs.Maps.{mapped_next}
use Rattle.hmac_mac0.proofs.key.xored.Goals as goal

pub loop-byte-preserved : goal.loop-byte-preserved
loop-byte-preserved g c = mapped_next (λ b. bit_xor b c.args.with) c.args.block.now c.loop-byte.byte-items c.loop-byte.byte-index (search arith) c.loop-byte.invariant
