use Rattle.std.proofs.Common.{refl}
use Rattle.hex.proofs.OnLiterals.{hex_on_literals}
use Rattle.conformance.proofs.byte_vectors.of_zero_digest.Goals as goal

pub returns : goal.returns
unfolding hex_on_literals
returns c =
    rw (c.in_ok-extend-3.ensures.ok, c.in_ok-extend-2.ensures.ok, c.in_ok-extend.ensures.ok, c.in_ok-bytes.ensures)
    refl
