use Rattle.std.proofs.Common.{refl}
use Rattle.hex.proofs.OnLiterals.{hex_on_literals}
use Rattle.conformance.proofs.byte_vectors.vectors.Goals as goal

pub returns : goal.returns
unfolding hex_on_literals
returns c =
    rw (
      c.in_ok-push-6.ensures.ok,
      c.in_ok-push-5.ensures.ok,
      c.in_ok-push-4.ensures.ok,
      c.in_ok-push-3.ensures.ok,
      c.in_ok-push-2.ensures.ok,
      c.in_ok-push.ensures.ok,
      c.new-list.ensures,
      c.in_ok-from_slice.ensures,
      c.in_ok-from_slice-2.ensures,
      c.in_ok-from_slice-3.ensures,
      c.in_ok-from_slice-4.ensures,
      c.in_ok-of_zero_digest.ensures,
      c.in_ok-installing.ensures,
    )
    refl
