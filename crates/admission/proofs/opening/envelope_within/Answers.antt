use Rattle.std.proofs.Common.{arith}
use Rattle.suit_envelope.specs.Said.{said_by}
use Rattle.admission.specs.Opening.{trimmed_size}
use Rattle.admission.proofs.Refusing.{above_limit, are_bytes, within_limit}
use Rattle.suit_commands.specs.Capped.{capped}
use Rattle.admission.proofs.opening.envelope_within.Goals as goal

pub returns-then-length-from-clause-refused : goal.returns-then-length-from-clause-refused
unfolding capped
returns-then-length-from-clause-refused c = record {
  said = said_by c.in-Ok.envelope;
  spell = record { are_bytes = are_bytes c.args.bytes.now (λ i. omega (arith, c.type_inv.bytes i)); envelope = c.in-Ok.ensures.ok };
  long = above_limit c.trimmed_length-length.result (trimmed_size (said_by c.in-Ok.envelope)) c.from.result c.args.limit c.trimmed_length-length.ensures c.from.ensures c.if-length-from.true;
  size_is = c.trimmed_length-length.ensures;
}

pub returns-clause-within : goal.returns-clause-within
unfolding capped
returns-clause-within c = record {
  spell = record { are_bytes = are_bytes c.args.bytes.now (λ i. omega (arith, c.type_inv.bytes i)); envelope = c.in-Ok.ensures.ok };
  short =
      within_limit c.trimmed_length-length.result (trimmed_size (said_by c.in-Ok.envelope)) c.from.result c.args.limit c.trimmed_length-length.ensures c.from.ensures
      (omega (arith, c.ranges.limit.fits)) (omega (arith, c.if-length-from.false));
}
