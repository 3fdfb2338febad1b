use Rattle.std.proofs.Common.{arith}
use Rattle.suit_envelope.proofs.PutWrapper.{ok_wrapper}
use Rattle.suit_envelope.proofs.EnvelopeAnswers.{ok_says, ok_ends, err_refuses, every_envelope, every_refusal}
use Rattle.suit_envelope.proofs.decode.decode_envelope.Goals as goal

pub returns-clause-ok : goal.returns-clause-ok
returns-clause-ok c = ok_says c.args.bytes.now c.read_envelope.result (λ i. omega (arith, c.type_inv.bytes i)) c.read_envelope.ensures.says

pub returns-clause-refused : goal.returns-clause-refused
returns-clause-refused c = err_refuses c.args.bytes.now c.read_envelope.result (λ i. omega (arith, c.type_inv.bytes i)) c.read_envelope.ensures.says

pub returns-clause-every_envelope : goal.returns-clause-every_envelope
returns-clause-every_envelope c = every_envelope c.args.bytes.now c.read_envelope.result (λ i. omega (arith, c.type_inv.bytes i)) c.read_envelope.ensures.says

pub returns-clause-every_refusal : goal.returns-clause-every_refusal
returns-clause-every_refusal c = every_refusal c.args.bytes.now c.read_envelope.result (λ i. omega (arith, c.type_inv.bytes i)) c.read_envelope.ensures.says

pub returns-clause-wrapper : goal.returns-clause-wrapper
returns-clause-wrapper c = ok_wrapper c.args.bytes.now c.read_envelope.result (returns-clause-ok c)

pub returns-clause-places : goal.returns-clause-places
returns-clause-places c = ok_ends c.args.bytes.now c.read_envelope.result c.read_envelope.ensures.long (returns-clause-ok c)
