use Rattle.std.proofs.Common.{arith}
use Rattle.suit_commands.proofs.SequenceAnswers.{ok_says, err_refuses, every_sequence, every_refusal}
use Rattle.suit_commands.proofs.decode.decode_sequence.Goals as goal

pub returns-clause-ok : goal.returns-clause-ok
returns-clause-ok c = ok_says c.args.shared c.args.count c.args.place c.args.bytes.now c.whole_sequence.result (λ i. omega (arith, c.type_inv.bytes i)) c.whole_sequence.ensures

pub returns-clause-refused : goal.returns-clause-refused
returns-clause-refused c = err_refuses c.args.shared c.args.count c.args.place c.args.bytes.now c.whole_sequence.result (λ i. omega (arith, c.type_inv.bytes i)) c.whole_sequence.ensures

pub returns-clause-every_sequence : goal.returns-clause-every_sequence
returns-clause-every_sequence c = every_sequence c.args.shared c.args.count c.args.place c.args.bytes.now c.whole_sequence.result (λ i. omega (arith, c.type_inv.bytes i)) c.whole_sequence.ensures

pub returns-clause-every_refusal : goal.returns-clause-every_refusal
returns-clause-every_refusal c = every_refusal c.args.shared c.args.count c.args.place c.args.bytes.now c.whole_sequence.result (λ i. omega (arith, c.type_inv.bytes i)) c.whole_sequence.ensures
