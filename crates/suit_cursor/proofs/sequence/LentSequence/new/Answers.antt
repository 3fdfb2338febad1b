use Rattle.std.proofs.Common.{arith}
use Rattle.suit_cursor.proofs.Door.{says, refuses, every_said, every_refused}
use Rattle.suit_cursor.proofs.sequence.LentSequence.new.Goals as goal

pub returns-clause-ok : goal.returns-clause-ok
returns-clause-ok c = says c.args.shared c.args.count c.args.place c.args.bytes.now c.judged.result (λ i. omega (arith, c.type_inv.bytes i)) c.judged.ensures

pub returns-clause-refused : goal.returns-clause-refused
returns-clause-refused c = refuses c.args.shared c.args.count c.args.place c.args.bytes.now c.judged.result (λ i. omega (arith, c.type_inv.bytes i)) c.judged.ensures

pub returns-clause-every_sequence : goal.returns-clause-every_sequence
returns-clause-every_sequence c = every_said c.args.shared c.args.count c.args.place c.args.bytes.now c.judged.result (λ i. omega (arith, c.type_inv.bytes i)) c.judged.ensures

pub returns-clause-every_refusal : goal.returns-clause-every_refusal
returns-clause-every_refusal c = every_refused c.args.shared c.args.count c.args.place c.args.bytes.now c.judged.result (λ i. omega (arith, c.type_inv.bytes i)) c.judged.ensures
