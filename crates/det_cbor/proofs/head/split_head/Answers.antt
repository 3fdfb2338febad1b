use Rattle.std.proofs.Common.{arith}
use Rattle.det_cbor.proofs.Heads.{found_begins, found_length}
use Rattle.det_cbor.proofs.BadHeads.{refused_bad, found_head, found_bad}
use Rattle.det_cbor.proofs.head.split_head.Goals as goal

pub returns-clause-begins : goal.returns-clause-begins
returns-clause-begins c = found_begins c.args.bytes.now c.read_head.result (λ i. omega (arith, c.type_inv.bytes i)) c.read_head.ensures

pub returns-clause-length : goal.returns-clause-length
returns-clause-length c = found_length c.args.bytes.now c.read_head.result (returns-clause-begins c)

pub returns-clause-bad : goal.returns-clause-bad
returns-clause-bad c = refused_bad c.args.bytes.now c.read_head.result (λ i. omega (arith, c.type_inv.bytes i)) c.read_head.ensures

pub returns-clause-every_head : goal.returns-clause-every_head
returns-clause-every_head c = found_head c.args.bytes.now c.read_head.result c.read_head.ensures

pub returns-clause-every_fault : goal.returns-clause-every_fault
returns-clause-every_fault c = found_bad c.args.bytes.now c.read_head.result c.read_head.ensures
