use Rattle.std.proofs.Common.{arith}
use Rattle.det_cbor.specs.ItemTree.{tree_of}
use Rattle.det_cbor.proofs.DecodeLaws.{decoded_item, decoded_only, refused_fault, refused_item, refused_only}
use Rattle.det_cbor.proofs.OneReadingLaw.{item_sound}
use Rattle.det_cbor.proofs.decoding.decode.Goals as goal

pub returns-in-Ok-clause-item : goal.returns-in-Ok-clause-item
returns-in-Ok-clause-item c = decoded_item c.args.bytes.now (tree_of c.in-Ok.item) c.in-Ok.rest.now c.saturating_sub.result (λ i. omega (arith, c.type_inv.bytes i)) c.in-Ok.ensures c.saturating_sub.ensures

pub returns-in-Ok-clause-every_item : goal.returns-in-Ok-clause-every_item
returns-in-Ok-clause-every_item c = decoded_only c.args.bytes.now (tree_of c.in-Ok.item) c.in-Ok.rest.now c.saturating_sub.result c.in-Ok.ensures c.saturating_sub.ensures

pub returns-in-Ok-clause-every_fault : goal.returns-in-Ok-clause-every_fault
returns-in-Ok-clause-every_fault c = item_sound c.args.bytes.now (tree_of c.in-Ok.item) c.in-Ok.rest.now c.in-Ok.ensures

pub returns-in-Err-Stopped-clause-fault : goal.returns-in-Err-Stopped-clause-fault
returns-in-Err-Stopped-clause-fault c = refused_fault c.args.bytes.now c.in-Err-Stopped.stop c.saturating_sub-in-Err-Stopped.result (λ i. omega (arith, c.type_inv.bytes i)) (rw c.in-Err-Stopped.field-0-is at c.in-Err-Stopped.ensures) c.saturating_sub-in-Err-Stopped.ensures

pub returns-in-Err-Stopped-clause-every_item : goal.returns-in-Err-Stopped-clause-every_item
returns-in-Err-Stopped-clause-every_item c = refused_item c.args.bytes.now c.in-Err-Stopped.stop (rw c.in-Err-Stopped.field-0-is at c.in-Err-Stopped.ensures)

pub returns-in-Err-Stopped-clause-every_fault : goal.returns-in-Err-Stopped-clause-every_fault
returns-in-Err-Stopped-clause-every_fault c = refused_only c.args.bytes.now c.in-Err-Stopped.stop c.saturating_sub-in-Err-Stopped.result (rw c.in-Err-Stopped.field-0-is at c.in-Err-Stopped.ensures) c.saturating_sub-in-Err-Stopped.ensures
