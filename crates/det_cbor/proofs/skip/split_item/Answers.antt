use Rattle.std.proofs.Common.{arith}
use Rattle.det_cbor.proofs.SplitLaws.{answer_parts, answer_length, answer_item, answer_fault, answer_within, answer_every_item, answer_every_fault}
use Rattle.det_cbor.proofs.skip.split_item.Goals as goal

pub returns : goal.returns
returns c =
    let parts = answer_parts c.args.bytes.now c.split.result (λ i. omega (arith, c.type_inv.bytes i)) c.split.ensures in
    record {
      exact = c.split.ensures;
      parts = parts;
      length = answer_length c.args.bytes.now c.split.result parts;
      item = answer_item c.args.bytes.now c.split.result (λ i. omega (arith, c.type_inv.bytes i)) c.split.ensures;
      fault = answer_fault c.args.bytes.now c.split.result (λ i. omega (arith, c.type_inv.bytes i)) c.split.ensures;
      within = answer_within c.args.bytes.now c.split.result (λ i. omega (arith, c.type_inv.bytes i)) c.split.ensures;
      every_item = answer_every_item c.args.bytes.now c.split.result c.split.ensures;
      every_fault = answer_every_fault c.args.bytes.now c.split.result c.split.ensures;
    }
