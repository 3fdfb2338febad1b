use Rattle.std.proofs.Common.{length, ap, arith}
use Rattle.std.proofs.lemmas.List.{length-append}
use Rattle.det_cbor.specs.HeadSpelling.{spelled}
use Rattle.det_cbor.proofs.Heads.{head_takes}
use Rattle.suit_cursor.proofs.known_head.known_head.Goals as goal

pub returns-clause-shorter : goal.returns-clause-shorter
returns-clause-shorter c =
    let begins = head_takes c.args.bytes.now c.take_head.result.0 c.take_head.result.1.now (λ i. omega (arith, c.type_inv.bytes i)) c.take_head.ensures in
    omega (arith, ap length begins.parts, length-append (spelled c.take_head.result.0) c.take_head.result.1.now)
