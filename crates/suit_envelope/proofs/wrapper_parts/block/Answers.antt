use Rattle.std.proofs.Common.{◌∙◌, ap, List, ℕ, Some, arith}
use Rattle.suit_envelope.proofs.WrapperLaws.{block_past, block_found, block_never}
use Rattle.suit_envelope.proofs.wrapper_parts.block.Goals as goal

pub returns-then-number-count : goal.returns-then-number-count
returns-then-number-count c = block_past c.args.envelope.now.wrapper.now c.count.result c.args.number c.count.ensures (omega (arith, c.if-number-count.true))

pub returns-in-Ok : goal.returns-in-Ok
returns-in-Ok c = λ digest blocks so.
    ap (λ (bytes : List ℕ). Some bytes) c.bytes_left.ensures ∙ block_found c.args.envelope.now.wrapper.now c.count.result c.args.number c.in-Ok.content c.count.ensures (omega (arith, c.if-number-count.false)) c.in-Ok.ensures digest blocks so

pub returns-in-Err : goal.returns-in-Err
returns-in-Err c = block_never c.args.envelope.now.wrapper.now c.count.result c.args.number c.in-Err.field-0 c.count.ensures (omega (arith, c.if-number-count.false)) c.in-Err.ensures
