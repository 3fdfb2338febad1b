use Rattle.std.proofs.Common.{length}
use Rattle.cbor_diag.proofs.Steps.{quoted_end, quoted_step}
use Rattle.cbor_diag.proofs.quoted.read_quoted.Goals as goal

pub returns-in-Some : goal.returns-in-Some
returns-in-Some c =
    quoted_end c.args.quoted c.loop.bytes (length c.args.text.now) c.loop.counter c.loop.rest.now c.in-Some.end.now _ c.loop-test.true
    (rw c.closing.ensures at c.in-Some.ensures) c.loop.invariant

pub loop-preserved : goal.loop-preserved
loop-preserved c =
    rw c.in_ok-push.ensures.ok
    (quoted_step c.args.quoted c.loop.bytes (length c.args.text.now) c.loop.counter c.loop.rest.now c.in-Some-piece.byte c.in-Some-piece.later.now _ c.loop-test.true
    (rw c.closing.ensures at c.in_default.ensures) c.in-Some-piece.ensures c.loop.invariant)
