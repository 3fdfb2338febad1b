use Rattle.std.proofs.Common.{ap, ◌∙◌}
use Rattle.suit_envelope.specs.Payloads.{payload_under}
use Rattle.suit_envelope.proofs.PayloadLaws.{looked_up, never_refused}
use Rattle.suit_envelope.proofs.payloads.look_up.Goals as goal

pub returns-in-Ok : goal.returns-in-Ok
returns-in-Ok c = λ payloads has.
    looked_up c.args.envelope.now.whole.now _ payloads c.as_bytes.result.now c.in-Ok.ensures has ∙ ap (payload_under payloads) c.as_bytes.ensures.value

pub returns-in-Err : goal.returns-in-Err
returns-in-Err c = λ payloads has.
    never_refused c.args.envelope.now.whole.now c.in-Err.field-0 payloads c.as_bytes.result.now c.in-Err.ensures has ∙ ap (payload_under payloads) c.as_bytes.ensures.value
