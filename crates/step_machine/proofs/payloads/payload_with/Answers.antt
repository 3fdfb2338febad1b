use Rattle.std.proofs.Common.{◌∙◌, option_map, ap}
use Rattle.step_machine.proofs.Keys.{found_by_none, found_by_text}
use Rattle.step_machine.proofs.payloads.payload_with.Goals as goal

pub returns-in_err-text : goal.returns-in_err-text
returns-in_err-text c payloads has = ap (option_map (λ content. content.now)) c.from_residual.ensures ∙ found_by_none c.args.envelope.now.whole.now c.args.key.now payloads c.in_err-text.ensures has

pub returns : goal.returns
returns c payloads has = found_by_text c.args.key.now c.in_ok-text.text.now payloads _ c.in_ok-text.ensures (c.payload.ensures.answers payloads has)
