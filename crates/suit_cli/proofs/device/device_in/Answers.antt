use Rattle.std.proofs.Common.{subst, sym, Err}
use Rattle.suit_cli.specs.declared.reply.Stop.{Stop}
use Rattle.suit_cli.specs.Devices.{device_in}
use Rattle.suit_cli.specs.Stages.{Does}
use Rattle.suit_cli.proofs.Chains.{anywhere, stops_with}
use Rattle.suit_cli.proofs.Initing.{layout_there, no_device_text, no_layout_there}
use Rattle.suit_cli.proofs.device.device_in.Goals as goal

pub returns-in_err-value-clause-finds : goal.returns-in_err-value-clause-finds
returns-in_err-value-clause-finds c here =
    stops_with (device_in c.args.size c.args.bytes.now) here here c.from_residual.result c.in_err-value.field-0.0 c.from_residual.ensures.1
    (no_device_text c.args.size c.args.bytes.now here c.in_err-value.field-0.0 (c.in_err-value.ensures here))

pub returns-in-Ok-clause-finds : goal.returns-in-Ok-clause-finds
returns-in-Ok-clause-finds c here =
    let text = (c.in_ok-value.ensures anywhere).1 in
    layout_there c.args.size c.args.bytes.now _ c.in-Ok.layout c.in-Ok.frame text.utf8 text.reads c.in-Ok.ensures.ok here

pub returns-in-Ok-clause-placed : goal.returns-in-Ok-clause-placed
returns-in-Ok-clause-placed c room = c.in-Ok.ensures.placed room

pub returns-clause-finds : goal.returns-clause-finds
returns-clause-finds c here =
    let text = (c.in_ok-value.ensures anywhere).1 in
    subst (λ (s : Stop). Does (device_in c.args.size c.args.bytes.now) here here (Err s)) (sym c.refused_by.ensures)
    (no_layout_there c.args.size c.args.bytes.now _ c.in-Err.fault c.fault_line.result text.utf8 text.reads c.in-Err.ensures.refused c.fault_line.ensures here)
