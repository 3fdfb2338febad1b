use Rattle.std.proofs.Common.{subst, sym, Err}
use Rattle.suit_cli.specs.declared.reply.Stop.{Stop}
use Rattle.suit_cli.specs.Authoring.{description_in}
use Rattle.suit_cli.specs.Stages.{Does}
use Rattle.suit_cli.proofs.Chains.{anywhere}
use Rattle.suit_cli.proofs.Authoring.{described_there, no_authored_text, no_description_there}
use Rattle.suit_cli.proofs.make.description_in.Goals as goal

pub returns-in_err-value : goal.returns-in_err-value
returns-in_err-value c here =
    no_authored_text c.args.bytes.now here c.from_residual.result c.in_err-value.field-0.0 c.from_residual.ensures.1 (c.in_err-value.ensures here)

pub returns-in-Ok : goal.returns-in-Ok
returns-in-Ok c here =
    let text = (c.in_ok-value.ensures anywhere).1 in
    described_there c.args.bytes.now _ c.in-Ok.description text.utf8 text.reads c.in-Ok.ensures.ok here

pub returns : goal.returns
returns c here =
    let text = (c.in_ok-value.ensures anywhere).1 in
    subst (λ (s : Stop). Does (description_in c.args.bytes.now) here here (Err s)) (sym c.refused_by.ensures)
    (no_description_there c.args.bytes.now _ c.in-Err.fault c.fault_line.result text.utf8 text.reads c.in-Err.ensures.refused c.fault_line.ensures here)
