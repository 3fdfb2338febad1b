use Rattle.std.proofs.Common.{refl}
use Rattle.suit_cli.specs.Outside.{Outside, with_flash}
use Rattle.suit_cli.proofs.StatusLines.{no_lines_there}
use Rattle.suit_cli.proofs.components.component_lines.Goals as goal

pub returns-in_err-push_components-clause-finds : goal.returns-in_err-push_components-clause-finds
returns-in_err-push_components-clause-finds g c here =
    let d = g.D.Disk in
    let before : Outside = with_flash here (record { told = d.told; size = d.extent c.args.flash.now; reads = (d.flash c.args.flash.now).reads; faults = d.faults c.args.flash.now }) in
    let after : Outside = with_flash here (record { told = d.told; size = d.extent c.push_components.new.flash; reads = (d.flash c.push_components.new.flash).reads; faults = d.faults c.push_components.new.flash }) in
    no_lines_there c.args.layout.now c.args.installed.now before after refl
    (record { told = refl; size = c.in_err-push_components.ensures.extent; reads = λ t. (c.in_err-push_components.ensures.same t).reads })
    c.from_residual.result c.in_err-push_components.field-0.0 c.from_residual.ensures.1 c.in_err-push_components.ensures.counts
