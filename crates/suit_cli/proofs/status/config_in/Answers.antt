use Rattle.std.proofs.Common.{refl}
use Rattle.suit_cli.specs.Outside.{Outside, with_flash}
use Rattle.suit_cli.proofs.StatusLines.{blank_there}
use Rattle.suit_cli.proofs.status.config_in.Goals as goal

pub returns-in-Blank-clause-finds : goal.returns-in-Blank-clause-finds
returns-in-Blank-clause-finds g c here =
    let d = g.D.Disk in
    let before : Outside = with_flash here (record { told = d.told; size = d.extent c.args.flash.now; reads = (d.flash c.args.flash.now).reads; faults = d.faults c.args.flash.now }) in
    let after : Outside = with_flash here (record { told = d.told; size = d.extent c.load_config.new.disk; reads = (d.flash c.load_config.new.disk).reads; faults = d.faults c.load_config.new.disk }) in
    blank_there before after
    (record { beside = refl; still = record { told = refl; size = c.in-Blank.ensures.size; reads = λ t. (c.in-Blank.ensures.same t).reads }; faults = c.in-Blank.ensures.counts })
    c.in-Blank.ensures.exact c.fixed.result c.declined.result c.fixed.ensures c.declined.ensures

pub returns-in-Config-clause-finds : goal.returns-in-Config-clause-finds
returns-in-Config-clause-finds g c here = (
  record { beside = refl; still = record { told = refl; size = c.in-Config.ensures.size; reads = λ t. (c.in-Config.ensures.same t).reads }; faults = c.in-Config.ensures.counts },
  λ told. c.in-Config.ensures.exact told,
)
