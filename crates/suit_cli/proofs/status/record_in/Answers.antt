use Rattle.std.proofs.Common.{None, Some, refl}
use Rattle.rollback_record.proofs.FrameLoads.{loaded_as}
use Rattle.suit_cli.specs.Outside.{Outside, with_flash}
use Rattle.suit_cli.proofs.StatusLines.{nothing_there}
use Rattle.suit_cli.proofs.status.record_in.Goals as goal

pub load_record_by-requires-clause-frame : goal.load_record_by-requires-clause-frame
load_record_by-requires-clause-frame g c = c.requires.allowed.frame_is

pub load_record_by-requires-clause-config : goal.load_record_by-requires-clause-config
load_record_by-requires-clause-config g c told = (c.args.config.now.1, c.requires.held told)

pub returns-in-Ok-Some-clause-finds : goal.returns-in-Ok-Some-clause-finds
returns-in-Ok-Some-clause-finds g c here = (
  record { beside = refl; still = record { told = refl; size = c.in-Ok-Some.ensures.size; reads = λ t. (c.in-Ok-Some.ensures.same t).reads }; faults = c.in-Ok-Some.ensures.counts },
  λ told. loaded_as c.args.config.now.2 (g.D.Disk.flash c.args.flash.now).reads c.in-Ok-Some.field-0 (Some c.in-Ok-Some.record)
      c.in-Ok-Some.field-0-is (c.in-Ok-Some.ensures.exact told),
)

pub returns-in-Ok-None-clause-finds : goal.returns-in-Ok-None-clause-finds
returns-in-Ok-None-clause-finds g c here =
    let d = g.D.Disk in
    let before : Outside = with_flash here (record { told = d.told; size = d.extent c.args.flash.now; reads = (d.flash c.args.flash.now).reads; faults = d.faults c.args.flash.now }) in
    let after : Outside = with_flash here (record { told = d.told; size = d.extent c.load_record_by.new.disk; reads = (d.flash c.load_record_by.new.disk).reads; faults = d.faults c.load_record_by.new.disk }) in
    nothing_there c.args.config.now.2 before after
    (record { beside = refl; still = record { told = refl; size = c.in-Ok-None.ensures.size; reads = λ t. (c.in-Ok-None.ensures.same t).reads }; faults = c.in-Ok-None.ensures.counts })
    (λ told. loaded_as c.args.config.now.2 (d.flash c.args.flash.now).reads c.in-Ok-None.field-0 None c.in-Ok-None.field-0-is (c.in-Ok-None.ensures.exact told))
    c.fixed.result c.declined.result c.fixed.ensures c.declined.ensures
