use Rattle.std.proofs.Common.{take}
use Rattle.step_machine.specs.Areas.{area_at}
use Rattle.step_machine.proofs.Replaced.{replaced_as, replaced_held}
use Rattle.step_machine.proofs.Short.{spot_kept, spot_short}
use Rattle.step_machine.proofs.copying.copy_content.Goals as goal

pub returns-in-Flash-clause-keeps : goal.returns-in-Flash-clause-keeps
returns-in-Flash-clause-keeps g c t = spot_kept _ _ c.in-Flash.is _ _ (c.copy_to_slot.ensures.keeps t)

pub returns-in-Flash-clause-short : goal.returns-in-Flash-clause-short
returns-in-Flash-clause-short g c t = spot_short _ _ c.in-Flash.is c.args.ram.now (g.D.Disk.flash c.copy_to_slot.new.disk).reads

pub returns-in-Flash-clause-any_moment : goal.returns-in-Flash-clause-any_moment
returns-in-Flash-clause-any_moment g c t =
    replaced_as c.args.spot c.in-Flash.slot c.in-Flash.is (take c.args.size (area_at c.args.source c.args.ram.now (g.D.Disk.flash c.args.disk.now).reads)) _ _ (c.copy_to_slot.ensures.any_moment t)

pub returns-in-Ram-clause-any_moment : goal.returns-in-Ram-clause-any_moment
returns-in-Ram-clause-any_moment g c t =
    replaced_held c.args.spot c.in-Ram.component c.in-Ram.is (take c.args.size (area_at c.args.source c.args.ram.now (g.D.Disk.flash c.args.disk.now).reads)) _ _ (c.copy_to_ram.ensures.read.same t)
