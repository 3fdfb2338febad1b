use Rattle.step_machine.proofs.Short.{spot_short}
use Rattle.step_machine.proofs.contents.content_fits.Goals as goal

pub returns-in-Flash : goal.returns-in-Flash
returns-in-Flash g c = spot_short _ _ c.in-Flash.is c.args.ram.now (g.D.Disk.flash c.args.disk.now).reads
