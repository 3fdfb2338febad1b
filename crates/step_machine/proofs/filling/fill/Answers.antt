use Rattle.step_machine.proofs.Outcomes.{on_any_err}
use Rattle.step_machine.proofs.Replaced.{replaced_as, untouched}
use Rattle.step_machine.proofs.Short.{spot_kept, spot_short}
use Rattle.step_machine.proofs.filling.fill.Goals as goal

pub returns-in-Flash-clause-short : goal.returns-in-Flash-clause-short
returns-in-Flash-clause-short g c t = on_any_err c.fill_slot.result (spot_short _ _ c.in-Flash.is c.args.ram.now (g.D.Disk.flash c.fill_slot.new.disk).reads)

pub returns-in-Flash-clause-keeps : goal.returns-in-Flash-clause-keeps
returns-in-Flash-clause-keeps g c t = spot_kept _ _ c.in-Flash.is _ _ (c.fill_slot.ensures.keeps t)

pub returns-in-Flash-clause-any_moment : goal.returns-in-Flash-clause-any_moment
returns-in-Flash-clause-any_moment g c t = replaced_as c.args.spot c.in-Flash.slot c.in-Flash.is c.args.bytes.now _ _ (c.fill_slot.ensures.any_moment t)

pub returns-in-Ram-clause-any_moment : goal.returns-in-Ram-clause-any_moment
returns-in-Ram-clause-any_moment g c t = untouched c.args.spot c.args.bytes.now (g.D.Disk.flash c.args.disk.now)
