use Rattle.std.proofs.Common.{sym, subst}
use Rattle.flash_slots.specs.RamContents.{IsRamOf}
use Rattle.step_machine.proofs.Fitting.{made_empty}
use Rattle.invoke_proc.proofs.components.world_in.Goals as goal

pub returns-clause-fit : goal.returns-clause-fit
returns-clause-fit c = c.with_ram.ensures.fit (subst (IsRamOf c.args.layout.now) (sym c.requires.ram) (made_empty c.args.layout.now)) c.args.frame
