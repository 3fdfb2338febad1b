use Rattle.std.proofs.Common.{List, sym, subst}
use Rattle.flash_slots.specs.RamContents.{Held, IsRamOf}
use Rattle.step_machine.proofs.Fitting.{made_empty}
use Rattle.step_machine.proofs.world.World.new.Goals as goal

pub returns-clause-fit : goal.returns-clause-fit
returns-clause-fit c frame size is =
    c.with_ram.ensures.fit (subst (λ (ram : List Held). IsRamOf c.args.layout.now ram) (sym c.in_ok-ram.ensures) (made_empty c.args.layout.now)) frame size is
