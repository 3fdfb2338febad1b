use Rattle.step_machine.proofs.Memory.{ram_same}
use Rattle.step_machine.proofs.exchanging.stretch.Goals as goal

pub returns-else-content-size-clause-ram : goal.returns-else-content-size-clause-ram
returns-else-content-size-clause-ram c = ram_same c.args.spot c.args.ram.now
