use Rattle.step_machine.proofs.Fitting.{stand_at_most, world_fits}
use Rattle.step_machine.proofs.world.World.with_ram.Goals as goal

pub returns-clause-fit : goal.returns-clause-fit
returns-clause-fit c made frame size is =
    world_fits frame size c.args.layout.now is c.args.places.now c.requires.places c.args.slots.now c.requires.slots c.stand.result.items c.stand.ensures.stand c.stand.ensures.two c.args.ram made

pub returns-clause-rooms : goal.returns-clause-rooms
returns-clause-rooms c room rooms = stand_at_most c.args.layout.now c.args.places.now c.requires.places c.args.slots.now c.stand.result.items c.stand.ensures.stand room rooms
