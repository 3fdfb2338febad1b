use Rattle.std.proofs.Common.{ℕ, subst}
use Rattle.flash_layout.specs.declared.frame.TheConstants.{VERSION_1}
use Rattle.step_machine.specs.Worlds.{AreStandings}
use Rattle.procedure_tests.proofs.FirstSlots.{first_slots}
use Rattle.procedure_tests.proofs.tests.device.run_on.Goals as goal

pub new-requires-clause-slots : goal.new-requires-clause-slots
new-requires-clause-slots g c =
    first_slots VERSION_1 c.size.result c.args.layout.now (c.is_layout.ensures.0 c.if-not-is_layout.false)

pub run_plan-requires-clause-standings : goal.run_plan-requires-clause-standings
run_plan-requires-clause-standings g c =
    let world = c.in_ok-world.world in
    subst (λ (size : ℕ). AreStandings size world.ram world.standings.items) c.size.ensures
    (c.in_ok-world.ensures.fit VERSION_1 c.size.result (c.is_layout.ensures.0 c.if-not-is_layout.false))
