use Rattle.step_machine.specs.Worlds.{HaveTwo}
use Rattle.step_machine.proofs.Standings.{StandSo}
use Rattle.step_machine.proofs.world.stand.Given as goal

abbrev pub invariant-loop-component : goal.invariant-loop-component
invariant-loop-component l = record {
  so : StandSo l.layout l.places l.slots l.list.items l.component;
  two : HaveTwo l.layout l.places l.component;
}
