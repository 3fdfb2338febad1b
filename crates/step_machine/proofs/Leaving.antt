-- How a running procedure leaves what it works with.
use Rattle.std.proofs.Common.{refl, ◌∙◌}
use Rattle.step_machine.specs.declared.machine.Machine.{Machine}
use Rattle.step_machine.specs.declared.machine.Work.{Work}
use Rattle.step_machine.specs.Running.{LeavesWork}

pub leaves_start : {H D L : Type 0} (machine : Machine) (work : Work H D L) → LeavesWork machine work work
leaves_start machine work = record { unasked = λ none. refl; unfetched = λ none. refl; host = refl; disk = refl; launcher = refl; ram = refl; pieces = refl }

pub leaves_then : {H D L : Type 0} {machine : Machine} {a b c : Work H D L} → LeavesWork machine a b → LeavesWork machine b c → LeavesWork machine a c
leaves_then one other = record {
  unasked = λ none. other.unasked none ∙ one.unasked none;
  unfetched = λ none. other.unfetched none ∙ one.unfetched none;
  host = other.host ∙ one.host;
  disk = other.disk ∙ one.disk;
  launcher = other.launcher ∙ one.launcher;
  ram = other.ram ∙ one.ram;
  pieces = other.pieces ∙ one.pieces;
}
