use Rattle.std.proofs.Common.{◌≡◌, ◌≤◌, drop}
use Rattle.suit_edge.specs.Moment.{kept}
use Rattle.suit_edge.specs.MemoryDisk.{writes_of}
use Rattle.suit_edge.proofs.memory_disk.keep.Given as goal

abbrev pub invariant-loop-step : goal.invariant-loop-step
invariant-loop-step l = record {
  few : l.n ≤ l.step-index;
  rest : kept l.choice l.n l.bytes.items (writes_of (drop l.step-index l.pending)) ≡ kept l.choice 0 l.initial.bytes.items (writes_of l.pending);
}
