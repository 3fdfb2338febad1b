use Rattle.std.proofs.Common.{◌≡◌, ◌-◌}
use Rattle.suit_commands.specs.SequenceReading.{indices_from}
use Rattle.suit_commands.proofs.ReadingSteps.{with_indices}
use Rattle.suit_commands.proofs.argument.read_indices.Given as goal

-- the rest to read decides the answer
abbrev pub invariant-loop : goal.invariant-loop
invariant-loop l = with_indices l.indices (indices_from l.scope.count l.list (l.elements - l.counter) l.cursor) ≡ indices_from l.scope.count l.list l.elements l.fn.cursor
