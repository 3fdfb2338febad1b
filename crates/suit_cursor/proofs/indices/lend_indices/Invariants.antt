use Rattle.std.proofs.Common.{◌≡◌, ◌-◌}
use Rattle.suit_commands.specs.Judged.{behind}
use Rattle.suit_commands.specs.SequenceReading.{indices_from}
use Rattle.suit_cursor.proofs.indices.lend_indices.Given as goal

-- what is still to be skipped decides where the cursor ends up
abbrev pub invariant-loop : goal.invariant-loop
invariant-loop l = behind (indices_from l.count l.list (l.elements - l.counter) l.cursor) ≡ behind (indices_from l.count l.list l.elements l.fn.cursor)
