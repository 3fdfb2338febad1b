use Rattle.std.proofs.Common.{◌≡◌, ◌-◌}
use Rattle.suit_commands.specs.Judged.{inner_by, behind}
use Rattle.suit_commands.specs.SequenceReading.{branches_from}
use Rattle.suit_cursor.proofs.branches.lend_branches.Given as goal

-- what is still to be skipped decides where the cursor ends up
abbrev pub invariant-loop-done : goal.invariant-loop-done
invariant-loop-done l = behind (branches_from (inner_by l.rules) (l.number - l.done) l.cursor) ≡ behind (branches_from (inner_by l.rules) l.number l.fn.cursor)
