use Rattle.std.proofs.Common.{◌≡◌, ◌-◌}
use Rattle.suit_cursor.specs.Passing.{behind_pairs}
use Rattle.suit_cursor.proofs.passing.pass_pairs.Given as goal

-- what is still to be skipped decides where the cursor ends up
abbrev pub invariant-loop : goal.invariant-loop
invariant-loop l = behind_pairs (l.pairs - l.counter) l.map ≡ behind_pairs l.pairs l.fn.map
