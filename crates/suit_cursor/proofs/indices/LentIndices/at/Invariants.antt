use Rattle.std.proofs.Common.{◌≡◌, ◌-◌, ◌<◌, length}
use Rattle.std.specs.Prelude.{slice_index}
use Rattle.suit_cursor.proofs.indices.LentIndices.at.Given as goal

-- the index that is looked for is as far ahead as there are indices to skip
abbrev pub invariant-loop : goal.invariant-loop
invariant-loop l = (slice_index l.self (l.n - l.counter) ≡ slice_index l.fn.self l.n) × (l.n - l.counter < length l.self)
