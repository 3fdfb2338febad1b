use Rattle.std.proofs.Common.{◌≡◌, ◌-◌}
use Rattle.suit_envelope.specs.EnvelopeReading.{no_pairs, pairs_from}
use Rattle.suit_envelope.specs.Said.{said_by, pairs_say}
use Rattle.suit_envelope.proofs.pairs.pairs.Given as goal

-- the rest to read decides the answer
abbrev pub invariant-loop : goal.invariant-loop
invariant-loop l = (pairs_from (l.count - l.counter) l.map (pairs_say l.found) ≡ pairs_from l.count l.fn.map (no_pairs (said_by l.fn.envelope))) × (l.found.envelope.whole.now ≡ l.fn.envelope.whole.now)
