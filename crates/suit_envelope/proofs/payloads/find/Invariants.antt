use Rattle.std.proofs.Common.{◌≡◌, ◌-◌}
use Rattle.suit_envelope.specs.PayloadReading.{found_from}
use Rattle.suit_envelope.proofs.payloads.find.Given as goal

-- the rest to read decides the answer
abbrev pub invariant-loop : goal.invariant-loop
invariant-loop l = found_from l.key (l.count - l.counter) l.map ≡ found_from l.key l.count l.fn.map
