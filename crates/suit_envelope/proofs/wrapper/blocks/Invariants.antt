use Rattle.std.proofs.Common.{◌≡◌, ◌-◌}
use Rattle.suit_envelope.specs.WrapperReading.{blocks_from}
use Rattle.suit_envelope.proofs.wrapper.blocks.Given as goal

-- the rest to read decides the answer
abbrev pub invariant-loop : goal.invariant-loop
invariant-loop l = blocks_from (l.count - l.counter) l.elements ≡ blocks_from l.count l.fn.elements
