use Rattle.std.proofs.Common.{◌≡◌, ◌-◌}
use Rattle.suit_envelope.specs.WrapperParts.{passed_from}
use Rattle.suit_envelope.proofs.wrapper_parts.pass.Given as goal

-- the rest to read decides the answer
abbrev pub invariant-loop : goal.invariant-loop
invariant-loop l = passed_from (l.number - l.counter) l.elements ≡ passed_from l.number l.fn.elements
