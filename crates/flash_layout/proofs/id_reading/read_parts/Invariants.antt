use Rattle.std.proofs.Common.{◌≡◌, ◌-◌}
use Rattle.flash_layout.specs.PageReading.{parts_from}
use Rattle.flash_layout.proofs.Steps.{with_front}
use Rattle.flash_layout.proofs.id_reading.read_parts.Given as goal

-- what is still to be read decides the answer
abbrev pub invariant-loop : goal.invariant-loop
invariant-loop l = with_front l.parts (parts_from (l.count - l.counter) l.items) ≡ parts_from l.count l.fn.items
