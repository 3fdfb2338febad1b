use Rattle.std.proofs.Common.{◌≡◌, ◌-◌}
use Rattle.suit_manifest.specs.Elements.{all_from}
use Rattle.suit_manifest.specs.ComponentsReading.{part_at}
use Rattle.suit_manifest.proofs.ElementSteps.{with_front}
use Rattle.suit_manifest.proofs.components.read_parts.Given as goal

-- the rest to read decides the answer
abbrev pub invariant-loop : goal.invariant-loop
invariant-loop l = with_front l.parts (all_from part_at (l.count - l.counter) l.items) ≡ all_from part_at l.count l.fn.items
