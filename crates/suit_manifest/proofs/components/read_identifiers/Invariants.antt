use Rattle.std.proofs.Common.{◌≡◌, ◌-◌, length}
use Rattle.suit_manifest.specs.Elements.{all_from}
use Rattle.suit_manifest.specs.ComponentsReading.{identifier_at}
use Rattle.suit_manifest.proofs.ElementSteps.{with_front}
use Rattle.suit_manifest.proofs.components.read_identifiers.Given as goal

-- the rest to read decides the answer
abbrev pub invariant-loop : goal.invariant-loop
invariant-loop l = (with_front l.ids (all_from identifier_at (l.count - l.counter) l.items) ≡ all_from identifier_at l.count l.fn.items) × (length l.ids ≡ l.counter)
