use Rattle.std.proofs.Common.{◌≡◌, ◌-◌}
use Rattle.suit_manifest.specs.Elements.{all_from}
use Rattle.suit_manifest.specs.ComponentsReading.{identifier_at}
use Rattle.manifest_view.proofs.Elements.{judged}
use Rattle.manifest_view.proofs.components.judge_identifiers.Given as goal

-- the rest to judge decides the answer
abbrev pub invariant-loop : goal.invariant-loop
invariant-loop l = judged (all_from identifier_at (l.count - l.counter) l.items) ≡ judged (all_from identifier_at l.count l.fn.items)
