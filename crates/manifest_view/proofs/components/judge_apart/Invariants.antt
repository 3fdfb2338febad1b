use Rattle.std.proofs.Common.{◌≡◌, ◌-◌, length}
use Rattle.suit_manifest.specs.ComponentsReading.{apart_from}
use Rattle.manifest_view.proofs.components.judge_apart.Given as goal

-- the rest to judge decides the answer
abbrev pub invariant-loop-last : goal.invariant-loop-last
invariant-loop-last l = (l.ids ≡ l.fn.ids) × (apart_from l.fn.ids l.last (length l.fn.ids - l.last) l.items ≡ apart_from l.fn.ids 1 (length l.fn.ids - 1) l.fn.items)
