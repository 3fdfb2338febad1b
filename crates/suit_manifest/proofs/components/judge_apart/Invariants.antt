use Rattle.std.proofs.Common.{◌≡◌, ◌-◌, length}
use Rattle.suit_manifest.specs.ComponentsReading.{apart_from}
use Rattle.suit_manifest.proofs.components.judge_apart.Given as goal

-- what is still to be judged decides the answer
abbrev pub invariant-loop-last : goal.invariant-loop-last
invariant-loop-last l = apart_from l.fn.ids l.last (length l.fn.ids - l.last) l.items ≡ apart_from l.fn.ids 1 (length l.fn.ids - 1) l.fn.items
