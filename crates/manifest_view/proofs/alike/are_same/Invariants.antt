use Rattle.std.proofs.Common.{◌≡◌, length}
use Rattle.suit_manifest.specs.ComponentsJudging.{same_id}
use Rattle.manifest_view.proofs.alike.are_same.Given as goal

-- what is left of both decides the answer
abbrev pub invariant-loop-part : goal.invariant-loop-part
invariant-loop-part l = same_id l.id l.other ≡ same_id l.fn.id l.fn.other

abbrev pub decreases-loop-part : goal.decreases-loop-part
decreases-loop-part l = length l.id
