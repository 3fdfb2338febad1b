use Rattle.std.proofs.Common.{◌≡◌, ◌++◌, length}
use Rattle.suit_cursor.proofs.copying.copy_indices.Given as goal

abbrev pub invariant-loop-index : goal.invariant-loop-index
invariant-loop-index l = l.indices ++ l.left ≡ l.fn.left

abbrev pub decreases-loop-index : goal.decreases-loop-index
decreases-loop-index l = length l.left
