use Rattle.std.proofs.Common.{◌≡◌, ◌++◌, length}
use Rattle.suit_cursor.proofs.copying.copy_params.Given as goal

abbrev pub invariant-loop-param : goal.invariant-loop-param
invariant-loop-param l = l.list ++ l.left ≡ l.fn.left

abbrev pub decreases-loop-param : goal.decreases-loop-param
decreases-loop-param l = length l.left
