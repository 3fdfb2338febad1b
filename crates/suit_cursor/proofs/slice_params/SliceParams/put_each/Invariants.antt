use Rattle.std.proofs.Common.{◌≡◌, length}
use Rattle.suit_params.specs.InForce.{overridden}
use Rattle.suit_cursor.specs.SoftFailure.{soft_behind}
use Rattle.suit_cursor.proofs.slice_params.SliceParams.put_each.Given as goal

-- setting what is left of the list gives the whole override
abbrev pub invariant-loop-param : goal.invariant-loop-param
invariant-loop-param l = record {
  exact : overridden l.self l.component l.list ≡ overridden l.fn.self l.component l.fn.list;
  soft : soft_behind l.soft l.list ≡ soft_behind l.fn.soft_failure l.fn.list;
}

abbrev pub decreases-loop-param : goal.decreases-loop-param
decreases-loop-param l = length l.list
