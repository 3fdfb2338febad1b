use Rattle.std.proofs.Common.{◌↔◌, ◌≤◌, length, take}
use Rattle.path_model.specs.Safe.{HasMatched}
use Rattle.path_model.proofs.cover.has_matched.Given as goal

-- the events that were looked at leave the match as it was
abbrev pub invariant-loop-left : goal.invariant-loop-left
invariant-loop-left l = record {
  within : l.left ≤ length l.events;
  same : HasMatched l.events l.component l.digest l.size ↔ HasMatched (take l.left l.events) l.component l.digest l.size;
}

abbrev pub decreases-loop-left : goal.decreases-loop-left
decreases-loop-left l = l.left
