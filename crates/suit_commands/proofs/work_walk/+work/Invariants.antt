use Rattle.std.proofs.Common.{◌≡◌, ◌+◌, ◌<◌, ◌^◌, drop}
use Rattle.suit_commands.specs.Capped.{capped}
use Rattle.suit_commands.specs.Numbers.{work_of, branches_work}
use Rattle.suit_commands.specs.View.{sequence_tree, branches_tree}
use Rattle.suit_commands.proofs.work_walk.+work.Given as goal

-- the part counted and the rest are the whole

abbrev pub invariant-branches_work-loop-branch : goal.invariant-branches_work-loop-branch
invariant-branches_work-loop-branch l = record {
  whole : branches_tree l.branch-items ≡ l.branches;
  fits : l.total < 2 ^ 64;
  sum : capped (l.total + branches_work (branches_tree (drop l.branch-index l.branch-items)) l.count) ≡ capped (branches_work l.branches l.count);
}

abbrev pub invariant-sequence_work-loop-step : goal.invariant-sequence_work-loop-step
invariant-sequence_work-loop-step l = record {
  whole : sequence_tree l.step-items ≡ l.sequence;
  fits : l.total < 2 ^ 64;
  sum : capped (l.total + work_of (sequence_tree (drop l.step-index l.step-items)) l.count l.selected) ≡ capped (work_of l.sequence l.count 1);
}
