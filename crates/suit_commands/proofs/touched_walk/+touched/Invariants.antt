use Rattle.std.proofs.Common.{◌≡◌, drop}
use Rattle.suit_commands.specs.Indexed.{AreIndexed, BranchesIndexed}
use Rattle.suit_commands.specs.TouchedBits.{touched_of, branches_touched}
use Rattle.suit_commands.specs.View.{sequence_tree, branches_tree}
use Rattle.suit_commands.proofs.touched_walk.+touched.Given as goal

abbrev pub invariant-branches_touched-loop-branch : goal.invariant-branches_touched-loop-branch
invariant-branches_touched-loop-branch l = record {
  whole : branches_tree l.branch-items ≡ l.branches;
  indexed : BranchesIndexed l.count (branches_tree (drop l.branch-index l.branch-items));
  bits : branches_touched (branches_tree (drop l.branch-index l.branch-items)) l.count l.total ≡ branches_touched l.branches l.count 0;
}

abbrev pub invariant-sequence_touched-loop-step : goal.invariant-sequence_touched-loop-step
invariant-sequence_touched-loop-step l = record {
  whole : sequence_tree l.step-items ≡ l.sequence;
  indexed : AreIndexed l.count (sequence_tree (drop l.step-index l.step-items));
  bits : touched_of (sequence_tree (drop l.step-index l.step-items)) l.count l.selected l.total ≡ touched_of l.sequence l.count l.start 0;
}
