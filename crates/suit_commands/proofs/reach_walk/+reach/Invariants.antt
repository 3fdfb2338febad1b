use Rattle.std.proofs.Common.{◌≡◌, drop}
use Rattle.suit_commands.specs.Indexed.{AreIndexed, BranchesIndexed}
use Rattle.suit_commands.specs.Reaches.{no_reach, start_reach, reach_of, branches_reach}
use Rattle.suit_commands.specs.View.{sequence_tree, branches_tree}
use Rattle.suit_commands.proofs.reach_walk.+reach.Given as goal

abbrev pub invariant-branches_reach-loop-branch : goal.invariant-branches_reach-loop-branch
invariant-branches_reach-loop-branch l = record {
  whole : branches_tree l.branch-items ≡ l.branches;
  indexed : BranchesIndexed l.count (branches_tree (drop l.branch-index l.branch-items));
  reach : branches_reach (branches_tree (drop l.branch-index l.branch-items)) l.count l.total ≡ branches_reach l.branches l.count no_reach;
}

abbrev pub invariant-sequence_reach-loop-step : goal.invariant-sequence_reach-loop-step
invariant-sequence_reach-loop-step l = record {
  whole : sequence_tree l.step-items ≡ l.sequence;
  indexed : AreIndexed l.count (sequence_tree (drop l.step-index l.step-items));
  reach : reach_of (sequence_tree (drop l.step-index l.step-items)) l.count l.selected l.total ≡ reach_of l.sequence l.count start_reach no_reach;
}
