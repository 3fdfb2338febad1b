use Rattle.std.proofs.Common.{◌≡◌, drop}
use Rattle.suit_commands.specs.Indexed.{AreIndexed, BranchesIndexed}
use Rattle.suit_commands.specs.Sources.{sources_of, branches_sources}
use Rattle.suit_commands.specs.View.{sequence_tree, branches_tree}
use Rattle.suit_commands.proofs.source_walk.+source.Given as goal

abbrev pub invariant-branches_sources-loop-branch : goal.invariant-branches_sources-loop-branch
invariant-branches_sources-loop-branch l = record {
  whole : branches_tree l.branch-items ≡ l.branches;
  indexed : BranchesIndexed l.count (branches_tree (drop l.branch-index l.branch-items));
  bits : branches_sources (branches_tree (drop l.branch-index l.branch-items)) l.bits ≡ branches_sources l.branches 0;
}

abbrev pub invariant-sequence_sources-loop-step : goal.invariant-sequence_sources-loop-step
invariant-sequence_sources-loop-step l = record {
  whole : sequence_tree l.step-items ≡ l.sequence;
  indexed : AreIndexed l.count (sequence_tree (drop l.step-index l.step-items));
  bits : sources_of (sequence_tree (drop l.step-index l.step-items)) l.bits ≡ sources_of l.sequence 0;
}
