use Rattle.std.proofs.Common.{◌≡◌, drop}
use Rattle.suit_commands.specs.Targets.{Swaps, BranchesSwap}
use Rattle.suit_commands.specs.View.{sequence_tree, branches_tree}
use Rattle.suit_commands.proofs.swap_walk.+swap.Given as goal

-- there is a swap in what is left if there is one at all

abbrev pub invariant-branches_swap-loop-branch : goal.invariant-branches_swap-loop-branch
invariant-branches_swap-loop-branch l = record {
  whole : branches_tree l.branch-items ≡ l.branches;
  there : BranchesSwap (branches_tree (drop l.branch-index l.branch-items)) → BranchesSwap l.branches;
  back : BranchesSwap l.branches → BranchesSwap (branches_tree (drop l.branch-index l.branch-items));
}

abbrev pub invariant-has_swap-loop-step : goal.invariant-has_swap-loop-step
invariant-has_swap-loop-step l = record {
  whole : sequence_tree l.step-items ≡ l.sequence;
  there : Swaps (sequence_tree (drop l.step-index l.step-items)) → Swaps l.sequence;
  back : Swaps l.sequence → Swaps (sequence_tree (drop l.step-index l.step-items));
}
