use Rattle.std.proofs.Common.{◌≡◌, drop}
use Rattle.suit_commands.specs.View.{sequence_tree, branches_tree}
use Rattle.path_checker.specs.Invoking.{Invokes, BranchesInvoke}
use Rattle.path_checker.proofs.judge_plan.invoking.+invoking.Given as goal

-- an invoke is in what is left, or there is none

abbrev pub invariant-branches_invoke-loop-branch : goal.invariant-branches_invoke-loop-branch
invariant-branches_invoke-loop-branch l = record {
  whole : branches_tree l.branch-items ≡ l.branches;
  there : BranchesInvoke (branches_tree (drop l.branch-index l.branch-items)) → BranchesInvoke l.branches;
  back : BranchesInvoke l.branches → BranchesInvoke (branches_tree (drop l.branch-index l.branch-items));
}

abbrev pub invariant-has_invoke-loop-step : goal.invariant-has_invoke-loop-step
invariant-has_invoke-loop-step l = record {
  whole : sequence_tree l.step-items ≡ l.sequence;
  there : Invokes (sequence_tree (drop l.step-index l.step-items)) → Invokes l.sequence;
  back : Invokes l.sequence → Invokes (sequence_tree (drop l.step-index l.step-items));
}
