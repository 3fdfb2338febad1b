use Rattle.std.proofs.Common.{◌≡◌, drop}
use Rattle.suit_commands.specs.Touches.{HasAct, BranchesHaveAct}
use Rattle.suit_commands.specs.View.{sequence_tree, branches_tree}
use Rattle.suit_commands.proofs.act_walk.+act.Given as goal

-- there is one in what is left if there is one at all

abbrev pub invariant-branches_have_act-loop-branch : goal.invariant-branches_have_act-loop-branch
invariant-branches_have_act-loop-branch l = record {
  whole : branches_tree l.branch-items ≡ l.branches;
  there : BranchesHaveAct l.wanted (branches_tree (drop l.branch-index l.branch-items)) → BranchesHaveAct l.wanted l.branches;
  back : BranchesHaveAct l.wanted l.branches → BranchesHaveAct l.wanted (branches_tree (drop l.branch-index l.branch-items));
}

abbrev pub invariant-has_act-loop-step : goal.invariant-has_act-loop-step
invariant-has_act-loop-step l = record {
  whole : sequence_tree l.step-items ≡ l.sequence;
  there : HasAct l.wanted (sequence_tree (drop l.step-index l.step-items)) → HasAct l.wanted l.sequence;
  back : HasAct l.wanted l.sequence → HasAct l.wanted (sequence_tree (drop l.step-index l.step-items));
}
