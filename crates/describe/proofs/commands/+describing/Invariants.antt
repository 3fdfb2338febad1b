use Rattle.std.proofs.Common.{◌≡◌, drop}
use Rattle.serde_json.specs.View.{items_view}
use Rattle.suit_commands.specs.View.{sequence_tree, branches_tree}
use Rattle.describe.specs.CommandData.{step_data, branch_data}
use Rattle.describe.specs.Growing.{joined}
use Rattle.describe.proofs.commands.+describing.Given as goal

-- the part written so far and the rest make the whole
abbrev pub invariant-sequence-loop-step : goal.invariant-sequence-loop-step
invariant-sequence-loop-step l = record {
  whole : sequence_tree l.step-items ≡ l.sequence;
  said : joined (items_view l.values.items) (step_data (sequence_tree (drop l.step-index l.step-items))) ≡ step_data l.sequence;
}

abbrev pub invariant-branches-loop-branch : goal.invariant-branches-loop-branch
invariant-branches-loop-branch l = record {
  whole : branches_tree l.branch-items ≡ l.branches;
  said : joined (items_view l.values.items) (branch_data (branches_tree (drop l.branch-index l.branch-items))) ≡ branch_data l.branches;
}
