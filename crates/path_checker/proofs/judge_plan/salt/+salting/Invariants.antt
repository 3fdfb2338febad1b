use Rattle.std.proofs.Common.{◌≡◌}
use Rattle.suit_commands.specs.View.{sequence_tree, branches_tree}
use Rattle.path_checker.proofs.judge_plan.salt.+salting.Given as goal

abbrev pub invariant-read_branches-loop-branch : goal.invariant-read_branches-loop-branch
invariant-read_branches-loop-branch l = branches_tree l.branch-items ≡ l.branches

abbrev pub invariant-read_sequence-loop-step : goal.invariant-read_sequence-loop-step
invariant-read_sequence-loop-step l = sequence_tree l.step-items ≡ l.sequence
