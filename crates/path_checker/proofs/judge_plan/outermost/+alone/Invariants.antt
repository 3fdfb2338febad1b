use Rattle.std.proofs.Common.{◌-◌, ◌*◌, ◌+◌, drop, length}
use Rattle.suit_commands.specs.View.{sequence_tree}
use Rattle.path_checker.specs.Rests.{RunsRest, RunsThen, TriesThen, AreFew}
use Rattle.path_checker.specs.RestViews.{tried_branches}
use Rattle.path_checker.specs.Small.{IsSmallSequence}
use Rattle.path_checker.specs.Going.{GoesOn}
use Rattle.path_checker.proofs.Weights.{weight, branches_weight, rest_weight}
use Rattle.path_checker.proofs.judge_plan.outermost.+alone.Given as goal

abbrev pub decreases-follow : goal.decreases-follow
decreases-follow l = 5 * rest_weight l.rest.now + 2

abbrev pub decreases-follow_alone : goal.decreases-follow_alone
decreases-follow_alone l = 5 * rest_weight l.rest.now + 1

abbrev pub decreases-commands : goal.decreases-commands
decreases-commands l = 5 * (weight (sequence_tree l.steps.now) + rest_weight l.rest.now) + 3

abbrev pub decreases-alone : goal.decreases-alone
decreases-alone l = 5 * (weight (sequence_tree l.steps.now) + rest_weight l.rest.now) + 4

abbrev pub decreases-each_alone : goal.decreases-each_alone
decreases-each_alone l = 5 * (weight (sequence_tree l.steps.now) + rest_weight l.rest.now) + 5

abbrev pub decreases-each_tried : goal.decreases-each_tried
decreases-each_tried l = 5 * (3 + 22 * (4 + branches_weight (tried_branches l.tried)) + rest_weight l.behind.now)

abbrev pub decreases-tries : goal.decreases-tries
decreases-tries l = 5 * (2 + length (drop l.at l.selection.now) * (4 + branches_weight (tried_branches l.tried)) + rest_weight l.behind.now)

abbrev pub decreases-tries_at : goal.decreases-tries_at
decreases-tries_at l = 5 * (3 + branches_weight (tried_branches l.tried) + rest_weight l.behind.now)

abbrev pub invariant-follow-loop-k : goal.invariant-follow-loop-k
invariant-follow-loop-k l = GoesOn (RunsRest l.rest l.count) l.fn.from.items (RunsRest l.rest l.count) l.now.items

abbrev pub decreases-follow-loop-k : goal.decreases-follow-loop-k
decreases-follow-loop-k l = length l.now.items

abbrev pub invariant-commands-loop-at : goal.invariant-commands-loop-at
invariant-commands-loop-at l = record {
  small : IsSmallSequence l.count (sequence_tree (drop l.at l.steps));
  goes : GoesOn (RunsThen (sequence_tree l.steps) l.rest l.count) l.fn.from.items (RunsThen (sequence_tree (drop l.at l.steps)) l.rest l.count) l.now.items;
}

abbrev pub decreases-commands-loop-at : goal.decreases-commands-loop-at
decreases-commands-loop-at l = length l.steps - l.at

abbrev pub invariant-each_alone-loop-k : goal.invariant-each_alone-loop-k
invariant-each_alone-loop-k l = GoesOn (RunsThen (sequence_tree l.steps) l.rest l.count) l.fn.from.items (RunsThen (sequence_tree l.steps) l.rest l.count) l.now.items

abbrev pub decreases-each_alone-loop-k : goal.decreases-each_alone-loop-k
decreases-each_alone-loop-k l = length l.now.items

abbrev pub invariant-each_tried-loop-k : goal.invariant-each_tried-loop-k
invariant-each_tried-loop-k l = record {
  few : AreFew l.now.items;
  goes : GoesOn (TriesThen (tried_branches l.tried) l.tried.place l.behind l.count) l.fn.from.items (TriesThen (tried_branches l.tried) l.tried.place l.behind l.count) l.now.items;
}

abbrev pub decreases-each_tried-loop-k : goal.decreases-each_tried-loop-k
decreases-each_tried-loop-k l = length l.now.items
