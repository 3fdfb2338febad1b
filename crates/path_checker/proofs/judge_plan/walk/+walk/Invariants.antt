use Rattle.std.proofs.Common.{◌≡◌, ◌<◌, ◌≤◌, ◌+◌, ◌-◌, [], ◌∷◌, drop, length}
use Rattle.suit_commands.specs.View.{sequence_tree, branches_tree, command_tree}
use Rattle.path_checker.specs.Small.{IsSmallSequence, AreSmallBranches}
use Rattle.path_checker.specs.Steps.{At, AtEach, RunsAll, TriesIn}
use Rattle.path_checker.proofs.Walking.{Walks, does_course}
use Rattle.path_checker.proofs.Popping.{Pops}
use Rattle.path_checker.proofs.Branching.{Trying}
use Rattle.path_checker.proofs.Keeping.{none_of}
use Rattle.path_checker.proofs.judge_plan.walk.+walk.Given as goal

-- the states that are done with the command, and those that wait
abbrev pub invariant-command-loop-k : goal.invariant-command-loop-k
invariant-command-loop-k l = Pops (does_course (command_tree l.step.command) l.count l.step.place) l.fn.from.items l.initial.failed l.now.items l.next.items l.failed

abbrev pub decreases-command-loop-k : goal.decreases-command-loop-k
decreases-command-loop-k l = length l.now.items

abbrev pub invariant-all_at-loop-k : goal.invariant-all_at-loop-k
invariant-all_at-loop-k l = Pops (At (command_tree l.step.command) l.count l.step.place l.component) l.fn.from.items l.initial.failed l.now.items l.next.items l.failed

abbrev pub decreases-all_at-loop-k : goal.decreases-all_at-loop-k
decreases-all_at-loop-k l = length l.now.items

abbrev pub invariant-sequence-loop-at : goal.invariant-sequence-loop-at
invariant-sequence-loop-at l = record {
  within : l.at ≤ length l.steps;
  small : IsSmallSequence l.count (sequence_tree (drop l.at l.steps));
  walks : Walks (RunsAll l.sequence l.count) l.fn.from.items (none_of l.failed) (RunsAll (sequence_tree (drop l.at l.steps)) l.count) l.now.items l.stops;
}

abbrev pub decreases-sequence-loop-at : goal.decreases-sequence-loop-at
decreases-sequence-loop-at l = length l.steps - l.at

abbrev pub invariant-each-loop-index : goal.invariant-each-loop-index
invariant-each-loop-index l = Walks (AtEach (command_tree l.step.command) l.count l.step.place l.fn.k.state.selection) (l.fn.k ∷ []) l.initial.failed (AtEach (command_tree l.step.command) l.count l.step.place (drop l.index l.selection)) l.now.items l.failed

abbrev pub invariant-try_around-loop-branch : goal.invariant-try_around-loop-branch
invariant-try_around-loop-branch l = record {
  whole : branches_tree l.all ≡ l.branches;
  left : l.left + l.branch-index ≡ length l.all;
  small : AreSmallBranches l.count (branches_tree (drop l.branch-index l.all));
  trying : Trying (TriesIn l.branches l.count l.around.site.place l.around.site.component) l.fn.k l.around.outer l.initial.next.items l.next.items l.initial.failed l.failed (TriesIn (branches_tree (drop l.branch-index l.all)) l.count l.around.site.place l.around.site.component) l.now.items (l.branch-index < length l.all);
}
