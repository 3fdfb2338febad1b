use Rattle.std.proofs.Common.{◌≡◌, ◌-◌, [], ◌∷◌, drop}
use Rattle.suit_commands.specs.View.{sequence_tree, branches_tree, command_tree}
use Rattle.path_checker.specs.Small.{IsSmallSequence, AreSmallBranches}
use Rattle.path_checker.specs.Steps.{AtEach, RunsAll, TriesIn}
use Rattle.path_checker.proofs.Spelling.{Follows}
use Rattle.path_checker.proofs.judge_plan.spelling.+spelling.Given as goal

abbrev pub invariant-sequence-loop-step : goal.invariant-sequence-loop-step
invariant-sequence-loop-step l = record {
  small : IsSmallSequence l.count (sequence_tree (drop l.step-index l.steps));
  follows : Follows (RunsAll l.sequence l.count) (l.fn.from ∷ []) (RunsAll (sequence_tree (drop l.step-index l.steps)) l.count) l.now;
}

abbrev pub invariant-each-loop-index : goal.invariant-each-loop-index
invariant-each-loop-index l = Follows (AtEach (command_tree l.step.command) l.count l.step.place l.fn.k.state.selection) (l.fn.k ∷ []) (AtEach (command_tree l.step.command) l.count l.step.place (drop l.index l.selection)) l.now

abbrev pub invariant-try_around-loop-branch : goal.invariant-try_around-loop-branch
invariant-try_around-loop-branch l = record {
  whole : branches_tree l.all ≡ l.branches;
  small : AreSmallBranches l.count (branches_tree (drop l.branch-index l.all));
  at : l.outer ≡ l.now.state;
  follows : Follows (TriesIn l.branches l.count l.site.place l.site.component) (l.fn.k ∷ []) (TriesIn (branches_tree (drop l.branch-index l.all)) l.count l.site.place l.site.component) l.now;
}
