-- One more at the end of a list is one more at the end of the tree.
use Rattle.std.proofs.Common.{◌≡◌, List, [], ◌∷◌, ◌++◌, Option, Some, None, refl, ap}
use Rattle.suit_commands.specs.Tree.{SequenceTree, StepThen, BranchThen, NullThen}
use Rattle.suit_commands.specs.View.{command_tree, sequence_tree, branches_tree, step_after, branch_after}
use Rattle.suit_commands.specs.declared.command.Step.{Step}

pub step_pushed : (ss : List Step) (s : Step) → sequence_tree (ss ++ s ∷ []) ≡ step_after (sequence_tree ss) s.place (command_tree s.command)
step_pushed [] s = refl
step_pushed (x ∷ ss) s = ap (StepThen x.place (command_tree x.command)) (step_pushed ss s)

pub branch_pushed : (bs : List (Option SequenceTree)) (b : Option SequenceTree) → branches_tree (bs ++ b ∷ []) ≡ branch_after (branches_tree bs) b
branch_pushed [] (Some s) = refl
branch_pushed [] None = refl
branch_pushed (Some x ∷ bs) b = ap (BranchThen x) (branch_pushed bs b)
branch_pushed (None ∷ bs) b = ap NullThen (branch_pushed bs b)
