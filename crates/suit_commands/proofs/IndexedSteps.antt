-- If the rest of a list is indexed, so is each of its elements; and sequences of the grammar are indexed.
use Rattle.std.proofs.Common.{◌≡◌, ℕ, zero, suc, ◌+◌, ◌<◌, Bool, false, true, List, ◌∷◌, length, get_or, drop, Option, Some, ◌∙◌, ap, subst}
use Rattle.suit_commands.specs.Tree.{CommandTree, Test, Act, Index, Override, TryEach, RunSequence, SequenceTree, NoSteps, StepThen, BranchesTree, NoBranches, BranchThen, NullThen}
use Rattle.suit_commands.specs.View.{command_tree, sequence_tree, branches_tree}
use Rattle.suit_commands.specs.Allowed.{IsSequence, AreCommands, IsCommand, AreBranches, IsMember, IsShared, levels_allowed}
use Rattle.suit_commands.specs.Indexed.{AreIndexed, IsIndexed, BranchesIndexed}
use Rattle.suit_commands.specs.declared.command.Step.{Step}
use Rattle.suit_commands.proofs.Steps.{step_there, branch_there}

pub step_indexed : (ss : List Step) (i : ℕ) (d s : Step) (count : ℕ) → i < length ss → s ≡ get_or ss i d → AreIndexed count (sequence_tree (drop i ss)) → IsIndexed count (command_tree s.command)
step_indexed ss i d s count lt is left = (subst (AreIndexed count) (step_there ss i d s lt is) left).0

pub branch_indexed : (bs : List (Option SequenceTree)) (i : ℕ) (d b : Option SequenceTree) (inner : SequenceTree) (count : ℕ) → i < length bs → b ≡ get_or bs i d → b ≡ Some inner
    → BranchesIndexed count (branches_tree (drop i bs)) → AreIndexed count inner
branch_indexed bs i d b inner count lt is some left =
    (subst (BranchesIndexed count) (branch_there bs i d b lt is ∙ ap (λ (x : Option SequenceTree). branches_tree (x ∷ drop (i + 1) bs)) some) left).0

-- ---- sequences of the grammar

mutual
  commands_indexed : (shared : Bool) (count levels : ℕ) (s : SequenceTree) → AreCommands shared count levels s → AreIndexed count s
  commands_indexed shared count levels NoSteps h = tt
  commands_indexed shared count levels (StepThen place command rest) h = (command_indexed shared count levels command h.0, commands_indexed shared count levels rest h.1)

  sequence_indexed : (shared : Bool) (count levels : ℕ) (s : SequenceTree) → IsSequence shared count levels s → AreIndexed count s
  sequence_indexed shared count zero s h = absurd h
  sequence_indexed shared count (suc levels) NoSteps h = absurd h
  sequence_indexed shared count (suc levels) (StepThen place command rest) h = (command_indexed shared count levels command h.0, commands_indexed shared count levels rest h.1)

  command_indexed : (shared : Bool) (count levels : ℕ) (command : CommandTree) → IsCommand shared count levels command → IsIndexed count command
  command_indexed shared count levels (Test kind report) h = tt
  command_indexed shared count levels (Act kind report) h = tt
  command_indexed shared count levels (Index selection) h = h
  command_indexed shared count levels (Override list) h = h.1
  command_indexed shared count levels (TryEach branches) h = branches_indexed shared count levels branches h.1
  command_indexed shared count levels (RunSequence inner) h = sequence_indexed shared count levels inner h

  branches_indexed : (shared : Bool) (count levels : ℕ) (branches : BranchesTree) → AreBranches shared count levels branches → BranchesIndexed count branches
  branches_indexed shared count levels NoBranches h = tt
  branches_indexed shared count levels (BranchThen inner rest) h = (sequence_indexed shared count levels inner h.0, branches_indexed shared count levels rest h.1)
  branches_indexed shared count levels (NullThen NoBranches) h = tt
  branches_indexed shared count levels (NullThen (BranchThen inner rest)) h = absurd h
  branches_indexed shared count levels (NullThen (NullThen rest)) h = absurd h

pub member_indexed : (count : ℕ) (s : SequenceTree) → IsMember count s → AreIndexed count s
member_indexed count NoSteps h = tt
member_indexed count (StepThen place command rest) h = sequence_indexed false count levels_allowed (StepThen place command rest) h

pub shared_indexed : (count : ℕ) (s : SequenceTree) → IsShared count s → AreIndexed count s
shared_indexed count NoSteps h = tt
shared_indexed count (StepThen place command rest) h = sequence_indexed true count levels_allowed (StepThen place command rest) h
