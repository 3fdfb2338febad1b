-- Sequences of the grammar nest as deep as the levels that are allowed, and no deeper.
use Rattle.std.proofs.Common.{◌≡◌, ℕ, zero, suc, ◌≤◌, Bool, refl, arith}
use Rattle.suit_commands.specs.declared.selection.Selection.TheVariants.{All}
use Rattle.suit_commands.specs.Tree.{CommandTree, Index, TryEach, RunSequence, SequenceTree, NoSteps, StepThen, BranchesTree, NoBranches, BranchThen, NullThen}
use Rattle.suit_commands.specs.Allowed.{IsSequence, AreCommands, IsCommand, AreBranches, levels_allowed}
use Rattle.suit_commands.specs.Depth.{sequence_depth, command_depth, branches_depth}

mutual
  pub sequence_within : (shared : Bool) (count levels : ℕ) (s : SequenceTree) → IsSequence shared count levels s → sequence_depth s ≤ levels
  sequence_within shared count zero s is = absurd is
  sequence_within shared count (suc levels) NoSteps is = absurd is
  sequence_within shared count (suc levels) (StepThen place command rest) is = omega (arith, command_within shared count levels command is.0, commands_within shared count levels rest is.1)

  commands_within : (shared : Bool) (count levels : ℕ) (s : SequenceTree) → AreCommands shared count levels s → sequence_depth s ≤ suc levels
  commands_within shared count levels NoSteps are = omega arith
  commands_within shared count levels (StepThen place command rest) are = omega (arith, command_within shared count levels command are.0, commands_within shared count levels rest are.1)

  command_within : (shared : Bool) (count levels : ℕ) (c : CommandTree) → IsCommand shared count levels c → command_depth c ≤ suc levels
  command_within shared count levels (TryEach branches) is = branches_within shared count levels branches is.1
  command_within shared count levels (RunSequence inner) is = omega (arith, sequence_within shared count levels inner is)
  command_within shared count levels _ is = omega arith

  branches_within : (shared : Bool) (count levels : ℕ) (branches : BranchesTree) → AreBranches shared count levels branches → branches_depth branches ≤ suc levels
  branches_within shared count levels NoBranches are = omega arith
  branches_within shared count levels (BranchThen inner rest) are = omega (arith, sequence_within shared count levels inner are.0, branches_within shared count levels rest are.1)
  branches_within shared count levels (NullThen NoBranches) are = omega arith
  branches_within shared count levels (NullThen _) are = absurd are

-- n sequences, each inside the one before
abbrev nested : ℕ → SequenceTree
nested zero = StepThen 0 (Index All) NoSteps
nested (suc inside) = StepThen 0 (RunSequence (nested inside)) NoSteps

nested_is : (shared : Bool) (count inside : ℕ) → IsSequence shared count (suc inside) (nested inside)
nested_is shared count zero = (tt, tt)
nested_is shared count (suc inside) = (nested_is shared count inside, tt)

pub deepest : (shared : Bool) (count : ℕ) → (s : SequenceTree) × (sequence_depth s ≡ 8) × IsSequence shared count levels_allowed s
deepest shared count = (nested 7, refl, nested_is shared count 7)
