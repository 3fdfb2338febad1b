-- The bits, with those of the components that a sequence touches set too.
use Rattle.std.specs.Prelude.{ℕ, bit_or}
use Rattle.suit_commands.specs.Tree.{CommandTree, Test, Act, Index, Override, TryEach, RunSequence, SequenceTree, NoSteps, StepThen, BranchesTree, NoBranches, BranchThen, NullThen}
use Rattle.suit_commands.specs.Bits.{selection_bits}

-- the components selected after a command, as bits
abbrev pub bits_after : CommandTree → ℕ → ℕ → ℕ
bits_after (Index selection) count selected = selection_bits selection count
bits_after _ count selected = selected

-- an inner sequence begins with none selected, since its command touches those already
abbrev mutual
  pub touched_of : SequenceTree → ℕ → ℕ → ℕ → ℕ
  touched_of NoSteps count selected total = total
  touched_of (StepThen place command rest) count selected total =
      touched_of rest count (bits_after command count selected)
      (bit_or total (command_touched command count selected))

  pub command_touched : CommandTree → ℕ → ℕ → ℕ
  command_touched (Test kind report) count selected = selected
  command_touched (Act kind report) count selected = selected
  command_touched (Index selection) count selected = 0
  command_touched (Override list) count selected = selected
  command_touched (TryEach branches) count selected =
      bit_or selected (branches_touched branches count 0)
  command_touched (RunSequence inner) count selected =
      bit_or selected (touched_of inner count 0 0)

  pub branches_touched : BranchesTree → ℕ → ℕ → ℕ
  branches_touched NoBranches count total = total
  branches_touched (BranchThen inner rest) count total =
      branches_touched rest count (bit_or total (touched_of inner count 0 0))
  branches_touched (NullThen rest) count total = branches_touched rest count total
