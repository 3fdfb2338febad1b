-- The components that a sequence writes, whichever are selected at its beginning: some fixed ones, and
-- perhaps those.
use Rattle.std.specs.Prelude.{◌≡◌, ◌⊎◌, ℕ, Bool, true, false, ◌||◌, cond, List, bit_or}
use Rattle.suit_commands.specs.declared.reach.Reach.{Reach}
use Rattle.suit_commands.specs.declared.kinds.ActKind.{ActKind}
use Rattle.suit_commands.specs.declared.kinds.ActKind.TheVariants as acts
use Rattle.suit_commands.specs.Tree.{CommandTree, Test, Act, Index, Override, TryEach, RunSequence, SequenceTree, NoSteps, StepThen, BranchesTree, NoBranches, BranchThen, NullThen}
use Rattle.suit_commands.specs.Bits.{HasBit, selection_bits}
use Rattle.suit_commands.specs.Selections.{Among}

abbrev pub no_reach : Reach
no_reach = record { fixed = 0; start = false }

-- the components selected at the beginning
abbrev pub start_reach : Reach
start_reach = record { fixed = 0; start = true }

abbrev pub reach_or : Reach → Reach → Reach
reach_or a b = record { fixed = bit_or a.fixed b.fixed; start = a.start || b.start }

-- the set of a part, given which components are selected before it
abbrev pub reach_through : Reach → Reach → Reach
reach_through part selected =
    cond part.start (record { fixed = bit_or part.fixed selected.fixed; start = selected.start })
    part

abbrev pub writes_content : ActKind → Bool
writes_content acts.Write = true
writes_content acts.Fetch = true
writes_content acts.Copy = true
writes_content acts.Swap = true
writes_content acts.Invoke = false

-- the components selected after a command
abbrev pub reach_after : CommandTree → ℕ → Reach → Reach
reach_after (Index selection) count selected =
    record { fixed = selection_bits selection count; start = false }
reach_after _ count selected = selected

abbrev mutual
  -- what was written before, and what the sequence writes with these selected
  pub reach_of : SequenceTree → ℕ → Reach → Reach → Reach
  reach_of NoSteps count selected total = total
  reach_of (StepThen place command rest) count selected total =
      reach_of rest count (reach_after command count selected)
      (reach_or total (reach_through (command_reach command count) selected))

  pub command_reach : CommandTree → ℕ → Reach
  command_reach (Test kind report) count = no_reach
  command_reach (Act kind report) count = record { fixed = 0; start = writes_content kind }
  command_reach (Index selection) count = no_reach
  command_reach (Override list) count = no_reach
  command_reach (TryEach branches) count = branches_reach branches count no_reach
  command_reach (RunSequence inner) count = reach_of inner count start_reach no_reach

  pub branches_reach : BranchesTree → ℕ → Reach → Reach
  branches_reach NoBranches count total = total
  branches_reach (BranchThen inner rest) count total =
      branches_reach rest count (reach_or total (reach_of inner count start_reach no_reach))
  branches_reach (NullThen rest) count total = branches_reach rest count total

-- the component is in the set, given those selected at the beginning
abbrev pub Reaches : Reach → List ℕ → ℕ → Type 0
Reaches reach selected component =
    HasBit reach.fixed component ⊎ ((reach.start ≡ true) × Among component selected)
