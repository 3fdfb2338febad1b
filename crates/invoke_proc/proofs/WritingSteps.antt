-- Directives that write, step by step; and what is written where none stands.
use Rattle.std.proofs.Common.{◌≡◌, inl, inr, ℕ, List, [], ◌∷◌}
use Rattle.suit_commands.specs.declared.kinds.ActKind.{ActKind}
use Rattle.suit_commands.specs.declared.kinds.ActKind.TheVariants as acts
use Rattle.suit_commands.specs.Selections.{selected_after}
use Rattle.suit_commands.specs.Targets.{BranchesSwap, BranchesWrite, CommandSwaps, CommandWrites, InSome, IsTarget, IsWriting, Swaps, Writes}
use Rattle.suit_commands.specs.Tree.{CommandTree, Test, Act, Index, Override, TryEach, RunSequence, SequenceTree, NoSteps, StepThen, BranchesTree, NoBranches, BranchThen, NullThen, PlanTree}
use Rattle.invoke_proc.specs.Writing.{BranchesHaveWriting, CommandHasWriting, HasWriting}

-- ---- what is written needs a directive that writes

mutual
  in_sequence : (s : SequenceTree) (count : ℕ) (selected : List ℕ) (component : ℕ) → Writes s count selected component → HasWriting s
  in_sequence NoSteps count selected component w = absurd w
  in_sequence (StepThen place command rest) count selected component (inl w) = inl (in_command command count selected component w)
  in_sequence (StepThen place command rest) count selected component (inr w) = inr (in_sequence rest count (selected_after command count selected) component w)

  in_command : (command : CommandTree) (count : ℕ) (selected : List ℕ) (component : ℕ) → CommandWrites command count selected component → CommandHasWriting command
  in_command (Test kind report) count selected component w = absurd w
  in_command (Act kind report) count selected component w = w.0
  in_command (Index selection) count selected component w = absurd w
  in_command (Override list) count selected component w = absurd w
  in_command (TryEach tries) count selected component w = in_branches tries count w.0 component w.2
  in_command (RunSequence inner) count selected component w = in_sequence inner count (w.0 ∷ []) component w.2

  in_branches : (branches : BranchesTree) (count outer component : ℕ) → BranchesWrite branches count outer component → BranchesHaveWriting branches
  in_branches NoBranches count outer component w = absurd w
  in_branches (BranchThen inner rest) count outer component (inl w) = inl (in_sequence inner count (outer ∷ []) component w)
  in_branches (BranchThen inner rest) count outer component (inr w) = inr (in_branches rest count outer component w)
  in_branches (NullThen rest) count outer component w = in_branches rest count outer component w

swap_writes : (kind : ActKind) → kind ≡ acts.Swap → IsWriting kind
swap_writes kind is = rw is tt

mutual
  swap_in_sequence : (s : SequenceTree) → Swaps s → HasWriting s
  swap_in_sequence NoSteps w = absurd w
  swap_in_sequence (StepThen place command rest) (inl w) = inl (swap_in_command command w)
  swap_in_sequence (StepThen place command rest) (inr w) = inr (swap_in_sequence rest w)

  swap_in_command : (command : CommandTree) → CommandSwaps command → CommandHasWriting command
  swap_in_command (Test kind report) w = absurd w
  swap_in_command (Act kind report) w = swap_writes kind w
  swap_in_command (Index selection) w = absurd w
  swap_in_command (Override list) w = absurd w
  swap_in_command (TryEach tries) w = swap_in_branches tries w
  swap_in_command (RunSequence inner) w = swap_in_sequence inner w

  swap_in_branches : (branches : BranchesTree) → BranchesSwap branches → BranchesHaveWriting branches
  swap_in_branches NoBranches w = absurd w
  swap_in_branches (BranchThen inner rest) (inl w) = inl (swap_in_sequence inner w)
  swap_in_branches (BranchThen inner rest) (inr w) = inr (swap_in_branches rest w)
  swap_in_branches (NullThen rest) w = swap_in_branches rest w

in_some : (plan : PlanTree) (P Q : SequenceTree → Type 0) → ((s : SequenceTree) → P s → Q s) → InSome plan P → InSome plan Q
in_some plan P Q to (inl x) = inl (to plan.shared x)
in_some plan P Q to (inr (inl x)) = inr (inl (to plan.first x))
in_some plan P Q to (inr (inr (inl x))) = inr (inr (inl (to plan.second x)))
in_some plan P Q to (inr (inr (inr x))) = inr (inr (inr (to plan.third x)))

-- no component is written by the procedure
abbrev pub WritesNothing : PlanTree → Type 0
WritesNothing plan = (component : ℕ) → IsTarget plan component → ⊥

-- where none stands, nothing is written
pub writes_nothing : (plan : PlanTree) → (InSome plan HasWriting → ⊥) → WritesNothing plan
writes_nothing plan none component (inl w) =
    none (in_some plan (λ s. Writes s plan.count (0 ∷ []) component) HasWriting (λ s. in_sequence s plan.count (0 ∷ []) component) w)
writes_nothing plan none component (inr w) = none (in_some plan Swaps HasWriting swap_in_sequence w.0)

-- ---- the rest decides
