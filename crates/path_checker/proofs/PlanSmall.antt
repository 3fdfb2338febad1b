-- The components of a procedure of the grammar are few.
use Rattle.std.proofs.Common.{◌≤◌, ◌<◌, ℕ, zero, suc, Bool, true, false, List, [], ◌∷◌, arith}
use Rattle.std.specs.List.{AllByRecursion}
use Rattle.suit_commands.specs.declared.selection.Selection.{Selection}
use Rattle.suit_commands.specs.declared.selection.Selection.TheVariants.{One, All, Listed}
use Rattle.suit_commands.specs.Tree.{CommandTree, Test, Act, Index, Override, TryEach, RunSequence, SequenceTree, NoSteps, StepThen, BranchesTree, NoBranches, BranchThen, NullThen, PlanTree}
use Rattle.suit_commands.specs.Allowed.{IsSelectionOf, IsSequence, AreCommands, IsCommand, AreBranches, IsMember, IsShared, IsPlan, levels_allowed}
use Rattle.path_checker.specs.Small.{AreSmall, SelectsSmall, IsSmallSequence, IsSmallCommand, AreSmallBranches}
use Rattle.path_checker.specs.Procedures.{ArePlan}

small_all : (count : ℕ) (components : List ℕ) → count ≤ 8 → AllByRecursion (λ i. i < count) components → AreSmall components
small_all count [] few all = tt
small_all count (c ∷ components) few all = let lt : c < count = all.0 in (omega (arith, few, lt), small_all count components few all.1)

small_selection : (count : ℕ) (s : Selection) → count ≤ 8 → IsSelectionOf count s → SelectsSmall count s
small_selection count (One c) few h = let lt : c < count = h in omega (arith, few, lt)
small_selection count All few h = few
small_selection count (Listed components) few h = small_all count components few h.1

mutual
  small_commands : (shared : Bool) (count levels : ℕ) (s : SequenceTree) → count ≤ 8 → AreCommands shared count levels s → IsSmallSequence count s
  small_commands shared count levels NoSteps few h = tt
  small_commands shared count levels (StepThen place command rest) few h = (small_command shared count levels command few h.0, small_commands shared count levels rest few h.1)

  small_sequence : (shared : Bool) (count levels : ℕ) (s : SequenceTree) → count ≤ 8 → IsSequence shared count levels s → IsSmallSequence count s
  small_sequence shared count zero s few h = absurd h
  small_sequence shared count (suc levels) NoSteps few h = absurd h
  small_sequence shared count (suc levels) (StepThen place command rest) few h = (small_command shared count levels command few h.0, small_commands shared count levels rest few h.1)

  small_command : (shared : Bool) (count levels : ℕ) (command : CommandTree) → count ≤ 8 → IsCommand shared count levels command → IsSmallCommand count command
  small_command shared count levels (Test kind report) few h = tt
  small_command shared count levels (Act kind report) few h = tt
  small_command shared count levels (Index selection) few h = small_selection count selection few h
  small_command shared count levels (Override list) few h = tt
  small_command shared count levels (TryEach tries) few h = small_branches shared count levels tries few h.1
  small_command shared count levels (RunSequence inner) few h = small_sequence shared count levels inner few h

  small_branches : (shared : Bool) (count levels : ℕ) (branches : BranchesTree) → count ≤ 8 → AreBranches shared count levels branches → AreSmallBranches count branches
  small_branches shared count levels NoBranches few h = tt
  small_branches shared count levels (BranchThen inner rest) few h = (small_sequence shared count levels inner few h.0, small_branches shared count levels rest few h.1)
  small_branches shared count levels (NullThen NoBranches) few h = tt
  small_branches shared count levels (NullThen (BranchThen inner rest)) few h = absurd h
  small_branches shared count levels (NullThen (NullThen rest)) few h = absurd h

small_member : (count : ℕ) (s : SequenceTree) → count ≤ 8 → IsMember count s → IsSmallSequence count s
small_member count NoSteps few h = tt
small_member count (StepThen place command rest) few h = small_sequence false count levels_allowed (StepThen place command rest) few h

small_shared : (count : ℕ) (s : SequenceTree) → count ≤ 8 → IsShared count s → IsSmallSequence count s
small_shared count NoSteps few h = tt
small_shared count (StepThen place command rest) few h = small_sequence true count levels_allowed (StepThen place command rest) few h

pub small_plan : (plan : PlanTree) → IsPlan plan → ArePlan plan
small_plan plan h = record {
  shared = small_shared plan.count plan.shared h.few_components h.shared;
  first = small_member plan.count plan.first h.few_components h.first;
  second = small_member plan.count plan.second h.few_components h.second;
  third = small_member plan.count plan.third h.few_components h.third;
}
