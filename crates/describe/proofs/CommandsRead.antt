-- Commands are read as they are written, but for their places.
use Rattle.std.proofs.Common.{◌≡◌, ℕ, zero, suc, ◌<◌, ◌≤◌, ◌^◌, Bool, true, false, ◌&&◌, List, [], ◌∷◌, Ok, refl, arith}
use Rattle.std.specs.List.{AllByRecursion}
use Rattle.serde_json.specs.Data.{array}
use Rattle.suit_commands.specs.declared.kinds.TestKind.{TestKind}
use Rattle.suit_commands.specs.declared.kinds.TestKind.TheVariants as tests
use Rattle.suit_commands.specs.declared.kinds.ActKind.{ActKind}
use Rattle.suit_commands.specs.declared.kinds.ActKind.TheVariants as acts
use Rattle.suit_commands.specs.declared.selection.Selection.{Selection}
use Rattle.suit_commands.specs.declared.selection.Selection.TheVariants.{One, All, Listed}
use Rattle.suit_commands.specs.Allowed.{IsSelectionOf, AreTwo, IsSequence, AreCommands, IsCommand, AreBranches}
use Rattle.suit_commands.specs.SequenceMaking.{unplaced, unplaced_command, unplaced_branches}
use Rattle.suit_commands.specs.Tree.{CommandTree, Test, Act, Index, Override, TryEach, RunSequence, SequenceTree, NoSteps, StepThen, BranchesTree, NoBranches, BranchThen, NullThen}
use Rattle.author.specs.Commands.{sequence_of, steps_from, command_of, tries_of, branches_from, is_end}
use Rattle.author.specs.ParamValues.{index_of}
use Rattle.author.specs.Scope.{Scope}
use Rattle.author.specs.Selections.{selection_of}
use Rattle.describe.specs.ValueData.{number_data}
use Rattle.describe.specs.CommandData.{selection_data, command_data, step_data, branch_data, sequence_data}
use Rattle.describe.proofs.ValuesRead.{number_read, array_read, all_of}
use Rattle.describe.proofs.ParamsRead.{index_read, params_read}

-- ---- selections

indices_read : (count : ℕ) (is : List ℕ) → count ≤ 2 ^ 64 → AllByRecursion (λ i. i < count) is → AllByRecursion (λ i. index_of count (number_data i) ≡ Ok i) is
indices_read count is small h = all_of _ _ (λ i lt. index_read count i lt (omega arith)) is h

selection_read : (count : ℕ) (s : Selection) → count ≤ 2 ^ 64 → IsSelectionOf count s → selection_of count (selection_data s) ≡ Ok s
selection_read count (One i) small h = rw (index_read count i h (omega arith)) refl
selection_read count All small h = refl
selection_read count (Listed []) small h = absurd (h.0 refl)
selection_read count (Listed (i ∷ is)) small h = rw (array_read (index_of count) number_data (i ∷ is) (indices_read count (i ∷ is) small h.1)) refl

-- ---- conditions and directives on contents

test_read : (scope : Scope) (levels : ℕ) (kind : TestKind) (report : ℕ) → report ≤ 15 → command_of scope levels (command_data (Test kind report)) ≡ Ok (Test kind report)
test_read scope levels tests.Vendor report h = rw (number_read 15 report h) refl
test_read scope levels _ report h = rw (number_read 15 report h) refl

act_read : (scope : Scope) (levels : ℕ) (kind : ActKind) (report : ℕ) → scope.shared ≡ false → report ≤ 15 → command_of scope levels (command_data (Act kind report)) ≡ Ok (Act kind report)
act_read scope levels acts.Write report own h = rw (own, number_read 15 report h) refl
act_read scope levels _ report own h = rw (own, number_read 15 report h) refl

-- ---- trees

and_false : (b : Bool) → (b && false) ≡ false
and_false true = refl
and_false false = refl

module _ (scope : Scope) (small : scope.count ≤ 2 ^ 64) where
  mutual
    pub sequence_read : (levels : ℕ) (s : SequenceTree) → IsSequence scope.shared scope.count levels s → sequence_of scope levels (sequence_data s) ≡ Ok (unplaced s)
    sequence_read zero s h = absurd h
    sequence_read (suc levels) NoSteps h = absurd h
    sequence_read (suc levels) (StepThen place command rest) h = rw (command_read levels command h.0, steps_read levels 1 rest h.1) refl

    steps_read : (levels i : ℕ) (s : SequenceTree) → AreCommands scope.shared scope.count levels s → steps_from scope levels i (step_data s) ≡ Ok (unplaced s)
    steps_read levels i NoSteps h = refl
    steps_read levels i (StepThen place command rest) h = rw (command_read levels command h.0, steps_read levels (suc i) rest h.1) refl

    command_read : (levels : ℕ) (c : CommandTree) → IsCommand scope.shared scope.count levels c → command_of scope levels (command_data c) ≡ Ok (unplaced_command c)
    command_read levels (Test kind report) h = test_read scope levels kind report h
    command_read levels (Act kind report) h = act_read scope levels kind report h.0 h.1
    command_read levels (Index selection) h = rw (selection_read scope.count selection small h) refl
    command_read levels (Override list) h = rw (params_read scope list h.0 h.1 h.2) refl
    command_read levels (TryEach tries) h = rw (tries_read levels tries h.0 h.1) refl
    command_read levels (RunSequence inner) h = rw (sequence_read levels inner h) refl

    tries_read : (levels : ℕ) (bs : BranchesTree) → AreTwo bs → AreBranches scope.shared scope.count levels bs → tries_of scope levels (array (branch_data bs)) ≡ Ok (unplaced_branches bs)
    tries_read levels (BranchThen inner (BranchThen other rest)) two h = rw (sequence_read levels inner h.0, branches_read levels 1 (BranchThen other rest) h.1) refl
    tries_read levels (BranchThen inner (NullThen rest)) two h = rw (sequence_read levels inner h.0, branches_read levels 1 (NullThen rest) h.1) refl
    tries_read levels (BranchThen inner NoBranches) two h = absurd two
    tries_read levels (NullThen rest) two h = absurd two
    tries_read levels NoBranches two h = absurd two

    branches_read : (levels i : ℕ) (bs : BranchesTree) → AreBranches scope.shared scope.count levels bs → branches_from scope levels i (branch_data bs) ≡ Ok (unplaced_branches bs)
    branches_read levels i NoBranches h = refl
    branches_read levels i (NullThen NoBranches) h = refl
    branches_read levels i (NullThen (BranchThen inner rest)) h = absurd h
    branches_read levels i (NullThen (NullThen rest)) h = absurd h
    branches_read levels i (BranchThen inner rest) h = rw (and_false (is_end (branch_data rest)), sequence_read levels inner h.0, branches_read levels (suc i) rest h.1) refl
