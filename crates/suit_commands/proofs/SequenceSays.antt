-- The items of a written sequence say that sequence.
use Rattle.std.proofs.Common.{ℕ, zero, suc, ◌≤◌, Bool, arith}
use Rattle.det_cbor.specs.DataItem.{item_count, spell}
use Rattle.suit_params.specs.ParamMaking.{params_item}
use Rattle.suit_params.proofs.ParamWritten.{written_says}
use Rattle.suit_params.specs.Refusing.{content_place}
use Rattle.suit_commands.specs.declared.selection.Selection.TheVariants.{One, All, Listed}
use Rattle.suit_commands.specs.Tree.{CommandTree, Test, Act, Index, Override, TryEach, RunSequence, SequenceTree, NoSteps, StepThen, BranchesTree, NoBranches, BranchThen, NullThen}
use Rattle.suit_commands.specs.Allowed.{AreTwo, IsSequence, AreCommands, IsCommand, AreBranches}
use Rattle.suit_commands.specs.Sequences.{elements_place, place_after, SaysSequence, SaysArray, SaysSteps, SaysNoSteps, SaysStep, SaysCommand, SaysTest, SaysAct, SaysOne, SaysAll, SaysListed, SaysOverride, SaysTry, SaysRun, SaysBranches, SaysNoBranches, SaysNull, SaysBranch, SaysInner, SaysHeldSequence}
use Rattle.suit_commands.specs.SequenceMaking.{code_of, step_items, argument_item, branch_items, sequence_item, inner_item, argument_place, next_code, first_code, placed, placed_command, placed_branches}
use Rattle.suit_commands.specs.SequenceWriting.{StepsFit, CommandFits, BranchesFit, SequenceFits, InnerFits}
use Rattle.suit_commands.proofs.SequenceValid.{written_spells}

two_items : (tries : BranchesTree) → AreTwo tries → 2 ≤ item_count (branch_items tries)
two_items NoBranches two = absurd two
two_items (NullThen rest) two = absurd two
two_items (BranchThen inner NoBranches) two = absurd two
two_items (BranchThen inner (BranchThen other rest)) two = omega arith
two_items (BranchThen inner (NullThen rest)) two = omega arith

-- an array says a sequence, and a byte string holds it, if the steps are said

array_says : (shared : Bool) (count levels place : ℕ) (s : SequenceTree) → IsSequence shared count levels s
    → ((inside : ℕ) → AreCommands shared count inside s → SaysSteps shared count inside (elements_place place (step_items s)) (step_items s) (placed (elements_place place (step_items s)) s))
    → SaysSequence shared count levels place (sequence_item s) (placed (elements_place place (step_items s)) s)
array_says shared count zero place s is say = absurd is
array_says shared count (suc levels) place NoSteps is say = absurd is
array_says shared count (suc levels) place (StepThen was c rest) is say = SaysArray levels place (step_items (StepThen was c rest)) _ (λ e. absurd cc) (say levels is)

inner_says : (shared : Bool) (count levels place : ℕ) (s : SequenceTree) → IsSequence shared count levels s → InnerFits s
    → ((inside : ℕ) → AreCommands shared count inside s → SaysSteps shared count inside (first_code place s) (step_items s) (placed (first_code place s) s))
    → SaysInner shared count levels place (spell (sequence_item s)) (placed (first_code place s) s)
inner_says shared count levels place s is fits say =
    SaysHeldSequence levels place (spell (sequence_item s)) (sequence_item s) (placed (first_code place s) s) (written_spells shared count levels s is fits.1)
    (array_says shared count levels (content_place place (spell (sequence_item s))) s is say)

mutual
  steps_say : (shared : Bool) (count levels place : ℕ) (s : SequenceTree) → AreCommands shared count levels s → StepsFit s → SaysSteps shared count levels place (step_items s) (placed place s)
  steps_say shared count levels place NoSteps are fit = SaysNoSteps levels place
  steps_say shared count levels place (StepThen was c rest) are fit =
      SaysStep levels place (code_of c) (argument_item c) (step_items rest) (placed_command (argument_place place c) c) (placed (next_code place c) rest)
      (command_says shared count levels (argument_place place c) c are.0 fit.0) (steps_say shared count levels (next_code place c) rest are.1 fit.1)

  command_says : (shared : Bool) (count levels place : ℕ) (c : CommandTree) → IsCommand shared count levels c → CommandFits c → SaysCommand shared count levels place (code_of c) (argument_item c) (placed_command place c)
  command_says shared count levels place (Test kind report) is fits = SaysTest levels place kind report is
  command_says shared count levels place (Act kind report) is fits = SaysAct levels place kind report is.0 is.1
  command_says shared count levels place (Index (One component)) is fits = SaysOne levels place component is
  command_says shared count levels place (Index All) is fits = SaysAll levels place
  command_says shared count levels place (Index (Listed components)) is fits = SaysListed levels place components is.0 is.1
  command_says shared count levels place (Override list) is fits = SaysOverride levels place (params_item list) list (written_says count place list is.0 is.1)
  command_says shared count levels place (TryEach tries) is fits =
      SaysTry levels place (branch_items tries) (placed_branches (elements_place place (branch_items tries)) tries) (two_items tries is.0)
      (branches_say shared count levels (elements_place place (branch_items tries)) tries is.1 fits.1)
  command_says shared count levels place (RunSequence inner) is fits =
      SaysRun levels place (spell (sequence_item inner)) (placed (first_code place inner) inner) (inner_says shared count levels place inner is fits (λ inside are. steps_say shared count inside (first_code place inner) inner are fits.1.1))

  branches_say : (shared : Bool) (count levels place : ℕ) (tries : BranchesTree) → AreBranches shared count levels tries → BranchesFit tries → SaysBranches shared count levels place (branch_items tries) (placed_branches place tries)
  branches_say shared count levels place NoBranches are fit = SaysNoBranches levels place
  branches_say shared count levels place (BranchThen inner rest) are fit =
      SaysBranch levels place (spell (sequence_item inner)) (branch_items rest) (placed (first_code place inner) inner) (placed_branches (place_after place (inner_item inner)) rest)
      (inner_says shared count levels place inner are.0 fit.0 (λ inside all. steps_say shared count inside (first_code place inner) inner all fit.0.1.1)) (branches_say shared count levels (place_after place (inner_item inner)) rest are.1 fit.1)
  branches_say shared count levels place (NullThen NoBranches) are fit = SaysNull levels place
  branches_say shared count levels place (NullThen (BranchThen inner rest)) are fit = absurd are
  branches_say shared count levels place (NullThen (NullThen rest)) are fit = absurd are

pub sequence_says : (shared : Bool) (count levels place : ℕ) (s : SequenceTree) → IsSequence shared count levels s → SequenceFits s → SaysSequence shared count levels place (sequence_item s) (placed (elements_place place (step_items s)) s)
sequence_says shared count levels place s is fits = array_says shared count levels place s is (λ inside are. steps_say shared count inside (elements_place place (step_items s)) s are fits.1)
