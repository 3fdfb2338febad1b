-- A written sequence says the sequence that was written, with its places.
use Rattle.std.proofs.Common.{◌≡◌, ℕ, List, refl}
use Rattle.det_cbor.specs.DataItem.{NullItem, spell}
use Rattle.suit_commands.specs.Tree.{CommandTree, Test, Act, Index, Override, TryEach, RunSequence, SequenceTree, NoSteps, StepThen, BranchesTree, NoBranches, BranchThen, NullThen}
use Rattle.suit_commands.specs.Allowed.{levels_allowed}
use Rattle.suit_commands.specs.Sequences.{elements_place, place_after}
use Rattle.suit_commands.specs.SequenceMaking.{branch_items, sequence_item, inner_item, argument_place, next_code, first_code, placed, placed_command, placed_branches, unplaced, unplaced_command, unplaced_branches}
use Rattle.suit_commands.specs.SequenceWriting.{SequenceFits, IsWrittenSequence}
use Rattle.suit_commands.proofs.SequenceValid.{written_spells}
use Rattle.suit_commands.proofs.SequenceSays.{sequence_says}

-- apart from its places it is the same tree
mutual
  unplaced_same : (place : ℕ) (s : SequenceTree) → unplaced (placed place s) ≡ unplaced s
  unplaced_same place NoSteps = refl
  unplaced_same place (StepThen was c rest) = λ i. StepThen 0 (command_same (argument_place place c) c i) (unplaced_same (next_code place c) rest i)

  command_same : (place : ℕ) (c : CommandTree) → unplaced_command (placed_command place c) ≡ unplaced_command c
  command_same place (Test kind report) = refl
  command_same place (Act kind report) = refl
  command_same place (Index selection) = refl
  command_same place (Override list) = refl
  command_same place (TryEach tries) = λ i. TryEach (branches_same (elements_place place (branch_items tries)) tries i)
  command_same place (RunSequence inner) = λ i. RunSequence (unplaced_same (first_code place inner) inner i)

  branches_same : (place : ℕ) (tries : BranchesTree) → unplaced_branches (placed_branches place tries) ≡ unplaced_branches tries
  branches_same place NoBranches = refl
  branches_same place (BranchThen inner rest) = λ i. BranchThen (unplaced_same (first_code place inner) inner i) (branches_same (place_after place (inner_item inner)) rest i)
  branches_same place (NullThen rest) = λ i. NullThen (branches_same (place_after place NullItem) rest i)

pub is_written : (s : SequenceTree) (bytes : List ℕ) → bytes ≡ spell (sequence_item s) → SequenceFits s → IsWrittenSequence s bytes
is_written s bytes spelled fits =
    record {
      says = λ shared count place is. record {
        item = sequence_item s;
        spells = record { valid = (written_spells shared count levels_allowed s is fits).valid; is = spelled };
        says_so = sequence_says shared count levels_allowed place s is fits;
      };
      same = λ place. unplaced_same place s;
    }
