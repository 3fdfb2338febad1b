-- Laws of all sequences of commands.
use Rattle.std.specs.Prelude.{◌≡◌, ◌≤◌, ◌⊎◌, ℕ, suc, Bool, List}
use Rattle.det_cbor.specs.DataItem.{DataItem, spell, IsValid}
use Rattle.suit_params.specs.declared.refusal.Refusal.{Refusal}
use Rattle.suit_params.specs.Refusing.{SaysWhole}
use Rattle.suit_params.specs.OneWhole.{HasOneAnswer}
use Rattle.suit_commands.specs.Allowed.{IsSequence, levels_allowed}
use Rattle.suit_commands.specs.Depth.{sequence_depth}
use Rattle.suit_commands.specs.Sequences.{SaysSequence, elements_place}
use Rattle.suit_commands.specs.SequenceMaking.{step_items, sequence_item, placed, unplaced}
use Rattle.suit_commands.specs.SequenceFaults.{RefusesSequence}
use Rattle.suit_commands.specs.Tree.{SequenceTree}

-- the item says exactly one sequence, and has no refusal
pub record HasOneSequence (shared : Bool) (count levels place : ℕ) (x : DataItem) : Type 0 where
  pub sequence : SequenceTree
  pub says : SaysSequence shared count levels place x sequence
  pub only : (s : SequenceTree) → SaysSequence shared count levels place x s → s ≡ sequence
  pub sound : (r : Refusal) → RefusesSequence shared count levels place x r → ⊥

-- the item has exactly one refusal, and says no sequence
pub record HasOneRefusal (shared : Bool) (count levels place : ℕ) (x : DataItem) : Type 0 where
  pub refusal : Refusal
  pub refuses : RefusesSequence shared count levels place x refusal
  pub only : (r : Refusal) → RefusesSequence shared count levels place x r → r ≡ refusal
  pub empty : (s : SequenceTree) → SaysSequence shared count levels place x s → ⊥

-- With at least one level allowed, each item says exactly one sequence or has exactly one refusal, and never
-- both; so do any bytes. What is said is a sequence of the grammar, which has at most eight levels and may
-- have eight. The item that says a sequence is the one made from it, the sequence's places are those in that
-- item's spelling, and bytes that say it are that spelling. Sequences that differ only in their places are
-- made into the same item.
pub record SequenceLaws : Type 0 where
  pub one_reading : (shared : Bool) (count levels place : ℕ) (x : DataItem) → IsValid x
      → HasOneSequence shared count (suc levels) place x
      ⊎ HasOneRefusal shared count (suc levels) place x
  pub whole : (shared : Bool) (count levels : ℕ)
      → HasOneAnswer (SaysSequence shared count (suc levels))
      (RefusesSequence shared count (suc levels))
  pub allowed : (shared : Bool) (count levels place : ℕ) (x : DataItem) (s : SequenceTree)
      → IsValid x → SaysSequence shared count levels place x s → IsSequence shared count levels s
  pub eight_levels : (shared : Bool) (count : ℕ) (s : SequenceTree)
      → IsSequence shared count levels_allowed s → sequence_depth s ≤ 8
  pub eighth_level : (shared : Bool) (count : ℕ)
      → (s : SequenceTree) × (sequence_depth s ≡ 8) × IsSequence shared count levels_allowed s
  pub made : (shared : Bool) (count levels place : ℕ) (x : DataItem) (s : SequenceTree)
      → SaysSequence shared count levels place x s → x ≡ sequence_item s
  pub places : (shared : Bool) (count levels place : ℕ) (x : DataItem) (s : SequenceTree)
      → SaysSequence shared count levels place x s
      → s ≡ placed (elements_place place (step_items s)) s
  pub again : (shared : Bool) (count levels place : ℕ) (bytes : List ℕ) (s : SequenceTree)
      → SaysWhole (SaysSequence shared count levels) place bytes s → bytes ≡ spell (sequence_item s)
  pub one_item : (s t : SequenceTree) → unplaced s ≡ unplaced t → sequence_item s ≡ sequence_item t
