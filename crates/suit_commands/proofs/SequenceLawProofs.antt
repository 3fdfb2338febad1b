-- An item says exactly one sequence or has exactly one refusal, and what it says is a sequence of the
-- grammar.
use Rattle.std.proofs.Common.{◌≡◌, ◌≢◌, ℕ, zero, suc, ◌+◌, ◌≤◌, Bool, Result, Ok, Err, List, refl, sym, ◌∙◌, arith, inl, inr, ◌⊎◌}
use Rattle.det_cbor.specs.DataItem.{DataItem, DataItems, NoItems, item_count, IsValid, IsValidWithin, AreValidWithin}
use Rattle.det_cbor.specs.ResultLaws.{same_ok, same_err, not_both}
use Rattle.suit_params.specs.declared.refusal.Refusal.{Refusal}
use Rattle.suit_params.specs.OneWholeLaws.{one_answer}
use Rattle.suit_commands.specs.SequenceFaults.{RefusesSequence}
use Rattle.suit_commands.specs.Allowed.{AreTwo, IsSequence, AreCommands, IsCommand, AreBranches}
use Rattle.suit_commands.specs.Sequences.{SaysSequence, SaysArray, SaysSteps, SaysNoSteps, SaysStep, SaysCommand, SaysTest, SaysAct, SaysOne, SaysAll, SaysListed, SaysOverride, SaysTry, SaysRun, SaysBranches, SaysNoBranches, SaysNull, SaysBranch, SaysInner, SaysHeldSequence}
use Rattle.suit_commands.specs.SequenceJudging.{judge_sequence}
use Rattle.suit_commands.specs.SequenceLaws.{HasOneSequence, HasOneRefusal, SequenceLaws}
use Rattle.suit_commands.specs.Tree.{CommandTree, SequenceTree, BranchesTree, BranchThen}
use Rattle.suit_commands.proofs.Levels.{sequence_within, deepest}
use Rattle.suit_commands.proofs.SaidParams.{said_params}
use Rattle.suit_commands.proofs.SequenceJudging.{sequence_judges}
use Rattle.suit_commands.proofs.SequenceMade.{sequence_made, sequence_placed, sequence_again, one_item}

one_reading : (shared : Bool) (count levels place : ℕ) (x : DataItem) → IsValid x → HasOneSequence shared count (suc levels) place x ⊎ HasOneRefusal shared count (suc levels) place x
one_reading shared count levels place x valid = by_answer (judge_sequence shared count levels place x) refl
  where
    by_answer : (a : Result SequenceTree Refusal) → judge_sequence shared count levels place x ≡ a → HasOneSequence shared count (suc levels) place x ⊎ HasOneRefusal shared count (suc levels) place x
    by_answer (Ok s) is = inl (record {
      sequence = s;
      says = (sequence_judges shared count levels).ok 0 place x s valid is;
      only = λ t said. same_ok t s (sym ((sequence_judges shared count levels).again place x t said) ∙ is);
      sound = λ r refuses. not_both (judge_sequence shared count levels place x) s r is ((sequence_judges shared count levels).refuses place x r refuses);
    })
    by_answer (Err r) is = inr (record {
      refusal = r;
      refuses = (sequence_judges shared count levels).err 0 place x r valid is;
      only = λ t refuses. same_err t r (sym ((sequence_judges shared count levels).refuses place x t refuses) ∙ is);
      empty = λ s said. not_both (judge_sequence shared count levels place x) s r ((sequence_judges shared count levels).again place x s said) is;
    })

-- ---- a sequence that is said is one of the grammar, if those in its byte strings are

abbrev Allowed : Bool → ℕ → ℕ → Type 0
Allowed shared count levels = (place : ℕ) (content : List ℕ) (s : SequenceTree) → SaysInner shared count levels place content s → IsSequence shared count levels s

branches_allowed : (shared : Bool) (count levels place : ℕ) (items : DataItems) (bs : BranchesTree) → Allowed shared count levels → SaysBranches shared count levels place items bs → AreBranches shared count levels bs
branches_allowed shared count levels place items bs law (SaysNoBranches l at) = tt
branches_allowed shared count levels place items bs law (SaysNull l at) = tt
branches_allowed shared count levels place items bs law (SaysBranch l at content others s rest said more) = (law place content s said, branches_allowed shared count levels _ others rest law more)

second : (shared : Bool) (count levels place : ℕ) (items : DataItems) (s : SequenceTree) (bs : BranchesTree) → 1 ≤ item_count items → SaysBranches shared count levels place items bs → AreTwo (BranchThen s bs)
second shared count levels place items s bs one (SaysNoBranches l at) = absurd (omega (arith, one))
second shared count levels place items s bs one (SaysNull l at) = tt
second shared count levels place items s bs one (SaysBranch l at content others t rest said more) = tt

are_two : (shared : Bool) (count levels place : ℕ) (items : DataItems) (bs : BranchesTree) → 2 ≤ item_count items → SaysBranches shared count levels place items bs → AreTwo bs
are_two shared count levels place items bs two (SaysNoBranches l at) = absurd (omega (arith, two))
are_two shared count levels place items bs two (SaysNull l at) = absurd (omega (arith, two))
are_two shared count levels place items bs two (SaysBranch l at content others s rest said more) = second shared count levels _ others s rest (omega (arith, two)) more

command_allowed : (shared : Bool) (count levels deep place number : ℕ) (x : DataItem) (command : CommandTree) → Allowed shared count levels → IsValidWithin deep x → SaysCommand shared count levels place number x command → IsCommand shared count levels command
command_allowed shared count levels deep place number x command law valid (SaysTest l at kind report le) = le
command_allowed shared count levels deep place number x command law valid (SaysAct l at kind report unshared le) = (unshared, le)
command_allowed shared count levels deep place number x command law valid (SaysOne l at i lt) = lt
command_allowed shared count levels deep place number x command law valid (SaysAll l at) = tt
command_allowed shared count levels deep place number x command law valid (SaysListed l at is some all) = (some, all)
command_allowed shared count levels deep place number x command law valid (SaysOverride l at y list said) = said_params count deep place x list valid said
command_allowed shared count levels deep place number x command law valid (SaysTry l at items bs two said) = (are_two shared count levels _ items bs two said, branches_allowed shared count levels _ items bs law said)
command_allowed shared count levels deep place number x command law valid (SaysRun l at content s said) = law place content s said

steps_allowed : (shared : Bool) (count levels deep place : ℕ) (items : DataItems) (s : SequenceTree) → Allowed shared count levels → AreValidWithin deep items → SaysSteps shared count levels place items s → AreCommands shared count levels s
steps_allowed shared count levels deep place items s law valid (SaysNoSteps l at) = tt
steps_allowed shared count levels deep place items s law valid (SaysStep l at number argument others command rest said more) =
    (command_allowed shared count levels deep _ number argument command law valid.1.0 said, steps_allowed shared count levels deep _ others rest law valid.1.1 more)

sequence_allowed : (shared : Bool) (count levels deep place : ℕ) (x : DataItem) (s : SequenceTree) → Allowed shared count levels → IsValidWithin deep x → SaysSequence shared count (suc levels) place x s → IsSequence shared count (suc levels) s
sequence_allowed shared count levels deep place x s law valid (SaysArray l at items t some said) = by_steps items s some valid.2 said
  where
    by_steps : {from : ℕ} (items : DataItems) (s : SequenceTree) → items ≢ NoItems → AreValidWithin (deep + 1) items → SaysSteps shared count levels from items s → IsSequence shared count (suc levels) s
    by_steps items s some valid (SaysNoSteps l at) = absurd (some refl)
    by_steps items s some valid (SaysStep l at number argument others command rest said more) =
        (command_allowed shared count levels (deep + 1) _ number argument command law valid.1.0 said, steps_allowed shared count levels (deep + 1) _ others rest law valid.1.1 more)

no_level : (shared : Bool) (count place : ℕ) (x : DataItem) (s : SequenceTree) → SaysSequence shared count zero place x s → ⊥
no_level shared count place x s said = elim said [ ]

inner_allowed : (shared : Bool) (count levels : ℕ) → Allowed shared count levels
inner_allowed shared count zero place content s (SaysHeldSequence l at c x t spells said) = absurd (no_level shared count _ x s said)
inner_allowed shared count (suc levels) place content s (SaysHeldSequence l at c x t spells said) = sequence_allowed shared count levels 0 _ x s (inner_allowed shared count levels) spells.valid said

allowed : (shared : Bool) (count levels place : ℕ) (x : DataItem) (s : SequenceTree) → IsValid x → SaysSequence shared count levels place x s → IsSequence shared count levels s
allowed shared count zero place x s valid said = absurd (no_level shared count place x s said)
allowed shared count (suc levels) place x s valid said = sequence_allowed shared count levels 0 place x s (inner_allowed shared count levels) valid said

pub sequence_laws : SequenceLaws
sequence_laws = record {
  one_reading = one_reading;
  whole = λ shared count levels. one_answer (judge_sequence shared count levels) (SaysSequence shared count (suc levels)) (RefusesSequence shared count (suc levels)) (sequence_judges shared count levels);
  allowed = allowed;
  eight_levels = λ shared count s is. sequence_within shared count 8 s is;
  eighth_level = deepest;
  made = sequence_made;
  places = sequence_placed;
  again = sequence_again;
  one_item = one_item;
}
