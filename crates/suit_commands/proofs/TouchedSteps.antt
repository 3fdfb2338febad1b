-- The bits of a walk are those of the components that a sequence touches.
use Rattle.std.proofs.Common.{◌≡◌, ℕ, ◌≤◌, ◌⊎◌, inl, inr, List, [], ◌∷◌, refl, sym, subst, bit_or}
use Rattle.suit_commands.specs.Tree.{CommandTree, Test, Act, Index, Override, TryEach, RunSequence, SequenceTree, NoSteps, StepThen, BranchesTree, NoBranches, BranchThen, NullThen}
use Rattle.suit_commands.specs.Bits.{HasBit}
use Rattle.suit_commands.specs.Indexed.{AreIndexed, IsIndexed, BranchesIndexed}
use Rattle.suit_commands.specs.Selections.{Among, selected_after}
use Rattle.suit_commands.specs.Touches.{Touches, CommandTouches, BranchesTouch}
use Rattle.suit_commands.specs.TouchedBits.{bits_after, touched_of, command_touched, branches_touched}
use Rattle.suit_commands.proofs.BitLaws.{no_bit, or_left, or_right, or_cases, selection_to, selection_from}
use Rattle.suit_commands.proofs.ReachParts.{HasOne, after_one}
use Rattle.suit_commands.proofs.SourceLaws.{none_left}

-- ---- what is touched has its bit set, or is already known by X, as the component selected before an inner
-- sequence is

after_to : (X : Type 0) (command : CommandTree) (count bits : ℕ) (now : List ℕ) (c : ℕ) → (Among c now → X ⊎ HasBit bits c) → Among c (selected_after command count now) → X ⊎ HasBit (bits_after command count bits) c
after_to X (Test kind report) count bits now c known h = known h
after_to X (Act kind report) count bits now c known h = known h
after_to X (Index selection) count bits now c known h = inr (selection_to selection count c h)
after_to X (Override list) count bits now c known h = known h
after_to X (TryEach branches) count bits now c known h = known h
after_to X (RunSequence inner) count bits now c known h = known h

left_of : (X : Type 0) (a b c : ℕ) → X ⊎ HasBit a c → X ⊎ HasBit (bit_or a b) c
left_of X a b c h = elim h [ inl x ↦ inl x | inr w ↦ inr (or_left a b c w) ]

right_of : (X : Type 0) (a b c : ℕ) → X ⊎ HasBit b c → X ⊎ HasBit (bit_or a b) c
right_of X a b c h = elim h [ inl x ↦ inl x | inr w ↦ inr (or_right a b c w) ]

-- a component that is selected at the outer command, and so is touched by it
outer_known : (outer c : ℕ) (now : List ℕ) → Among outer now → c ≡ outer → Among c now
outer_known outer c now among same = subst (λ (x : ℕ). Among x now) (sym same) among

at_outer : (outer c : ℕ) → Among c (outer ∷ []) → (c ≡ outer) ⊎ HasBit 0 c
at_outer outer c (inl same) = inl same
at_outer outer c (inr h) = absurd h

mutual
  sequence_to : (X : Type 0) (s : SequenceTree) (count bits total : ℕ) (now : List ℕ) (c : ℕ) → (Among c now → X ⊎ HasBit bits c) → (X ⊎ HasBit total c) ⊎ Touches s count now c → X ⊎ HasBit (touched_of s count bits total) c
  sequence_to X NoSteps count bits total now c known (inl h) = h
  sequence_to X NoSteps count bits total now c known (inr h) = absurd h
  sequence_to X (StepThen place command rest) count bits total now c known h =
      sequence_to X rest count (bits_after command count bits) (bit_or total (command_touched command count bits)) (selected_after command count now) c (after_to X command count bits now c known) (elim h [
        | inl w ↦ inl (left_of X total (command_touched command count bits) c w)
        | inr w ↦ elim w [ inl v ↦ inl (right_of X total (command_touched command count bits) c (command_to X command count bits now c known v)) | inr v ↦ inr v ]
      ])

  command_to : (X : Type 0) (command : CommandTree) (count bits : ℕ) (now : List ℕ) (c : ℕ) → (Among c now → X ⊎ HasBit bits c) → CommandTouches command count now c → X ⊎ HasBit (command_touched command count bits) c
  command_to X (Test kind report) count bits now c known h = known h
  command_to X (Act kind report) count bits now c known h = known h
  command_to X (Index selection) count bits now c known h = absurd h
  command_to X (Override list) count bits now c known h = known h
  command_to X (TryEach branches) count bits now c known (inl h) = left_of X bits (branches_touched branches count 0) c (known h)
  command_to X (TryEach branches) count bits now c known (inr h) = elim (branches_to (c ≡ h.0) branches count 0 h.0 c (at_outer h.0 c) (inr h.2)) [
    | inl same ↦ left_of X bits (branches_touched branches count 0) c (known (outer_known h.0 c now h.1 same))
    | inr w ↦ inr (or_right bits (branches_touched branches count 0) c w)
  ]
  command_to X (RunSequence inner) count bits now c known (inl h) = left_of X bits (touched_of inner count 0 0) c (known h)
  command_to X (RunSequence inner) count bits now c known (inr h) = elim (sequence_to (c ≡ h.0) inner count 0 0 (h.0 ∷ []) c (at_outer h.0 c) (inr h.2)) [
    | inl same ↦ left_of X bits (touched_of inner count 0 0) c (known (outer_known h.0 c now h.1 same))
    | inr w ↦ inr (or_right bits (touched_of inner count 0 0) c w)
  ]

  branches_to : (X : Type 0) (branches : BranchesTree) (count total outer c : ℕ) → (Among c (outer ∷ []) → X ⊎ HasBit 0 c) → (X ⊎ HasBit total c) ⊎ BranchesTouch branches count outer c → X ⊎ HasBit (branches_touched branches count total) c
  branches_to X NoBranches count total outer c known (inl h) = h
  branches_to X NoBranches count total outer c known (inr h) = absurd h
  branches_to X (BranchThen inner rest) count total outer c known h = branches_to X rest count (bit_or total (touched_of inner count 0 0)) outer c known (elim h [
    | inl w ↦ inl (left_of X total (touched_of inner count 0 0) c w)
    | inr w ↦ elim w [ inl v ↦ inl (right_of X total (touched_of inner count 0 0) c (sequence_to X inner count 0 0 (outer ∷ []) c known (inr v))) | inr v ↦ inr v ]
  ])
  branches_to X (NullThen rest) count total outer c known h = branches_to X rest count total outer c known h

-- ---- each bit that is set belongs to a component that is touched

after_from : (command : CommandTree) (count bits : ℕ) (now : List ℕ) (c : ℕ) → (HasBit bits c → Among c now) → HasBit (bits_after command count bits) c → Among c (selected_after command count now)
after_from (Test kind report) count bits now c known h = known h
after_from (Act kind report) count bits now c known h = known h
after_from (Index selection) count bits now c known h = selection_from selection count c h
after_from (Override list) count bits now c known h = known h
after_from (TryEach branches) count bits now c known h = known h
after_from (RunSequence inner) count bits now c known h = known h

mutual
  sequence_from : (s : SequenceTree) (count bits total : ℕ) (now : List ℕ) (c : ℕ) → 1 ≤ count → AreIndexed count s → HasOne now → (HasBit bits c → Among c now)
      → HasBit (touched_of s count bits total) c → HasBit total c ⊎ Touches s count now c
  sequence_from NoSteps count bits total now c some indexed one known h = inl h
  sequence_from (StepThen place command rest) count bits total now c some indexed one known h =
      elim (sequence_from rest count (bits_after command count bits) (bit_or total (command_touched command count bits)) (selected_after command count now) c some indexed.1 (after_one command count now some indexed.0 one)
      (after_from command count bits now c known) h) [
        | inl w ↦ elim (or_cases total (command_touched command count bits) c w) [ inl v ↦ inl v | inr v ↦ inr (inl (command_from command count bits now c some indexed.0 one known v)) ]
        | inr w ↦ inr (inr w)
      ]

  command_from : (command : CommandTree) (count bits : ℕ) (now : List ℕ) (c : ℕ) → 1 ≤ count → IsIndexed count command → HasOne now → (HasBit bits c → Among c now)
      → HasBit (command_touched command count bits) c → CommandTouches command count now c
  command_from (Test kind report) count bits now c some indexed one known h = known h
  command_from (Act kind report) count bits now c some indexed one known h = known h
  command_from (Index selection) count bits now c some indexed one known h = absurd (no_bit c h)
  command_from (Override list) count bits now c some indexed one known h = known h
  command_from (TryEach branches) count bits now c some indexed one known h = elim (or_cases bits (branches_touched branches count 0) c h) [
    | inl w ↦ inl (known w)
    | inr w ↦ inr (one.0, one.1, none_left c (branches_from branches count 0 one.0 c some indexed w))
  ]
  command_from (RunSequence inner) count bits now c some indexed one known h = elim (or_cases bits (touched_of inner count 0 0) c h) [
    | inl w ↦ inl (known w)
    | inr w ↦ inr (one.0, one.1, none_left c (sequence_from inner count 0 0 (one.0 ∷ []) c some indexed (one.0, inl refl) (λ v. absurd (no_bit c v)) w))
  ]

  branches_from : (branches : BranchesTree) (count total outer c : ℕ) → 1 ≤ count → BranchesIndexed count branches → HasBit (branches_touched branches count total) c → HasBit total c ⊎ BranchesTouch branches count outer c
  branches_from NoBranches count total outer c some indexed h = inl h
  branches_from (BranchThen inner rest) count total outer c some indexed h =
      elim (branches_from rest count (bit_or total (touched_of inner count 0 0)) outer c some indexed.1 h) [
        | inl w ↦ elim (or_cases total (touched_of inner count 0 0) c w) [ inl v ↦ inl v | inr v ↦ inr (inl (none_left c (sequence_from inner count 0 0 (outer ∷ []) c some indexed.0 (outer, inl refl) (λ u. absurd (no_bit c u)) v))) ]
        | inr w ↦ inr (inr w)
      ]
  branches_from (NullThen rest) count total outer c some indexed h = branches_from rest count total outer c some indexed h

-- ---- a sequence before which a component is selected

pub touches_bits : (s : SequenceTree) (count bits : ℕ) (now : List ℕ) (c : ℕ) → (Among c now → HasBit bits c) → Touches s count now c → HasBit (touched_of s count bits 0) c
touches_bits s count bits now c known h = elim (sequence_to ⊥ s count bits 0 now c (λ w. inr (known w)) (inr h)) [ inl n ↦ absurd n | inr w ↦ w ]

pub bits_touch : (s : SequenceTree) (count bits : ℕ) (now : List ℕ) (c : ℕ) → 1 ≤ count → AreIndexed count s → HasOne now → (HasBit bits c → Among c now) → HasBit (touched_of s count bits 0) c → Touches s count now c
bits_touch s count bits now c some indexed one known h = none_left c (sequence_from s count bits 0 now c some indexed one known h)
