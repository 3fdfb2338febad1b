-- A sequence reaches what it writes, whichever components are selected at its beginning.
use Rattle.std.proofs.Common.{◌≡◌, ℕ, ◌≤◌, true, ◌⊎◌, inl, inr, List, [], ◌∷◌, refl}
use Rattle.suit_commands.specs.declared.reach.Reach.{Reach}
use Rattle.suit_commands.specs.declared.kinds.ActKind.{ActKind}
use Rattle.suit_commands.specs.declared.kinds.ActKind.TheVariants as acts
use Rattle.suit_commands.specs.Tree.{CommandTree, Test, Act, Index, Override, TryEach, RunSequence, SequenceTree, NoSteps, StepThen, BranchesTree, NoBranches, BranchThen, NullThen}
use Rattle.suit_commands.specs.Indexed.{AreIndexed, IsIndexed, BranchesIndexed}
use Rattle.suit_commands.specs.Reaches.{no_reach, start_reach, reach_or, reach_through, writes_content, reach_after, reach_of, command_reach, branches_reach, Reaches}
use Rattle.suit_commands.specs.Selections.{selected_after}
use Rattle.suit_commands.specs.Targets.{IsWriting, Writes, CommandWrites, BranchesWrite}
use Rattle.suit_commands.proofs.BitLaws.{no_bit}
use Rattle.suit_commands.proofs.ReachParts.{HasOne, Tells, none_reached, or_to, or_from, through_to, through_from, start_tells, after_tells, after_one, each_to, each_from}

-- ---- trees

writing_to : (kind : ActKind) → IsWriting kind → writes_content kind ≡ true
writing_to acts.Write h = refl
writing_to acts.Fetch h = refl
writing_to acts.Copy h = refl
writing_to acts.Swap h = refl
writing_to acts.Invoke h = absurd h

writing_from : (kind : ActKind) → writes_content kind ≡ true → IsWriting kind
writing_from acts.Write h = tt
writing_from acts.Fetch h = tt
writing_from acts.Copy h = tt
writing_from acts.Swap h = tt
writing_from acts.Invoke h = absurd cc

mutual
  sequence_to : (s : SequenceTree) (count : ℕ) (selected total : Reach) (first now : List ℕ) (c : ℕ) → Tells selected first now
      → Reaches total first c ⊎ Writes s count now c → Reaches (reach_of s count selected total) first c
  sequence_to NoSteps count selected total first now c tells (inl h) = h
  sequence_to NoSteps count selected total first now c tells (inr h) = absurd h
  sequence_to (StepThen place command rest) count selected total first now c tells h =
      sequence_to rest count (reach_after command count selected) (reach_or total (reach_through (command_reach command count) selected)) first (selected_after command count now) c (after_tells command count selected first now tells)
      (elim h [
        | inl w ↦ inl (or_to total (reach_through (command_reach command count) selected) first c (inl w))
        | inr w ↦ elim w [
          | inl v ↦ inl (or_to total (reach_through (command_reach command count) selected) first c (inr (through_to (command_reach command count).fixed (command_reach command count).start selected first now c tells (command_to command count now c v))))
          | inr v ↦ inr v
        ]
      ])

  command_to : (command : CommandTree) (count : ℕ) (now : List ℕ) (c : ℕ) → CommandWrites command count now c → Reaches (command_reach command count) now c
  command_to (Test kind report) count now c h = absurd h
  command_to (Act kind report) count now c h = inr (writing_to kind h.0, h.1)
  command_to (Index selection) count now c h = absurd h
  command_to (Override list) count now c h = absurd h
  command_to (TryEach branches) count now c h =
      each_to (branches_reach branches count no_reach) now c (λ outer. BranchesWrite branches count outer c) (λ outer w. branches_to branches count no_reach outer c (inr w)) h
  command_to (RunSequence inner) count now c h =
      each_to (reach_of inner count start_reach no_reach) now c (λ outer. Writes inner count (outer ∷ []) c) (λ outer w. sequence_to inner count start_reach no_reach (outer ∷ []) (outer ∷ []) c (start_tells (outer ∷ [])) (inr w)) h

  branches_to : (branches : BranchesTree) (count : ℕ) (total : Reach) (outer c : ℕ) → Reaches total (outer ∷ []) c ⊎ BranchesWrite branches count outer c → Reaches (branches_reach branches count total) (outer ∷ []) c
  branches_to NoBranches count total outer c (inl h) = h
  branches_to NoBranches count total outer c (inr h) = absurd h
  branches_to (BranchThen inner rest) count total outer c h =
      branches_to rest count (reach_or total (reach_of inner count start_reach no_reach)) outer c
      (elim h [
        | inl w ↦ inl (or_to total (reach_of inner count start_reach no_reach) (outer ∷ []) c (inl w))
        | inr w ↦ elim w [
          | inl v ↦ inl (or_to total (reach_of inner count start_reach no_reach) (outer ∷ []) c (inr (sequence_to inner count start_reach no_reach (outer ∷ []) (outer ∷ []) c (start_tells (outer ∷ [])) (inr v))))
          | inr v ↦ inr v
        ]
      ])
  branches_to (NullThen rest) count total outer c h = branches_to rest count total outer c h

mutual
  sequence_from : (s : SequenceTree) (count : ℕ) (selected total : Reach) (first now : List ℕ) (c : ℕ) → 1 ≤ count → AreIndexed count s → Tells selected first now → HasOne now
      → Reaches (reach_of s count selected total) first c → Reaches total first c ⊎ Writes s count now c
  sequence_from NoSteps count selected total first now c some indexed tells one h = inl h
  sequence_from (StepThen place command rest) count selected total first now c some indexed tells one h =
      elim (sequence_from rest count (reach_after command count selected) (reach_or total (reach_through (command_reach command count) selected)) first (selected_after command count now) c some indexed.1 (after_tells command count selected first now tells) (after_one command count now some indexed.0 one) h) [
        | inl w ↦ elim (or_from total (reach_through (command_reach command count) selected) first c w) [
          | inl v ↦ inl v
          | inr v ↦ inr (inl (command_from command count now c some indexed.0 one (through_from (command_reach command count).fixed (command_reach command count).start selected first now c tells v)))
        ]
        | inr w ↦ inr (inr w)
      ]

  command_from : (command : CommandTree) (count : ℕ) (now : List ℕ) (c : ℕ) → 1 ≤ count → IsIndexed count command → HasOne now → Reaches (command_reach command count) now c → CommandWrites command count now c
  command_from (Test kind report) count now c some indexed one h = absurd (none_reached now c h)
  command_from (Act kind report) count now c some indexed one (inl h) = absurd (no_bit c h)
  command_from (Act kind report) count now c some indexed one (inr h) = (writing_from kind h.0, h.1)
  command_from (Index selection) count now c some indexed one h = absurd (none_reached now c h)
  command_from (Override list) count now c some indexed one h = absurd (none_reached now c h)
  command_from (TryEach branches) count now c some indexed one h =
      each_from (branches_reach branches count no_reach) now c (λ outer. BranchesWrite branches count outer c)
      (λ outer w. elim (branches_from branches count no_reach outer c some indexed w) [ inl v ↦ absurd (none_reached (outer ∷ []) c v) | inr v ↦ v ]) one h
  command_from (RunSequence inner) count now c some indexed one h =
      each_from (reach_of inner count start_reach no_reach) now c (λ outer. Writes inner count (outer ∷ []) c)
      (λ outer w. elim (sequence_from inner count start_reach no_reach (outer ∷ []) (outer ∷ []) c some indexed (start_tells (outer ∷ [])) (outer, inl refl) w) [ inl v ↦ absurd (none_reached (outer ∷ []) c v) | inr v ↦ v ]) one h

  branches_from : (branches : BranchesTree) (count : ℕ) (total : Reach) (outer c : ℕ) → 1 ≤ count → BranchesIndexed count branches
      → Reaches (branches_reach branches count total) (outer ∷ []) c → Reaches total (outer ∷ []) c ⊎ BranchesWrite branches count outer c
  branches_from NoBranches count total outer c some indexed h = inl h
  branches_from (BranchThen inner rest) count total outer c some indexed h =
      elim (branches_from rest count (reach_or total (reach_of inner count start_reach no_reach)) outer c some indexed.1 h) [
        | inl w ↦ elim (or_from total (reach_of inner count start_reach no_reach) (outer ∷ []) c w) [
          | inl v ↦ inl v
          | inr v ↦ elim (sequence_from inner count start_reach no_reach (outer ∷ []) (outer ∷ []) c some indexed.0 (start_tells (outer ∷ [])) (outer, inl refl) v) [
            | inl u ↦ absurd (none_reached (outer ∷ []) c u)
            | inr u ↦ inr (inl u)
          ]
        ]
        | inr w ↦ inr (inr w)
      ]
  branches_from (NullThen rest) count total outer c some indexed h = branches_from rest count total outer c some indexed h

-- ---- a sequence that begins with one component selected

pub reach_writes : (s : SequenceTree) (count outer c : ℕ) → Writes s count (outer ∷ []) c → Reaches (reach_of s count start_reach no_reach) (outer ∷ []) c
reach_writes s count outer c h = sequence_to s count start_reach no_reach (outer ∷ []) (outer ∷ []) c (start_tells (outer ∷ [])) (inr h)

pub writes_reach : (s : SequenceTree) (count outer c : ℕ) → 1 ≤ count → AreIndexed count s → Reaches (reach_of s count start_reach no_reach) (outer ∷ []) c → Writes s count (outer ∷ []) c
writes_reach s count outer c some indexed h =
    elim (sequence_from s count start_reach no_reach (outer ∷ []) (outer ∷ []) c some indexed (start_tells (outer ∷ [])) (outer, inl refl) h) [ inl w ↦ absurd (none_reached (outer ∷ []) c w) | inr w ↦ w ]
