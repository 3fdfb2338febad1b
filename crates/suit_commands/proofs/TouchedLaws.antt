-- The bits of what the sequences of a procedure touch. What is touched is a component, and each target is touched.
use Rattle.std.proofs.Common.{◌≡◌, ◌↔◌, ℕ, ◌≤◌, ◌<◌, inl, inr, List, [], ◌∷◌, Option, Some, refl, sym, subst, arith}
use Rattle.std.specs.Borrow.{Bor}
use Rattle.suit_commands.specs.Tree.{CommandTree, Test, Act, Index, Override, TryEach, RunSequence, SequenceTree, NoSteps, StepThen, BranchesTree, NoBranches, BranchThen, NullThen, PlanTree}
use Rattle.suit_commands.specs.Allowed.{IsPlan}
use Rattle.suit_commands.specs.Bits.{HasBit}
use Rattle.suit_commands.specs.Indexed.{AreIndexed, IsIndexed, BranchesIndexed}
use Rattle.suit_commands.specs.Plans.{lent_tree}
use Rattle.suit_commands.specs.Selections.{Among, selected_after}
use Rattle.suit_commands.specs.Targets.{Writes, CommandWrites, BranchesWrite, Sources, InSome, IsTarget}
use Rattle.suit_commands.specs.Touches.{Touches, CommandTouches, BranchesTouch, IsTouched, TouchedLaws}
use Rattle.suit_commands.specs.TouchedBits.{touched_of}
use Rattle.suit_commands.proofs.BitLaws.{one_bit, one_bit_is}
use Rattle.suit_commands.proofs.TargetLawProofs.{AreBelow, below_one, after_below, sources_below, in_some}
use Rattle.suit_commands.proofs.TouchedSteps.{touches_bits, bits_touch}

-- ---- one sequence, before which component 0 is selected

first_to : (c : ℕ) → Among c (0 ∷ []) → HasBit 1 c
first_to c (inl same) = one_bit 0 c same
first_to c (inr h) = absurd h

pub touched_bits : (o : Option (Bor SequenceTree)) (s : Bor SequenceTree) (count bits : ℕ) → o ≡ Some s → 1 ≤ count → AreIndexed count (lent_tree o) → bits ≡ touched_of s.now count 1 0
    → (c : ℕ) → HasBit bits c ↔ Touches (lent_tree o) count (0 ∷ []) c
touched_bits o s count bits is some indexed made c = (
  λ h. subst (λ (x : Option (Bor SequenceTree)). Touches (lent_tree x) count (0 ∷ []) c) (sym is)
      (bits_touch s.now count 1 (0 ∷ []) c some (subst (λ (x : Option (Bor SequenceTree)). AreIndexed count (lent_tree x)) is indexed) (0, inl refl) (λ w. inl (one_bit_is 0 c w)) (subst (λ (x : ℕ). HasBit x c) made h)),
  λ h. subst (λ (x : ℕ). HasBit x c) (sym made) (touches_bits s.now count 1 (0 ∷ []) c (first_to c) (subst (λ (x : Option (Bor SequenceTree)). Touches (lent_tree x) count (0 ∷ []) c) is h)),
)

-- ---- what is touched is a component

mutual
  touches_below : (s : SequenceTree) (count : ℕ) (selected : List ℕ) (c : ℕ) → AreIndexed count s → AreBelow count selected → Touches s count selected c → c < count
  touches_below NoSteps count selected c indexed below h = absurd h
  touches_below (StepThen place command rest) count selected c indexed below (inl h) = command_below command count selected c indexed.0 below h
  touches_below (StepThen place command rest) count selected c indexed below (inr h) =
      touches_below rest count (selected_after command count selected) c indexed.1 (after_below count command selected indexed.0 below) h

  command_below : (command : CommandTree) (count : ℕ) (selected : List ℕ) (c : ℕ) → IsIndexed count command → AreBelow count selected → CommandTouches command count selected c → c < count
  command_below (Test kind report) count selected c indexed below h = below c h
  command_below (Act kind report) count selected c indexed below h = below c h
  command_below (Index selection) count selected c indexed below h = absurd h
  command_below (Override list) count selected c indexed below h = below c h
  command_below (TryEach branches) count selected c indexed below (inl h) = below c h
  command_below (TryEach branches) count selected c indexed below (inr h) = branches_below branches count h.0 c indexed (below h.0 h.1) h.2
  command_below (RunSequence inner) count selected c indexed below (inl h) = below c h
  command_below (RunSequence inner) count selected c indexed below (inr h) = touches_below inner count (h.0 ∷ []) c indexed (below_one count h.0 (below h.0 h.1)) h.2

  branches_below : (branches : BranchesTree) (count outer c : ℕ) → BranchesIndexed count branches → outer < count → BranchesTouch branches count outer c → c < count
  branches_below NoBranches count outer c indexed lt h = absurd h
  branches_below (BranchThen inner rest) count outer c indexed lt (inl h) = touches_below inner count (outer ∷ []) c indexed.0 (below_one count outer lt) h
  branches_below (BranchThen inner rest) count outer c indexed lt (inr h) = branches_below rest count outer c indexed.1 lt h
  branches_below (NullThen rest) count outer c indexed lt h = branches_below rest count outer c indexed lt h

inside : (plan : PlanTree) → IsPlan plan → (c : ℕ) → IsTouched plan c → c < plan.count
inside plan is c (inl h) = in_some plan (λ s. Touches s plan.count (0 ∷ []) c) (c < plan.count) is (λ s indexed w. touches_below s plan.count (0 ∷ []) c indexed (below_one plan.count 0 (omega (arith, is.some_components))) w) h
inside plan is c (inr h) = in_some plan (λ s. Sources s c) (c < plan.count) is (λ s indexed w. sources_below s plan.count c indexed w) h

-- ---- what is written is touched

mutual
  writes_touch : (s : SequenceTree) (count : ℕ) (selected : List ℕ) (c : ℕ) → Writes s count selected c → Touches s count selected c
  writes_touch NoSteps count selected c h = absurd h
  writes_touch (StepThen place command rest) count selected c (inl h) = inl (command_touch command count selected c h)
  writes_touch (StepThen place command rest) count selected c (inr h) = inr (writes_touch rest count (selected_after command count selected) c h)

  command_touch : (command : CommandTree) (count : ℕ) (selected : List ℕ) (c : ℕ) → CommandWrites command count selected c → CommandTouches command count selected c
  command_touch (Test kind report) count selected c h = absurd h
  command_touch (Act kind report) count selected c h = h.1
  command_touch (Index selection) count selected c h = absurd h
  command_touch (Override list) count selected c h = absurd h
  command_touch (TryEach branches) count selected c h = inr (h.0, h.1, branches_touch branches count h.0 c h.2)
  command_touch (RunSequence inner) count selected c h = inr (h.0, h.1, writes_touch inner count (h.0 ∷ []) c h.2)

  branches_touch : (branches : BranchesTree) (count outer c : ℕ) → BranchesWrite branches count outer c → BranchesTouch branches count outer c
  branches_touch NoBranches count outer c h = absurd h
  branches_touch (BranchThen inner rest) count outer c (inl h) = inl (writes_touch inner count (outer ∷ []) c h)
  branches_touch (BranchThen inner rest) count outer c (inr h) = inr (branches_touch rest count outer c h)
  branches_touch (NullThen rest) count outer c h = branches_touch rest count outer c h

some_also : (plan : PlanTree) (has also : SequenceTree → Type 0) → ((s : SequenceTree) → has s → also s) → InSome plan has → InSome plan also
some_also plan has also each h = elim h [
  | inl w ↦ inl (each plan.shared w)
  | inr w ↦ inr (elim w [
    | inl v ↦ inl (each plan.first v)
    | inr v ↦ inr (elim v [ inl u ↦ inl (each plan.second u) | inr u ↦ inr (each plan.third u) ])
  ])
]

targets : (plan : PlanTree) (c : ℕ) → IsTarget plan c → IsTouched plan c
targets plan c (inl h) = inl (some_also plan (λ s. Writes s plan.count (0 ∷ []) c) (λ s. Touches s plan.count (0 ∷ []) c) (λ s w. writes_touch s plan.count (0 ∷ []) c w) h)
targets plan c (inr h) = inr h.1

pub touched_laws : TouchedLaws
touched_laws = record { inside = inside; targets = targets }
