-- The numbers and the targets of one procedure of six components, and what a smaller one touches.
use Rattle.std.specs.Prelude.{◌≡◌, ◌↔◌, ℕ, [], ◌∷◌}
use Rattle.suit_params.specs.declared.param.Param.TheVariants as params
use Rattle.suit_commands.specs.declared.kinds.TestKind.{TestKind}
use Rattle.suit_commands.specs.declared.kinds.TestKind.TheVariants as tests
use Rattle.suit_commands.specs.declared.kinds.ActKind.{ActKind}
use Rattle.suit_commands.specs.declared.kinds.ActKind.TheVariants as acts
use Rattle.suit_commands.specs.declared.selection.Selection.TheVariants.{One, All, Listed}
use Rattle.suit_commands.specs.Tree.{Test, Act, Index, Override, TryEach, RunSequence, SequenceTree, NoSteps, StepThen, NoBranches, BranchThen, NullThen, PlanTree}
use Rattle.suit_commands.specs.Numbers.{work_number, spread_number, width_number}
use Rattle.suit_commands.specs.Selections.{Among}
use Rattle.suit_commands.specs.Targets.{InSome, IsTarget}
use Rattle.suit_commands.specs.Touches.{IsTouched, HasAct}

-- a sequence of one condition
abbrev pub tested_alone : TestKind → SequenceTree
tested_alone kind = StepThen 10 (Test kind 0) NoSteps

-- 16 commands, in two ways: an override and a condition at all six components, and an inner sequence at one
abbrev pub known_shared : SequenceTree
known_shared =
    StepThen 20 (Index All) (StepThen 21 (Override (params.Source 1 ∷ []))
    (StepThen 22 (Test tests.Vendor 0) (StepThen 23 (Index (One 2))
    (StepThen 24 (RunSequence (tested_alone tests.Class)) NoSteps))))

-- 24 commands, in 125 ways: two at component 0, and at each of three listed components a try each of two
-- sequences
abbrev pub known_first : SequenceTree
known_first =
    StepThen 30 (Test tests.Slot 0) (StepThen 31 (Act acts.Write 0)
    (StepThen 32 (Index (Listed (2 ∷ 4 ∷ 2 ∷ [])))
    (StepThen 33 (TryEach (BranchThen
    (StepThen 34 (Test tests.ImageMatch 0)
    (StepThen 35 (Test tests.CheckContent 0) (StepThen 36 (Act acts.Fetch 0) NoSteps)))
    (BranchThen
    (StepThen 37 (RunSequence (tested_alone tests.Slot)) (tested_alone tests.Device))
    NoBranches))) NoSteps)))

-- 25 commands, in 254 ways: a try each that ends with null, and an inner sequence with a try each at all six
-- components
abbrev pub known_second : SequenceTree
known_second =
    StepThen 40 (Index (One 1))
    (StepThen 41 (TryEach (BranchThen (tested_alone tests.Abort) (NullThen NoBranches)))
    (StepThen 42 (RunSequence
    (StepThen 43 (Index All)
    (StepThen 44 (TryEach
    (BranchThen (tested_alone tests.Device) (BranchThen (tested_alone tests.Class) NoBranches)))
    (StepThen 45 (Index (One 3)) (StepThen 46 (Act acts.Copy 0) NoSteps))))) NoSteps))

-- 3 commands, in one way
abbrev pub known_third : ActKind → SequenceTree
known_third kind =
    StepThen 50 (Test tests.ImageMatch 0)
    (StepThen 51 (Index (One 5)) (StepThen 52 (Act kind 0) NoSteps))

abbrev pub known_plan : ActKind → PlanTree
known_plan kind =
    record {
      shared = known_shared;
      first = known_first;
      second = known_second;
      third = known_third kind;
      count = 6;
    }

-- components 0 and 1 are selected only at set component indices, and each other component at one other
-- command
abbrev pub passing_plan : PlanTree
passing_plan =
    record {
      shared = NoSteps;
      first =
          StepThen 60 (Index (One 1)) (StepThen 61 (Index (One 2)) (StepThen 62 (Test tests.Vendor 0)
          (StepThen 63 (Index (One 3)) (StepThen 64 (Override []) NoSteps))));
      second =
          StepThen 70 (Index (One 4)) (StepThen 71 (TryEach (BranchThen
          (StepThen 72 (Index (One 5)) (tested_alone tests.Abort)) (NullThen NoBranches))) NoSteps);
      third =
          StepThen 80 (Index (One 6)) (StepThen 81 (RunSequence
          (StepThen 82 (Index (One 7)) (StepThen 83 (Act acts.Write 0) NoSteps))) NoSteps);
      count = 8;
    }

pub record KnownNumbers : Type 0 where
  pub work : (kind : ActKind) → work_number (known_plan kind) ≡ 100
  pub spread : (kind : ActKind) → spread_number (known_plan kind) ≡ 254000
  pub width : (kind : ActKind) → width_number (known_plan kind) ≡ 25400000

-- components 2, 3 and 4 are written in an inner sequence; 5 is where the last swap is, and 1 is the source
pub record KnownTargets : Type 0 where
  pub written : (kind : ActKind) (component : ℕ) → Among component (0 ∷ 2 ∷ 3 ∷ 4 ∷ [])
      → IsTarget (known_plan kind) component
  pub swapped : (component : ℕ) → Among component (1 ∷ 5 ∷ [])
      → IsTarget (known_plan acts.Swap) component
  pub invoked : (component : ℕ) → Among component (1 ∷ 5 ∷ [])
      → IsTarget (known_plan acts.Invoke) component → ⊥

pub record KnownTouched : Type 0 where
  pub passed : (component : ℕ) → IsTouched passing_plan component
      ↔ Among component (2 ∷ 3 ∷ 4 ∷ 5 ∷ 6 ∷ 7 ∷ [])
  pub named : (kind : ActKind) → IsTouched (known_plan kind) 1
  pub invokes : (kind : ActKind)
      → InSome (known_plan kind) (HasAct acts.Invoke) ↔ (kind ≡ acts.Invoke)
