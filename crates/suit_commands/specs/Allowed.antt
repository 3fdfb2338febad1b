-- Which trees are sequences of the grammar, wherever they are placed (draft-ietf-suit-manifest-25, section
-- 8.4.6).
use Rattle.std.specs.Prelude.{◌≡◌, ◌≢◌, ◌<◌, ◌≤◌, ◌-◌, ℕ, zero, suc, Bool, true, false, []}
use Rattle.std.specs.List.{AllByRecursion}
use Rattle.suit_params.specs.ParamMaking.{IsParam, IsBelow}
use Rattle.suit_params.specs.ParamLaws.{AreAscending}
use Rattle.suit_commands.specs.declared.selection.Selection.{Selection}
use Rattle.suit_commands.specs.declared.selection.Selection.TheVariants.{One, All, Listed}
use Rattle.suit_commands.specs.Tree.{CommandTree, Test, Act, Index, Override, TryEach, RunSequence, SequenceTree, NoSteps, StepThen, BranchesTree, NoBranches, BranchThen, NullThen, PlanTree}

-- the indices of the selection are below the number of components, and a list of them is not empty
abbrev pub IsSelectionOf : ℕ → Selection → Type 0
IsSelectionOf count (One component) = component < count
IsSelectionOf count All = Unit {0}
IsSelectionOf count (Listed components) =
    (components ≢ []) × AllByRecursion (λ i. i < count) components

-- there are at least two branches
abbrev pub AreTwo : BranchesTree → Type 0
AreTwo (BranchThen inner (BranchThen other rest)) = Unit {0}
AreTwo (BranchThen inner (NullThen rest)) = Unit {0}
AreTwo _ = ⊥

-- the tree is a sequence, in the shared sequence or not, for this number of components, and with at most this
-- many levels of sequences, counting itself
abbrev mutual
  pub IsSequence : Bool → ℕ → ℕ → SequenceTree → Type 0
  IsSequence shared count zero s = ⊥
  IsSequence shared count (suc levels) NoSteps = ⊥
  IsSequence shared count (suc levels) (StepThen place command rest) =
      IsCommand shared count levels command × AreCommands shared count levels rest

  pub AreCommands : Bool → ℕ → ℕ → SequenceTree → Type 0
  AreCommands shared count levels NoSteps = Unit {0}
  AreCommands shared count levels (StepThen place command rest) =
      IsCommand shared count levels command × AreCommands shared count levels rest

  pub IsCommand : Bool → ℕ → ℕ → CommandTree → Type 0
  IsCommand shared count levels (Test kind report) = report ≤ 15
  IsCommand shared count levels (Act kind report) = (shared ≡ false) × (report ≤ 15)
  IsCommand shared count levels (Index selection) = IsSelectionOf count selection
  IsCommand shared count levels (Override list) =
      AllByRecursion IsParam list × AllByRecursion (IsBelow count) list × AreAscending list
  IsCommand shared count levels (TryEach tries) =
      AreTwo tries × AreBranches shared count levels tries
  IsCommand shared count levels (RunSequence inner) = IsSequence shared count levels inner

  pub AreBranches : Bool → ℕ → ℕ → BranchesTree → Type 0
  AreBranches shared count levels NoBranches = Unit {0}
  AreBranches shared count levels (BranchThen inner rest) =
      IsSequence shared count levels inner × AreBranches shared count levels rest
  AreBranches shared count levels (NullThen NoBranches) = Unit {0}
  AreBranches shared count levels (NullThen (BranchThen inner rest)) = ⊥
  AreBranches shared count levels (NullThen (NullThen rest)) = ⊥

-- a member may have eight levels of sequences, counting itself
abbrev pub levels_allowed : ℕ
levels_allowed = 8

-- the number of levels inside the outermost one
abbrev pub levels_inside : ℕ
levels_inside = levels_allowed - 1

-- a sequence of the grammar other than the shared one, or an absent one, which is empty
abbrev pub IsMember : ℕ → SequenceTree → Type 0
IsMember count NoSteps = Unit {0}
IsMember count s = IsSequence false count levels_allowed s

-- a shared sequence of the grammar, or an absent one, which is empty
abbrev pub IsShared : ℕ → SequenceTree → Type 0
IsShared count NoSteps = Unit {0}
IsShared count s = IsSequence true count levels_allowed s

-- the procedure is one of a manifest of the grammar, with one to eight components
pub record IsPlan (plan : PlanTree) : Type 0 where
  pub some_components : 1 ≤ plan.count
  pub few_components : plan.count ≤ 8
  pub shared : IsShared plan.count plan.shared
  pub first : IsMember plan.count plan.first
  pub second : IsMember plan.count plan.second
  pub third : IsMember plan.count plan.third
