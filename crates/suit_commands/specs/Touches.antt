-- Which components a procedure touches, and which directives it has (this project's own choices).
use Rattle.std.specs.Prelude.{◌≡◌, ◌<◌, ◌⊎◌, ℕ, List, [], ◌∷◌}
use Rattle.suit_commands.specs.declared.kinds.ActKind.{ActKind}
use Rattle.suit_commands.specs.Tree.{CommandTree, Test, Act, Index, Override, TryEach, RunSequence, SequenceTree, NoSteps, StepThen, BranchesTree, NoBranches, BranchThen, NullThen, PlanTree}
use Rattle.suit_commands.specs.Allowed.{IsPlan}
use Rattle.suit_commands.specs.Selections.{Among, selected_after}
use Rattle.suit_commands.specs.Targets.{Sources, InSome, IsTarget}

-- ---- components selected at a command other than a set component index; an inner sequence counts once for
-- each component selected at its command

abbrev mutual
  pub Touches : SequenceTree → ℕ → List ℕ → ℕ → Type 0
  Touches NoSteps count selected component = ⊥
  Touches (StepThen place command rest) count selected component =
      CommandTouches command count selected component
      ⊎ Touches rest count (selected_after command count selected) component

  pub CommandTouches : CommandTree → ℕ → List ℕ → ℕ → Type 0
  CommandTouches (Test kind report) count selected component = Among component selected
  CommandTouches (Act kind report) count selected component = Among component selected
  CommandTouches (Index selection) count selected component = ⊥
  CommandTouches (Override list) count selected component = Among component selected
  CommandTouches (TryEach tries) count selected component =
      Among component selected
      ⊎ ((outer : ℕ) × Among outer selected × BranchesTouch tries count outer component)
  CommandTouches (RunSequence inner) count selected component =
      Among component selected
      ⊎ ((outer : ℕ) × Among outer selected × Touches inner count (outer ∷ []) component)

  pub BranchesTouch : BranchesTree → ℕ → ℕ → ℕ → Type 0
  BranchesTouch NoBranches count outer component = ⊥
  BranchesTouch (BranchThen inner rest) count outer component =
      Touches inner count (outer ∷ []) component ⊎ BranchesTouch rest count outer component
  BranchesTouch (NullThen rest) count outer component = BranchesTouch rest count outer component

-- each sequence begins with component 0 selected; the sources that overrides name count too
abbrev pub IsTouched : PlanTree → ℕ → Type 0
IsTouched plan component =
    InSome plan (λ s. Touches s plan.count (0 ∷ []) component)
    ⊎ InSome plan (λ s. Sources s component)

-- ---- directives of one kind, in a sequence or in one inside it

abbrev mutual
  pub HasAct : ActKind → SequenceTree → Type 0
  HasAct wanted NoSteps = ⊥
  HasAct wanted (StepThen place command rest) = CommandHasAct wanted command ⊎ HasAct wanted rest

  pub CommandHasAct : ActKind → CommandTree → Type 0
  CommandHasAct wanted (Test kind report) = ⊥
  CommandHasAct wanted (Act kind report) = kind ≡ wanted
  CommandHasAct wanted (Index selection) = ⊥
  CommandHasAct wanted (Override list) = ⊥
  CommandHasAct wanted (TryEach tries) = BranchesHaveAct wanted tries
  CommandHasAct wanted (RunSequence inner) = HasAct wanted inner

  pub BranchesHaveAct : ActKind → BranchesTree → Type 0
  BranchesHaveAct wanted NoBranches = ⊥
  BranchesHaveAct wanted (BranchThen inner rest) =
      HasAct wanted inner ⊎ BranchesHaveAct wanted rest
  BranchesHaveAct wanted (NullThen rest) = BranchesHaveAct wanted rest

-- ---- laws of procedures: what a procedure of the grammar touches is a component of the manifest, and each
-- target is touched

pub record TouchedLaws : Type 0 where
  pub inside : (plan : PlanTree) → IsPlan plan → (component : ℕ) → IsTouched plan component
      → component < plan.count
  pub targets : (plan : PlanTree) (component : ℕ) → IsTarget plan component
      → IsTouched plan component
