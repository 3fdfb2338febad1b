-- Which components a procedure may write. This project's choice of slots relies on it.
use Rattle.std.specs.Prelude.{◌≡◌, ◌⊎◌, ℕ, List, [], ◌∷◌}
use Rattle.suit_params.specs.declared.param.Param.{Param}
use Rattle.suit_params.specs.declared.param.Param.TheVariants as params
use Rattle.suit_commands.specs.declared.kinds.ActKind.{ActKind}
use Rattle.suit_commands.specs.declared.kinds.ActKind.TheVariants as acts
use Rattle.suit_commands.specs.Tree.{CommandTree, Test, Act, Index, Override, TryEach, RunSequence, SequenceTree, NoSteps, StepThen, BranchesTree, NoBranches, BranchThen, NullThen, PlanTree}
use Rattle.suit_commands.specs.Selections.{Among, selected_after}

-- the directives that write the content of a selected component
abbrev pub IsWriting : ActKind → Type 0
IsWriting acts.Write = Unit {0}
IsWriting acts.Fetch = Unit {0}
IsWriting acts.Copy = Unit {0}
IsWriting acts.Swap = Unit {0}
IsWriting acts.Invoke = ⊥

-- ---- components selected at a write, a fetch, a copy or a swap; an inner sequence counts once for each
-- component selected at its command

abbrev mutual
  pub Writes : SequenceTree → ℕ → List ℕ → ℕ → Type 0
  Writes NoSteps count selected component = ⊥
  Writes (StepThen place command rest) count selected component =
      CommandWrites command count selected component
      ⊎ Writes rest count (selected_after command count selected) component

  pub CommandWrites : CommandTree → ℕ → List ℕ → ℕ → Type 0
  CommandWrites (Test kind report) count selected component = ⊥
  CommandWrites (Act kind report) count selected component =
      IsWriting kind × Among component selected
  CommandWrites (Index selection) count selected component = ⊥
  CommandWrites (Override list) count selected component = ⊥
  CommandWrites (TryEach tries) count selected component =
      (outer : ℕ) × Among outer selected × BranchesWrite tries count outer component
  CommandWrites (RunSequence inner) count selected component =
      (outer : ℕ) × Among outer selected × Writes inner count (outer ∷ []) component

  pub BranchesWrite : BranchesTree → ℕ → ℕ → ℕ → Type 0
  BranchesWrite NoBranches count outer component = ⊥
  BranchesWrite (BranchThen inner rest) count outer component =
      Writes inner count (outer ∷ []) component ⊎ BranchesWrite rest count outer component
  BranchesWrite (NullThen rest) count outer component = BranchesWrite rest count outer component

-- ---- swaps, and the sources that overrides name

-- a parameter of the list names the component as a source
abbrev pub NamesSource : List Param → ℕ → Type 0
NamesSource [] component = ⊥
NamesSource (params.Source source ∷ list) component =
    (component ≡ source) ⊎ NamesSource list component
NamesSource (_ ∷ list) component = NamesSource list component

abbrev mutual
  pub Swaps : SequenceTree → Type 0
  Swaps NoSteps = ⊥
  Swaps (StepThen place command rest) = CommandSwaps command ⊎ Swaps rest

  pub CommandSwaps : CommandTree → Type 0
  CommandSwaps (Test kind report) = ⊥
  CommandSwaps (Act kind report) = kind ≡ acts.Swap
  CommandSwaps (Index selection) = ⊥
  CommandSwaps (Override list) = ⊥
  CommandSwaps (TryEach tries) = BranchesSwap tries
  CommandSwaps (RunSequence inner) = Swaps inner

  pub BranchesSwap : BranchesTree → Type 0
  BranchesSwap NoBranches = ⊥
  BranchesSwap (BranchThen inner rest) = Swaps inner ⊎ BranchesSwap rest
  BranchesSwap (NullThen rest) = BranchesSwap rest

abbrev mutual
  pub Sources : SequenceTree → ℕ → Type 0
  Sources NoSteps component = ⊥
  Sources (StepThen place command rest) component =
      CommandSources command component ⊎ Sources rest component

  pub CommandSources : CommandTree → ℕ → Type 0
  CommandSources (Test kind report) component = ⊥
  CommandSources (Act kind report) component = ⊥
  CommandSources (Index selection) component = ⊥
  CommandSources (Override list) component = NamesSource list component
  CommandSources (TryEach tries) component = BranchesSource tries component
  CommandSources (RunSequence inner) component = Sources inner component

  pub BranchesSource : BranchesTree → ℕ → Type 0
  BranchesSource NoBranches component = ⊥
  BranchesSource (BranchThen inner rest) component =
      Sources inner component ⊎ BranchesSource rest component
  BranchesSource (NullThen rest) component = BranchesSource rest component

-- ---- procedures; each sequence begins with component 0 selected

-- this holds of some sequence of the procedure
abbrev pub InSome : PlanTree → (SequenceTree → Type 0) → Type 0
InSome plan has = has plan.shared ⊎ has plan.first ⊎ has plan.second ⊎ has plan.third

-- the procedure may write the component: at one of those directives, or, if it has a swap at all, as a source
-- that an override names
abbrev pub IsTarget : PlanTree → ℕ → Type 0
IsTarget plan component =
    InSome plan (λ s. Writes s plan.count (0 ∷ []) component)
    ⊎ (InSome plan Swaps × InSome plan (λ s. Sources s component))
