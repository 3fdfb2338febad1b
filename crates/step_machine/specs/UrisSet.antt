-- Which URIs a procedure sets, and whether it fetches.
use Rattle.std.specs.Prelude.{◌≡◌, ◌⊎◌, ℕ, List, [], ◌∷◌}
use Rattle.suit_params.specs.declared.param.Param.{Param}
use Rattle.suit_params.specs.declared.param.Param.TheVariants as params
use Rattle.suit_commands.specs.declared.kinds.ActKind.TheVariants as acts
use Rattle.suit_commands.specs.Targets.{InSome}
use Rattle.suit_commands.specs.Touches.{HasAct}
use Rattle.suit_commands.specs.Tree.{CommandTree, Test, Act, Index, Override, TryEach, RunSequence, SequenceTree, NoSteps, StepThen, BranchesTree, NoBranches, BranchThen, NullThen, PlanTree}

-- ---- URIs that overrides set

-- the list of parameters sets this URI
abbrev pub NamesUri : List Param → List ℕ → Type 0
NamesUri [] uri = ⊥
NamesUri (params.Uri text ∷ list) uri = (uri ≡ text) ⊎ NamesUri list uri
NamesUri (_ ∷ list) uri = NamesUri list uri

abbrev mutual
  pub Sets : SequenceTree → List ℕ → Type 0
  Sets NoSteps uri = ⊥
  Sets (StepThen place command rest) uri = CommandSets command uri ⊎ Sets rest uri

  pub CommandSets : CommandTree → List ℕ → Type 0
  CommandSets (Test kind report) uri = ⊥
  CommandSets (Act kind report) uri = ⊥
  CommandSets (Index selection) uri = ⊥
  CommandSets (Override list) uri = NamesUri list uri
  CommandSets (TryEach tries) uri = BranchesSet tries uri
  CommandSets (RunSequence inner) uri = Sets inner uri

  pub BranchesSet : BranchesTree → List ℕ → Type 0
  BranchesSet NoBranches uri = ⊥
  BranchesSet (BranchThen inner rest) uri = Sets inner uri ⊎ BranchesSet rest uri
  BranchesSet (NullThen rest) uri = BranchesSet rest uri

-- ---- of a procedure

-- some sequence of the procedure sets this URI
abbrev pub SetsUri : PlanTree → List ℕ → Type 0
SetsUri plan uri = InSome plan (λ s. Sets s uri)

-- some sequence of the procedure has a fetch
abbrev pub HasFetch : PlanTree → Type 0
HasFetch plan = InSome plan (HasAct acts.Fetch)
