-- Sequences that hold an invoke, and runs on which each invoke is covered.
use Rattle.std.specs.Prelude.{◌≡◌, ◌⊎◌, List}
use Rattle.std.specs.List.{AllByRecursion}
use Rattle.suit_commands.specs.declared.kinds.ActKind.TheVariants as acts
use Rattle.suit_commands.specs.Tree.{CommandTree, Test, Act, Index, Override, TryEach, RunSequence, SequenceTree, NoSteps, StepThen, BranchesTree, NoBranches, BranchThen, NullThen}
use Rattle.path_model.specs.declared.identity.Identity.{Identity}
use Rattle.path_model.specs.declared.event.Event.{Event}
use Rattle.path_model.specs.declared.event.Event.TheVariants.{Invoked}
use Rattle.path_model.specs.Behaviour.{Ending}
use Rattle.path_model.specs.Following.{CoveredFrom}
use Rattle.path_checker.specs.Knowing.{Allows}
use Rattle.path_checker.specs.Exploring.{Course, In, Kept}

abbrev mutual
  pub Invokes : SequenceTree → Type 0
  Invokes NoSteps = ⊥
  Invokes (StepThen place command rest) = CommandInvokes command ⊎ Invokes rest

  pub CommandInvokes : CommandTree → Type 0
  CommandInvokes (Test kind report) = ⊥
  CommandInvokes (Act kind report) = kind ≡ acts.Invoke
  CommandInvokes (Index selection) = ⊥
  CommandInvokes (Override list) = ⊥
  CommandInvokes (TryEach branches) = BranchesInvoke branches
  CommandInvokes (RunSequence inner) = Invokes inner

  pub BranchesInvoke : BranchesTree → Type 0
  BranchesInvoke NoBranches = ⊥
  BranchesInvoke (BranchThen inner rest) = Invokes inner ⊎ BranchesInvoke rest
  BranchesInvoke (NullThen rest) = BranchesInvoke rest

abbrev pub IsInvoke : Event → Type 0
IsInvoke (Invoked component digest size passed) = Unit {0}
IsInvoke _ = ⊥

-- none of these events is an invoke
abbrev pub AreQuiet : List Event → Type 0
AreQuiet events = AllByRecursion (λ event. IsInvoke event → ⊥) events

-- on each run from these states, for all identities that their facts allow, each invoke is covered
abbrev pub Covers : Course → List Kept → Type 0
Covers course from =
    (k : Kept) → In k from → (identities : List Identity) → Allows k.facts identities
    → (events : List Event) (ending : Ending) → course identities k.state events ending
    → CoveredFrom k.events events
