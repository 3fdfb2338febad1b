-- For one list of identities, and one outcome for each free step, there is one run (this project's own law).
use Rattle.std.specs.Prelude.{◌≡◌, ◌⊎◌, ℕ, true, false, List, [], ◌∷◌, ◌++◌, Option}
use Rattle.suit_params.specs.declared.digest.Digest.{Digest}
use Rattle.suit_commands.specs.declared.kinds.TestKind.TheVariants as tests
use Rattle.path_model.specs.declared.identity.Identity.{Identity}
use Rattle.path_model.specs.declared.event.Event.{Event}
use Rattle.path_model.specs.declared.event.Event.TheVariants.{Tried, Matched, Missed, Wrote, Invoked, Failed}
use Rattle.suit_commands.specs.Tree.{SequenceTree, PlanTree}
use Rattle.path_model.specs.Behaviour.{State, Ending}
use Rattle.path_model.specs.Runs.{Runs}
use Rattle.path_model.specs.Path.{RunsPlan}

-- the free steps, with what their events tell
pub data FreeStep : Type 0 where
  MatchStep : (component place : ℕ) (digest : Digest) (size : Option ℕ) → FreeStep
  ContentStep : (component place : ℕ) → FreeStep
  WriteStep : (component place : ℕ) → FreeStep
  SwapStep : (component source place : ℕ) → FreeStep
  InvokeStep : (component place : ℕ) (digest : Option Digest) (size : Option ℕ) → FreeStep

-- the events of a free step that passes
abbrev pub passed_told : FreeStep → List Event
passed_told (MatchStep component place digest size) = Matched component digest size ∷ []
passed_told (ContentStep component place) = Tried component tests.CheckContent true ∷ []
passed_told (WriteStep component place) = Wrote component ∷ []
passed_told (SwapStep component source place) = Wrote component ∷ Wrote source ∷ []
passed_told (InvokeStep component place digest size) = Invoked component digest size true ∷ []

-- the events of a free step that fails
abbrev pub failed_told : FreeStep → List Event
failed_told (MatchStep component place digest size) = Missed component ∷ Failed place ∷ []
failed_told (ContentStep component place) =
    Tried component tests.CheckContent false ∷ Failed place ∷ []
failed_told (WriteStep component place) = Wrote component ∷ Failed place ∷ []
failed_told (SwapStep component source place) = Wrote component ∷ Wrote source ∷ Failed place ∷ []
failed_told (InvokeStep component place digest size) =
    Invoked component digest size false ∷ Failed place ∷ []

-- one run passes a free step where the other fails it, and before that both told the same
pub record PartsAt (passing failing : List Event) : Type 0 where
  pub common : List Event
  pub step : FreeStep
  pub passing_rest : List Event
  pub failing_rest : List Event
  pub passes : passing ≡ common ++ (passed_told step ++ passing_rest)
  pub fails : failing ≡ common ++ (failed_told step ++ failing_rest)

-- both runs have the same events and the same ending
abbrev pub IsSameRun : List Event → Ending → List Event → Ending → Type 0
IsSameRun events ending others other = (events ≡ others) × (ending ≡ other)

-- two runs are the same, or part at a free step
abbrev pub SameOrParts : List Event → Ending → List Event → Ending → Type 0
SameOrParts events ending others other =
    IsSameRun events ending others other ⊎ (PartsAt events others ⊎ PartsAt others events)

-- two runs of a sequence or of a procedure are the same, or part at a free step
pub record OneRun : Type 0 where
  pub sequence : (sequence : SequenceTree) (identities : List Identity) (count : ℕ) (state : State)
      (events others : List Event) (ending other : Ending)
      → Runs sequence identities count state events ending
      → Runs sequence identities count state others other
      → SameOrParts events ending others other
  pub procedure : (plan : PlanTree) (identities : List Identity) (state : State)
      (events others : List Event) (ending other : Ending)
      → RunsPlan plan identities state events ending → RunsPlan plan identities state others other
      → SameOrParts events ending others other
