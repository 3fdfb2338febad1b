-- Laws of overrides, sequences, run sequence and try each: how they run, by how their parts run
-- (draft-ietf-suit-manifest-25, section 8.4.10, and this project's choices on soft failure).
use Rattle.std.specs.Prelude.{◌≡◌, ◌≢◌, ◌↔◌, ◌⊎◌, ℕ, Bool, true, false, List, [], ◌∷◌, ◌++◌}
use Rattle.path_model.specs.declared.identity.Identity.{Identity}
use Rattle.suit_params.specs.declared.param.Param.{Param}
use Rattle.suit_params.specs.declared.param.Param.TheVariants as params
use Rattle.suit_params.specs.declared.param.ParamKey.TheVariants as keys
use Rattle.path_model.specs.declared.event.Event.{Event}
use Rattle.path_model.specs.declared.event.Event.TheVariants.{Set}
use Rattle.suit_params.specs.ParamKeys.{key_of}
use Rattle.suit_params.specs.InForce.{with_param}
use Rattle.suit_commands.specs.Tree.{CommandTree, TryEach, RunSequence, SequenceTree, NoSteps, StepThen, BranchesTree, NoBranches, BranchThen, NullThen}
use Rattle.path_model.specs.Behaviour.{State, Ending, Done, Condition, Directive}
use Rattle.path_model.specs.Directives.{set_events, after_override}
use Rattle.path_model.specs.Runs.{Runs, Does}
use Rattle.path_model.specs.Turns.{Course, InTurn}

-- ---- overrides, parameter by parameter

-- what one more parameter of an override tells and changes
pub record OverrideSteps (state : State) (component : ℕ) (list : List Param) (param : Param)
    : Type 0 where
  pub told :
      set_events component (list ++ param ∷ [])
      ≡ set_events component list ++ Set component param ∷ []
  pub parameters : (after_override state component (list ++ param ∷ [])).parameters
      ≡ with_param (after_override state component list).parameters component param
  pub selection :
      (after_override state component (list ++ param ∷ [])).selection
      ≡ (after_override state component list).selection
  -- soft failure is that of the running sequence, and only its own parameter changes it
  pub soft : (value : Bool) → param ≡ params.Soft value
      → (after_override state component (list ++ param ∷ [])).soft_failure ≡ value
  pub other : key_of param ≢ keys.Soft
      → (after_override state component (list ++ param ∷ [])).soft_failure ≡ (after_override state component list).soft_failure

-- an empty list has no event, and changes nothing
pub record OverridesNothing : Type 0 where
  pub told : (component : ℕ) → set_events component [] ≡ []
  pub state : (state : State) (component : ℕ) → after_override state component [] ≡ state

abbrev pub OverridesStep : Type 0
OverridesStep = (state : State) (component : ℕ) (list : List Param) (param : Param) → OverrideSteps state component list param

-- ---- sequences: commands are done in order, and the first that fails ends the sequence

pub record SequenceRules : Type 0 where
  pub none :
      (identities : List Identity) (count : ℕ) (state : State) (events : List Event)
      (ending : Ending)
      → Runs NoSteps identities count state events ending ↔ ((events ≡ []) × (ending ≡ Done state))
  pub step :
      (place : ℕ) (command : CommandTree) (rest : SequenceTree) (identities : List Identity)
      (count : ℕ) (state : State)
      (events : List Event) (ending : Ending)
      → Runs (StepThen place command rest) identities count state events ending
      ↔ InTurn (Does command identities count place state) (Runs rest identities count) events ending

-- ---- run sequence, with one component selected

-- an inner sequence begins with that component selected
abbrev pub within : State → ℕ → Bool → State
within state component soft_failure = record { parameters = state.parameters; selection = component ∷ []; soft_failure = soft_failure }

-- an inner sequence that is done keeps its parameters
abbrev pub keeping : State → State → State
keeping state inner = record { parameters = inner.parameters; selection = state.selection; soft_failure = state.soft_failure }

-- the inner sequence is done
abbrev pub DoneWithin : State → Course → Course
DoneWithin state inner events ending = (next : State) × inner events (Done next) × (ending ≡ Done (keeping state next))

-- a soft failure is passed over, with all as it was
abbrev pub PassedOver : State → Course → Course
PassedOver state inner events ending = (place : ℕ) × inner events (Condition place true) × (ending ≡ Done state)

-- any other failed condition is passed on, with its place and the outer soft failure
abbrev pub PassedOn : State → Course → Course
PassedOn state inner events ending =
    (place : ℕ) × inner events (Condition place false) × (ending ≡ Condition place state.soft_failure)

-- a failed directive of the inner sequence ends the outer one
abbrev pub EndedWithin : Course → Course
EndedWithin inner events ending = (place : ℕ) × inner events (Directive place) × (ending ≡ Directive place)

-- a run sequence ends in these ways and in no others
abbrev pub RunEnds : State → Course → Course
RunEnds state inner events ending =
    DoneWithin state inner events ending ⊎ (PassedOver state inner events ending
    ⊎ (PassedOn state inner events ending ⊎ EndedWithin inner events ending))

abbrev pub RunSequenceRules : Type 0
RunSequenceRules =
    (inner : SequenceTree) (identities : List Identity) (count place component : ℕ) (state : State) (events : List Event) (ending : Ending)
    → state.selection ≡ component ∷ []
    → Does (RunSequence inner) identities count place state events ending
    ↔ RunEnds state (Runs inner identities count (within state component false)) events ending

-- ---- try each, with one component selected

-- after a soft failure the other branches are tried, with all as it was
abbrev pub TriesOthers : Course → Course → Course
TriesOthers inner others events ending =
    (place : ℕ) × (before : List Event) × (after : List Event) × (events ≡ before ++ after)
    × inner before (Condition place true) × others after ending

-- a branch ends in these ways and in no others
abbrev pub BranchEnds : State → Course → Course → Course
BranchEnds state inner others events ending =
    DoneWithin state inner events ending ⊎ (TriesOthers inner others events ending
    ⊎ (PassedOn state inner events ending ⊎ EndedWithin inner events ending))

abbrev pub BranchesRules : Type 0
BranchesRules =
    (inner : SequenceTree) (rest : BranchesTree) (identities : List Identity) (count place component : ℕ) (state : State)
    (events : List Event) (ending : Ending)
    → state.selection ≡ component ∷ []
    → Does (TryEach (BranchThen inner rest)) identities count place state events ending
    ↔ BranchEnds state (Runs inner identities count (within state component true))
    (Does (TryEach rest) identities count place state) events ending

-- a null branch is done at once; after the last branch the try each fails as a condition does
pub record LastRules (identities : List Identity) (count place component : ℕ) (state : State)
    : Type 0 where
  pub null : (rest : BranchesTree) (events : List Event) (ending : Ending)
      → Does (TryEach (NullThen rest)) identities count place state events ending ↔ ((events ≡ []) × (ending ≡ Done state))
  pub exhausted : (events : List Event) (ending : Ending)
      → Does (TryEach NoBranches) identities count place state events ending ↔ ((events ≡ []) × (ending ≡ Condition place state.soft_failure))

abbrev pub LastBranchRules : Type 0
LastBranchRules =
    (identities : List Identity) (count place component : ℕ) (state : State)
    → state.selection ≡ component ∷ [] → LastRules identities count place component state
