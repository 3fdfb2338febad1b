-- Laws of procedures: which sequences they run, in which order, and from which state (draft-ietf-suit-manifest-25,
-- sections 6.3 and 6.4, and this project's own choices).
use Rattle.std.specs.Prelude.{◌≡◌, ◌↔◌, ℕ, false, List, [], ◌∷◌, ◌++◌, None}
use Rattle.suit_params.specs.declared.param.ParamKey.{ParamKey}
use Rattle.path_model.specs.declared.identity.Identity.{Identity}
use Rattle.path_model.specs.declared.event.Event.{Event}
use Rattle.suit_params.specs.InForce.{Parameters, in_force, none_in_force}
use Rattle.suit_commands.specs.Tree.{SequenceTree, PlanTree}
use Rattle.path_model.specs.Behaviour.{State, Ending, Done}
use Rattle.path_model.specs.Runs.{Runs}
use Rattle.path_model.specs.Path.{RunsPlan, Path}
use Rattle.path_model.specs.Turns.{Course, InTurn}

-- the shared sequence comes before each of the three members, even an absent one
abbrev pub sequences_of : PlanTree → List SequenceTree
sequences_of plan = plan.shared ∷ plan.first ∷ plan.shared ∷ plan.second ∷ plan.shared ∷ plan.third ∷ []

-- each sequence starts with component 0 selected, soft failure false, and the parameters that are in force
abbrev pub starting : Parameters → State
starting parameters = record { parameters = parameters; selection = 0 ∷ []; soft_failure = false }

-- the sequences run in order, and the first that fails ends them all
abbrev pub AllInTurn : List SequenceTree → List Identity → ℕ → State → Course
AllInTurn [] identities count state events ending = (events ≡ []) × (ending ≡ Done state)
AllInTurn (sequence ∷ sequences) identities count state events ending =
    InTurn (Runs sequence identities count (starting state.parameters)) (AllInTurn sequences identities count) events ending

-- a procedure runs these six sequences, for its number of components
abbrev pub PlanRuns : Type 0
PlanRuns =
    (plan : PlanTree) (identities : List Identity) (state : State) (events : List Event) (ending : Ending)
    → RunsPlan plan identities state events ending ↔ AllInTurn (sequences_of plan) identities plan.count state events ending

-- nothing is in force
abbrev pub IsNothing : Parameters → Type 0
IsNothing parameters = (component : ℕ) (key : ParamKey) → in_force parameters component key ≡ None

-- the events are the beginning of a run of the procedure
pub record BeginsRun (plan : PlanTree) (identities : List Identity) (events : List Event)
    : Type 0 where
  pub rest : List Event
  pub ending : Ending
  pub run :
      AllInTurn (sequences_of plan) identities plan.count (starting none_in_force) (events ++ rest)
      ending

-- nothing is in force at first, and a path is the beginning of a run from there
pub record PathRules : Type 0 where
  pub nothing : IsNothing none_in_force
  pub begins : (plan : PlanTree) (identities : List Identity) (events : List Event)
      → Path plan identities events ↔ BeginsRun plan identities events
