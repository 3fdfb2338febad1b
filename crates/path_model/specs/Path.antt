-- Paths of a procedure (draft-ietf-suit-manifest-25, section 6.4, and this project's own choices).
use Rattle.std.specs.Prelude.{◌≡◌, ◌<◌, ◌^◌, ℕ, false, List, [], ◌∷◌, ◌++◌, IfSome, length}
use Rattle.std.specs.List.{AllByRecursion}
use Rattle.path_model.specs.declared.identity.Identity.{Identity}
use Rattle.path_model.specs.declared.event.Event.{Event}
use Rattle.suit_commands.specs.Tree.{SequenceTree, PlanTree}
use Rattle.suit_params.specs.InForce.{none_in_force}
use Rattle.path_model.specs.Behaviour.{State, Ending, Behaviour, Then}
use Rattle.path_model.specs.Runs.{Runs}

-- ---- identities: one for each component, with identifiers of sixteen bytes and slots of 64 bits

-- an identifier has sixteen bytes
abbrev pub IsIdentifier : List ℕ → Type 0
IsIdentifier bytes = (length bytes ≡ 16) × AllByRecursion (λ b. b < 256) bytes

-- the identifiers, if any, have sixteen bytes, and the slot number has 64 bits
pub record IsIdentity (identity : Identity) : Type 0 where
  pub vendor : IfSome identity.vendor IsIdentifier
  pub class : IfSome identity.class IsIdentifier
  pub device : IfSome identity.device IsIdentifier
  pub slot : identity.slot < 2 ^ 64

-- there is one identity for each component of the procedure
pub record AreIdentities (plan : PlanTree) (identities : List Identity) : Type 0 where
  pub count : length identities ≡ plan.count
  pub each : AllByRecursion IsIdentity identities

-- ---- runs

-- the shared sequence and each member start with component 0 selected and soft failure false, and keep the parameters
abbrev pub start_state : State → State
start_state state = record state { selection = 0 ∷ []; soft_failure = false }

-- the shared sequence or a member, from the state in which it starts
abbrev pub Starts : SequenceTree → PlanTree → List Identity → Behaviour
Starts sequence plan identities state = Runs sequence identities plan.count (start_state state)

-- before each member, even an absent one, the shared sequence is run; a failed condition ends the procedure, whatever
-- soft failure is
abbrev pub RunsPlan : PlanTree → List Identity → Behaviour
RunsPlan plan identities =
    Then (Starts plan.shared plan identities) (Then (Starts plan.first plan identities)
    (Then (Starts plan.shared plan identities) (Then (Starts plan.second plan identities)
    (Then (Starts plan.shared plan identities) (Starts plan.third plan identities)))))

-- a procedure begins with nothing in force
abbrev pub first_state : State
first_state = record { parameters = none_in_force; selection = 0 ∷ []; soft_failure = false }

-- the events are the beginning of a run of the procedure
pub record Path (plan : PlanTree) (identities : List Identity) (events : List Event) : Type 0 where
  pub rest : List Event
  pub ending : Ending
  pub run : RunsPlan plan identities first_state (events ++ rest) ending
