-- When the states that are kept stand for all runs from others.
use Rattle.std.specs.Prelude.{◌≡◌, ◌⊎◌, ℕ, Bool, true, false, List, [], ◌∷◌, ◌++◌, length}
use Rattle.suit_params.specs.InForce.{Parameters}
use Rattle.path_model.specs.declared.identity.Identity.{Identity}
use Rattle.path_model.specs.declared.event.Event.{Event}
use Rattle.path_model.specs.declared.event.Event.TheVariants.{Failed}
use Rattle.path_model.specs.Behaviour.{State, Ending, Done, Condition, Directive, Behaviour}
use Rattle.path_model.specs.Safe.{IsCovered}
use Rattle.path_model.specs.Following.{CoveredFrom, SameMatches}
use Rattle.path_checker.specs.declared.judge_plan.facts.Knowledge.{Knowledge}
use Rattle.path_checker.specs.Knowing.{Allows}

-- a behaviour for each list of identities
abbrev pub Course : Type 1
Course = List Identity → Behaviour

-- the value is in the list
abbrev pub In : {A : Type 0} → A → List A → Type 0
In x [] = ⊥
In x (y ∷ ys) = (y ≡ x) ⊎ In x ys

-- a kept state: the state, what is known of the identities, and the events that led to it
pub record Kept : Type 0 where
  pub facts : List Knowledge
  pub events : List Event
  pub state : State

abbrev pub state_of : Parameters → List ℕ → Bool → State
state_of parameters selection soft_failure =
    record { parameters = parameters; selection = selection; soft_failure = soft_failure }

abbrev pub kept_of : List Knowledge → List Event → State → Kept
kept_of facts events state = record { facts = facts; events = events; state = state }

-- a list of the state, if the procedure goes on
abbrev pub kept_if : Bool → Kept → List Kept
kept_if false k = []
kept_if true k = k ∷ []

-- a failed condition at a place, with the soft failure that was in force in its sequence
pub record Stopped : Type 0 where
  pub facts : List Knowledge
  pub events : List Event
  pub place : ℕ
  pub soft_failure : Bool

-- how a run ends is found among the kept ones: the same state, or a failed condition with the same soft failure, with
-- the same matches standing; a failed directive is not kept
abbrev pub Found : Kept → List Identity → List Event → List Kept → List Stopped → Ending → Type 0
Found k identities events done failed (Done state) =
    (to : Kept) × In to done × Allows to.facts identities × (to.state ≡ state)
    × SameMatches to.events (k.events ++ events)
Found k identities events done failed (Condition place soft_failure) =
    (to : Stopped) × In to failed × Allows to.facts identities × (to.soft_failure ≡ soft_failure)
    × SameMatches to.events (k.events ++ events)
Found k identities events done failed (Directive place) = Unit {0}

-- from a kept state a run may have these events and this ending, for all identities that the facts allow, and each
-- invoke on it is covered
pub record Reaches (course : Course) (k : Kept) (facts : List Knowledge) (events : List Event)
    (ending : Ending) : Type 0 where
  pub since : List Event
  pub parts : events ≡ k.events ++ since
  pub covered : CoveredFrom k.events since
  pub count : length facts ≡ length k.facts
  pub path : (identities : List Identity) → Allows facts identities
      → Allows k.facts identities × course identities k.state since ending

-- the same from one of several kept states
abbrev pub Leads : Course → List Kept → List Knowledge → List Event → Ending → Type 0
Leads course from facts events ending =
    (k : Kept) × In k from × Reaches course k facts events ending

-- on each run from the kept states each invoke is covered, and how it ends is found among the others; each of the
-- others is an end that a run may come to
pub record Explores (course : Course) (from done : List Kept) (failed : List Stopped) : Type 0 where
  pub complete : (k : Kept) → In k from → (identities : List Identity) → Allows k.facts identities
      → (events : List Event) (ending : Ending)
      → course identities k.state events ending
      → CoveredFrom k.events events × Found k identities events done failed ending
  pub reached : (to : Kept) → In to done → Leads course from to.facts to.events (Done to.state)
  pub stopped : (to : Stopped) → In to failed
      → Leads course from to.facts to.events (Condition to.place to.soft_failure)

-- from a kept state a run may have these events, for all identities that the facts allow, and the last of them is its
-- first invoke that is not covered
pub record Uncovered (course : Course) (k : Kept) (facts : List Knowledge) (events : List Event)
    : Type 0 where
  pub since : List Event
  pub last : Event
  pub place : ℕ
  pub parts : events ≡ (k.events ++ since) ++ last ∷ []
  pub covered : CoveredFrom k.events since
  pub count : length facts ≡ length k.facts
  pub uncovered : IsCovered (k.events ++ since) last → ⊥
  pub path : (identities : List Identity) → Allows facts identities
      → Allows k.facts identities
      × course identities k.state (since ++ last ∷ Failed place ∷ []) (Directive place)

-- the same from one of several kept states
abbrev pub Uncovers : Course → List Kept → List Knowledge → List Event → Type 0
Uncovers course from facts events = (k : Kept) × In k from × Uncovered course k facts events

-- failed conditions that are kept, and which further ones are to be kept: those with soft failure, those without, or
-- both
pub record Failures : Type 0 where
  pub items : List Stopped
  pub soft : Bool
  pub hard : Bool

-- whether a failed condition with this soft failure is kept
abbrev pub is_kept : Bool → Bool → Bool → Bool
is_kept soft hard true = soft
is_kept soft hard false = hard

abbrev pub keeps : Failures → Bool → Bool
keeps failures soft_failure = is_kept failures.soft failures.hard soft_failure

abbrev pub stop_if : Bool → Stopped → List Stopped
stop_if true stop = stop ∷ []
stop_if false stop = []

-- those of the failed conditions that are kept
abbrev pub all_kept : Bool → Bool → List Stopped → List Stopped
all_kept soft hard [] = []
all_kept soft hard (stop ∷ stops) =
    stop_if (is_kept soft hard stop.soft_failure) stop ++ all_kept soft hard stops

-- the failures after more failed conditions, of which some are kept
abbrev pub after_stops : Failures → List Stopped → Failures
after_stops failures stops = record {
  items = failures.items ++ all_kept failures.soft failures.hard stops;
  soft = failures.soft;
  hard = failures.hard;
}

-- the lists of states and of kept failures have grown by what exploring gives
pub record Adds (course : Course) (from old_next new_next : List Kept)
    (old_failed new_failed : Failures) : Type 0 where
  pub done : List Kept
  pub failed : List Stopped
  pub next_is : new_next ≡ old_next ++ done
  pub failed_is : new_failed ≡ after_stops old_failed failed
  pub explores : Explores course from done failed

-- the states are explored, and failed conditions are not kept
abbrev pub Passes : Course → List Kept → List Kept → Type 0
Passes course from done = (failed : List Stopped) × Explores course from done failed

-- the states are explored, failed conditions are not kept, and there are none if the premise holds
abbrev pub Continues : Type 0 → Course → List Kept → List Kept → Type 0
Continues none course from done =
    (failed : List Stopped) × Explores course from done failed × (none → failed ≡ [])
