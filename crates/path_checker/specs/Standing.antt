-- The matches that stand after events.
use Rattle.std.specs.Prelude.{◌↔◌, ◌≡◌, ◌≢◌, ◌⊎◌, ℕ, List, [], ◌∷◌, ◌++◌, Option, slice_get}
use Rattle.suit_params.specs.declared.digest.Digest.{Digest}
use Rattle.path_model.specs.declared.event.Event.{Event}
use Rattle.path_model.specs.Safe.{HasMatched}
use Rattle.path_checker.specs.declared.judge_plan.standing.StandingMatches.{StandingMatches}
use Rattle.path_checker.specs.Exploring.{In}
use Rattle.path_checker.specs.Matches.{Match, matches_from}
use Rattle.path_checker.specs.Trails.{Trail, no_trail, trail_from}

-- the matches that stand for a component
abbrev pub held_of : StandingMatches → ℕ → List Match
held_of standing component = matches_from (slice_get standing.of.items component)

-- one match is added to those of a component
abbrev pub Gains : StandingMatches → ℕ → Match → StandingMatches → Type 0
Gains before component one after =
    (other : ℕ) (any : Match)
    → In any (held_of after other)
    ↔ (((other ≡ component) × (any ≡ one)) ⊎ In any (held_of before other))

-- the matches of a component are dropped
abbrev pub Loses : StandingMatches → ℕ → StandingMatches → Type 0
Loses before component after =
    (other : ℕ) (any : Match)
    → In any (held_of after other) ↔ ((other ≢ component) × In any (held_of before other))

-- the same matches of a component stand in both
abbrev pub SameHeld : StandingMatches → StandingMatches → ℕ → Type 0
SameHeld one other component =
    (any : Match) → In any (held_of one component) ↔ In any (held_of other component)

-- these matches stand after the events, and no others do
abbrev pub Stands : StandingMatches → List Event → Type 0
Stands standing events =
    (component : ℕ) (digest : Digest) (size : Option ℕ)
    → In (digest, size) (held_of standing component) ↔ HasMatched events component digest size

-- if the first matches stand after some events, the second ones stand after one event more
abbrev pub StandsAfter : StandingMatches → Event → StandingMatches → Type 0
StandsAfter standing event after =
    (events : List Event) → Stands standing events → Stands after (events ++ event ∷ [])

-- these matches stand after the events, and this is their trail
pub record IsHistory (standing : StandingMatches) (trail : Trail) (events : List Event)
    : Type 0 where
  pub stands : Stands standing events
  pub trail_is : trail ≡ trail_from no_trail events
