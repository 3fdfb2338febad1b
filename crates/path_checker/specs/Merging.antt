-- Some of a list, which stand for all of it.
use Rattle.std.specs.Prelude.{◌≡◌, List}
use Rattle.path_model.specs.Following.{SameMatches}
use Rattle.path_checker.specs.Exploring.{In, Kept, Stopped, Failures}

-- what is kept is part of the list, and each of the list has one among the kept that stands for it
pub record Merges {A : Type 0} (StandsFor : A → A → Type 0) (all kept : List A) : Type 0 where
  pub part : (one : A) → In one kept → In one all
  pub each : (one : A) → In one all → (other : A) × In other kept × StandsFor other one

-- both are the same but for the events that led to them: the same matches stand
pub record SameState (k other : Kept) : Type 0 where
  pub facts : k.facts ≡ other.facts
  pub state : k.state ≡ other.state
  pub matches : SameMatches k.events other.events

-- both are the same but for their places and the events that led to them: the same matches stand
pub record SameStop (stop other : Stopped) : Type 0 where
  pub facts : stop.facts ≡ other.facts
  pub soft_failure : stop.soft_failure ≡ other.soft_failure
  pub matches : SameMatches stop.events other.events

-- the kept failures stand for all, and the same further ones are to be kept
pub record Settles (all kept : Failures) : Type 0 where
  pub soft : kept.soft ≡ all.soft
  pub hard : kept.hard ≡ all.hard
  pub merges : Merges SameStop all.items kept.items
