-- States in which inner sequences begin, and states after them.
use Rattle.std.specs.Prelude.{◌≡◌, ℕ, Bool, true, false, List, [], ◌∷◌, ◌++◌}
use Rattle.path_model.specs.Behaviour.{State}
use Rattle.path_model.specs.Runs.{entry_state, completed_state}
use Rattle.path_model.specs.Path.{start_state}
use Rattle.path_checker.specs.Exploring.{Course, In, Kept, Stopped, Explores, Failures, keeps, after_stops, kept_if}

-- the state in which an inner sequence begins
abbrev pub entered : State → ℕ → Bool → Kept → Kept
entered state component soft_failure k =
    record { facts = k.facts; events = k.events; state = entry_state state component soft_failure }

abbrev pub all_entered : State → ℕ → Bool → List Kept → List Kept
all_entered state component soft_failure [] = []
all_entered state component soft_failure (k ∷ ks) =
    entered state component soft_failure k ∷ all_entered state component soft_failure ks

-- all of these are in this state
abbrev pub AllAt : State → List Kept → Type 0
AllAt state ks = (k : Kept) → In k ks → k.state ≡ state

-- the state after an inner sequence that completed: its parameters stay, the selection and soft failure are the outer
-- ones
abbrev pub left : State → Kept → Kept
left state k = record { facts = k.facts; events = k.events; state = completed_state state k.state }

abbrev pub all_left : State → List Kept → List Kept
all_left state [] = []
all_left state (k ∷ ks) = left state k ∷ all_left state ks

-- the state after a failure that is passed over: all is as it was around the inner sequence
abbrev pub resumed : State → Stopped → Kept
resumed state stop = record { facts = stop.facts; events = stop.events; state = state }

-- the failure of the outer sequence that a hard failure of the inner one leads to
abbrev pub hardened : State → Stopped → Stopped
hardened state stop = record {
  facts = stop.facts;
  events = stop.events;
  place = stop.place;
  soft_failure = state.soft_failure;
}

-- a soft failure goes on as a state
abbrev pub if_soft : State → Stopped → Bool → List Kept
if_soft state stop true = resumed state stop ∷ []
if_soft state stop false = []

-- any other failure fails the outer sequence
abbrev pub if_hard : State → Stopped → Bool → List Stopped
if_hard state stop true = []
if_hard state stop false = hardened state stop ∷ []

abbrev pub softly : State → List Stopped → List Kept
softly state [] = []
softly state (stop ∷ stops) = if_soft state stop stop.soft_failure ++ softly state stops

abbrev pub hardly : State → List Stopped → List Stopped
hardly state [] = []
hardly state (stop ∷ stops) = if_hard state stop stop.soft_failure ++ hardly state stops

-- the failure of a try each in which no branch completed
abbrev pub exhausted_at : State → ℕ → Kept → Stopped
exhausted_at state place k =
    record { facts = k.facts; events = k.events; place = place; soft_failure = state.soft_failure }

abbrev pub exhausted : State → ℕ → List Kept → List Stopped
exhausted state place [] = []
exhausted state place (k ∷ ks) = exhausted_at state place k ∷ exhausted state place ks

-- no failures of an inner sequence yet: soft ones are kept if something goes on from them, and all are kept if the
-- outer sequence keeps the failure that they lead to
abbrev pub none_inside : Bool → Failures → State → Failures
none_inside true failures state =
    record { items = []; soft = true; hard = keeps failures state.soft_failure }
none_inside false failures state = record {
  items = [];
  soft = keeps failures state.soft_failure;
  hard = keeps failures state.soft_failure;
}

-- what is kept outside an inner sequence: the states that go on, and the failures
pub record Outside : Type 0 where
  pub next : List Kept
  pub failed : Failures

abbrev pub outside_of : List Kept → Failures → Outside
outside_of next failed = record { next = next; failed = failed }

-- a branch was run and left, where these failures were kept inside it
pub record BranchAdds (course : Course) (state : State) (inside rest : List Kept)
    (old_stops : Failures) (old new : Outside) : Type 0 where
  pub done : List Kept
  pub stops : List Stopped
  pub next_is : new.next ≡ old.next ++ all_left state done
  pub failed_is : new.failed
      ≡ after_stops old.failed (hardly state (after_stops old_stops stops).items)
  pub rest_is : rest ≡ softly state (after_stops old_stops stops).items
  pub explores : Explores course inside done stops

-- an inner sequence was run on a state in place, and none of its failures is kept
pub record RunsInside (course : Course) (component : ℕ) (soft_failure : Bool) (from : Kept)
    (goes_on : Bool) (to : Kept) : Type 0 where
  pub inside : Kept
  pub to_is : to ≡ left from.state inside
  pub explores : Explores course (entered from.state component soft_failure from ∷ [])
      (kept_if goes_on inside) []

-- ---- a member or the shared sequence

abbrev pub restarted : Kept → Kept
restarted k = record { facts = k.facts; events = k.events; state = start_state k.state }
