-- What the calls of a host do.
use Rattle.std.specs.Prelude.{◌≡◌, ◌⊎◌, ◌<◌, ◌≤◌, ℕ, List, [], ◌∷◌, ◌++◌, length, take, drop, Option, Some, None}
use Rattle.suit_edge.specs.declared.edge.Edge.{Edge}
use Rattle.suit_edge.specs.declared.edge.Edge.TheVariants as edge
use Rattle.suit_edge.specs.declared.host.Started.{Started}
use Rattle.suit_edge.specs.declared.host.Started.TheVariants as started
use Rattle.suit_edge.specs.declared.host.Pulled.{Pulled}
use Rattle.suit_edge.specs.declared.host.Pulled.TheVariants as pulled
use Rattle.suit_edge.specs.Faults.{Faulted}

-- ---- start

-- the file with this name, and what is left of it after this answer
abbrev pub Starts : Started → Option (List ℕ) → List ℕ → Type 0
Starts started.Done file rest = file ≡ Some rest
Starts started.Absent file rest = (file ≡ None) × (rest ≡ [])
Starts started.Failed file rest = Unit {0}

-- the count of faults rises if the call failed, and stays otherwise
abbrev pub StartCounts : Started → ℕ → ℕ → Type 0
StartCounts started.Done before now = now ≡ before
StartCounts started.Absent before now = now ≡ before
StartCounts started.Failed before now = Faulted before now

-- this name was asked for, after those before
abbrev pub AsksFor : List ℕ → List (List ℕ) → List (List ℕ) → Type 0
AsksFor name before now = now ≡ before ++ name ∷ []

-- a failed call may or may not have recorded the name that it asked for
abbrev pub StartAsks : Started → List ℕ → List (List ℕ) → List (List ℕ) → Type 0
StartAsks started.Done name before now = AsksFor name before now
StartAsks started.Absent name before now = AsksFor name before now
StartAsks started.Failed name before now = (now ≡ before) ⊎ AsksFor name before now

-- ---- pull

-- the number of bytes that a pull read
abbrev pub count_of : Pulled → ℕ
count_of (pulled.Got n) = n
count_of pulled.Failed = 0

-- The first n bytes of what was left are at the front of the room, and are no longer left. There are none
-- only if the room is empty or nothing was left.
pub record Gives (n : ℕ) (before now room filled : List ℕ) : Type 0 where
  pub within : n ≤ length before
  pub front : take n filled ≡ take n before
  pub left : now ≡ drop n before
  pub end : n ≡ 0 → 0 < length room → before ≡ []

abbrev pub Pulls : Pulled → List ℕ → List ℕ → List ℕ → List ℕ → Type 0
Pulls (pulled.Got n) before now room filled = Gives n before now room filled
Pulls pulled.Failed before now room filled = Unit {0}

-- the count of faults rises if the call failed, and stays otherwise
abbrev pub PullCounts : Pulled → ℕ → ℕ → Type 0
PullCounts (pulled.Got n) before now = now ≡ before
PullCounts pulled.Failed before now = Faulted before now

-- ---- store

-- the file with this name after this answer
abbrev pub Stores : Edge → Option (List ℕ) → List ℕ → Type 0
Stores edge.Done file bytes = file ≡ Some bytes
Stores edge.Failed file bytes = Unit {0}
