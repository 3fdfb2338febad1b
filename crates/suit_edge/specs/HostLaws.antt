-- Laws of a host's calls.
use Rattle.std.specs.Prelude.{◌≡◌, ◌<◌, ◌-◌, ◌^◌, ℕ, List, [], ◌∷◌, ◌++◌, length, take, Option, Some}
use Rattle.suit_edge.specs.declared.edge.Edge.TheVariants as edge
use Rattle.suit_edge.specs.declared.host.Started.{Started}
use Rattle.suit_edge.specs.declared.host.Started.TheVariants as started
use Rattle.suit_edge.specs.declared.host.Pulled.TheVariants as pulled
use Rattle.suit_edge.specs.Host.{Starts, StartAsks, StartCounts, Pulls, PullCounts, Stores}

pub record HostLaws : Type 0 where
  -- a name has a file or none, and a started file has one rest
  pub one_answer : (file : Option (List ℕ)) (rest other : List ℕ) → Starts started.Done file rest
      → Starts started.Absent file other → ⊥
  pub one_rest : (file : Option (List ℕ)) (rest other : List ℕ) → Starts started.Done file rest
      → Starts started.Done file other → rest ≡ other
  -- if no file has this name, none is started, and a pull reads nothing
  pub none : (n : ℕ) (file : Option (List ℕ)) (rest now room filled : List ℕ)
      → Starts started.Absent file rest → Pulls (pulled.Got n) rest now room filled
      → (n ≡ 0) × (now ≡ [])
  -- the bytes read first, and those left then, are the file
  pub whole : (n : ℕ) (file : Option (List ℕ)) (rest now room filled : List ℕ)
      → Starts started.Done file rest → Pulls (pulled.Got n) rest now room filled
      → file ≡ Some (take n filled ++ now)
  -- a pull that reads nothing into a room that is not empty is at the end of the file
  pub end : (before now room filled : List ℕ) → 0 < length room
      → Pulls (pulled.Got 0) before now room filled → before ≡ []
  -- a file that was stored is the one that is started next
  pub stored : (file : Option (List ℕ)) (bytes rest : List ℕ) → Stores edge.Done file bytes
      → Starts started.Done file rest → rest ≡ bytes
  -- A name that was started or is absent has been recorded, and no start records another name, whatever it
  -- answers.
  pub asked_done : (name : List ℕ) (before now : List (List ℕ))
      → StartAsks started.Done name before now → now ≡ before ++ name ∷ []
  pub asked_absent : (name : List ℕ) (before now : List (List ℕ))
      → StartAsks started.Absent name before now → now ≡ before ++ name ∷ []
  pub asked_one : (answer : Started) (name other : List ℕ) (before now : List (List ℕ))
      → StartAsks answer name before now → now ≡ before ++ other ∷ [] → other ≡ name
  -- a failed call raises the count, and no other does
  pub start_failed : (before : ℕ) → before < 2 ^ 64 - 1 → StartCounts started.Failed before before
      → ⊥
  pub start_done : (before now : ℕ) → StartCounts started.Done before now → now ≡ before
  pub start_absent : (before now : ℕ) → StartCounts started.Absent before now → now ≡ before
  pub pull_failed : (before : ℕ) → before < 2 ^ 64 - 1 → PullCounts pulled.Failed before before → ⊥
  pub pull_got : (n before now : ℕ) → PullCounts (pulled.Got n) before now → now ≡ before
