-- A host in memory, and what its calls do.
use Rattle.std.specs.Prelude.{◌≡◌, ◌+◌, ℕ, min, List, [], ◌∷◌, ◌++◌, length, take, drop, Option, Some, None, if◌then◌else◌}
use Rattle.std.specs.Str.{bytes_eq}
use Rattle.suit_edge.specs.declared.edge.Edge.{Edge}
use Rattle.suit_edge.specs.declared.edge.Edge.TheVariants as edge
use Rattle.suit_edge.specs.declared.host.Started.{Started}
use Rattle.suit_edge.specs.declared.host.Started.TheVariants as started
use Rattle.suit_edge.specs.declared.host.Pulled.{Pulled}
use Rattle.suit_edge.specs.declared.host.Pulled.TheVariants as pulled
use Rattle.suit_edge.specs.Calls.{CallCounts, uncalled, Succeeds, CallFails}

-- ---- files by name

-- the bytes of the file with this name, if there is one
abbrev pub file_in : List (List ℕ × List ℕ) → List ℕ → Option (List ℕ)
file_in [] name = None
file_in (file ∷ files) name = if bytes_eq file.0 name then Some file.1 else file_in files name

-- the files once this name has these bytes: a known file gets them, a new one is added at the end
abbrev pub with_file : List (List ℕ × List ℕ) → List ℕ → List ℕ → List (List ℕ × List ℕ)
with_file [] name bytes = (name, bytes) ∷ []
with_file (file ∷ files) name bytes =
    if bytes_eq file.0 name then (file.0, bytes) ∷ files else file ∷ with_file files name bytes

-- ---- the host

-- The files, what is left of the file that was started last, the number of bytes read so far, the names that
-- were started, oldest first, and the counts of calls.
pub record HostState : Type 0 where
  pub files : List (List ℕ × List ℕ)
  pub rest : List ℕ
  pub pulled : ℕ
  pub asked : List (List ℕ)
  pub calls : CallCounts

-- no files, and no calls so far
abbrev pub empty_host : List ℕ → HostState
empty_host fails = record { files = []; rest = []; pulled = 0; asked = []; calls = uncalled fails }

-- a call succeeds and makes this of the host
abbrev pub PassesTo : HostState → HostState → HostState → Type 0
PassesTo before now made =
    Succeeds before.calls now.calls × (now ≡ record made { calls = now.calls })

-- a call fails and changes nothing but the counts of calls
abbrev pub FailsAlone : HostState → HostState → Type 0
FailsAlone before now = CallFails before.calls now.calls × (now ≡ record before { calls = now.calls })

-- the name was recorded, and this is left of its file
abbrev pub asked_for : HostState → List ℕ → List ℕ → HostState
asked_for before name rest = record before { rest = rest; asked = before.asked ++ name ∷ [] }

-- a file is started, whatever becomes of the counts of calls
abbrev pub Begins : Started → HostState → HostState → List ℕ → Type 0
Begins started.Done before now name =
    (now ≡ asked_for before name now.rest) × (file_in before.files name ≡ Some now.rest)
Begins started.Absent before now name =
    (now ≡ asked_for before name []) × (file_in before.files name ≡ None)
Begins started.Failed before now name = ⊥

-- a file is started, or the call fails and changes nothing but the counts of calls
abbrev pub StartsExactly : Started → HostState → HostState → List ℕ → Type 0
StartsExactly started.Done before now name =
    PassesTo before now (asked_for before name now.rest)
    × (file_in before.files name ≡ Some now.rest)
StartsExactly started.Absent before now name =
    PassesTo before now (asked_for before name []) × (file_in before.files name ≡ None)
StartsExactly started.Failed before now name = FailsAlone before now

-- a pull reads as many bytes as are left and fit, and leaves the rest of the room alone
abbrev pub PullsExactly : Pulled → HostState → HostState → List ℕ → List ℕ → Type 0
PullsExactly (pulled.Got n) before now room filled =
    PassesTo before now (record before { rest = drop n before.rest; pulled = before.pulled + n })
    × (n ≡ min (length before.rest) (length room))
    × (filled ≡ take n before.rest ++ drop n room)
PullsExactly pulled.Failed before now room filled = FailsAlone before now

-- the file gets these bytes, or the call fails and changes nothing but the counts of calls
abbrev pub StoresExactly : Edge → HostState → HostState → List ℕ → List ℕ → Type 0
StoresExactly edge.Done before now name bytes =
    PassesTo before now (record before { files = with_file before.files name bytes })
StoresExactly edge.Failed before now name bytes = FailsAlone before now
