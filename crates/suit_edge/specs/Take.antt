-- The outcome of reading a whole file.
use Rattle.std.specs.Prelude.{◌≡◌, ◌⊎◌, ◌<◌, ◌≤◌, ℕ, List, length, Option, Some, None}
use Rattle.suit_edge.specs.declared.take.Taken.{Taken}
use Rattle.suit_edge.specs.declared.take.Taken.TheVariants as taken
use Rattle.suit_edge.specs.Faults.{Faulted}
use Rattle.suit_edge.specs.Host.{AsksFor}

-- what the answer says of the file with this name
abbrev pub TakesAll : Taken → Option (List ℕ) → ℕ → Type 0
TakesAll (taken.Got bytes) file limit = file ≡ Some bytes
TakesAll taken.Absent file limit = file ≡ None
TakesAll (taken.TooLong n) file limit =
    (bytes : List ℕ) × (file ≡ Some bytes) × (limit < length bytes)
TakesAll taken.HostFault file limit = Unit {0}
TakesAll taken.NoMemory file limit = Unit {0}

-- the answer holds at most `limit` bytes, or names the limit
abbrev pub KeepsLimit : Taken → ℕ → Type 0
KeepsLimit (taken.Got bytes) limit = length bytes ≤ limit
KeepsLimit taken.Absent limit = Unit {0}
KeepsLimit (taken.TooLong n) limit = n ≡ limit
KeepsLimit taken.HostFault limit = Unit {0}
KeepsLimit taken.NoMemory limit = Unit {0}

-- the host's count rises if the answer is its fault, and stays otherwise
abbrev pub TakeCounts : Taken → ℕ → ℕ → Type 0
TakeCounts (taken.Got bytes) before now = now ≡ before
TakeCounts taken.Absent before now = now ≡ before
TakeCounts (taken.TooLong n) before now = now ≡ before
TakeCounts taken.HostFault before now = Faulted before now
TakeCounts taken.NoMemory before now = now ≡ before

-- only this name was asked for; a fault may have come before it was recorded
abbrev pub TakeAsks : Taken → List ℕ → List (List ℕ) → List (List ℕ) → Type 0
TakeAsks (taken.Got bytes) name before now = AsksFor name before now
TakeAsks taken.Absent name before now = AsksFor name before now
TakeAsks (taken.TooLong n) name before now = AsksFor name before now
TakeAsks taken.HostFault name before now = (now ≡ before) ⊎ AsksFor name before now
TakeAsks taken.NoMemory name before now = AsksFor name before now

-- ---- the same for a file that was started

abbrev pub TakesRest : Taken → List ℕ → ℕ → Type 0
TakesRest (taken.Got bytes) rest limit = rest ≡ bytes
TakesRest taken.Absent rest limit = ⊥
TakesRest (taken.TooLong n) rest limit = limit < length rest
TakesRest taken.HostFault rest limit = Unit {0}
TakesRest taken.NoMemory rest limit = Unit {0}
