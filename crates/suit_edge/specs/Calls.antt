-- The calls on an object in memory, counted from 0, some of which fail by their numbers.
use Rattle.std.specs.Prelude.{◌≡◌, ◌⊎◌, ℕ, List, Contains}
use Rattle.suit_edge.specs.Faults.{Faulted, counted}

-- the numbers of the calls that fail, the number of the next call, and how often calls failed and memory ran
-- out
pub record CallCounts : Type 0 where
  pub fails : List ℕ
  pub number : ℕ
  pub faults : ℕ
  pub starved : ℕ

-- no calls so far
abbrev pub uncalled : List ℕ → CallCounts
uncalled fails = record { fails = fails; number = 0; faults = 0; starved = 0 }

-- the next call is one of those that fail
abbrev pub IsListed : CallCounts → Type 0
IsListed calls = Contains calls.fails calls.number

-- a call succeeds: it is not in the list, and only the number of the next call changes
pub record Succeeds (before now : CallCounts) : Type 0 where
  pub unlisted : ¬ IsListed before
  pub counts : now ≡ record before { number = counted before.number }

-- a call fails because it is in the list, and counts a fault
pub record FailsByList (before now : CallCounts) : Type 0 where
  pub listed : IsListed before
  pub counts :
      now ≡ record before { number = counted before.number; faults = counted before.faults }
  pub faulted : Faulted before.faults now.faults

-- a call fails because memory runs out, and counts both a fault and that
pub record Starves (before now : CallCounts) : Type 0 where
  pub unlisted : ¬ IsListed before
  pub counts :
      now
      ≡
      record before {
        number = counted before.number;
        faults = counted before.faults;
        starved = counted before.starved;
      }
  pub faulted : Faulted before.faults now.faults
  pub rose : Faulted before.starved now.starved

-- a call fails because it is in the list or because memory runs out
abbrev pub CallFails : CallCounts → CallCounts → Type 0
CallFails before now = FailsByList before now ⊎ Starves before now
