-- Laws of matches that stand, event by event, and of the invokes that these cover.
use Rattle.std.specs.Prelude.{◌≡◌, ◌≢◌, ◌↔◌, ◌<◌, ℕ, suc, Bool, List, [], ◌∷◌, ◌++◌, length, take, slice_get, Option, Some, None}
use Rattle.suit_params.specs.declared.digest.Digest.{Digest}
use Rattle.path_model.specs.declared.event.Event.{Event}
use Rattle.path_model.specs.declared.event.Event.TheVariants.{Matched, Wrote, Invoked}
use Rattle.path_model.specs.declared.identity.Identity.{Identity}
use Rattle.path_model.specs.declared.bad_path.BadPath.{BadPath}
use Rattle.suit_commands.specs.Tree.{PlanTree}
use Rattle.path_model.specs.Path.{AreIdentities, Path}
use Rattle.path_model.specs.Safe.{HasMatched, IsCovered, Covered, AllCovered, Safe, EndsUncovered}
use Rattle.path_model.specs.FirstUncovered.{IsUncoveredFirst, IsFirstUncovered}
use Rattle.path_model.specs.Following.{CoveredFrom, SameMatches}
use Rattle.path_model.specs.BadPaths.{IsBadPath}

-- at first no match stands
abbrev pub NothingMatched : Type 0
NothingMatched = (component : ℕ) (digest : Digest) (size : Option ℕ) → HasMatched [] component digest size → ⊥

-- a match stands once it has come
abbrev pub MatchStands : Type 0
MatchStands =
    (events : List Event) (component : ℕ) (digest : Digest) (size : Option ℕ)
    → HasMatched (events ++ Matched component digest size ∷ []) component digest size

-- a write of the component ends the match
abbrev pub WriteEnds : Type 0
WriteEnds =
    (events : List Event) (component : ℕ) (digest : Digest) (size : Option ℕ)
    → HasMatched (events ++ Wrote component ∷ []) component digest size → ⊥

-- any other event leaves the match as it was, even another match of the component
abbrev pub OthersLeave : Type 0
OthersLeave =
    (events : List Event) (event : Event) (component : ℕ) (digest : Digest) (size : Option ℕ)
    → event ≢ Matched component digest size → event ≢ Wrote component
    → HasMatched (events ++ event ∷ []) component digest size ↔ HasMatched events component digest size

-- an invoke is covered exactly if the match of its component under the digest and size in force stands
abbrev pub InvokeCovered : Type 0
InvokeCovered =
    (events : List Event) (component : ℕ) (digest : Digest) (size : Option ℕ) (passed : Bool)
    → IsCovered events (Invoked component (Some digest) size passed) ↔ HasMatched events component digest size

-- an invoke without a digest in force is never covered
abbrev pub AbsentUncovered : Type 0
AbsentUncovered =
    (events : List Event) (component : ℕ) (size : Option ℕ) (passed : Bool) → IsCovered events (Invoked component None size passed) → ⊥

-- ---- by indices

-- there is this match at some index, and no write of the component at a later one
pub record MatchedAt (events : List Event) (component : ℕ) (digest : Digest) (size : Option ℕ)
    : Type 0 where
  pub index : ℕ
  pub is : slice_get events index ≡ Some (Matched component digest size)
  pub unwritten : (later : ℕ) → index < later → slice_get events later ≢ Some (Wrote component)

-- a match stands exactly if it is at some index, and no write of the component is at a later one
abbrev pub MatchByIndices : Type 0
MatchByIndices =
    (events : List Event) (component : ℕ) (digest : Digest) (size : Option ℕ)
    → HasMatched events component digest size ↔ MatchedAt events component digest size

-- the invoke at this index has a digest in force, and the events before it have its match
pub record InvokeMatched (events : List Event) (i : ℕ) : Type 0 where
  pub digest : (component : ℕ) (size : Option ℕ) (passed : Bool)
      → slice_get events i ≢ Some (Invoked component None size passed)
  pub matched : (component : ℕ) (digest : Digest) (size : Option ℕ) (passed : Bool)
      → slice_get events i ≡ Some (Invoked component (Some digest) size passed) → MatchedAt (take i events) component digest size

-- an event is covered exactly if that holds at its index
abbrev pub CoveredByIndices : Type 0
CoveredByIndices = (events : List Event) (i : ℕ) → Covered events i ↔ InvokeMatched events i

-- all events are covered exactly if the one at each index is
abbrev pub AllAreCovered : Type 0
AllAreCovered = (events : List Event) → AllCovered events ↔ ((i : ℕ) → Covered events i)

-- all events are covered exactly if each is covered by those before it
abbrev pub CoveredByStanding : Type 0
CoveredByStanding = (events : List Event) → AllCovered events ↔ CoveredFrom [] events

-- ---- lists that end in their first uncovered invoke

-- the last event is the first that is not covered
pub record IsLastUncovered (events : List Event) : Type 0 where
  pub index : ℕ
  pub last : length events ≡ suc index
  pub first : IsUncoveredFirst events index

-- a list ends in its first uncovered invoke exactly if its last event is the first that is not covered
abbrev pub EndsAtFirst : Type 0
EndsAtFirst = (events : List Event) → EndsUncovered events ↔ IsLastUncovered events

-- which invoke is the first that is not covered, if any, has one answer only
abbrev pub FirstIsOne : Type 0
FirstIsOne = (events : List Event) (first other : Option ℕ) → IsFirstUncovered events first → IsFirstUncovered events other → first ≡ other

-- ---- what follows

-- if the same matches stand, the same later events are covered, and the same matches stand after these
pub record FollowsAlike (events others more : List Event) : Type 0 where
  pub covered : CoveredFrom events more ↔ CoveredFrom others more
  pub matches : SameMatches (events ++ more) (others ++ more)

abbrev pub SameFollows : Type 0
SameFollows = (events others more : List Event) → SameMatches events others → FollowsAlike events others more

-- events in two parts are covered exactly if each part is
abbrev pub PartsCovered : Type 0
PartsCovered =
    (past front back : List Event) → CoveredFrom past (front ++ back) ↔ (CoveredFrom past front × CoveredFrom (past ++ front) back)

-- ---- safety, and what shows the lack of it

-- a procedure is safe exactly if, for all identities and on all paths for them, every event is covered
abbrev pub SafetyIs : Type 0
SafetyIs =
    (plan : PlanTree) → Safe plan
    ↔ ((identities : List Identity) (events : List Event) → AreIdentities plan identities → Path plan identities events → AllCovered events)

-- a bad path is a path for its identities that ends in its first uncovered invoke
abbrev pub BadPathIs : Type 0
BadPathIs =
    (plan : PlanTree) (bad : BadPath) → IsBadPath plan bad
    ↔ (AreIdentities plan bad.identities × Path plan bad.identities bad.events × EndsUncovered bad.events)

-- a procedure with a bad path is not safe
abbrev pub BadPathRefutes : Type 0
BadPathRefutes = (plan : PlanTree) (bad : BadPath) → IsBadPath plan bad → Safe plan → ⊥
