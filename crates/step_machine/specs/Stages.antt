-- What a part of a procedure that recalls and keeps the outcomes of its free steps does, from one stage to a later one.
use Rattle.std.specs.Prelude.{◌≡◌, ◌<◌, ◌≤◌, ◌+◌, ℕ, Bool, not, IfSome, IsTrue, List, ◌++◌, Option, Result, Ok, Err, length, get_or}
use Rattle.suit_edge.specs.Ranges.{InSome, OutsideEach, Range}
use Rattle.path_model.specs.Behaviour.{State}
use Rattle.path_model.specs.Settings.{Setting}
use Rattle.path_model.specs.Plays.{Play}
use Rattle.path_model.specs.RecalledPlays.{Recalling, recalling}
use Rattle.flash_layout.specs.Trails.{HoldsNow, LieWithin}
use Rattle.step_machine.specs.declared.machine.Machine.{Machine}
use Rattle.step_machine.specs.declared.spot.Standing.{Standing}
use Rattle.step_machine.specs.declared.stop.Stop.{Stop}
use Rattle.step_machine.specs.declared.stop.Stop.TheVariants as stops
use Rattle.step_machine.specs.Comes.{Comes}
use Rattle.step_machine.specs.Fetching.{AreGiven, AreRequests}
use Rattle.step_machine.specs.PlanRuns.{Counts}
use Rattle.step_machine.specs.Running.{AreSources, Fits, Gained, Moment, OutsideWritten, Past, StaysOn, StopCounts, counts_at, device_at, followed}
use Rattle.step_machine.specs.Spots.{OutsideSpot}

-- ---- a stage

-- the state of a trail
pub record TrailAt : Type 1 where
  pub told : Bool
  pub silent : Bool
  pub left : List Bool
  pub list : List Bool
  pub room : Option ℕ
  pub ranges : List Range
  pub holds : List Bool → List ℕ → Type 0

-- the objects that a procedure works with and its trail, at a moment
pub record Stage : Type 1 where
  pub outside : Moment
  pub trail : TrailAt

abbrev pub stage : Moment → TrailAt → Stage
stage outside trail = record { outside = outside; trail = trail }

abbrev pub counts_in : Stage → Counts
counts_in s = counts_at s.outside

-- the world of a play that recalls, after these launches and requests, and with these outcomes
abbrev pub world_at : Machine → Stage → Past → List Bool → Recalling
world_at machine s past kept = recalling s.trail.left kept (device_at machine s.outside past)

-- ---- what keeping needs

-- the place is outside the slots of all components
abbrev pub OutsideStandings : List Standing → ℕ → Type 0
OutsideStandings standings i =
    (k : ℕ) (d : Standing) → k < length standings → OutsideSpot (get_or standings k d).spot i

-- the trail has ranges of its own within the flash, and the flash holds its list there
pub record IsTrailed (machine : Machine) (s : Stage) : Type 0 where
  pub clear : (i : ℕ) → InSome s.trail.ranges i → OutsideStandings machine.standings.now i
  pub within : LieWithin s.outside.disk.size s.trail.ranges
  pub holds : IsTrue s.outside.disk.told
      → HoldsNow (s.trail.holds s.trail.list) s.outside.disk.flash

-- a trail that tells its list has room for this many more outcomes
pub record HasRoom (s : Stage) (n : ℕ) : Type 0 where
  pub fits : IsTrue s.trail.told
      → IfSome s.trail.room (λ room. length s.trail.list + n ≤ room)

-- the property holds, if the procedure may go on after this
abbrev pub IfGoesOn : Result (Unit {0}) Stop → Type 0 → Type 0
IfGoesOn (Ok _) P = P
IfGoesOn (Err (stops.Condition place soft_failure)) P = P
IfGoesOn (Err (stops.Directive place cause)) P = Unit {0}

-- ---- from a stage to a later one

-- the place is outside the slots that the procedure may write, and outside the ranges of the trail
abbrev pub OutsideKept : Machine → List Range → ℕ → Type 0
OutsideKept machine ranges i = OutsideWritten machine i × OutsideEach ranges i

-- what stays however the part ends, outside the slots that the procedure may write and outside the trail
pub record StaysKept (machine : Machine) (before after : Stage) : Type 0 where
  pub outside :
      StaysOn (OutsideKept machine before.trail.ranges) machine before.outside after.outside
  pub told : after.trail.told ≡ before.trail.told
  pub silent : after.trail.silent ≡ before.trail.silent
  pub room : after.trail.room ≡ before.trail.room
  pub ranges : after.trail.ranges ≡ before.trail.ranges

-- the setting, and whether keeping may fail
pub record Terms : Type 0 where
  pub setting : Setting
  pub may_fail : Bool

-- the setting is that of the machine, and keeping may fail unless the trail is silent
pub record FitsKept (machine : Machine) (silent : Bool) (terms : Terms) : Type 0 where
  pub setting : Fits machine terms.setting
  pub may_fail : terms.may_fail ≡ not silent

-- the play of a part that recalls and keeps, in each setting
abbrev pub KeptPart : Type 1
KeptPart = Terms → Play Recalling

-- The launches, the requests and the outcomes from one stage to a later one. In each setting that gives the requests
-- what they were given, the play comes to the same.
pub record GoesKept (machine : Machine) (part : KeptPart) (state : State) (before : Stage)
    (result : Result (Unit {0}) Stop) (next : State) (after : Stage) : Type 0 where
  pub more : Gained
  pub launches :
      after.outside.launcher.launches ≡ before.outside.launcher.launches ++ more.launches
  pub requests :
      AreRequests before.outside.host.told machine.uris.now before.outside.host.files before.outside.host.asked.names
      after.outside.host.asked.names more.requests
  pub noted : List Bool
  pub listed : IsTrue before.trail.told → after.trail.list ≡ before.trail.list ++ noted
  pub comes : (terms : Terms) → FitsKept machine before.trail.silent terms → (past : Past)
      (kept : List Bool) → AreGiven terms.setting.files (length past.asked) more.requests
      → Comes (part terms) state (world_at machine before past kept) result next
      (world_at machine after (followed past more) (kept ++ noted))

-- a part ran with this result, from one stage to a later one
pub record RunsKept (machine : Machine) (part : KeptPart) (state : State) (before : Stage)
    (result : Result (Unit {0}) Stop) (next : State) (after : Stage) : Type 0 where
  pub stays : StaysKept machine before after
  pub counts : StopCounts result (counts_in before) (counts_in after)
  pub sources : AreSources machine next.parameters
  pub trailed : IfGoesOn result (IsTrailed machine after)
  pub goes : IsTrue before.outside.disk.told → IsTrue before.outside.launcher.told
      → GoesKept machine part state before result next after

-- the part keeps at most this many outcomes, and leaves the room for others
pub record Spends (work : ℕ) (before : Stage) (result : Result (Unit {0}) Stop) (after : Stage)
    : Type 0 where
  pub others : (n : ℕ) → HasRoom before (work + n) → IfGoesOn result (HasRoom after n)
