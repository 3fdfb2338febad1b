-- How a procedure that runs on a device ends, by its play, and what it leaves alone.
use Rattle.std.specs.Prelude.{◌≡◌, ◌⊎◌, ◌<◌, ◌≤◌, ℕ, Bool, IsTrue, List, [], ◌++◌, Option, Result, Ok, Err, length, get_or, map}
use Rattle.suit_edge.specs.declared.launch.Launch.{Launch}
use Rattle.suit_edge.specs.Faults.{Faulted}
use Rattle.suit_commands.specs.Tree.{PlanTree}
use Rattle.suit_commands.specs.Targets.{IsTarget}
use Rattle.path_model.specs.declared.cause.Cause.{Cause}
use Rattle.path_model.specs.declared.cause.Cause.TheVariants as causes
use Rattle.path_model.specs.Behaviour.{State, Done, Condition}
use Rattle.path_model.specs.Path.{first_state}
use Rattle.path_model.specs.Settings.{Setting, steady}
use Rattle.path_model.specs.DevicePlays.{first_device, plan_play}
use Rattle.path_model.specs.Plays.{Play}
use Rattle.step_machine.specs.declared.plan_end.PlanEnd.{PlanEnd}
use Rattle.step_machine.specs.declared.plan_end.PlanEnd.TheVariants as ends
use Rattle.step_machine.specs.declared.spot.Standing.{Standing}
use Rattle.step_machine.specs.declared.stop.Stop.{Stop}
use Rattle.step_machine.specs.declared.stop.Stop.TheVariants as stops
use Rattle.step_machine.specs.Directives.{StopsSo}
use Rattle.step_machine.specs.Invoking.{launched_as}
use Rattle.step_machine.specs.Spots.{OutsideSpot}

-- the setting of these components, with these payloads, these names of files for URIs, and what each request is given
abbrev pub setting_of : List Standing → List (List ℕ × List ℕ) → List (List ℕ × List ℕ)
    → (ℕ → List ℕ → Option (List ℕ)) → Setting
setting_of standings payloads words files = record {
  identities = map (λ (s : Standing). s.identity) standings;
  capacities = map (λ (s : Standing). s.capacity) standings;
  payloads = payloads;
  words = words;
  files = files;
}

-- ---- by its play

-- Without a fault, the procedure ends as its play does from this world, and leaves the same. With a fault, it ends as
-- the play may end when that fault cuts it short.
abbrev pub EndsAs : {World : Type 0} → Play World → World → PlanEnd → World → Type 0
EndsAs play before ends.Done after =
    (next : State) × ((play.comes first_state before).ending ≡ Done next)
    × ((play.comes first_state before).world ≡ after)
EndsAs play before (ends.ConditionFailed place) after =
    (soft_failure : Bool) × ((play.comes first_state before).ending ≡ Condition place soft_failure)
    × ((play.comes first_state before).world ≡ after)
EndsAs play before (ends.DirectiveFailed place cause) after =
    StopsSo play place first_state before cause after

-- no fault of the flash stopped the procedure
abbrev pub IsUnfaulted : PlanEnd → Type 0
IsUnfaulted (ends.DirectiveFailed place causes.FlashFault) = ⊥
IsUnfaulted _ = Unit {0}

-- each request is given the host's file, if the host tells, or if no URI has the name of a file
abbrev pub GivesAs : Bool → List (List ℕ × List ℕ) → (List ℕ → Option (List ℕ))
    → (ℕ → List ℕ → Option (List ℕ)) → Type 0
GivesAs told words files given = IsTrue told ⊎ (words ≡ []) → given ≡ steady files

-- the procedure ends as its play does, with these contents before and after; the launches that were added are the
-- play's, and so are the names that it asks for
pub record PlaysPlan (plan : PlanTree) (setting : Setting) (end : PlanEnd)
    (before after : List (List ℕ)) (launched now : List Launch) : Type 0 where
  pub gained : List Launch
  pub added : now ≡ launched ++ gained
  pub asks : List (List ℕ)
  pub ends :
      EndsAs (plan_play plan setting) (first_device before) end
      (record { contents = after; launches = map launched_as gained; asked = asks })

-- how a procedure ends if one of its sequences ended like this
abbrev pub end_of : Result (Unit {0}) Stop → PlanEnd
end_of (Ok _) = ends.Done
end_of (Err (stops.Condition place soft_failure)) = ends.ConditionFailed place
end_of (Err (stops.Directive place cause)) = ends.DirectiveFailed place cause

-- ---- counts of faults

-- the counts of faults of the host, the flash and the launcher
pub record Counts : Type 0 where
  pub host : ℕ
  pub disk : ℕ
  pub launcher : ℕ

abbrev pub counts_of : ℕ → ℕ → ℕ → Counts
counts_of host disk launcher = record { host = host; disk = disk; launcher = launcher }

-- the count of faults rose of the object that failed
abbrev pub CountsFor : Cause → Counts → Counts → Type 0
CountsFor causes.HostFault before now =
    Faulted before.host now.host × (now.disk ≡ before.disk) × (now.launcher ≡ before.launcher)
CountsFor causes.FlashFault before now =
    (now.host ≡ before.host) × Faulted before.disk now.disk × (before.launcher ≤ now.launcher)
CountsFor causes.LaunchFault before now =
    (now.host ≡ before.host) × (before.disk ≤ now.disk) × Faulted before.launcher now.launcher
CountsFor _ before now = now ≡ before

-- the counts of faults after a procedure that ended like this
abbrev pub EndCounts : PlanEnd → Counts → Counts → Type 0
EndCounts ends.Done before now = now ≡ before
EndCounts (ends.ConditionFailed place) before now = now ≡ before
EndCounts (ends.DirectiveFailed place cause) before now = CountsFor cause before now

-- the flash failed before the procedure or after it, and another object may have failed in the procedure
abbrev pub FlashFailed : Counts → Counts → Type 0
FlashFailed before now =
    (before.host ≤ now.host) × Faulted before.disk now.disk × (before.launcher ≤ now.launcher)

-- ---- what the procedure leaves alone

-- the place is outside the slots of components that the procedure may write
abbrev pub OutsideTargets : PlanTree → List Standing → ℕ → Type 0
OutsideTargets plan standings i =
    (k : ℕ) (d : Standing) → k < length standings → IsTarget plan k
    → OutsideSpot (get_or standings k d).spot i
