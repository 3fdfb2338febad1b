-- Recalled plays in which a fault of the outside may come: in a free step, or in the keeping of its outcome (this
-- project's own choices).
use Rattle.std.specs.Prelude.{◌≡◌, ◌⊎◌, ℕ, Bool, false, IsTrue, List, [], Option, Some, None}
use Rattle.suit_commands.specs.declared.kinds.TestKind.{TestKind}
use Rattle.suit_commands.specs.declared.kinds.ActKind.{ActKind}
use Rattle.suit_commands.specs.Tree.{PlanTree}
use Rattle.path_model.specs.declared.event.Event.{Event}
use Rattle.path_model.specs.declared.cause.Cause.TheVariants as causes
use Rattle.path_model.specs.Behaviour.{State, Ending, Done, Condition, Directive}
use Rattle.path_model.specs.OneRun.{FreeStep, failed_told}
use Rattle.path_model.specs.Path.{Path, RunsPlan, first_state}
use Rattle.path_model.specs.Settings.{Setting}
use Rattle.path_model.specs.Plays.{Outcome, Play, procedure}
use Rattle.path_model.specs.DevicePlays.{Device, condition_play, directive_play, first_device, played, IsFaulted}
use Rattle.path_model.specs.RecalledPlays.{Recalling, recalling, free_test, free_act, as_recalling, recalled_condition, recalled_directive, recalled_play}

-- ---- where a fault comes

-- The step was done, but its outcome could not be kept: a fault of the flash at its place. What the step did stays, so
-- that an invoke has launched.
abbrev pub unkept : ℕ → List Event → List Bool → Device → Outcome Recalling
unkept place events kept device = record {
  events = events;
  ending = Directive place;
  cause = Some causes.FlashFault;
  world = recalling [] kept device;
}

-- the fault came in the step itself
abbrev pub CutInStep : (Outcome Device → Type 0) → Recalling → Outcome Recalling → Type 0
CutInStep IsCut before outcome =
    (cut : Outcome Device) × IsCut cut × (outcome ≡ as_recalling before.left before.kept cut)

-- a free step is cut once nothing is left to recall: in the step, or later in the keeping of its outcome
abbrev pub StepIsCut : (Outcome Device → Type 0) → (FreeStep → Outcome Recalling → Type 0) → Recalling
    → Outcome Recalling → Option FreeStep → Type 0
StepIsCut IsCut IsLate before outcome None = CutInStep IsCut before outcome
StepIsCut IsCut IsLate before outcome (Some step) =
    (before.left ≡ []) × (CutInStep IsCut before outcome ⊎ IsLate step outcome)

-- the outcome of a directive is kept only if it was done
abbrev pub IsDone : Ending → Type 0
IsDone (Done state) = Unit {0}
IsDone (Condition place soft_failure) = ⊥
IsDone (Directive place) = ⊥

-- a condition whose outcome could not be kept has no event
abbrev pub IsLateTest : Bool → ℕ → Recalling → Outcome Device → FreeStep → Outcome Recalling → Type 0
IsLateTest may_fail place before done step late =
    IsTrue may_fail × (late ≡ unkept place [] before.kept done.world)

-- a directive whose outcome could not be kept has the events of a failure
abbrev pub IsLateAct : Bool → ℕ → Recalling → Outcome Device → FreeStep → Outcome Recalling → Type 0
IsLateAct may_fail place before done step late =
    IsTrue may_fail × IsDone done.ending
    × (late ≡ unkept place (failed_told step) before.kept done.world)

-- ---- plays, where keeping may fail or may not

module _ (may_fail : Bool) where
  abbrev pub keeping_condition : Setting → TestKind → ℕ → ℕ → Play Recalling
  keeping_condition setting kind place component = record {
    comes = (recalled_condition setting kind place component).comes;
    IsCut = λ state world outcome. let play = condition_play setting kind place component in
        StepIsCut (play.IsCut state world.device)
        (IsLateTest may_fail place world (play.comes state world.device))
        world outcome (free_test kind place component state);
  }

  -- a directive whose outcome is recalled or kept
  abbrev pub keeping_directive : Setting → ActKind → ℕ → ℕ → Play Recalling
  keeping_directive setting kind place component = record {
    comes = (recalled_directive setting kind place component).comes;
    IsCut = λ state world outcome. let play = directive_play setting kind place component in
        StepIsCut (play.IsCut state world.device)
        (IsLateAct may_fail place world (play.comes state world.device))
        world outcome (free_act kind place component state);
  }

  -- a procedure whose outcomes are recalled or kept
  abbrev pub keeping_play : PlanTree → Setting → Play Recalling
  keeping_play plan setting =
      procedure Recalling (keeping_condition setting) (keeping_directive setting) plan.count plan

-- the start with these outcomes to recall, on these contents
abbrev pub first_recalling : List Bool → List (List ℕ) → Recalling
first_recalling outcomes contents = recalling outcomes [] (first_device contents)

-- the outcome on the device, without the recalled outcomes
abbrev pub on_device : Outcome Recalling → Outcome Device
on_device outcome = record {
  events = outcome.events;
  ending = outcome.ending;
  cause = outcome.cause;
  world = outcome.world.device;
}

pub record KeepingLaws : Type 0 where
  -- without a fault it comes to what the recalled play comes to
  pub recalled : (may_fail : Bool) (plan : PlanTree) (setting : Setting) (state : State)
      (world : Recalling)
      → (keeping_play may_fail plan setting).comes state world
      ≡ (recalled_play plan setting).comes state world
  -- whatever is recalled, the play is a run of the procedure, and what it told before a fault is a path
  pub runs : (may_fail : Bool) (plan : PlanTree) (setting : Setting) (world : Recalling)
      → let outcome = (keeping_play may_fail plan setting).comes first_state world in
      RunsPlan plan setting.identities first_state outcome.events outcome.ending
  pub paths : (may_fail : Bool) (plan : PlanTree) (setting : Setting) (world : Recalling)
      (outcome : Outcome Recalling)
      → (keeping_play may_fail plan setting).IsCut first_state world outcome
      → Path plan setting.identities outcome.events
  -- with nothing to recall it is the play on the device, and if keeping does not fail, so are its faults
  pub plain : (may_fail : Bool) (plan : PlanTree) (setting : Setting) (contents : List (List ℕ))
      → on_device
      ((keeping_play may_fail plan setting).comes first_state (first_recalling [] contents))
      ≡ played plan setting contents
  pub plain_cut : (plan : PlanTree) (setting : Setting) (contents : List (List ℕ))
      (outcome : Outcome Recalling)
      → (keeping_play false plan setting).IsCut first_state (first_recalling [] contents) outcome
      → IsFaulted plan setting contents (on_device outcome)
