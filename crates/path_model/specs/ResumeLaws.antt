-- Laws of procedures that go on after a power loss.
use Rattle.std.specs.Prelude.{◌≡◌, ◌≤◌, ◌⊎◌, ℕ, Bool, List, [], ◌++◌, length, Some}
use Rattle.suit_commands.specs.declared.kinds.TestKind.{TestKind}
use Rattle.suit_commands.specs.declared.kinds.ActKind.{ActKind}
use Rattle.suit_commands.specs.declared.kinds.ActKind.TheVariants as acts
use Rattle.suit_commands.specs.Tree.{CommandTree, PlanTree}
use Rattle.suit_commands.specs.Numbers.{work_number}
use Rattle.suit_commands.specs.Targets.{InSome}
use Rattle.suit_commands.specs.Touches.{HasAct, CommandHasAct}
use Rattle.path_model.specs.Behaviour.{State, Ending, Done, Condition, Directive}
use Rattle.path_model.specs.Path.{RunsPlan, Path, first_state}
use Rattle.path_model.specs.OneRun.{FreeStep, WriteStep}
use Rattle.path_model.specs.Settings.{Setting}
use Rattle.path_model.specs.Plays.{Outcome, Play}
use Rattle.path_model.specs.DevicePlays.{Device, with_content, first_device, played}
use Rattle.path_model.specs.RecalledPlays.{Recalling, recalling, free_test, free_act, LossLeaves, recalled_condition, recalled_directive, recalled_command, recalled_play}

-- ---- one play

-- the play did not end in a failed directive
abbrev pub EndsUnfailed : Ending → Type 0
EndsUnfailed (Done state) = Unit {0}
EndsUnfailed (Condition place soft_failure) = Unit {0}
EndsUnfailed (Directive place) = ⊥

-- the same outcome, with these outcomes left to recall and this device
abbrev pub with_world : Outcome Recalling → List Bool → Device → Outcome Recalling
with_world outcome left device = record {
  events = outcome.events;
  ending = outcome.ending;
  cause = outcome.cause;
  world = recalling left outcome.world.kept device;
}

-- with all its own outcomes to recall, the play comes to the same, and leaves any device as it is
pub record IsRecalled (play : Play Recalling) (state : State) (world : Recalling) : Type 0 where
  pub own : List Bool
  pub kept : (play.comes state world).world.kept ≡ world.kept ++ own
  pub same : (rest : List Bool) (device : Device)
      → play.comes state (recalling (own ++ rest) world.kept device)
      ≡ with_world (play.comes state world) rest device

-- on the device that a loss left, and with its own outcomes up to there to recall, the play comes to the same
pub record IsResumed (play : Play Recalling) (state : State) (world : Recalling)
    (lost : Outcome Recalling) : Type 0 where
  pub own : List Bool
  pub kept : lost.world.kept ≡ world.kept ++ own
  pub same : play.comes state (recalling own world.kept lost.world.device)
      ≡ play.comes state world

-- the play comes to the same once all is recalled, and after a loss
pub record Resumes (play : Play Recalling) : Type 0 where
  pub whole : (state : State) (world : Recalling)
      → EndsUnfailed (play.comes state world).ending → IsRecalled play state world
  pub lost : (state : State) (world : Recalling) (lost : Outcome Recalling)
      → EndsUnfailed (play.comes state world).ending → play.IsCut state world lost
      → IsResumed play state world lost

-- ---- whole procedures

-- no sequence of the procedure has an invoke
abbrev pub InvokesNothing : PlanTree → Type 0
InvokesNothing plan = InSome plan (HasAct acts.Invoke) → ⊥

-- what the procedure comes to on this device, with these outcomes to recall
abbrev pub recalled_from : PlanTree → Setting → List Bool → Device → Outcome Recalling
recalled_from plan setting kept device =
    (recalled_play plan setting).comes first_state (recalling kept [] device)

-- run with these outcomes on this device, the procedure loses its power in a free step or after the last one, and that
-- leaves the outcomes and the device of now
abbrev pub LosesPower : PlanTree → Setting → List Bool → Device → List Bool → Device → Type 0
LosesPower plan setting kept device kept_now device_now =
    ((lost : Outcome Recalling)
    × (recalled_play plan setting).IsCut first_state (recalling kept [] device) lost
    × (kept_now ≡ lost.world.kept) × (device_now ≡ lost.world.device))
    ⊎ ((kept_now ≡ (recalled_from plan setting kept device).world.kept)
    × (device_now ≡ (recalled_from plan setting kept device).world.device))

-- the power is lost any number of times, and each time the procedure is run again with the outcomes so far
pub data Lost (plan : PlanTree) (setting : Setting) (contents : List (List ℕ)) : List Bool → Device → Type 0 where
  Never : Lost plan setting contents [] (first_device contents)
  Again : (kept : List Bool) (device : Device) (kept_now : List Bool) (device_now : Device)
      → Lost plan setting contents kept device
      → LosesPower plan setting kept device kept_now device_now
      → Lost plan setting contents kept_now device_now

-- the outcome is that of the play on these contents
pub record ComesToPlayed (plan : PlanTree) (setting : Setting) (contents : List (List ℕ))
    (outcome : Outcome Recalling) : Type 0 where
  pub events : outcome.events ≡ (played plan setting contents).events
  pub ending : outcome.ending ≡ (played plan setting contents).ending
  pub cause : outcome.cause ≡ (played plan setting contents).cause
  pub device : outcome.world.device ≡ (played plan setting contents).world

-- a play that has recalled all may lose its power here, and that may leave this device
abbrev pub MayLose : Play Recalling → State → List Bool → Device → Device → Type 0
MayLose play state kept device left =
    (lost : Outcome Recalling) × play.IsCut state (recalling [] kept device) lost
    × (lost.world ≡ recalling [] kept left)

pub record ResumeLaws : Type 0 where
  -- power may be lost in each free step, with whatever that leaves of what the step writes
  pub conditions_lost : (setting : Setting) (kind : TestKind) (place component : ℕ) (state : State)
      (step : FreeStep) (kept : List Bool) (device left : Device)
      → free_test kind place component state ≡ Some step → LossLeaves step device left
      → MayLose (recalled_condition setting kind place component) state kept device left
  pub directives_lost : (setting : Setting) (kind : ActKind) (place component : ℕ) (state : State)
      (step : FreeStep) (kept : List Bool) (device left : Device)
      → free_act kind place component state ≡ Some step → LossLeaves step device left
      → MayLose (recalled_directive setting kind place component) state kept device left
  -- in a write, a fetch or a copy, a loss may leave any content of its component
  pub writes_lost : (setting : Setting) (kind : ActKind) (place component : ℕ) (state : State)
      (kept : List Bool) (device : Device) (bytes : List ℕ)
      → free_act kind place component state ≡ Some (WriteStep component place)
      → MayLose (recalled_directive setting kind place component) state kept device
      (with_content device component bytes)
  -- whatever is recalled, the play is a run of the procedure, and what it told before a loss is a path
  pub runs : (plan : PlanTree) (setting : Setting) (kept : List Bool) (device : Device) → let outcome = recalled_from plan setting kept device in
      RunsPlan plan setting.identities first_state outcome.events outcome.ending
  pub paths : (plan : PlanTree) (setting : Setting) (kept : List Bool) (device : Device)
      (lost : Outcome Recalling)
      → (recalled_play plan setting).IsCut first_state (recalling kept [] device) lost
      → Path plan setting.identities lost.events
  -- the outcomes that are kept are at most as many as the work of the procedure
  pub bounded : (plan : PlanTree) (setting : Setting) (kept : List Bool) (device : Device)
      (kept_now : List Bool) (device_now : Device)
      → LosesPower plan setting kept device kept_now device_now
      → length kept_now ≤ work_number plan
  -- each command but an invoke resumes, wherever it is, and so does each procedure without an invoke
  pub commands : (setting : Setting) (count : ℕ) (command : CommandTree) (place : ℕ)
      → (CommandHasAct acts.Invoke command → ⊥)
      → Resumes (recalled_command setting count command place)
  pub procedures : (plan : PlanTree) (setting : Setting) → InvokesNothing plan
      → Resumes (recalled_play plan setting)
  -- with nothing to recall, a procedure is played as on the device
  pub fresh : (plan : PlanTree) (setting : Setting) (contents : List (List ℕ))
      → ComesToPlayed plan setting contents (recalled_from plan setting [] (first_device contents))
  -- a procedure comes to the same however often it lost its power before
  pub resumed : (plan : PlanTree) (setting : Setting) (contents : List (List ℕ))
      (kept : List Bool) (device : Device)
      → InvokesNothing plan → EndsUnfailed (played plan setting contents).ending
      → Lost plan setting contents kept device
      → ComesToPlayed plan setting contents (recalled_from plan setting kept device)
