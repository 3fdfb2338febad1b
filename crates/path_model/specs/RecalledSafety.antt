-- The recalled steps of a play, and when its launches have their digests (this project's own choices).
use Rattle.std.specs.Prelude.{◌≡◌, ◌⊎◌, ℕ, Bool, true, List, [], ◌∷◌, ◌++◌, Option, Some, None}
use Rattle.std.specs.List.{AllByRecursion}
use Rattle.suit_params.specs.declared.digest.Digest.{Digest}
use Rattle.suit_commands.specs.declared.kinds.TestKind.{TestKind}
use Rattle.suit_commands.specs.declared.kinds.ActKind.{ActKind}
use Rattle.suit_commands.specs.Tree.{PlanTree}
use Rattle.path_model.specs.declared.event.Event.{Event}
use Rattle.path_model.specs.Behaviour.{Directive}
use Rattle.path_model.specs.OneRun.{FreeStep, MatchStep, ContentStep, WriteStep, SwapStep, InvokeStep}
use Rattle.path_model.specs.Path.{AreIdentities, first_state}
use Rattle.path_model.specs.Safe.{Safe, HasMatched}
use Rattle.path_model.specs.Settings.{Setting}
use Rattle.path_model.specs.Plays.{Outcome, Play, procedure}
use Rattle.path_model.specs.DevicePlays.{content_at, first_device, is_image}
use Rattle.path_model.specs.PlayLaws.{HasItsDigest}
use Rattle.path_model.specs.RecalledPlays.{Recalling, free_test, free_act, recalled_condition, recalled_directive}
use Rattle.path_model.specs.KeepingPlays.{first_recalling, keeping_play}

-- ---- the play up to the first free step that is not recalled

-- the recalled play, the events of its recalled steps, and the first free step after them, once it is reached
pub record Remembering : Type 0 where
  pub play : Recalling
  pub told : List Event
  pub next : Option FreeStep

abbrev pub remembering : Recalling → List Event → Option FreeStep → Remembering
remembering play told next = record { play = play; told = told; next = next }

-- the step came to this, after these events of recalled steps
abbrev pub remembered : Remembering → List Event → Outcome Recalling → Outcome Remembering
remembered before told outcome = record {
  events = outcome.events;
  ending = outcome.ending;
  cause = outcome.cause;
  world = remembering outcome.world told before.next;
}

-- the play ends before a free step that is not recalled
abbrev pub reaching : ℕ → Remembering → FreeStep → Outcome Remembering
reaching place before step = record {
  events = [];
  ending = Directive place;
  cause = None;
  world = remembering before.play before.told (Some step);
}

abbrev pub free_remembered : ℕ → Remembering → Outcome Recalling → FreeStep → List Bool
    → Outcome Remembering
free_remembered place before outcome step [] = reaching place before step
free_remembered place before outcome step (passed ∷ left) =
    remembered before (before.told ++ outcome.events) outcome

abbrev pub step_remembered : ℕ → Remembering → Outcome Recalling → Option FreeStep
    → Outcome Remembering
step_remembered place before outcome None = remembered before before.told outcome
step_remembered place before outcome (Some step) =
    free_remembered place before outcome step before.play.left

-- no fault comes here, since nothing is done on the device
abbrev pub remembering_condition : Setting → TestKind → ℕ → ℕ → Play Remembering
remembering_condition setting kind place component = record {
  comes = λ state world.
      step_remembered place world
      ((recalled_condition setting kind place component).comes state world.play)
      (free_test kind place component state);
  IsCut = λ state world outcome. ⊥;
}

abbrev pub remembering_directive : Setting → ActKind → ℕ → ℕ → Play Remembering
remembering_directive setting kind place component = record {
  comes = λ state world.
      step_remembered place world
      ((recalled_directive setting kind place component).comes state world.play)
      (free_act kind place component state);
  IsCut = λ state world outcome. ⊥;
}

abbrev pub remembering_play : PlanTree → Setting → Play Remembering
remembering_play plan setting =
    procedure Remembering (remembering_condition setting) (remembering_directive setting)
    plan.count plan

-- the play of these outcomes on these contents, as far as the outcomes go
abbrev pub recalled_part : PlanTree → Setting → List Bool → List (List ℕ) → Outcome Remembering
recalled_part plan setting outcomes contents =
    (remembering_play plan setting).comes first_state
    (remembering (first_recalling outcomes contents) [] None)

-- ---- contents that are as they were matched

-- the free step writes this component
abbrev pub StepWrites : FreeStep → ℕ → Type 0
StepWrites (MatchStep at place digest size) component = ⊥
StepWrites (ContentStep at place) component = ⊥
StepWrites (WriteStep at place) component = component ≡ at
StepWrites (SwapStep at source place) component = (component ≡ at) ⊎ (component ≡ source)
StepWrites (InvokeStep at place digest size) component = ⊥

-- the next free step, if there is one, writes this component
abbrev pub NextWrites : Option FreeStep → ℕ → Type 0
NextWrites None component = ⊥
NextWrites (Some step) component = StepWrites step component

-- Each component whose match stands after these events has a content of that digest and size, unless this step writes
-- it.
abbrev pub AreAsMatched : List Event → Option FreeStep → List (List ℕ) → Type 0
AreAsMatched told next contents =
    (component : ℕ) (digest : Digest) (size : Option ℕ)
    → HasMatched told component digest size → (NextWrites next component → ⊥)
    → is_image digest size (content_at (first_device contents) component) ≡ true

-- the contents from which the play goes on are as its recalled steps matched them
abbrev pub GoesOnAsMatched : PlanTree → Setting → List Bool → List (List ℕ) → Type 0
GoesOnAsMatched plan setting outcomes contents =
    let part = recalled_part plan setting outcomes contents in
    AreAsMatched part.world.told part.world.next contents

-- the laws of what a recalled play launches
pub record RecalledSafety : Type 0 where
  -- the whole play begins with the recalled part
  pub begins : (may_fail : Bool) (plan : PlanTree) (setting : Setting) (outcomes : List Bool)
      (contents : List (List ℕ))
      → let outcome =
      (keeping_play may_fail plan setting).comes first_state (first_recalling outcomes contents) in
      (rest : List Event)
      × (outcome.events ≡ (recalled_part plan setting outcomes contents).events ++ rest)
  -- if there is nothing to recall, nothing is asked of the contents
  pub fresh : (plan : PlanTree) (setting : Setting) (contents : List (List ℕ))
      → GoesOnAsMatched plan setting [] contents
  -- each launch of a safe procedure has the digest that was in force, and the size if one was
  pub safe : (may_fail : Bool) (plan : PlanTree) (setting : Setting) (outcomes : List Bool)
      (contents : List (List ℕ))
      → Safe plan → AreIdentities plan setting.identities
      → GoesOnAsMatched plan setting outcomes contents
      → let outcome =
      (keeping_play may_fail plan setting).comes first_state (first_recalling outcomes contents) in
      AllByRecursion HasItsDigest outcome.world.device.launches
  -- the same holds if a fault cut the play short
  pub faulted : (may_fail : Bool) (plan : PlanTree) (setting : Setting) (outcomes : List Bool)
      (contents : List (List ℕ)) (outcome : Outcome Recalling)
      → (keeping_play may_fail plan setting).IsCut first_state (first_recalling outcomes contents)
      outcome
      → Safe plan → AreIdentities plan setting.identities
      → GoesOnAsMatched plan setting outcomes contents
      → AllByRecursion HasItsDigest outcome.world.device.launches
