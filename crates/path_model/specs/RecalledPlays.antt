-- Plays whose first free steps end as a list says, and what a power loss in them leaves (this project's own choices).
-- After a loss, the play is run again with the outcomes that it kept, and does not do those steps again.
use Rattle.std.specs.Prelude.{◌≡◌, ℕ, Bool, true, false, List, [], ◌∷◌, ◌++◌, Option, Some, None, option_map}
use Rattle.suit_params.specs.declared.param.ParamKey.TheVariants as keys
use Rattle.suit_params.specs.InForce.{in_force, number_of, bytes_of, digest_in, size_in}
use Rattle.suit_commands.specs.declared.kinds.TestKind.{TestKind}
use Rattle.suit_commands.specs.declared.kinds.TestKind.TheVariants as tests
use Rattle.suit_commands.specs.declared.kinds.ActKind.{ActKind}
use Rattle.suit_commands.specs.declared.kinds.ActKind.TheVariants as acts
use Rattle.suit_commands.specs.Tree.{CommandTree, PlanTree}
use Rattle.path_model.specs.Behaviour.{State, Ending, Done, Condition, Directive}
use Rattle.path_model.specs.OneRun.{FreeStep, MatchStep, ContentStep, WriteStep, SwapStep, InvokeStep, passed_told, failed_told}
use Rattle.path_model.specs.Settings.{Setting}
use Rattle.path_model.specs.Plays.{Outcome, Play, command_play, procedure}
use Rattle.path_model.specs.DevicePlays.{Device, with_content, condition_play, directive_play}

-- the outcomes that are left to recall, those that were recalled or kept so far, and the device
pub record Recalling : Type 0 where
  pub left : List Bool
  pub kept : List Bool
  pub device : Device

abbrev pub recalling : List Bool → List Bool → Device → Recalling
recalling left kept device = record { left = left; kept = kept; device = device }

-- ---- which free step a command is at a place and a component; it is none if its parameter is not in force, or if it
-- reads no content

-- the free step of a condition, if it is one
abbrev pub free_test : TestKind → ℕ → ℕ → State → Option FreeStep
free_test tests.ImageMatch place component state =
    option_map (λ digest. MatchStep component place digest (size_in state.parameters component))
    (digest_in state.parameters component)
free_test tests.CheckContent place component state =
    option_map (λ content. ContentStep component place)
    (bytes_of (in_force state.parameters component keys.Content))
free_test _ place component state = None

-- the free step of a directive, if it is one
abbrev pub free_act : ActKind → ℕ → ℕ → State → Option FreeStep
free_act acts.Write place component state =
    option_map (λ content. WriteStep component place)
    (bytes_of (in_force state.parameters component keys.Content))
free_act acts.Fetch place component state =
    option_map (λ uri. WriteStep component place)
    (bytes_of (in_force state.parameters component keys.Uri))
free_act acts.Copy place component state =
    option_map (λ source. WriteStep component place)
    (number_of (in_force state.parameters component keys.Source))
free_act acts.Swap place component state =
    option_map (λ source. SwapStep component source place)
    (number_of (in_force state.parameters component keys.Source))
free_act acts.Invoke place component state =
    Some (InvokeStep component place (digest_in state.parameters component)
    (size_in state.parameters component))

-- ---- what a step comes to

-- a recalled step has the events that the list says, touches no content and launches nothing; a directive counts as
-- done
abbrev pub recalled_test : ℕ → FreeStep → State → Bool → Recalling → Outcome Recalling
recalled_test place step state true after =
    record { events = passed_told step; ending = Done state; cause = None; world = after }
recalled_test place step state false after = record {
  events = failed_told step;
  ending = Condition place state.soft_failure;
  cause = None;
  world = after;
}

abbrev pub recalled_act : ℕ → FreeStep → State → Bool → Recalling → Outcome Recalling
recalled_act place step state outcome after =
    record { events = passed_told step; ending = Done state; cause = None; world = after }

-- the outcome of a step that is done on the device is kept, unless a directive failed
abbrev pub kept_after : List Bool → Ending → List Bool
kept_after kept (Done state) = kept ++ true ∷ []
kept_after kept (Condition place soft_failure) = kept ++ false ∷ []
kept_after kept (Directive place) = kept

-- an outcome on the device, with the outcomes that are left and kept
abbrev pub as_recalling : List Bool → List Bool → Outcome Device → Outcome Recalling
as_recalling left kept outcome = record {
  events = outcome.events;
  ending = outcome.ending;
  cause = outcome.cause;
  world = recalling left kept outcome.world;
}

-- a free step is recalled if an outcome is left to recall, and is done on the device otherwise
abbrev pub free_comes : (FreeStep → Bool → Recalling → Outcome Recalling) → Outcome Device → FreeStep
    → List Bool → List Bool → Device → Outcome Recalling
free_comes recalled done step [] kept device =
    as_recalling [] (kept_after kept done.ending) done
free_comes recalled done step (outcome ∷ left) kept device =
    recalled step outcome (recalling left (kept ++ outcome ∷ []) device)

-- a step that may be free
abbrev pub step_comes : (FreeStep → Bool → Recalling → Outcome Recalling) → Outcome Device → Recalling
    → Option FreeStep → Outcome Recalling
step_comes recalled done world None = as_recalling world.left world.kept done
step_comes recalled done world (Some step) =
    free_comes recalled done step world.left world.kept world.device

-- ---- a power loss in a free step

-- what the loss leaves of the device: any content of what the step writes, and all else as it was; a swap is as before
-- it, since one that began is completed before anything else; a fetch that was lost asks again, and counts once
abbrev pub LossLeaves : FreeStep → Device → Device → Type 0
LossLeaves (MatchStep component place digest size) before after = after ≡ before
LossLeaves (ContentStep component place) before after = after ≡ before
LossLeaves (WriteStep component place) before after =
    (bytes : List ℕ) × (after ≡ with_content before component bytes)
LossLeaves (SwapStep component source place) before after = after ≡ before
LossLeaves (InvokeStep component place digest size) before after =
    after.contents ≡ before.contents

-- all outcomes were recalled; the step has no event, and each outcome that was kept stays
abbrev pub StepIsLost : Recalling → Outcome Recalling → Option FreeStep → Type 0
StepIsLost before lost None = ⊥
StepIsLost before lost (Some step) =
    (before.left ≡ []) × (lost.events ≡ []) × (lost.world.left ≡ [])
    × (lost.world.kept ≡ before.kept)
    × LossLeaves step before.device lost.world.device

-- ---- plays

-- a condition that may be recalled
abbrev pub recalled_condition : Setting → TestKind → ℕ → ℕ → Play Recalling
recalled_condition setting kind place component = record {
  comes = λ state world.
      step_comes (λ step. recalled_test place step state)
      ((condition_play setting kind place component).comes state world.device) world
      (free_test kind place component state);
  IsCut = λ state world lost. StepIsLost world lost (free_test kind place component state);
}

-- a directive that may be recalled
abbrev pub recalled_directive : Setting → ActKind → ℕ → ℕ → Play Recalling
recalled_directive setting kind place component = record {
  comes = λ state world.
      step_comes (λ step. recalled_act place step state)
      ((directive_play setting kind place component).comes state world.device) world
      (free_act kind place component state);
  IsCut = λ state world lost. StepIsLost world lost (free_act kind place component state);
}

-- one command, with this number of components
abbrev pub recalled_command : Setting → ℕ → CommandTree → ℕ → Play Recalling
recalled_command setting =
    command_play Recalling (recalled_condition setting) (recalled_directive setting)

-- a procedure whose free steps may be recalled
abbrev pub recalled_play : PlanTree → Setting → Play Recalling
recalled_play plan setting =
    procedure Recalling (recalled_condition setting) (recalled_directive setting) plan.count plan
