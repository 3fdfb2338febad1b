-- Several overrides in a row.
use Rattle.std.specs.Prelude.{◌++◌}
use Rattle.suit_commands.specs.Tree.{CommandTree, Override, SequenceTree, NoSteps, StepThen}
use Rattle.path_model.specs.Behaviour.{State}
use Rattle.path_checker.specs.Exploring.{Kept}
use Rattle.path_checker.specs.Happening.{sequence_sets}
use Rattle.path_checker.specs.Steps.{overridden_at, soft_at}

abbrev pub IsOverride : CommandTree → Type 0
IsOverride (Override list) = Unit {0}
IsOverride _ = ⊥

abbrev pub AreOverrides : SequenceTree → Type 0
AreOverrides NoSteps = Unit {0}
AreOverrides (StepThen place command rest) = IsOverride command × AreOverrides rest

abbrev pub after_command : State → CommandTree → State
after_command state (Override list) = record {
  parameters = overridden_at state.parameters state.selection list;
  selection = state.selection;
  soft_failure = soft_at state.soft_failure state.selection list;
}
after_command state _ = state

-- the state after overrides at its selected components, in order
abbrev pub after_overrides : State → SequenceTree → State
after_overrides state NoSteps = state
after_overrides state (StepThen place command rest) =
    after_overrides (after_command state command) rest

abbrev pub overridden_by : Kept → SequenceTree → Kept
overridden_by k sequence = record {
  facts = k.facts;
  events = k.events ++ sequence_sets sequence k.state.selection;
  state = after_overrides k.state sequence;
}
