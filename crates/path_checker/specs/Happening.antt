-- The events that recorded ones stand for.
use Rattle.std.specs.Prelude.{ℕ, false, List, [], ◌∷◌, ◌++◌}
use Rattle.std.specs.Option.{option_copied}
use Rattle.path_model.specs.declared.event.Event.{Event}
use Rattle.path_model.specs.declared.event.Event.TheVariants as events
use Rattle.path_model.specs.Directives.{set_events}
use Rattle.path_checker.specs.declared.judge_plan.happened.Happened.{Happened}
use Rattle.path_checker.specs.declared.judge_plan.happened.Happened.TheVariants as lent
use Rattle.path_checker.specs.declared.judge_plan.happened.Ended.{Ended}
use Rattle.path_checker.specs.declared.judge_plan.happened.Ended.TheVariants as ends
use Rattle.suit_params.specs.declared.param.Param.{Param}
use Rattle.suit_commands.specs.Tree.{CommandTree, Override, SequenceTree, NoSteps, StepThen}
use Rattle.suit_commands.specs.View.{sequence_tree}
use Rattle.path_checker.specs.Selecting.{components_of}
use Rattle.path_checker.specs.Matches.{match_of, match_event, covered_event}
use Rattle.path_checker.specs.declared.judge_plan.telling.Told.{Told}
use Rattle.path_checker.specs.declared.judge_plan.telling.Told.TheVariants as told

abbrev pub event_of : Happened → Event
event_of (lent.Tried component kind passed) = events.Tried component kind passed
event_of (lent.Matched component own) = match_event component (match_of own.now)
event_of (lent.Missed component) = events.Missed component
event_of (lent.Wrote component) = events.Wrote component
event_of (lent.Covered component own) = covered_event component (match_of own.now)
event_of (lent.Uncovered component digest size) =
    events.Invoked component (option_copied digest) size false
event_of (lent.Failed place) = events.Failed place

-- the events of an override at some components
abbrev pub sets_at : List ℕ → List Param → List Event
sets_at [] list = []
sets_at (component ∷ components) list = set_events component list ++ sets_at components list

abbrev pub command_sets : CommandTree → List ℕ → List Event
command_sets (Override list) components = sets_at components list
command_sets _ components = []

-- the events of several overrides in a row, at the same components
abbrev pub sequence_sets : SequenceTree → List ℕ → List Event
sequence_sets NoSteps components = []
sequence_sets (StepThen place command rest) components =
    command_sets command components ++ sequence_sets rest components

-- the events that are told together
abbrev pub told_by : Told → List Event
told_by told.Nothing = []
told_by (told.One happened) = event_of happened ∷ []
told_by (told.Swapped component source) = events.Wrote component ∷ events.Wrote source ∷ []
told_by (told.Sets components list) = sets_at (components_of components) list.now
told_by (told.Several components steps) =
    sequence_sets (sequence_tree steps.now) (components_of components)

-- the events of a log, in order
abbrev pub log_told : List (Told × Unit {0}) → List Event
log_told [] = []
log_told (item ∷ rest) = told_by item.0 ++ log_told rest

-- the events up to a failed condition at a place
abbrev pub after_end : List Event → Ended → ℕ → List Event
after_end past (ends.Tried component kind) place =
    past ++ events.Tried component kind false ∷ events.Failed place ∷ []
after_end past (ends.Missed component) place =
    past ++ events.Missed component ∷ events.Failed place ∷ []
after_end past ends.Exhausted place = past
