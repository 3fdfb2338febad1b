-- What single steps, and commands at one component, do to a state.
use Rattle.std.specs.Prelude.{ℕ, Bool, List, [], ◌∷◌, ◌++◌}
use Rattle.suit_params.specs.declared.param.Param.{Param}
use Rattle.suit_params.specs.InForce.{Parameters, overridden}
use Rattle.suit_commands.specs.declared.command.Step.{Step}
use Rattle.suit_commands.specs.declared.kinds.ActKind.{ActKind}
use Rattle.suit_commands.specs.declared.kinds.TestKind.{TestKind}
use Rattle.suit_commands.specs.Tree.{CommandTree, Test, Act, Index, Override, TryEach, RunSequence, SequenceTree, BranchesTree}
use Rattle.suit_commands.specs.View.{command_tree}
use Rattle.path_model.specs.declared.event.Event.{Event}
use Rattle.path_model.specs.Conditions.{Tests}
use Rattle.path_model.specs.Directives.{Acts, Overrides, soft_after}
use Rattle.path_model.specs.Behaviour.{Each}
use Rattle.path_model.specs.Runs.{Runs, Does, RunsInner, Tries}
use Rattle.path_checker.specs.declared.judge_plan.facts.Knowledge.{Knowledge}
use Rattle.path_checker.specs.declared.judge_plan.happened.Ended.{Ended}
use Rattle.path_checker.specs.Happening.{after_end}
use Rattle.path_checker.specs.Exploring.{Course, Kept, Stopped}

-- ---- states

abbrev pub with_events : Kept → List Event → Kept
with_events k events = record { facts = k.facts; events = k.events ++ events; state = k.state }

abbrev pub knowing : Kept → List Knowledge → Kept
knowing k facts = record { facts = facts; events = k.events; state = k.state }

abbrev pub stopped_by : Kept → List Event → ℕ → Stopped
stopped_by k events place = record {
  facts = k.facts;
  events = k.events ++ events;
  place = place;
  soft_failure = k.state.soft_failure;
}

abbrev pub stopped_after : Kept → Ended → ℕ → Stopped
stopped_after k ended place = record {
  facts = k.facts;
  events = after_end k.events ended place;
  place = place;
  soft_failure = k.state.soft_failure;
}

-- the soft failure after an override at one component
abbrev pub soft_after_all : Bool → List Param → Bool
soft_after_all soft_failure [] = soft_failure
soft_after_all soft_failure (param ∷ list) = soft_after_all (soft_after soft_failure param) list

-- the parameters in force after an override at some components
abbrev pub overridden_at : Parameters → List ℕ → List Param → Parameters
overridden_at parameters [] list = parameters
overridden_at parameters (component ∷ components) list =
    overridden_at (overridden parameters component list) components list

abbrev pub soft_at : Bool → List ℕ → List Param → Bool
soft_at soft_failure [] list = soft_failure
soft_at soft_failure (component ∷ components) list =
    soft_at (soft_after_all soft_failure list) components list

abbrev pub with_selection : Kept → List ℕ → Kept
with_selection k selection =
    record { facts = k.facts; events = k.events; state = record k.state { selection = selection } }

-- ---- what conditions, directives, sequences and commands may do

abbrev pub TestsAt : TestKind → ℕ → ℕ → Course
TestsAt kind place component identities = Tests kind identities place component

abbrev pub ActsAt : ActKind → ℕ → ℕ → Course
ActsAt kind place component identities = Acts kind place component

abbrev pub RunsAll : SequenceTree → ℕ → Course
RunsAll sequence count identities = Runs sequence identities count

-- a run sequence at one component
abbrev pub RunsInnerAt : SequenceTree → ℕ → ℕ → Course
RunsInnerAt inner count component identities = RunsInner (Runs inner identities count) component

-- the branches of a try each at one component
abbrev pub TriesIn : BranchesTree → ℕ → ℕ → ℕ → Course
TriesIn branches count place component identities = Tries branches identities count place component

-- a command at one component; set component index does nothing there
abbrev pub At : CommandTree → ℕ → ℕ → ℕ → Course
At (Test kind report) count place component identities = Tests kind identities place component
At (Act kind report) count place component identities = Acts kind place component
At (Index selection) count place component identities = Overrides [] component
At (Override list) count place component identities = Overrides list component
At (TryEach branches) count place component identities =
    Tries branches identities count place component
At (RunSequence inner) count place component identities =
    RunsInner (Runs inner identities count) component

-- a command at each of some components, in order
abbrev pub AtEach : CommandTree → ℕ → ℕ → List ℕ → Course
AtEach command count place components identities =
    Each (λ component. At command count place component identities) components

-- a command of a sequence; the same at one component, and at each of some
abbrev pub DoesStep : Step → ℕ → Course
DoesStep step count identities = Does (command_tree step.command) identities count step.place

abbrev pub StepAt : Step → ℕ → ℕ → Course
StepAt step count component = At (command_tree step.command) count step.place component

abbrev pub StepAtEach : Step → ℕ → List ℕ → Course
StepAtEach step count components = AtEach (command_tree step.command) count step.place components
