-- What a sequence comes to in a world that decides each free step, and where a fault of the outside may cut it short
-- (draft-ietf-suit-manifest-25, section 6.4, and this project's own choices). The world is left open here, and so is
-- what conditions and directives do in it.
use Rattle.std.specs.Prelude.{◌≡◌, ℕ, ◌⊎◌, true, false, List, [], ◌∷◌, ◌++◌, Option, None}
use Rattle.suit_params.specs.declared.param.Param.{Param}
use Rattle.suit_commands.specs.declared.kinds.TestKind.{TestKind}
use Rattle.suit_commands.specs.declared.kinds.ActKind.{ActKind}
use Rattle.suit_commands.specs.Selections.{selected_by}
use Rattle.suit_commands.specs.Tree.{CommandTree, Test, Act, Index, Override, TryEach, RunSequence, SequenceTree, NoSteps, StepThen, BranchesTree, NoBranches, BranchThen, NullThen, PlanTree}
use Rattle.path_model.specs.declared.event.Event.{Event}
use Rattle.path_model.specs.declared.cause.Cause.{Cause}
use Rattle.path_model.specs.Behaviour.{State, Ending, Done, Condition, Directive}
use Rattle.path_model.specs.Directives.{set_events, after_override}
use Rattle.path_model.specs.Runs.{entry_state, after_run, after_branch}
use Rattle.path_model.specs.Path.{start_state}

module _ (World : Type 0) where
  -- the events, how they ended, why the directive failed if one did, and the world that is left
  pub record Outcome : Type 0 where
    pub events : List Event
    pub ending : Ending
    pub cause : Option Cause
    pub world : World

  -- A play: what a state and a world come to, and what they may come to if a fault cuts the play in one step.
  pub record Play : Type 1 where
    pub comes : State → World → Outcome
    pub IsCut : State → World → Outcome → Type 0

  -- ---- plays in order

  -- the outcome of what comes later, with these events before it
  abbrev pub behind : List Event → Outcome → Outcome
  behind events later =
      record {
        events = events ++ later.events;
        ending = later.ending;
        cause = later.cause;
        world = later.world;
      }

  -- the first play came to this; if it is done, the next one goes on from there
  abbrev pub going_on : (State → World → Outcome) → List Event → Option Cause → World → Ending
      → Outcome
  going_on next events cause world (Done state) = behind events (next state world)
  going_on next events cause world ending =
      record { events = events; ending = ending; cause = cause; world = world }

  -- the first play came to this, and the next one was cut
  abbrev pub NextIsCut : (State → World → Outcome → Type 0) → List Event → World → Ending → Outcome
      → Type 0
  NextIsCut IsCut events world (Done state) outcome =
      (later : Outcome) × IsCut state world later × (outcome ≡ behind events later)
  NextIsCut IsCut events world (Condition place soft_failure) outcome = ⊥
  NextIsCut IsCut events world (Directive place) outcome = ⊥

  -- the first play, and then the second from where the first is done
  abbrev pub in_turn : Play → Play → Play
  in_turn first second = record {
    comes = λ state world. let one = first.comes state world in
        going_on second.comes one.events one.cause one.world one.ending;
    IsCut = λ state world outcome. let one = first.comes state world in
        first.IsCut state world outcome
        ⊎ NextIsCut second.IsCut one.events one.world one.ending outcome;
  }

  -- a play that has these events and leaves another state
  abbrev pub becoming : (State → List Event) → (State → State) → Play
  becoming told next = record {
    comes =
        λ state world.
        record { events = told state; ending = Done (next state); cause = None; world = world };
    IsCut = λ state world outcome. ⊥;
  }

  -- no event, and the same state
  abbrev pub nothing : Play
  nothing = becoming (λ state. []) (λ state. state)

  -- the play at each of these components, in order
  abbrev pub each : (ℕ → Play) → List ℕ → Play
  each at [] = nothing
  each at (component ∷ components) = in_turn (at component) (each at components)

  -- the play at each selected component, in order
  abbrev pub each_selected : (ℕ → Play) → Play
  each_selected at = record {
    comes = λ state. (each at state.selection).comes state;
    IsCut = λ state. (each at state.selection).IsCut state;
  }

  -- ---- override parameters

  -- an override at one component
  abbrev pub overriding : List Param → ℕ → Play
  overriding list component =
      becoming (λ state. set_events component list) (λ state. after_override state component list)

  -- ---- inner sequences

  -- run sequence
  abbrev pub running_inner : Play → ℕ → Play
  running_inner inner component = record {
    comes = λ state world. let end = inner.comes (entry_state state component false) world in
        record { events = end.events; ending = after_run state end.ending; cause = end.cause; world = end.world };
    IsCut = λ state world. inner.IsCut (entry_state state component false) world;
  }

  -- a branch came to this; if it failed softly, the other branches are tried from the state at its entry
  abbrev pub after_trying : State → (State → World → Outcome) → List Event → Option Cause → World
      → Ending → Outcome
  after_trying state others events cause world (Condition place true) =
      behind events (others state world)
  after_trying state others events cause world ending =
      record { events = events; ending = after_branch state ending; cause = cause; world = world }

  -- a branch came to this, and another one was cut
  abbrev pub OtherIsCut : State → (State → World → Outcome → Type 0) → List Event → World → Ending
      → Outcome → Type 0
  OtherIsCut state IsCut events world (Condition place true) outcome =
      (later : Outcome) × IsCut state world later × (outcome ≡ behind events later)
  OtherIsCut state IsCut events world (Condition place false) outcome = ⊥
  OtherIsCut state IsCut events world (Done inner) outcome = ⊥
  OtherIsCut state IsCut events world (Directive place) outcome = ⊥

  -- a branch, and if it fails softly the other branches after it
  abbrev pub trying_branch : Play → Play → ℕ → Play
  trying_branch inner others component = record {
    comes = λ state world. let one = inner.comes (entry_state state component true) world in
        after_trying state others.comes one.events one.cause one.world one.ending;
    IsCut = λ state world outcome. let one = inner.comes (entry_state state component true) world in
        inner.IsCut (entry_state state component true) world outcome
        ⊎ OtherIsCut state others.IsCut one.events one.world one.ending outcome;
  }

  -- no branch completed
  abbrev pub exhausted : ℕ → Play
  exhausted place = record {
    comes = λ state world. record {
      events = [];
      ending = Condition place state.soft_failure;
      cause = None;
      world = world;
    };
    IsCut = λ state world outcome. ⊥;
  }

  -- ---- whole sequences, by the plays of conditions and directives

  module _ (tests : TestKind → ℕ → ℕ → Play) (acts : ActKind → ℕ → ℕ → Play) (count : ℕ) where
    abbrev mutual
      pub sequence_play : SequenceTree → Play
      sequence_play NoSteps = nothing
      sequence_play (StepThen place command rest) =
          in_turn (command_play command place) (sequence_play rest)

      -- a command, at the selected components
      pub command_play : CommandTree → ℕ → Play
      command_play (Test kind report) place = each_selected (tests kind place)
      command_play (Act kind report) place = each_selected (acts kind place)
      command_play (Index selection) place =
          becoming (λ state. []) (λ state. record state { selection = selected_by selection count })
      command_play (Override list) place = each_selected (overriding list)
      command_play (TryEach branches) place = each_selected (branches_play branches place)
      command_play (RunSequence inner) place = each_selected (running_inner (sequence_play inner))

      -- the branches of a try each, in order
      pub branches_play : BranchesTree → ℕ → ℕ → Play
      branches_play NoBranches place component = exhausted place
      branches_play (NullThen rest) place component = nothing
      branches_play (BranchThen inner rest) place component =
          trying_branch (sequence_play inner) (branches_play rest place component) component

    -- the shared sequence or a member, from the state in which it starts
    abbrev pub starting : SequenceTree → Play
    starting sequence = record {
      comes = λ state. (sequence_play sequence).comes (start_state state);
      IsCut = λ state. (sequence_play sequence).IsCut (start_state state);
    }

    -- the shared sequence before each of the three members
    abbrev pub procedure : PlanTree → Play
    procedure plan =
        in_turn (starting plan.shared) (in_turn (starting plan.first)
        (in_turn (starting plan.shared) (in_turn (starting plan.second)
        (in_turn (starting plan.shared) (starting plan.third)))))
