-- How command sequences may run, whichever steps fail (draft-ietf-suit-manifest-25, section 6.4).
use Rattle.std.specs.Prelude.{◌≡◌, ℕ, ◌⊎◌, Bool, true, false, List, [], ◌∷◌, ◌++◌}
use Rattle.path_model.specs.declared.identity.Identity.{Identity}
use Rattle.path_model.specs.declared.event.Event.{Event}
use Rattle.suit_commands.specs.declared.selection.Selection.{Selection}
use Rattle.suit_commands.specs.Selections.{selected_by}
use Rattle.suit_commands.specs.Tree.{CommandTree, Test, Act, Index, Override, TryEach, RunSequence, SequenceTree, NoSteps, StepThen, BranchesTree, NoBranches, BranchThen, NullThen}
use Rattle.path_model.specs.Behaviour.{State, Ending, Done, Condition, Directive, Behaviour, Becomes, Then, EachSelected}
use Rattle.path_model.specs.Conditions.{Tests}
use Rattle.path_model.specs.Directives.{Overrides, Acts}

-- ---- set component index (section 6.5)

-- set component index has no event, and selects these components
abbrev pub Selects : Selection → ℕ → Behaviour
Selects selection count state = Becomes (record state { selection = selected_by selection count })

-- ---- inner sequences; these values of soft failure, and what is restored, are this project's own choice

-- an inner sequence begins with the one component selected
abbrev pub entry_state : State → ℕ → Bool → State
entry_state state component soft_failure =
    record state { selection = component ∷ []; soft_failure = soft_failure }

-- an inner sequence that is done keeps its parameters; the selection and the outer soft failure are restored
abbrev pub completed_state : State → State → State
completed_state outer inner = record outer { parameters = inner.parameters }

-- run sequence: if the inner sequence fails softly, the next command follows with all as it was at the entry
abbrev pub after_run : State → Ending → Ending
after_run outer (Done inner) = Done (completed_state outer inner)
after_run outer (Condition place true) = Done outer
after_run outer (Condition place false) = Condition place outer.soft_failure
after_run outer (Directive place) = Directive place

-- run sequence, at one component
abbrev pub RunsInner : Behaviour → ℕ → Behaviour
RunsInner inner component state events ending =
    (end : Ending) × inner (entry_state state component false) events end
    × (ending ≡ after_run state end)

-- try each: if a branch fails softly, the next one starts with all as it was at the entry
abbrev pub FailsSoftly : Ending → Type 0
FailsSoftly (Done inner) = ⊥
FailsSoftly (Condition place true) = Unit {0}
FailsSoftly (Condition place false) = ⊥
FailsSoftly (Directive place) = ⊥

-- how a try each ends that ends with this branch
abbrev pub after_branch : State → Ending → Ending
after_branch outer (Done inner) = Done (completed_state outer inner)
after_branch outer (Condition place soft_failure) = Condition place outer.soft_failure
after_branch outer (Directive place) = Directive place

-- a branch, and if it fails softly the other branches after it
abbrev pub TriesBranch : Behaviour → (ℕ → Behaviour) → ℕ → Behaviour
TriesBranch inner others component state events ending =
    ((end : Ending) × inner (entry_state state component true) events end × (FailsSoftly end → ⊥)
    × (ending ≡ after_branch state end))
    ⊎ ((end : Ending) × (before : List Event) × (after : List Event) × (events ≡ before ++ after)
    × inner (entry_state state component true) before end × FailsSoftly end
    × others component state after ending)

-- ---- whole sequences

abbrev mutual
  pub Runs : SequenceTree → List Identity → ℕ → Behaviour
  Runs NoSteps identities count state = Becomes state
  Runs (StepThen place command rest) identities count state =
      Then (Does command identities count place) (Runs rest identities count) state

  -- how each command may end, at the selected components
  pub Does : CommandTree → List Identity → ℕ → ℕ → Behaviour
  Does (Test kind report) identities count place state =
      EachSelected (Tests kind identities place) state
  Does (Act kind report) identities count place state = EachSelected (Acts kind place) state
  Does (Index selection) identities count place state = Selects selection count state
  Does (Override list) identities count place state = EachSelected (Overrides list) state
  Does (TryEach branches) identities count place state =
      EachSelected (Tries branches identities count place) state
  Does (RunSequence inner) identities count place state =
      EachSelected (RunsInner (Runs inner identities count)) state

  -- the branches in order; if none is done, the try each fails as a condition does
  pub Tries : BranchesTree → List Identity → ℕ → ℕ → ℕ → Behaviour
  Tries NoBranches identities count place component state events ending =
      (events ≡ []) × (ending ≡ Condition place state.soft_failure)
  Tries (NullThen rest) identities count place component state events ending =
      Becomes state events ending
  Tries (BranchThen inner rest) identities count place component state events ending =
      TriesBranch (Runs inner identities count) (Tries rest identities count place) component state
      events ending
