-- All runs of one procedure of two components. Its shared sequence selects both and overrides their digest. Its first
-- member matches an image, its second one is absent, and its third one invokes component 1.
use Rattle.std.specs.Prelude.{◌≡◌, ◌⊎◌, true, false, List, [], ◌∷◌, ◌++◌, None, Some}
use Rattle.suit_params.specs.declared.digest.Digest.{Digest}
use Rattle.suit_params.specs.declared.param.Param.TheVariants as params
use Rattle.suit_commands.specs.declared.kinds.TestKind.TheVariants as tests
use Rattle.suit_commands.specs.declared.kinds.ActKind.TheVariants as acts
use Rattle.suit_commands.specs.declared.selection.Selection.TheVariants.{One, All}
use Rattle.path_model.specs.declared.identity.Identity.{Identity}
use Rattle.path_model.specs.declared.event.Event.{Event}
use Rattle.path_model.specs.declared.event.Event.TheVariants.{Set, Matched, Missed, Invoked, Failed}
use Rattle.suit_commands.specs.Tree.{Test, Act, Index, Override, SequenceTree, NoSteps, StepThen, PlanTree}
use Rattle.path_model.specs.Behaviour.{Ending, Done, Condition, Directive}
use Rattle.path_model.specs.Path.{RunsPlan, first_state}
use Rattle.path_model.specs.Safe.{Safe}

-- the shared sequence selects both components and overrides their digest
abbrev pub set_both : Digest → SequenceTree
set_both digest =
    StepThen 10 (Index All) (StepThen 20 (Override (params.Digest digest ∷ [])) NoSteps)

-- the first member matches the image of component 0
abbrev pub match_first : SequenceTree
match_first = StepThen 30 (Test tests.ImageMatch 0) NoSteps

-- the third member invokes component 1
abbrev pub invoke_second : SequenceTree
invoke_second = StepThen 40 (Index (One 1)) (StepThen 50 (Act acts.Invoke 0) NoSteps)

abbrev pub two_components : Digest → PlanTree
two_components digest =
    record {
      shared = set_both digest;
      first = match_first;
      second = NoSteps;
      third = invoke_second;
      count = 2;
    }

-- the events of the shared sequence
abbrev pub both_told : Digest → List Event
both_told digest = Set 0 (params.Digest digest) ∷ Set 1 (params.Digest digest) ∷ []

-- the match failed, and nothing follows
abbrev pub missed_run : Digest → List Event
missed_run digest = both_told digest ++ Missed 0 ∷ Failed 30 ∷ []

-- the match passed, and the shared sequence ran twice more
abbrev pub matched_run : Digest → List Event
matched_run digest =
    both_told digest ++ Matched 0 digest None ∷ (both_told digest ++ both_told digest)

-- the invoke succeeded
abbrev pub launched_run : Digest → List Event
launched_run digest = matched_run digest ++ Invoked 1 (Some digest) None true ∷ []

-- the invoke failed
abbrev pub unlaunched_run : Digest → List Event
unlaunched_run digest = matched_run digest ++ Invoked 1 (Some digest) None false ∷ Failed 50 ∷ []

-- the procedure is done
abbrev pub IsDone : Ending → Type 0
IsDone (Done state) = Unit {0}
IsDone _ = ⊥

-- these three runs, for all identities, and no others
pub record RunsExactly (digest : Digest) (identities : List Identity) : Type 0 where
  pub only : (events : List Event) (ending : Ending)
      → RunsPlan (two_components digest) identities first_state events ending
      → ((events ≡ missed_run digest) × (ending ≡ Condition 30 false))
      ⊎
      (((events ≡ launched_run digest) × IsDone ending)
      ⊎ ((events ≡ unlaunched_run digest) × (ending ≡ Directive 50)))
  pub missed :
      RunsPlan (two_components digest) identities first_state (missed_run digest)
      (Condition 30 false)
  pub launched :
      (ending : Ending)
      × RunsPlan (two_components digest) identities first_state (launched_run digest) ending
      × IsDone ending
  pub unlaunched :
      RunsPlan (two_components digest) identities first_state (unlaunched_run digest) (Directive 50)

abbrev pub TwoComponentsRun : Type 0
TwoComponentsRun = (digest : Digest) (identities : List Identity) → RunsExactly digest identities

-- the procedure is not safe, since it invokes a component that it did not match
abbrev pub TwoComponentsUnsafe : Type 0
TwoComponentsUnsafe = (digest : Digest) → Safe (two_components digest) → ⊥
