-- Trees, events and endings that are the same but for places, case by case.
use Rattle.std.proofs.Common.{◌≡◌, ℕ, Bool, List, [], ◌∷◌, ◌++◌, refl, ap}
use Rattle.suit_params.specs.declared.param.Param.{Param}
use Rattle.suit_commands.specs.declared.kinds.TestKind.{TestKind}
use Rattle.suit_commands.specs.declared.kinds.ActKind.{ActKind}
use Rattle.suit_commands.specs.declared.selection.Selection.{Selection}
use Rattle.suit_commands.specs.SequenceMaking.{unplaced, unplaced_command, unplaced_branches}
use Rattle.suit_commands.specs.Tree.{CommandTree, Test, Act, Index, Override, TryEach, RunSequence, SequenceTree, NoSteps, StepThen, BranchesTree, NoBranches, BranchThen, NullThen}
use Rattle.path_model.specs.declared.event.Event.{Event}
use Rattle.path_model.specs.declared.event.Event.TheVariants.{Failed}
use Rattle.path_model.specs.Behaviour.{State, Ending, Done, Condition, Directive, IsFailure}
use Rattle.place_laws.specs.PlacesApart.{SameEvents, unplaced_event}

-- ---- trees

mutual
  pub data SequencesAlike : SequenceTree → SequenceTree → Type 0 where
    AlikeEnds : SequencesAlike NoSteps NoSteps
    AlikeSteps : (p q : ℕ) (c d : CommandTree) (s t : SequenceTree) → CommandsAlike c d → SequencesAlike s t → SequencesAlike (StepThen p c s) (StepThen q d t)

  pub data CommandsAlike : CommandTree → CommandTree → Type 0 where
    AlikeTest : (kind : TestKind) (report : ℕ) → CommandsAlike (Test kind report) (Test kind report)
    AlikeAct : (kind : ActKind) (report : ℕ) → CommandsAlike (Act kind report) (Act kind report)
    AlikeIndex : (selection : Selection) → CommandsAlike (Index selection) (Index selection)
    AlikeOverride : (list : List Param) → CommandsAlike (Override list) (Override list)
    AlikeTries : (bs cs : BranchesTree) → BranchesAlike bs cs → CommandsAlike (TryEach bs) (TryEach cs)
    AlikeRun : (s t : SequenceTree) → SequencesAlike s t → CommandsAlike (RunSequence s) (RunSequence t)

  pub data BranchesAlike : BranchesTree → BranchesTree → Type 0 where
    AlikeLast : BranchesAlike NoBranches NoBranches
    AlikeNull : (bs cs : BranchesTree) → BranchesAlike bs cs → BranchesAlike (NullThen bs) (NullThen cs)
    AlikeBranch : (s t : SequenceTree) (bs cs : BranchesTree) → SequencesAlike s t → BranchesAlike bs cs → BranchesAlike (BranchThen s bs) (BranchThen t cs)

mutual
  pub sequence_down : (s : SequenceTree) → SequencesAlike s (unplaced s)
  sequence_down NoSteps = AlikeEnds
  sequence_down (StepThen p c s) = AlikeSteps p 0 c (unplaced_command c) s (unplaced s) (command_down c) (sequence_down s)

  command_down : (c : CommandTree) → CommandsAlike c (unplaced_command c)
  command_down (Test kind report) = AlikeTest kind report
  command_down (Act kind report) = AlikeAct kind report
  command_down (Index selection) = AlikeIndex selection
  command_down (Override list) = AlikeOverride list
  command_down (TryEach bs) = AlikeTries bs (unplaced_branches bs) (branches_down bs)
  command_down (RunSequence s) = AlikeRun s (unplaced s) (sequence_down s)

  branches_down : (bs : BranchesTree) → BranchesAlike bs (unplaced_branches bs)
  branches_down NoBranches = AlikeLast
  branches_down (NullThen bs) = AlikeNull bs (unplaced_branches bs) (branches_down bs)
  branches_down (BranchThen s bs) = AlikeBranch s (unplaced s) bs (unplaced_branches bs) (sequence_down s) (branches_down bs)

mutual
  pub sequence_up : (s t : SequenceTree) → SequencesAlike s t → SequencesAlike t s
  sequence_up s t AlikeEnds = AlikeEnds
  sequence_up s t (AlikeSteps p q c d r u one more) = AlikeSteps q p d c u r (command_up c d one) (sequence_up r u more)

  command_up : (c d : CommandTree) → CommandsAlike c d → CommandsAlike d c
  command_up c d (AlikeTest kind report) = AlikeTest kind report
  command_up c d (AlikeAct kind report) = AlikeAct kind report
  command_up c d (AlikeIndex selection) = AlikeIndex selection
  command_up c d (AlikeOverride list) = AlikeOverride list
  command_up c d (AlikeTries bs cs more) = AlikeTries cs bs (branches_up bs cs more)
  command_up c d (AlikeRun s t more) = AlikeRun t s (sequence_up s t more)

  branches_up : (bs cs : BranchesTree) → BranchesAlike bs cs → BranchesAlike cs bs
  branches_up bs cs AlikeLast = AlikeLast
  branches_up bs cs (AlikeNull ds es more) = AlikeNull es ds (branches_up ds es more)
  branches_up bs cs (AlikeBranch s t ds es one more) = AlikeBranch t s es ds (sequence_up s t one) (branches_up ds es more)

-- ---- events

pub data EventsAlike : List Event → List Event → Type 0 where
  NoEvents : EventsAlike [] []
  EventThen : (e : Event) (es fs : List Event) → EventsAlike es fs → EventsAlike (e ∷ es) (e ∷ fs)
  FailedThen : (p q : ℕ) (es fs : List Event) → EventsAlike es fs → EventsAlike (Failed p ∷ es) (Failed q ∷ fs)

pub events_self : (es : List Event) → EventsAlike es es
events_self [] = NoEvents
events_self (e ∷ es) = EventThen e es es (events_self es)

pub events_up : (es fs : List Event) → EventsAlike es fs → EventsAlike fs es
events_up es fs NoEvents = NoEvents
events_up es fs (EventThen e hs bs more) = EventThen e bs hs (events_up hs bs more)
events_up es fs (FailedThen p q hs bs more) = FailedThen q p bs hs (events_up hs bs more)

pub events_append : (hs bs cs ds : List Event) → EventsAlike hs bs → EventsAlike cs ds → EventsAlike (hs ++ cs) (bs ++ ds)
events_append hs bs cs ds NoEvents more = more
events_append hs bs cs ds (EventThen e es fs one) more = EventThen e (es ++ cs) (fs ++ ds) (events_append es fs cs ds one more)
events_append hs bs cs ds (FailedThen p q es fs one) more = FailedThen p q (es ++ cs) (fs ++ ds) (events_append es fs cs ds one more)

-- of events in two parts, so are the others
pub record PartsAlike (hs bs all : List Event) : Type 0 where
  pub front : List Event
  pub back : List Event
  pub is : all ≡ front ++ back
  pub front_alike : EventsAlike hs front
  pub back_alike : EventsAlike bs back

pub events_split : (hs bs all : List Event) → EventsAlike (hs ++ bs) all → PartsAlike hs bs all
events_split [] bs all alike = record { front = []; back = all; is = refl; front_alike = NoEvents; back_alike = alike }
events_split (a ∷ hs) bs all (EventThen e es fs more) =
    let rest = events_split hs bs fs more in
    record { front = a ∷ rest.front; back = rest.back; is = ap (λ (xs : List Event). a ∷ xs) rest.is; front_alike = EventThen a hs rest.front rest.front_alike; back_alike = rest.back_alike }
events_split (a ∷ hs) bs all (FailedThen p q es fs more) =
    let rest = events_split hs bs fs more in
    record { front = Failed q ∷ rest.front; back = rest.back; is = ap (λ (xs : List Event). Failed q ∷ xs) rest.is; front_alike = FailedThen p q hs rest.front rest.front_alike; back_alike = rest.back_alike }

pub events_same : (es fs : List Event) → EventsAlike es fs → SameEvents es fs
events_same es fs NoEvents = refl
events_same es fs (EventThen e hs bs more) = ap (λ (xs : List Event). unplaced_event e ∷ xs) (events_same hs bs more)
events_same es fs (FailedThen p q hs bs more) = ap (λ (xs : List Event). Failed 0 ∷ xs) (events_same hs bs more)

-- ---- endings

pub data EndsAlike : Ending → Ending → Type 0 where
  AlikeDone : (s : State) → EndsAlike (Done s) (Done s)
  AlikeCondition : (p q : ℕ) (soft : Bool) → EndsAlike (Condition p soft) (Condition q soft)
  AlikeDirective : (p q : ℕ) → EndsAlike (Directive p) (Directive q)

pub ends_self : (e : Ending) → EndsAlike e e
ends_self (Done s) = AlikeDone s
ends_self (Condition p soft) = AlikeCondition p p soft
ends_self (Directive p) = AlikeDirective p p

pub failure_alike : (e f : Ending) → EndsAlike e f → IsFailure e → IsFailure f
failure_alike e f (AlikeDone s) failed = failed
failure_alike e f (AlikeCondition p q soft) failed = tt
failure_alike e f (AlikeDirective p q) failed = tt

pub done_alike : (s : State) (f : Ending) → EndsAlike (Done s) f → f ≡ Done s
done_alike s f (AlikeDone t) = refl
