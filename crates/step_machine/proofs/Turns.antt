-- The turns of the loops over steps, selected components and the sequences of a try each.
use Rattle.std.proofs.Common.{◌≡◌, ℕ, ◌+◌, ◌*◌, ◌<◌, ◌≤◌, ◌∙◌, List, [], ◌∷◌, Option, Some, None, Result, Ok, Err, length, refl, sym, ap, subst, true, false, inl, inr, arith}
use Rattle.std.specs.List.{AllByRecursion}
use Rattle.std.specs.Prelude.{OnOk}
use Rattle.suit_params.specs.InForce.{Parameters}
use Rattle.suit_commands.specs.Selections.{Among, selected_after}
use Rattle.suit_commands.specs.Tree.{CommandTree, Test, Act, Index, Override, TryEach, RunSequence, SequenceTree, NoSteps, StepThen, BranchesTree, NoBranches, BranchThen, NullThen}
use Rattle.suit_commands.specs.Size.{sequence_size, command_size, branches_size}
use Rattle.suit_cursor.specs.declared.command.LentCommand.{LentCommand}
use Rattle.suit_cursor.specs.declared.command.LentCommand.TheVariants as lent
use Rattle.suit_cursor.specs.declared.command.LentSelection.{LentSelection}
use Rattle.suit_cursor.specs.Lending.{command_of}
use Rattle.path_model.specs.Behaviour.{State}
use Rattle.path_model.specs.Runs.{entry_state}
use Rattle.step_machine.specs.declared.machine.Machine.{Machine}
use Rattle.step_machine.specs.declared.progress.Progress.{Progress}
use Rattle.step_machine.specs.declared.progress.Selected.{Selected}
use Rattle.step_machine.specs.declared.stop.Stop.{Stop}
use Rattle.step_machine.specs.declared.stop.Stop.TheVariants as stops
use Rattle.step_machine.specs.Allowing.{AllowsCommand, AllowsSequence}
use Rattle.step_machine.specs.Parts.{at_part, branches_part, command_part, each_part, passed_on, sequence_part}
use Rattle.step_machine.specs.Running.{AreSources, selected_list, state_of}
use Rattle.step_machine.specs.Stages.{IsTrailed, KeptPart, RunsKept, Stage}
use Rattle.step_machine.proofs.Allowed.{first_step, later_steps, below_after}
use Rattle.step_machine.proofs.Going.{ObeysAt, Begun, begun, begun_then, runs_done, runs_last, runs_stopped, then_part}
use Rattle.step_machine.proofs.Parting.{IsEach, runs_command, runs_exhausted, inner_part, trying_part, branch_done, branch_stops, begun_tried, inner_done, inner_soft, inner_stops}

abbrev with_params : State → Parameters → State
with_params s ps = record s { parameters = ps }

-- a sequence has some size
size_some : (s : SequenceTree) → 1 ≤ sequence_size s
size_some NoSteps = omega arith
size_some (StepThen place command rest) = omega arith

pub branch_smaller : (branches rest : BranchesTree) (inner : SequenceTree) → branches ≡ BranchThen inner rest → (sequence_size inner < branches_size branches) × (branches_size rest < branches_size branches)
branch_smaller branches rest inner is = rw is (omega arith, omega arith)

-- ---- one command

-- what sets no index is done at each selected component
pub is_each : (command : LentCommand) → ((selection : LentSelection) → command ≡ lent.Index selection → ⊥) → IsEach (command_of command)
is_each (lent.Test kind report) not = tt
is_each (lent.Act kind report) not = tt
is_each (lent.Index selection) not = absurd (not selection refl)
is_each (lent.Override list) not = tt
is_each (lent.TryEach branches) not = tt
is_each (lent.Run inner) not = tt

pub at_as : (machine : Machine) (count place component : ℕ) (x y : LentCommand) → x ≡ y → (s : State) (m : Stage) (r : Result (Unit {0}) Stop) (t : State) (n : Stage)
    → RunsKept machine (at_part (command_of y) count place component) s m r t n → RunsKept machine (at_part (command_of x) count place component) s m r t n
at_as machine count place component x y is s m r t n runs =
    subst (λ (z : LentCommand). RunsKept machine (at_part (command_of z) count place component) s m r t n) (sym is) runs

-- a command other than an index selects nothing, and is done at each selected component
pub each_as : (machine : Machine) (x y : LentCommand) (count place : ℕ) → y ≡ x → IsEach (command_of x) → (s : State) (m : Stage) (r : Result (Unit {0}) Stop) (t : State) (n : Stage)
    → RunsKept machine (each_part (command_of y) count place s.selection) s m r t n → RunsKept machine (command_part (command_of x) count place) s m r t n
each_as machine x y count place is each s m r t n runs =
    runs_command machine (command_of x) count place s m r t n each (subst (λ (z : LentCommand). RunsKept machine (each_part (command_of z) count place s.selection) s m r t n) is runs)

pub none_selected : (command : CommandTree) (count : ℕ) (selected : List ℕ) → IsEach command → selected_after command count selected ≡ selected
none_selected (Test kind report) count selected each = refl
none_selected (Act kind report) count selected each = refl
none_selected (Index selection) count selected each = absurd each
none_selected (Override list) count selected each = refl
none_selected (TryEach branches) count selected each = refl
none_selected (RunSequence inner) count selected each = refl

pub on_ok : (r : Result (Unit {0}) Stop) (P : Type 0) → P → OnOk r P
on_ok (Ok u) P p = p
on_ok (Err stop) P p = tt

pub index_as : (machine : Machine) (x y : LentCommand) (count place : ℕ) → x ≡ y → (s : State) (m : Stage) (r : Result (Unit {0}) Stop) (t : State) (n : Stage)
    → RunsKept machine (command_part (command_of y) count place) s m r t n → RunsKept machine (command_part (command_of x) count place) s m r t n
index_as machine x y count place is s m r t n runs =
    subst (λ (z : LentCommand). RunsKept machine (command_part (command_of z) count place) s m r t n) (sym is) runs

-- ---- steps

module _ (machine : Machine) (steps rest : SequenceTree) (place : ℕ) (command : CommandTree) (is : steps ≡ StepThen place command rest) where
  pub step_allowed : (selection : List ℕ) → AllowsSequence machine steps selection → AllowsCommand machine command selection
  step_allowed selection allowed = first_step machine place command rest selection (subst (λ (x : SequenceTree). AllowsSequence machine x selection) is allowed)

  pub later_allowed : (selection after : List ℕ) → AllowsSequence machine steps selection → after ≡ selected_after command machine.program.now.count selection → AllowsSequence machine rest after
  later_allowed selection after allowed selected =
      subst (λ (l : List ℕ). AllowsSequence machine rest l) (sym selected)
      (later_steps machine place command rest selection (subst (λ (x : SequenceTree). AllowsSequence machine x selection) is allowed))

  pub step_smaller : 4 * command_size command + 8 ≤ 4 * sequence_size steps
  step_smaller = rw is (omega (arith, size_some rest))

  pub rest_smaller : sequence_size rest < sequence_size steps
  rest_smaller = rw is (omega arith)

  module _ (whole : KeptPart) (s0 : State) (start : Stage) (s : State) (m : Stage) (b : Begun machine whole (sequence_part steps machine.program.now.count) s0 start s m) (law : ObeysAt m) (t : State) (n : Stage) where
    first : Begun machine whole (then_part (command_part command machine.program.now.count place) (sequence_part rest machine.program.now.count)) s0 start s m
    first = subst (λ (x : SequenceTree). Begun machine whole (sequence_part x machine.program.now.count) s0 start s m) is b

    pub step_done : (u : Unit {0}) → RunsKept machine (command_part command machine.program.now.count place) s m (Ok u) t n → Begun machine whole (sequence_part rest machine.program.now.count) s0 start t n
    step_done u runs = begun_then machine whole (command_part command machine.program.now.count place) (sequence_part rest machine.program.now.count) s0 start s m law first u t n runs

    pub step_stopped : (stop : Stop) → RunsKept machine (command_part command machine.program.now.count place) s m (Err stop) t n → RunsKept machine whole s0 start (Err stop) t n
    step_stopped stop runs = runs_stopped machine whole (command_part command machine.program.now.count place) (sequence_part rest machine.program.now.count) s0 start s m law first stop t n runs

-- a command leaves a selection within the components
pub step_selects : (machine : Machine) (command : CommandTree) (before after : List ℕ) → machine.program.now.count ≡ length machine.standings.now → AllowsCommand machine command before
    → after ≡ selected_after command machine.program.now.count before → AllByRecursion (λ k. k < length machine.standings.now) before → AllByRecursion (λ k. k < length machine.standings.now) after
step_selects machine command before after count allowed selected all =
    subst (λ (l : List ℕ). AllByRecursion (λ k. k < length machine.standings.now) l) (sym selected) (below_after machine command before count allowed.indexed all)

pub steps_done : (machine : Machine) (steps : SequenceTree) (whole : KeptPart) (s0 : State) (start : Stage) (s : State) (m : Stage) → steps ≡ NoSteps → ObeysAt m
    → Begun machine whole (sequence_part steps machine.program.now.count) s0 start s m → RunsKept machine whole s0 start (Ok tt) s m
steps_done machine steps whole s0 start s m end law b =
    runs_done machine whole s0 start s m tt law
    (subst (λ (x : SequenceTree). Begun machine whole (sequence_part x machine.program.now.count) s0 start s m) end b)

-- ---- selected components

module _ (machine : Machine) (command : CommandTree) (place : ℕ) (left rest : List ℕ) (k : ℕ) (is : left ≡ k ∷ rest) where
  pub first_among : Among k left
  first_among = subst (λ (l : List ℕ). Among k l) (sym is) (inl refl)

  pub rest_among : (c : ℕ) → Among c rest → Among c left
  rest_among c among = subst (λ (l : List ℕ). Among c l) (sym is) (inr among)

  module _ (whole : KeptPart) (s0 : State) (start : Stage) (s : State) (m : Stage) (b : Begun machine whole (each_part command machine.program.now.count place left) s0 start s m) (law : ObeysAt m) (t : State) (n : Stage) where
    one : Begun machine whole (then_part (at_part command machine.program.now.count place k) (each_part command machine.program.now.count place rest)) s0 start s m
    one = subst (λ (l : List ℕ). Begun machine whole (each_part command machine.program.now.count place l) s0 start s m) is b

    pub one_done : (u : Unit {0}) → RunsKept machine (at_part command machine.program.now.count place k) s m (Ok u) t n → Begun machine whole (each_part command machine.program.now.count place rest) s0 start t n
    one_done u runs = begun_then machine whole (at_part command machine.program.now.count place k) (each_part command machine.program.now.count place rest) s0 start s m law one u t n runs

    pub one_stopped : (stop : Stop) → RunsKept machine (at_part command machine.program.now.count place k) s m (Err stop) t n → RunsKept machine whole s0 start (Err stop) t n
    one_stopped stop runs = runs_stopped machine whole (at_part command machine.program.now.count place k) (each_part command machine.program.now.count place rest) s0 start s m law one stop t n runs

pub each_begun : (machine : Machine) (command : CommandTree) (place : ℕ) (now : Progress) (left kept : Selected) (m : Stage) → left ≡ now.selected → kept ≡ now.selected → AreSources machine now.params → IsTrailed machine m
    → Begun machine (each_part command machine.program.now.count place (selected_list now.selected)) (each_part command machine.program.now.count place (selected_list left)) (state_of now) m (state_of (record now { selected = kept })) m
each_begun machine command place now left kept m copied same sources trailed =
    subst (λ (x : Selected). Begun machine (each_part command machine.program.now.count place (selected_list now.selected)) (each_part command machine.program.now.count place (selected_list x)) (state_of now) m (state_of (record now { selected = kept })) m) (sym copied)
    (subst (λ (x : Selected). Begun machine (each_part command machine.program.now.count place (selected_list now.selected)) (each_part command machine.program.now.count place (selected_list now.selected)) (state_of now) m (state_of (record now { selected = x })) m) (sym same)
    (begun machine (each_part command machine.program.now.count place (selected_list now.selected)) (state_of now) m sources trailed))

pub each_done : (machine : Machine) (command : CommandTree) (place : ℕ) (left : List ℕ) (whole : KeptPart) (s0 : State) (start : Stage) (s : State) (m : Stage) → left ≡ [] → ObeysAt m
    → Begun machine whole (each_part command machine.program.now.count place left) s0 start s m → RunsKept machine whole s0 start (Ok tt) s m
each_done machine command place left whole s0 start s m end law b =
    runs_done machine whole s0 start s m tt law
    (subst (λ (l : List ℕ). Begun machine whole (each_part command machine.program.now.count place l) s0 start s m) end b)

-- ---- the sequences of a try each

module _ (machine : Machine) (branches : BranchesTree) (place at : ℕ) (whole : KeptPart) (now : Progress) (start : Stage) (later : Progress) (m : Stage)
    (b : Begun machine whole (branches_part branches machine.program.now.count place at) (state_of now) start (state_of now) m) (law : ObeysAt m) (same : later ≡ now) where
  -- none is left
  pub none_left : branches ≡ NoBranches → RunsKept machine whole (state_of now) start (Err (stops.Condition place later.soft_failure)) (state_of later) m
  none_left end =
      subst (λ (x : Progress). RunsKept machine whole (state_of now) start (Err (stops.Condition place x.soft_failure)) (state_of x) m) (sym same)
      (runs_last machine whole (branches_part NoBranches machine.program.now.count place at) (state_of now) start (state_of now) m law
      (subst (λ (x : BranchesTree). Begun machine whole (branches_part x machine.program.now.count place at) (state_of now) start (state_of now) m) end b)
      (Err (stops.Condition place now.soft_failure)) (state_of now) m (runs_exhausted machine machine.program.now.count place at (state_of now) m b.sources b.trailed))

  -- a null: nothing more is tried
  pub null_done : (rest : BranchesTree) → branches ≡ NullThen rest → RunsKept machine whole (state_of now) start (Ok tt) (state_of later) m
  null_done rest is =
      subst (λ (x : Progress). RunsKept machine whole (state_of now) start (Ok tt) (state_of x) m) (sym same)
      (runs_done machine whole (state_of now) start (state_of now) m tt law
      (subst (λ (x : BranchesTree). Begun machine whole (branches_part x machine.program.now.count place at) (state_of now) start (state_of now) m) is b))

  -- one is tried, and comes to this
  module _ (inner : SequenceTree) (rest : BranchesTree) (is : branches ≡ BranchThen inner rest) (inside : State) (entered : inside ≡ entry_state (state_of later) at true) (t : State) (n : Stage) where
    abbrev others : KeptPart
    others = branches_part rest machine.program.now.count place at

    trying : Begun machine whole (trying_part (sequence_part inner machine.program.now.count) others at) (state_of now) start (state_of now) m
    trying = subst (λ (x : BranchesTree). Begun machine whole (branches_part x machine.program.now.count place at) (state_of now) start (state_of now) m) is b

    from_entry : inside ≡ entry_state (state_of now) at true
    from_entry = entered ∙ ap (λ (x : Progress). entry_state (state_of x) at true) same

    pub try_done : (after : Progress) → after ≡ record later { params = t.parameters } → RunsKept machine (sequence_part inner machine.program.now.count) inside m (Ok tt) t n
        → RunsKept machine whole (state_of now) start (Ok tt) (state_of after) n
    try_done after left runs =
        let one = subst (λ (x : State). RunsKept machine (sequence_part inner machine.program.now.count) x m (Ok tt) t n) from_entry runs in
        let done = runs_last machine whole (trying_part (sequence_part inner machine.program.now.count) others at) (state_of now) start (state_of now) m law trying (Ok tt) (with_params (state_of now) t.parameters) n (branch_done machine (sequence_part inner machine.program.now.count) at (state_of now) m n t others one) in
        subst (λ (x : Progress). RunsKept machine whole (state_of now) start (Ok tt) (state_of x) n) (sym (left ∙ ap (λ (x : Progress). record x { params = t.parameters }) same)) done

    pub try_stopped : (after : Progress) → after ≡ later → (stop out : Stop) → passed_on stop after.soft_failure ≡ Some out → RunsKept machine (sequence_part inner machine.program.now.count) inside m (Err stop) t n
        → RunsKept machine whole (state_of now) start (Err out) (state_of after) n
    try_stopped after left stop out passed runs =
        let one = subst (λ (x : State). RunsKept machine (sequence_part inner machine.program.now.count) x m (Err stop) t n) from_entry runs in
        let was : after ≡ now = left ∙ same in
        let e : passed_on stop now.soft_failure ≡ Some out = ap (λ (x : Progress). passed_on stop x.soft_failure) (sym was) ∙ passed in
        subst (λ (x : Progress). RunsKept machine whole (state_of now) start (Err out) (state_of x) n) (sym was)
        (runs_last machine whole (trying_part (sequence_part inner machine.program.now.count) others at) (state_of now) start (state_of now) m law trying (Err out) (state_of now) n (branch_stops machine (sequence_part inner machine.program.now.count) at (state_of now) m n t others stop out e b.sources one))

    pub try_next : (after : Progress) → after ≡ later → (stop : Stop) → passed_on stop after.soft_failure ≡ None → RunsKept machine (sequence_part inner machine.program.now.count) inside m (Err stop) t n
        → Begun machine whole (branches_part rest machine.program.now.count place at) (state_of now) start (state_of now) n
    try_next after left stop passed runs =
        let one = subst (λ (x : State). RunsKept machine (sequence_part inner machine.program.now.count) x m (Err stop) t n) from_entry runs in
        let e : passed_on stop now.soft_failure ≡ None = ap (λ (x : Progress). passed_on stop x.soft_failure) (sym (left ∙ same)) ∙ passed in
        begun_tried machine whole (sequence_part inner machine.program.now.count) others at (state_of now) start (state_of now) m n t law trying stop e one

-- ---- an inner sequence

module _ (machine : Machine) (inner : SequenceTree) (at : ℕ) (s0 inside : State) (entered : inside ≡ entry_state s0 at false) (m n : Stage) (t : State) where
  from_here : (r : Result (Unit {0}) Stop) → RunsKept machine (sequence_part inner machine.program.now.count) inside m r t n → RunsKept machine (sequence_part inner machine.program.now.count) (entry_state s0 at false) m r t n
  from_here r runs = subst (λ (x : State). RunsKept machine (sequence_part inner machine.program.now.count) x m r t n) entered runs

  pub inner_ran : (after : State) → after ≡ record s0 { parameters = t.parameters } → RunsKept machine (sequence_part inner machine.program.now.count) inside m (Ok tt) t n
      → RunsKept machine (inner_part (sequence_part inner machine.program.now.count) at) s0 m (Ok tt) after n
  inner_ran after left runs =
      subst (λ (x : State). RunsKept machine (inner_part (sequence_part inner machine.program.now.count) at) s0 m (Ok tt) x n) (sym left)
      (inner_done machine (sequence_part inner machine.program.now.count) at s0 m n t (from_here (Ok tt) runs))

  -- it was stopped, and the outer one is as it was
  module _ (after : State) (same : after ≡ s0) (sources : AreSources machine s0.parameters) where
    passed_before : (stop : Stop) (out : Option Stop) → passed_on stop after.soft_failure ≡ out → passed_on stop s0.soft_failure ≡ out
    passed_before stop out passed = ap (λ (x : State). passed_on stop x.soft_failure) (sym same) ∙ passed

    pub inner_softly : (stop : Stop) → passed_on stop after.soft_failure ≡ None → RunsKept machine (sequence_part inner machine.program.now.count) inside m (Err stop) t n
        → RunsKept machine (inner_part (sequence_part inner machine.program.now.count) at) s0 m (Ok tt) after n
    inner_softly stop passed runs =
        subst (λ (x : State). RunsKept machine (inner_part (sequence_part inner machine.program.now.count) at) s0 m (Ok tt) x n) (sym same)
        (inner_soft machine (sequence_part inner machine.program.now.count) at s0 m n t stop (passed_before stop None passed) sources (from_here (Err stop) runs))

    pub inner_out : (stop out : Stop) → passed_on stop after.soft_failure ≡ Some out → RunsKept machine (sequence_part inner machine.program.now.count) inside m (Err stop) t n
        → RunsKept machine (inner_part (sequence_part inner machine.program.now.count) at) s0 m (Err out) after n
    inner_out stop out passed runs =
        subst (λ (x : State). RunsKept machine (inner_part (sequence_part inner machine.program.now.count) at) s0 m (Err out) x n) (sym same)
        (inner_stops machine (sequence_part inner machine.program.now.count) at s0 m n t stop out (passed_before stop (Some out) passed) sources (from_here (Err stop) runs))
