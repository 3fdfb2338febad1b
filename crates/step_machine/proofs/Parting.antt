-- Sequences, selections and the sequences of a try each, by their first and the rest.
use Rattle.std.proofs.Common.{◌≡◌, ℕ, Bool, true, false, List, Some, None, Result, Ok, Err, refl, sym, ap, subst}
use Rattle.suit_commands.specs.Tree.{CommandTree, Index, Override, NoBranches}
use Rattle.suit_commands.specs.Selections.{selected_by}
use Rattle.suit_commands.specs.declared.selection.Selection.{Selection}
use Rattle.suit_params.specs.declared.param.Param.{Param}
use Rattle.path_model.specs.Behaviour.{State, Done}
use Rattle.path_model.specs.Directives.{after_override}
use Rattle.path_model.specs.Runs.{entry_state, completed_state}
use Rattle.path_model.specs.Plays.{Outcome, Play, running_inner, trying_branch}
use Rattle.path_model.specs.RecalledPlays.{Recalling}
use Rattle.path_model.specs.declared.cause.Cause.{Cause}
use Rattle.step_machine.specs.declared.machine.Machine.{Machine}
use Rattle.step_machine.specs.declared.stop.Stop.{Stop}
use Rattle.step_machine.specs.declared.stop.Stop.TheVariants as stops
use Rattle.step_machine.specs.Comes.{Comes}
use Rattle.step_machine.specs.Directives.{Stops, IsCutSo}
use Rattle.step_machine.specs.PlanRuns.{Counts}
use Rattle.step_machine.specs.Running.{StopCounts, AreSources}
use Rattle.step_machine.specs.Stages.{IfGoesOn, IsTrailed, KeptPart, RunsKept, Stage, counts_in}
use Rattle.step_machine.specs.Parts.{nothing_part, command_part, branches_part, at_part, each_part, passed_on}
use Rattle.step_machine.proofs.Going.{ObeysAt, Begun, begun_after, runs_as, runs_at_once}
use Rattle.step_machine.proofs.Composing.{comes_by, stops_as}
use Rattle.step_machine.proofs.Inner.{run_completes, run_fails_softly, run_passes_on, try_completes, try_passes_on, others_come}

-- ---- the sequences of a try each, and inner ones

abbrev pub trying_part : KeptPart → KeptPart → ℕ → KeptPart
trying_part inner others component terms = trying_branch Recalling (inner terms) (others terms) component

abbrev pub inner_part : KeptPart → ℕ → KeptPart
inner_part inner component terms = running_inner Recalling (inner terms) component

-- ---- plays that come to the same

module _ (p q : Play Recalling) (s z : State) (w : Recalling) (same : q.comes z w ≡ p.comes s w) (cuts : (o : Outcome Recalling) → p.IsCut s w o → q.IsCut z w o) where
  stops_same : (a : ℕ) (cause : Cause) (v : Recalling) → Stops a cause v (p.comes s w) → Stops a cause v (q.comes z w)
  stops_same a cause v h =
      stops_as a cause v (q.comes z w) (p.comes s w) (ap (λ (x : Outcome Recalling). x.ending) same) (ap (λ (x : Outcome Recalling). x.cause) same) (ap (λ (x : Outcome Recalling). x.world) same) h

  cut_same : (a : ℕ) (cause : Cause) (v : Recalling) → IsCutSo p a s w cause v → IsCutSo q a z w cause v
  cut_same a cause v h = record { outcome = h.outcome; cut = cuts h.outcome h.cut; stops = h.stops }

  pub comes_same : (r : Result (Unit {0}) Stop) (t : State) (v : Recalling) → Comes p s w r t v → Comes q z w r t v
  comes_same r t v h =
      comes_by p q s z w w (ap (λ (o : Outcome Recalling). o.ending) same) (ap (λ (o : Outcome Recalling). o.world) same) stops_same cut_same r t v h

-- which are selected stays
abbrev pub IsEach : CommandTree → Type 0
IsEach (Index selection) = ⊥
IsEach _ = Unit {0}

-- a part is done for the selected components
pub runs_command : (machine : Machine) (command : CommandTree) (count place : ℕ) (s : State) (m : Stage) (r : Result (Unit {0}) Stop) (t : State) (n : Stage) → IsEach command
    → RunsKept machine (each_part command count place s.selection) s m r t n → RunsKept machine (command_part command count place) s m r t n
runs_command machine (Index selection) count place s m r t n each one = absurd each
runs_command machine command count place s m r t n each one =
    runs_as machine (each_part command count place s.selection) (command_part command count place) s s m n r r t t one one.counts one.trailed one.sources
    (λ terms w v h. comes_same (each_part command count place s.selection terms) (command_part command count place terms) s s w refl (λ o cut. cut) r t v h)

-- ---- at once

pub runs_nothing : (machine : Machine) (s : State) (m : Stage) → AreSources machine s.parameters → IsTrailed machine m → RunsKept machine nothing_part s m (Ok tt) s m
runs_nothing machine s m sources trailed = runs_at_once machine nothing_part s m (Ok tt) s refl trailed sources (λ terms w. (refl, refl))

pub runs_exhausted : (machine : Machine) (count place component : ℕ) (s : State) (m : Stage) → AreSources machine s.parameters → IsTrailed machine m
    → RunsKept machine (branches_part NoBranches count place component) s m (Err (stops.Condition place s.soft_failure)) s m
runs_exhausted machine count place component s m sources trailed =
    runs_at_once machine (branches_part NoBranches count place component) s m (Err (stops.Condition place s.soft_failure)) s refl trailed sources (λ terms w. (refl, refl))

pub runs_index : (machine : Machine) (selection : Selection) (count place : ℕ) (s t : State) (m : Stage) → AreSources machine s.parameters → IsTrailed machine m
    → t ≡ record s { selection = selected_by selection count }
    → RunsKept machine (command_part (Index selection) count place) s m (Ok tt) t m
runs_index machine selection count place s t m sources trailed is =
    subst (λ (x : State). RunsKept machine (command_part (Index selection) count place) s m (Ok tt) x m) (sym is)
    (runs_at_once machine (command_part (Index selection) count place) s m (Ok tt) (record s { selection = selected_by selection count }) refl trailed sources (λ terms w. (refl, refl)))

pub runs_override : (machine : Machine) (list : List Param) (count place component : ℕ) (s t : State) (m : Stage) → AreSources machine t.parameters → IsTrailed machine m
    → t ≡ after_override s component list
    → RunsKept machine (at_part (Override list) count place component) s m (Ok tt) t m
runs_override machine list count place component s t m sources trailed is =
    runs_at_once machine (at_part (Override list) count place component) s m (Ok tt) t refl trailed sources (λ terms w. (ap Done (sym is), refl))

-- ---- inner sequences

passed_counts : (stop out : Stop) (soft : Bool) (a b : Counts) → passed_on stop soft ≡ Some out → StopCounts (Err stop) a b → StopCounts (Err out) a b
passed_counts (stops.Condition p true) out soft a b e h = absurd cc
passed_counts (stops.Condition p false) out soft a b e h =
    let same : stops.Condition p soft ≡ out = cc in subst (λ (o : Stop). StopCounts (Err o) a b) same h
passed_counts (stops.Directive p cause) out soft a b e h =
    let same : stops.Directive p cause ≡ out = cc in subst (λ (o : Stop). StopCounts (Err o) a b) same h

pub passed_trailed : (stop out : Stop) (soft : Bool) (P : Type 0) → passed_on stop soft ≡ Some out → IfGoesOn (Err stop) P → IfGoesOn (Err out) P
passed_trailed (stops.Condition p true) out soft P e h = absurd cc
passed_trailed (stops.Condition p false) out soft P e h =
    let same : stops.Condition p soft ≡ out = cc in subst (λ (o : Stop). IfGoesOn (Err o) P) same h
passed_trailed (stops.Directive p cause) out soft P e h =
    let same : stops.Directive p cause ≡ out = cc in subst (λ (o : Stop). IfGoesOn (Err o) P) same h

module _ (machine : Machine) (inner : KeptPart) (c : ℕ) (s : State) (m n : Stage) (t : State) where
  pub inner_done : RunsKept machine inner (entry_state s c false) m (Ok tt) t n → RunsKept machine (inner_part inner c) s m (Ok tt) (completed_state s t) n
  inner_done one =
      runs_as machine inner (inner_part inner c) (entry_state s c false) s m n (Ok tt) (Ok tt) t (completed_state s t) one one.counts one.trailed one.sources (λ terms w v h. run_completes (inner terms) c s w t v h)

  pub inner_soft : (stop : Stop) → passed_on stop s.soft_failure ≡ None → AreSources machine s.parameters → RunsKept machine inner (entry_state s c false) m (Err stop) t n → RunsKept machine (inner_part inner c) s m (Ok tt) s n
  inner_soft (stops.Condition p true) e sources one =
      runs_as machine inner (inner_part inner c) (entry_state s c false) s m n (Err (stops.Condition p true)) (Ok tt) t s one one.counts one.trailed sources (λ terms w v h. run_fails_softly (inner terms) c s w p t v h)
  inner_soft (stops.Condition p false) e sources one = absurd cc
  inner_soft (stops.Directive p cause) e sources one = absurd cc

  pub inner_stops : (stop out : Stop) → passed_on stop s.soft_failure ≡ Some out → AreSources machine s.parameters → RunsKept machine inner (entry_state s c false) m (Err stop) t n → RunsKept machine (inner_part inner c) s m (Err out) s n
  inner_stops stop out e sources one =
      runs_as machine inner (inner_part inner c) (entry_state s c false) s m n (Err stop) (Err out) t s one (passed_counts stop out s.soft_failure (counts_in m) (counts_in n) e one.counts) (passed_trailed stop out s.soft_failure (IsTrailed machine n) e one.trailed) sources
      (λ terms w v h. run_passes_on (inner terms) c s w stop out t s v e h)

  module _ (others : KeptPart) where
    pub branch_done : RunsKept machine inner (entry_state s c true) m (Ok tt) t n → RunsKept machine (trying_part inner others c) s m (Ok tt) (completed_state s t) n
    branch_done one =
        runs_as machine inner (trying_part inner others c) (entry_state s c true) s m n (Ok tt) (Ok tt) t (completed_state s t) one one.counts one.trailed one.sources
        (λ terms w v h. try_completes (inner terms) (others terms) c s w t v h)

    pub branch_stops : (stop out : Stop) → passed_on stop s.soft_failure ≡ Some out → AreSources machine s.parameters → RunsKept machine inner (entry_state s c true) m (Err stop) t n → RunsKept machine (trying_part inner others c) s m (Err out) s n
    branch_stops stop out e sources one =
        runs_as machine inner (trying_part inner others c) (entry_state s c true) s m n (Err stop) (Err out) t s one (passed_counts stop out s.soft_failure (counts_in m) (counts_in n) e one.counts) (passed_trailed stop out s.soft_failure (IsTrailed machine n) e one.trailed) sources
        (λ terms w v h. try_passes_on (inner terms) (others terms) c s w stop out t s v e h)

-- a branch failed softly: the others are left
pub begun_tried : (machine : Machine) (whole inner others : KeptPart) (c : ℕ) (s0 : State) (m0 : Stage) (s : State) (m n : Stage) (t : State) → ObeysAt m → Begun machine whole (trying_part inner others c) s0 m0 s m
    → (stop : Stop) → passed_on stop s.soft_failure ≡ None → RunsKept machine inner (entry_state s c true) m (Err stop) t n → Begun machine whole others s0 m0 s n
begun_tried machine whole inner others c s0 m0 s m n t law b (stops.Condition p false) e one = absurd cc
begun_tried machine whole inner others c s0 m0 s m n t law b (stops.Directive p cause) e one = absurd cc
begun_tried machine whole inner others c s0 m0 s m n t law b (stops.Condition p true) e one =
    begun_after machine whole inner (trying_part inner others c) others s0 m0 s m law b (entry_state s c true) (Err (stops.Condition p true)) t s n one one.counts one.trailed b.sources
    (λ terms w v h r x after comes. others_come (inner terms) (others terms) c s w p v h.0 h.1 r x after comes)
