-- Several overrides in a row.
use Rattle.std.proofs.Common.{◌≡◌, ℕ, ◌+◌, ◌-◌, ◌<◌, ◌≤◌, List, [], ◌∷◌, ◌++◌, length, get_or, take, drop, arith, refl, sym, ap, ◌∙◌, subst, append_assoc, inl, inr}
use Rattle.std.proofs.lemmas.List.{append-nil, take-append-drop, drop-drop, take_more, get_or-drop, length-drop}
use Rattle.suit_params.specs.declared.param.Param.{Param}
use Rattle.suit_commands.specs.declared.command.Step.{Step}
use Rattle.suit_commands.specs.Tree.{Test, Act, Index, Override, TryEach, RunSequence, SequenceTree, NoSteps, StepThen}
use Rattle.suit_commands.specs.View.{sequence_tree, command_tree}
use Rattle.path_model.specs.declared.identity.Identity.{Identity}
use Rattle.path_model.specs.declared.event.Event.{Event}
use Rattle.path_model.specs.Behaviour.{State, Ending, Done, Condition, Directive, IsFailure, Behaviour, Then}
use Rattle.path_model.specs.Runs.{Runs, Does}
use Rattle.path_model.proofs.TwoComponents.{same_state}
use Rattle.path_checker.specs.declared.judge_plan.facts.Knowledge.{Knowledge}
use Rattle.path_checker.specs.declared.judge_plan.halt.Halt.{Halt}
use Rattle.path_checker.specs.Exploring.{Course, Kept, Stopped, Failures, after_stops, Leads, Explores, Uncovers}
use Rattle.path_checker.specs.Halting.{Halts}
use Rattle.path_checker.specs.Happening.{sets_at, sequence_sets}
use Rattle.path_checker.specs.Overriding.{IsOverride, AreOverrides, overridden_by}
use Rattle.path_checker.specs.Small.{IsSmallSequence}
use Rattle.path_checker.specs.Steps.{RunsAll}
use Rattle.path_checker.proofs.Carrying.{Carries, Carries-then, Explores-nothing}
use Rattle.path_checker.proofs.Exploring.{then_course, Explores-then}
use Rattle.path_checker.proofs.Going.{then-left, then-right}
use Rattle.path_checker.proofs.Leaves.{Same, Explores-same}
use Rattle.path_checker.proofs.OverridesEach.{set_at, each_override, Explores-set}
use Rattle.path_checker.proofs.Uncovering.{Uncovered-lift}
use Rattle.path_checker.proofs.Walking.{Walks, Walks-then, Walks-halt, does_course}

-- one more override at the end
pub overrides-last : (xs : List Step) (x : Step) → AreOverrides (sequence_tree xs) → IsOverride (command_tree x.command) → AreOverrides (sequence_tree (xs ++ x ∷ []))
overrides-last [] x all one = (one, tt)
overrides-last (y ∷ xs) x all one = (all.0, overrides-last xs x all.1 one)

-- one more of those from an index on
pub taken_more : (steps : List Step) (at end : ℕ) (d : Step) → at ≤ end → end < length steps → take (end + 1 - at) (drop at steps) ≡ take (end - at) (drop at steps) ++ get_or steps end d ∷ []
taken_more steps at end d behind lt =
    let n : ℕ = end - at in
    let fit : n < length (drop at steps) = omega (arith, lt, behind, length-drop at steps) in
    let back : at + n ≡ end = omega (arith, behind) in
    let count : end + 1 - at ≡ n + 1 = omega (arith, behind) in
    let same : get_or (drop at steps) n d ≡ get_or steps end d = get_or-drop at steps n d ∙ ap (λ (i : ℕ). get_or steps i d) back in
    ap (λ (m : ℕ). take m (drop at steps)) count ∙ take_more (drop at steps) n d fit ∙ ap (λ (x : Step). take n (drop at steps) ++ x ∷ []) same

pub overrides_more : (steps : List Step) (at end : ℕ) (d : Step) → at ≤ end → end < length steps → AreOverrides (sequence_tree (take (end - at) (drop at steps))) → IsOverride (command_tree (get_or steps end d).command) → AreOverrides (sequence_tree (take (end + 1 - at) (drop at steps)))
overrides_more steps at end d behind lt all one =
    subst (λ (xs : List Step). AreOverrides (sequence_tree xs)) (sym (taken_more steps at end d behind lt)) (overrides-last (take (end - at) (drop at steps)) (get_or steps end d) all one)

-- ---- what they do

same_override : (list : List Param) (count p : ℕ) (k : Kept) → Same k (each_override k.state.selection list) (does_course (Override list) count p)
same_override list count p k = record { there = λ ids al es e r. r; back = λ ids al es e r. r }

pub Explores-overrides : (s : SequenceTree) → AreOverrides s → (count : ℕ) (k : Kept) → Explores (RunsAll s count) (k ∷ []) (overridden_by k s ∷ []) []
Explores-overrides NoSteps all count k =
    subst (λ (es : List Event). Explores (RunsAll NoSteps count) (k ∷ []) (record { facts = k.facts; events = es; state = k.state } ∷ []) []) (sym (append-nil k.events)) (Explores-nothing (k ∷ []))
Explores-overrides (StepThen p (Override list) rest) all count k =
    let one : Kept = set_at k k.state.selection list in
    let first : Explores (does_course (Override list) count p) (k ∷ []) (one ∷ []) [] =
    Explores-same k (each_override k.state.selection list) (does_course (Override list) count p) (one ∷ []) [] (same_override list count p k) (Explores-set list k.state.selection k)
    in
    let whole : Explores (then_course (does_course (Override list) count p) (RunsAll rest count)) (k ∷ []) (overridden_by one rest ∷ []) [] =
    Explores-then (does_course (Override list) count p) (RunsAll rest count) (k ∷ []) (one ∷ []) (overridden_by one rest ∷ []) [] [] first (Explores-overrides rest all.1 count one)
    in
    subst (λ (es : List Event). Explores (RunsAll (StepThen p (Override list) rest) count) (k ∷ []) (record { facts = k.facts; events = es; state = (overridden_by one rest).state } ∷ []) []) (append_assoc k.events (sets_at k.state.selection list) (sequence_sets rest k.state.selection)) whole
Explores-overrides (StepThen p (Test kind report) rest) all count k = absurd all.0
Explores-overrides (StepThen p (Act kind report) rest) all count k = absurd all.0
Explores-overrides (StepThen p (Index selection) rest) all count k = absurd all.0
Explores-overrides (StepThen p (TryEach _) rest) all count k = absurd all.0
Explores-overrides (StepThen p (RunSequence inner) rest) all count k = absurd all.0

-- ---- a sequence in two parts

then-second : (a b c : Behaviour) (s : State) (es : List Event) (e : Ending) → ((s' : State) (es' : List Event) (e' : Ending) → b s' es' e' → c s' es' e') → Then a b s es e → Then a c s es e
then-second a b c s es e h (inl r) = inl r
then-second a b c s es e h (inr (m, x, y, is, r, q)) = inr (m, x, y, is, r, h m y e q)

module _ (ids : List Identity) (count : ℕ) where
  abbrev steps_run : List Step → Behaviour
  steps_run steps = Runs (sequence_tree steps) ids count

  abbrev step_does : Step → Behaviour
  step_does step = Does (command_tree step.command) ids count step.place

  joined_run : (xs ys : List Step) (s : State) (es : List Event) (e : Ending) → Then (steps_run xs) (steps_run ys) s es e → steps_run (xs ++ ys) s es e
  joined_run [] ys s es e (inl (f, none)) = absurd (subst IsFailure none.1 f)
  joined_run [] ys s es e (inr (m, x, y, is, (n, d), q)) =
      let all : es ≡ y = is ∙ ap (λ (z : List Event). z ++ y) n in
      subst (λ (z : List Event). steps_run ys s z e) (sym all) (subst (λ (t : State). steps_run ys t y e) (same_state m s d) q)
  joined_run (x ∷ xs) ys s es e r = then-second (step_does x) (Then (steps_run xs) (steps_run ys)) (steps_run (xs ++ ys)) s es e (λ s' es' e' q. joined_run xs ys s' es' e' q) (then-left (step_does x) (steps_run xs) (steps_run ys) s es e r)

  parted_run : (xs ys : List Step) (s : State) (es : List Event) (e : Ending) → steps_run (xs ++ ys) s es e → Then (steps_run xs) (steps_run ys) s es e
  parted_run [] ys s es e r = inr (s, [], es, refl, (refl, refl), r)
  parted_run (x ∷ xs) ys s es e r = then-right (step_does x) (steps_run xs) (steps_run ys) s es e (then-second (step_does x) (steps_run (xs ++ ys)) (Then (steps_run xs) (steps_run ys)) s es e (λ s' es' e' q. parted_run xs ys s' es' e' q) r)

module _ (a b : Course) (there : (ids : List Identity) (s : State) (es : List Event) (e : Ending) → a ids s es e → b ids s es e) where
  alike-leads : (from : List Kept) (facts : List Knowledge) (events : List Event) (e : Ending) → Leads a from facts events e → Leads b from facts events e
  alike-leads from facts events e (k, i, r) = (k, i, record { since = r.since; parts = r.parts; covered = r.covered; count = r.count; path = λ ids al. let x = r.path ids al in (x.0, there ids k.state r.since e x.1) })

  Explores-alike : (from d : List Kept) (f : List Stopped) → ((ids : List Identity) (s : State) (es : List Event) (e : Ending) → b ids s es e → a ids s es e) → Explores a from d f → Explores b from d f
  Explores-alike from d f back x = record {
    complete = λ k i ids al es e r. x.complete k i ids al es e (back ids k.state es e r);
    reached = λ to h. alike-leads from to.facts to.events (Done to.state) (x.reached to h);
    stopped = λ to h. alike-leads from to.facts to.events (Condition to.place to.soft_failure) (x.stopped to h);
  }

  Uncovers-alike : (from : List Kept) (facts : List Knowledge) (events : List Event) → Uncovers a from facts events → Uncovers b from facts events
  Uncovers-alike from facts events (k, i, u) = (k, i, Uncovered-lift a b k k facts events refl refl (λ ids al es place r. there ids k.state es (Directive place) r) u)

module _ (xs ys : List Step) (count : ℕ) where
  abbrev parts : Course
  parts = then_course (RunsAll (sequence_tree xs) count) (RunsAll (sequence_tree ys) count)

  abbrev all_steps : Course
  all_steps = RunsAll (sequence_tree (xs ++ ys)) count

  pub Carries-parted : (whole : Course) (from now done : List Kept) (failed : List Stopped) → Carries whole from all_steps now done failed → Carries whole from parts now done failed
  Carries-parted whole from now done failed w =
      let join : (ids : List Identity) (s : State) (es : List Event) (e : Ending) → parts ids s es e → all_steps ids s es e = λ ids s es e r. joined_run ids count xs ys s es e r in
      let part : (ids : List Identity) (s : State) (es : List Event) (e : Ending) → all_steps ids s es e → parts ids s es e = λ ids s es e r. parted_run ids count xs ys s es e r in
      record {
        explores = λ d g x. w.explores d g (Explores-alike parts all_steps join now d g part x);
        uncovers = λ facts events u. w.uncovers facts events (Uncovers-alike parts all_steps join now facts events u);
      }

  Walks-parted : (whole : Course) (from now : List Kept) (failed0 failed : Failures) → Walks whole from failed0 all_steps now failed → Walks whole from failed0 parts now failed
  Walks-parted whole from now failed0 failed w = record { added = w.added; failed_is = w.failed_is; carries = Carries-parted whole from now [] w.added w.carries }

pub both_parts : (steps xs : List Step) (i : ℕ) → xs ≡ take (length xs) (drop i steps) → drop i steps ≡ xs ++ drop (i + length xs) steps
both_parts steps xs i part =
    sym (take-append-drop (length xs) (drop i steps)) ∙ ap (λ (t : List Step). t ++ drop (length xs) (drop i steps)) (sym part) ∙ ap (λ (t : List Step). xs ++ t) (drop-drop (length xs) i steps)

-- the next steps of a walk at once, where none of their failed conditions is kept
pub Walks-steps : (steps xs : List Step) (i count : ℕ) (whole : Course) (from now mid : List Kept) (failed0 failed : Failures) (f : List Stopped) → Walks whole from failed0 (RunsAll (sequence_tree (drop i steps)) count) now failed → xs ≡ take (length xs) (drop i steps) → Explores (RunsAll (sequence_tree xs) count) now mid f → failed ≡ after_stops failed f → Walks whole from failed0 (RunsAll (sequence_tree (drop (i + length xs) steps)) count) mid failed
Walks-steps steps xs i count whole from now mid failed0 failed f w part x same =
    let ys : List Step = drop (i + length xs) steps in
    let both : drop i steps ≡ xs ++ ys = both_parts steps xs i part in
    let w' = Walks-parted xs ys count whole from now failed0 failed (subst (λ (t : List Step). Walks whole from failed0 (RunsAll (sequence_tree t) count) now failed) both w) in
    Walks-then whole (RunsAll (sequence_tree xs) count) (RunsAll (sequence_tree ys) count) from now mid failed0 failed failed w' (record { done = mid; failed = f; next_is = refl; failed_is = same; explores = x })

-- the next steps of a walk halt
pub Walks-halted : (steps xs : List Step) (i count : ℕ) (whole : Course) (from now : List Kept) (failed0 failed : Failures) → Walks whole from failed0 (RunsAll (sequence_tree (drop i steps)) count) now failed → xs ≡ take (length xs) (drop i steps) → (h : Halt) → Halts (RunsAll (sequence_tree xs) count) now h → Halts whole from h
Walks-halted steps xs i count whole from now failed0 failed w part h u =
    let ys : List Step = drop (i + length xs) steps in
    let both : drop i steps ≡ xs ++ ys = both_parts steps xs i part in
    let w' = Walks-parted xs ys count whole from now failed0 failed (subst (λ (t : List Step). Walks whole from failed0 (RunsAll (sequence_tree t) count) now failed) both w) in
    Walks-halt whole (RunsAll (sequence_tree xs) count) (RunsAll (sequence_tree ys) count) from now failed0 failed w' h u

-- the next steps of a state at once
pub Carries-steps : (steps xs : List Step) (i count : ℕ) (whole : Course) (from now mid : List Kept) (failed f : List Stopped) → Carries whole from (RunsAll (sequence_tree (drop i steps)) count) now [] failed → xs ≡ take (length xs) (drop i steps) → Explores (RunsAll (sequence_tree xs) count) now mid f → Carries whole from (RunsAll (sequence_tree (drop (i + length xs) steps)) count) mid [] (failed ++ f)
Carries-steps steps xs i count whole from now mid failed f w part x =
    let ys : List Step = drop (i + length xs) steps in
    let both : drop i steps ≡ xs ++ ys = both_parts steps xs i part in
    let w' = Carries-parted xs ys count whole from now [] failed (subst (λ (t : List Step). Carries whole from (RunsAll (sequence_tree t) count) now [] failed) both w) in
    Carries-then whole (RunsAll (sequence_tree xs) count) (RunsAll (sequence_tree ys) count) from now mid [] failed f w' x

-- the rest of a small sequence
pub small_rest : (count : ℕ) (xs ys : List Step) → IsSmallSequence count (sequence_tree (xs ++ ys)) → IsSmallSequence count (sequence_tree ys)
small_rest count [] ys small = small
small_rest count (x ∷ xs) ys small = small_rest count xs ys small.1

-- a part of a small sequence
pub small_part : (steps xs : List Step) (i count : ℕ) → xs ≡ take (length xs) (drop i steps) → IsSmallSequence count (sequence_tree (drop i steps)) → IsSmallSequence count (sequence_tree xs)
small_part steps xs i count part small = first_small xs (drop (i + length xs) steps) (subst (λ (t : List Step). IsSmallSequence count (sequence_tree t)) (both_parts steps xs i part) small)
  where
    first_small : (xs ys : List Step) → IsSmallSequence count (sequence_tree (xs ++ ys)) → IsSmallSequence count (sequence_tree xs)
    first_small [] ys all = tt
    first_small (x ∷ xs) ys all = (all.0, first_small xs ys all.1)

pub small_steps : (steps xs : List Step) (i count : ℕ) → xs ≡ take (length xs) (drop i steps) → IsSmallSequence count (sequence_tree (drop i steps)) → IsSmallSequence count (sequence_tree (drop (i + length xs) steps))
small_steps steps xs i count part small = small_rest count xs (drop (i + length xs) steps) (subst (λ (t : List Step). IsSmallSequence count (sequence_tree t)) (both_parts steps xs i part) small)
