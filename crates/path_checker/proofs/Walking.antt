-- The steps of a walk through a sequence.
use Rattle.std.proofs.Common.{◌≡◌, ℕ, ◌+◌, ◌<◌, add-one, List, [], ◌++◌, length, get_or, drop, refl, sym, ap, ◌∙◌, subst}
use Rattle.std.proofs.Math.Seq.{drop-cons}
use Rattle.suit_commands.specs.declared.command.Step.{Step}
use Rattle.suit_commands.specs.Tree.{CommandTree}
use Rattle.suit_commands.specs.View.{sequence_tree, command_tree}
use Rattle.path_model.specs.declared.event.Event.{Event}
use Rattle.path_model.specs.Runs.{Does}
use Rattle.path_checker.specs.declared.judge_plan.facts.Knowledge.{Knowledge}
use Rattle.path_checker.specs.declared.judge_plan.halt.Halt.{Halt}
use Rattle.path_checker.specs.declared.judge_plan.halt.Halt.TheVariants as halts
use Rattle.path_checker.specs.Exploring.{Course, Kept, Stopped, Failures, after_stops, Uncovers, Adds}
use Rattle.path_checker.specs.Halting.{Halts}
use Rattle.path_checker.specs.Steps.{RunsAll}
use Rattle.path_checker.proofs.Exploring.{then_course}
use Rattle.path_checker.proofs.Keeping.{after_none, after_both}
use Rattle.path_checker.proofs.Uncovering.{Uncovers-first}
use Rattle.path_checker.proofs.Carrying.{Carries, Carries-start, Carries-then, Carries-end, nothing_course}

pub Halts-lift : (a b : Course) (xs ys : List Kept) → ((facts : List Knowledge) (events : List Event) → Uncovers a xs facts events → Uncovers b ys facts events) → (h : Halt) → Halts a xs h → Halts b ys h
Halts-lift a b xs ys lift halts.NoMemory u = tt
Halts-lift a b xs ys lift (halts.Uncovered k) u = lift k.facts k.events u

abbrev pub does_course : CommandTree → ℕ → ℕ → Course
does_course command count place ids = Does command ids count place

-- the rest of a sequence is its next step, and the rest of that
pub rest-is : (steps : List Step) (i count : ℕ) (d : Step) → i < length steps → RunsAll (sequence_tree (drop i steps)) count ≡ then_course (does_course (command_tree (get_or steps i d).command) count (get_or steps i d).place) (RunsAll (sequence_tree (drop (i + 1) steps)) count)
rest-is steps i count d lt =
    ap (λ (xs : List Step). RunsAll (sequence_tree xs) count) (drop-cons steps i d lt)
    ∙ ap (λ (n : ℕ). then_course (does_course (command_tree (get_or steps i d).command) count (get_or steps i d).place) (RunsAll (sequence_tree (drop n steps)) count)) (sym (add-one i))

-- the invariant of a loop while it walks
pub record Walks (whole : Course) (from : List Kept) (failed0 : Failures) (rest : Course) (now : List Kept) (failed : Failures) : Type 0 where
  pub added : List Stopped
  pub failed_is : failed ≡ after_stops failed0 added
  pub carries : Carries whole from rest now [] added

pub Walks-start : (whole : Course) (from : List Kept) (failed0 : Failures) → Walks whole from failed0 whole from failed0
Walks-start whole from failed0 = record { added = []; failed_is = sym (after_none failed0); carries = Carries-start whole from }

pub Walks-then : (whole first second : Course) (from now mid : List Kept) (failed0 failed failed' : Failures) → Walks whole from failed0 (then_course first second) now failed → Adds first now [] mid failed failed' → Walks whole from failed0 second mid failed'
Walks-then whole first second from now mid failed0 failed failed' w a =
    let c = Carries-then whole first second from now a.done [] w.added a.failed w.carries a.explores in
    record {
      added = w.added ++ a.failed;
      failed_is = after_both failed0 failed failed' w.added a.failed w.failed_is a.failed_is;
      carries = subst (λ (m : List Kept). Carries whole from second m [] (w.added ++ a.failed)) (sym a.next_is) c;
    }

pub Walks-end : (whole : Course) (from now : List Kept) (failed0 failed : Failures) → Walks whole from failed0 nothing_course now failed → Adds whole from [] now failed0 failed
Walks-end whole from now failed0 failed w = record { done = now; failed = w.added; next_is = refl; failed_is = w.failed_is; explores = Carries-end whole from now [] w.added w.carries }

pub Walks-halt : (whole first second : Course) (from now : List Kept) (failed0 failed : Failures) → Walks whole from failed0 (then_course first second) now failed → (h : Halt) → Halts first now h → Halts whole from h
Walks-halt whole first second from now failed0 failed w h u =
    Halts-lift first whole now from (λ facts events x. w.carries.uncovers facts events (Uncovers-first first second now facts events x)) h u

module _ (steps : List Step) (i count : ℕ) (d : Step) (lt : i < length steps) (whole : Course) (from now : List Kept) (failed0 failed : Failures) (w : Walks whole from failed0 (RunsAll (sequence_tree (drop i steps)) count) now failed) where
  at_step : Walks whole from failed0 (then_course (does_course (command_tree (get_or steps i d).command) count (get_or steps i d).place) (RunsAll (sequence_tree (drop (i + 1) steps)) count)) now failed
  at_step = subst (λ (r : Course). Walks whole from failed0 r now failed) (rest-is steps i count d lt) w

  pub Walks-step : (mid : List Kept) (failed' : Failures) → Adds (does_course (command_tree (get_or steps i d).command) count (get_or steps i d).place) now [] mid failed failed' → Walks whole from failed0 (RunsAll (sequence_tree (drop (i + 1) steps)) count) mid failed'
  Walks-step mid failed' a = Walks-then whole (does_course (command_tree (get_or steps i d).command) count (get_or steps i d).place) (RunsAll (sequence_tree (drop (i + 1) steps)) count) from now mid failed0 failed failed' at_step a

  pub Walks-stops : (h : Halt) → Halts (does_course (command_tree (get_or steps i d).command) count (get_or steps i d).place) now h → Halts whole from h
  Walks-stops h u = Walks-halt whole (does_course (command_tree (get_or steps i d).command) count (get_or steps i d).place) (RunsAll (sequence_tree (drop (i + 1) steps)) count) from now failed0 failed at_step h u
