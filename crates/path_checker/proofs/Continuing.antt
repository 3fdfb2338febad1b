-- Steps and components one after another, where failed conditions are not kept.
use Rattle.std.proofs.Common.{◌≡◌, ℕ, ◌+◌, ◌<◌, ◌≤◌, List, [], ◌∷◌, ◌++◌, length, get_or, take, drop, refl, sym, ap, ◌∙◌, subst}
use Rattle.std.proofs.lemmas.List.{append-nil, drop_more, drop_all}
use Rattle.suit_commands.specs.declared.command.Command.{Command}
use Rattle.suit_commands.specs.declared.command.Command.TheVariants as commands
use Rattle.suit_commands.specs.declared.command.Step.{Step}
use Rattle.suit_commands.specs.declared.selection.Selection.{Selection}
use Rattle.suit_commands.specs.Tree.{CommandTree, Index}
use Rattle.suit_commands.specs.View.{sequence_tree, command_tree}
use Rattle.path_checker.specs.declared.judge_plan.halt.Halt.{Halt}
use Rattle.path_checker.specs.Exploring.{Course, Kept, Stopped, Explores, Passes, Continues}
use Rattle.path_checker.specs.Halting.{Halts}
use Rattle.path_checker.specs.Steps.{At, AtEach, RunsAll}
use Rattle.path_checker.specs.Unconditional.{IsUnconditional}
use Rattle.path_checker.proofs.Carrying.{Carries, Carries-start, Carries-then, Carries-end, nothing_course}
use Rattle.path_checker.proofs.Exploring.{then_course, Explores-none}
use Rattle.path_checker.proofs.Leaves.{Same, Explores-same}
use Rattle.path_checker.proofs.Overriding.{Carries-steps}
use Rattle.path_checker.proofs.Popping.{Explores-becomes}
use Rattle.path_checker.proofs.Uncovering.{Uncovers-first}
use Rattle.path_checker.proofs.Walking.{Halts-lift, does_course, rest-is}

pub no_more : {A : Type 0} (xs ys : List A) → xs ≡ [] → ys ≡ [] → xs ++ ys ≡ []
no_more {A} xs ys first second = ap (λ (zs : List A). zs ++ ys) first ∙ second

-- ---- one part

-- where no failed condition is kept
pub Continues-none : (none : Type 0) (course : Course) (from done : List Kept) → Explores course from done [] → Continues none course from done
Continues-none none course from done x = ([], x, λ n. refl)

-- a condition
pub Continues-test : (course : Course) (from done : List Kept) → Passes course from done → Continues ⊥ course from done
Continues-test course from done x = (x.0, x.1, λ n. absurd n)

pub Continues-passes : (none : Type 0) (course : Course) (from done : List Kept) → Continues none course from done → Passes course from done
Continues-passes none course from done x = (x.0, x.1)

pub Continues-same : (none : Type 0) (k : Kept) (a b : Course) (done : List Kept) → Same k a b → Continues none a (k ∷ []) done → Continues none b (k ∷ []) done
Continues-same none k a b done same x = (x.0, Explores-same k a b done x.0 same x.1, x.2)

pub Continues-quiet : (none : Type 0) (course : Course) (from done : List Kept) → none → Continues none course from done → Explores course from done []
Continues-quiet none course from done here x = subst (λ (f : List Stopped). Explores course from done f) (x.2 here) x.1

-- set component index is done at no component
pub Continues-at_index : (k : Kept) (selection : Selection) (count p c : ℕ) (cmd : Command) → cmd ≡ commands.Index selection → Continues (IsUnconditional (command_tree cmd)) (At (command_tree cmd) count p c) (k ∷ []) (k ∷ [])
Continues-at_index k selection count p c cmd is =
    subst (λ (m : Command). Continues (IsUnconditional (command_tree m)) (At (command_tree m) count p c) (k ∷ []) (k ∷ [])) (sym is)
    (Continues-none (IsUnconditional (Index selection)) (At (Index selection) count p c) (k ∷ []) (k ∷ []) (Explores-becomes (At (Index selection) count p c) k k.state (λ ids es e r. r) (λ ids. (refl, refl))))

-- ---- the rest, from where a loop stands

pub record Goes (none : Type 0) (whole : Course) (from : List Kept) (rest : Course) (now : List Kept) : Type 0 where
  pub failed : List Stopped
  pub carries : Carries whole from rest now [] failed
  pub quiet : none → failed ≡ []

pub Goes-start : (none : Type 0) (whole : Course) (from : List Kept) → Goes none whole from whole from
Goes-start none whole from = record { failed = []; carries = Carries-start whole from; quiet = λ n. refl }

-- no state goes on
pub Goes-none : (none : Type 0) (whole : Course) (from : List Kept) (rest : Course) → Goes none whole from rest [] → Continues none whole from []
Goes-none none whole from rest w = (w.failed, subst (λ (f : List Stopped). Explores whole from [] f) (append-nil w.failed) (w.carries.explores [] [] (Explores-none rest)), w.quiet)

Goes-end : (none : Type 0) (whole : Course) (from now : List Kept) → Goes none whole from nothing_course now → Continues none whole from now
Goes-end none whole from now w = (w.failed, Carries-end whole from now [] w.failed w.carries, w.quiet)

module _ (none : Type 0) (whole first second : Course) (from now : List Kept) (w : Goes none whole from (then_course first second) now) where
  pub Goes-then : (none' : Type 0) (mid : List Kept) → (none → none') → Continues none' first now mid → Goes none whole from second mid
  Goes-then none' mid there x = record {
    failed = w.failed ++ x.0;
    carries = Carries-then whole first second from now mid [] w.failed x.0 w.carries x.1;
    quiet = λ n. no_more w.failed x.0 (w.quiet n) (x.2 (there n));
  }

  pub Goes-halts : (h : Halt) → Halts first now h → Halts whole from h
  Goes-halts h u = Halts-lift first whole now from (λ facts events x. w.carries.uncovers facts events (Uncovers-first first second now facts events x)) h u

-- ---- one step after another

module _ (none : Type 0) (steps : List Step) (i count : ℕ) (step : Step) (lt : i < length steps) (is : step ≡ get_or steps i step) (whole : Course) (from now : List Kept) (w : Goes none whole from (RunsAll (sequence_tree (drop i steps)) count) now) where
  abbrev step_first : Course
  step_first = does_course (command_tree step.command) count step.place

  abbrev step_rest : Course
  step_rest = RunsAll (sequence_tree (drop (i + 1) steps)) count

  parted : Goes none whole from (then_course step_first step_rest) now
  parted =
      subst (λ (s : Step). Goes none whole from (then_course (does_course (command_tree s.command) count s.place) step_rest) now) (sym is) (subst (λ (r : Course). Goes none whole from r now) (rest-is steps i count step lt) w)

  pub Goes-step : (none' : Type 0) (mid : List Kept) → (none → none') → Continues none' step_first now mid → Goes none whole from step_rest mid
  Goes-step = Goes-then none whole step_first step_rest from now parted

  pub Goes-stops : (h : Halt) → Halts step_first now h → Halts whole from h
  Goes-stops = Goes-halts none whole step_first step_rest from now parted

-- several at once, none of which is a condition
pub Goes-steps : (none : Type 0) (steps xs : List Step) (i count : ℕ) (whole : Course) (from now mid : List Kept) → Goes none whole from (RunsAll (sequence_tree (drop i steps)) count) now → xs ≡ take (length xs) (drop i steps) → Explores (RunsAll (sequence_tree xs) count) now mid [] → Goes none whole from (RunsAll (sequence_tree (drop (i + length xs) steps)) count) mid
Goes-steps none steps xs i count whole from now mid w part x = record {
  failed = w.failed;
  carries = subst (λ (f : List Stopped). Carries whole from (RunsAll (sequence_tree (drop (i + length xs) steps)) count) mid [] f) (append-nil w.failed) (Carries-steps steps xs i count whole from now mid w.failed [] w.carries part x);
  quiet = w.quiet;
}

-- no step is left
pub Goes-over : (none : Type 0) (steps : List Step) (i count : ℕ) (whole : Course) (from now : List Kept) → length steps ≤ i → Goes none whole from (RunsAll (sequence_tree (drop i steps)) count) now → Continues none whole from now
Goes-over none steps i count whole from now past w = Goes-end none whole from now (subst (λ (xs : List Step). Goes none whole from (RunsAll (sequence_tree xs) count) now) (drop_all i steps past) w)

-- ---- one component after another

module _ (none : Type 0) (cmd : CommandTree) (count p : ℕ) (cs : List ℕ) (i c : ℕ) (lt : i < length cs) (is : c ≡ get_or cs i c) (whole : Course) (from now : List Kept) (w : Goes none whole from (AtEach cmd count p (drop i cs)) now) where
  abbrev at_first : Course
  at_first = At cmd count p c

  abbrev at_rest : Course
  at_rest = AtEach cmd count p (drop (i + 1) cs)

  parted_at : Goes none whole from (then_course at_first at_rest) now
  parted_at =
      subst (λ (d : ℕ). Goes none whole from (then_course (At cmd count p d) at_rest) now) (sym is) (subst (λ (xs : List ℕ). Goes none whole from (AtEach cmd count p xs) now) (drop_more cs i c lt) w)

  pub Goes-at : (mid : List Kept) → Continues none at_first now mid → Goes none whole from at_rest mid
  Goes-at mid x = Goes-then none whole at_first at_rest from now parted_at none mid (λ n. n) x

  pub Goes-at_stops : (h : Halt) → Halts at_first now h → Halts whole from h
  Goes-at_stops = Goes-halts none whole at_first at_rest from now parted_at

-- no component is left
pub Goes-at_over : (none : Type 0) (cmd : CommandTree) (count p : ℕ) (cs : List ℕ) (i : ℕ) (whole : Course) (from now : List Kept) → length cs ≤ i → Goes none whole from (AtEach cmd count p (drop i cs)) now → Continues none whole from now
Goes-at_over none cmd count p cs i whole from now past w = Goes-end none whole from now (subst (λ (xs : List ℕ). Goes none whole from (AtEach cmd count p xs) now) (drop_all i cs past) w)
