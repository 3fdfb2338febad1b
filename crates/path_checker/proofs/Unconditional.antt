-- Commands that are done in a state in place.
use Rattle.std.proofs.Common.{◌≡◌, ℕ, zero, suc, ◌+◌, ◌-◌, ◌<◌, ◌≤◌, Bool, true, false, List, [], ◌∷◌, ◌++◌, length, get_or, set, take, drop, Option, Some, None, refl, sym, ap, ◌∙◌, subst, arith, inl, inr}
use Rattle.std.specs.List.{swap}
use Rattle.std.proofs.lemmas.Bool.{cases_lt}
use Rattle.std.proofs.lemmas.List.{append-nil, drop_more, drop-drop, drop-set-lt, get_or-drop, get_or-set_same, length-set, take_all, take_more, take_more_set, take-set-le}
use Rattle.std.proofs.lemmas.List.Edits.{swap_is, length-swap}
use Rattle.suit_params.specs.InForce.{Parameters}
use Rattle.suit_commands.specs.declared.command.Command.{Command}
use Rattle.suit_commands.specs.declared.command.Command.TheVariants as commands
use Rattle.suit_commands.specs.declared.command.Step.{Step}
use Rattle.suit_commands.specs.declared.selection.Selection.{Selection}
use Rattle.suit_commands.specs.Size.{sequence_size, command_size}
use Rattle.suit_commands.specs.Selections.{selected_by}
use Rattle.suit_commands.specs.Tree.{CommandTree, Test, Act, Index, Override, TryEach, RunSequence, SequenceTree, NoSteps, StepThen, BranchesTree}
use Rattle.suit_commands.specs.View.{sequence_tree, command_tree, branches_tree}
use Rattle.path_model.specs.declared.event.Event.{Event}
use Rattle.path_checker.specs.declared.judge_plan.facts.Knowledge.{Knowledge}
use Rattle.path_checker.specs.declared.judge_plan.halt.Halt.{Halt}
use Rattle.path_checker.specs.Exploring.{Course, In, Kept, Stopped, Explores, Continues, Uncovers, kept_if, kept_of, state_of}
use Rattle.path_checker.specs.Halting.{Halts}
use Rattle.path_checker.specs.Inner.{RunsInside, entered, left}
use Rattle.path_checker.specs.Small.{IsSmallSequence, IsSmallCommand, IsStraight, IsInPlace, AreInPlace, AreStraight}
use Rattle.path_checker.specs.Steps.{with_selection, RunsAll, TriesIn}
use Rattle.path_checker.specs.Unconditional.{IsUnconditional, AreUnconditional, FirstIsUnconditional}
use Rattle.path_checker.proofs.Branching.{at-one, at_some, Halts-run}
use Rattle.path_checker.proofs.Continuing.{no_more}
use Rattle.path_checker.proofs.Exploring.{Explores-none, Found-left, Found-right}
use Rattle.path_checker.proofs.InnerSequences.{inner_course, Explores-inner}
use Rattle.path_checker.proofs.Membership.{In-left, In-right, In-cases}
use Rattle.path_checker.proofs.OneBranch.{branch_course, Explores-branch}
use Rattle.path_checker.proofs.Overriding.{taken_more, both_parts}
use Rattle.path_checker.proofs.Popping.{Explores-becomes}
use Rattle.path_checker.proofs.Smallness.{small_step}
use Rattle.path_checker.proofs.Uncovering.{Uncovers-branch}
use Rattle.path_checker.proofs.Walking.{Halts-lift, does_course}

-- ---- which they are

in_place-last : (tests : Bool) (xs : List Step) (x : Step) → AreInPlace tests (sequence_tree xs) → IsInPlace tests (command_tree x.command) → AreInPlace tests (sequence_tree (xs ++ x ∷ []))
in_place-last tests [] x all one = (one, tt)
in_place-last tests (y ∷ xs) x all one = (all.0, in_place-last tests xs x all.1 one)

element : {A : Type 0} → (xs : List A) (i : ℕ) → i < length xs → A
element [] i lt = absurd (omega arith)
element (x ∷ xs) zero lt = x
element (x ∷ xs) (suc i) lt = element xs i (omega arith)

pub in_place_more : (tests : Bool) (steps : List Step) (at end : ℕ) → at ≤ end → end < length steps → AreInPlace tests (sequence_tree (take (end - at) (drop at steps))) → ((d : Step) → IsInPlace tests (command_tree (get_or steps end d).command)) → AreInPlace tests (sequence_tree (take (end + 1 - at) (drop at steps)))
in_place_more tests steps at end behind lt all one =
    let d : Step = element steps end lt in
    subst (λ (xs : List Step). AreInPlace tests (sequence_tree xs)) (sym (taken_more steps at end d behind lt)) (in_place-last tests (take (end - at) (drop at steps)) (get_or steps end d) all (one d))

-- the next step, and the others
pub straight_step : (ss : List Step) (i : ℕ) (step : Step) → i < length ss → step ≡ get_or ss i step → AreStraight (sequence_tree (drop i ss))
    → IsStraight (command_tree step.command) × AreStraight (sequence_tree (drop (i + 1) ss))
straight_step ss i step lt is all =
    subst (λ (s : Step). IsStraight (command_tree s.command) × AreStraight (sequence_tree (drop (i + 1) ss))) (sym is) (subst (λ (xs : List Step). AreStraight (sequence_tree xs)) (drop_more ss i step lt) all)

pub small_next : (count : ℕ) (ss : List Step) (i : ℕ) (step : Step) → i < length ss → step ≡ get_or ss i step → IsSmallSequence count (sequence_tree (drop i ss))
    → IsSmallCommand count (command_tree step.command) × IsSmallSequence count (sequence_tree (drop (i + 1) ss))
small_next count ss i step lt is all =
    subst (λ (s : Step). IsSmallCommand count (command_tree s.command) × IsSmallSequence count (sequence_tree (drop (i + 1) ss))) (sym is) (small_step count ss i step lt all)

straight_rest : (xs ys : List Step) → AreStraight (sequence_tree (xs ++ ys)) → AreStraight (sequence_tree ys)
straight_rest [] ys all = all
straight_rest (x ∷ xs) ys all = straight_rest xs ys all.1

-- the commands after the first ones
pub straight_steps : (steps xs : List Step) (i : ℕ) → xs ≡ take (length xs) (drop i steps) → AreStraight (sequence_tree (drop i steps)) → AreStraight (sequence_tree (drop (i + length xs) steps))
straight_steps steps xs i part all = straight_rest xs (drop (i + length xs) steps) (subst (λ (t : List Step). AreStraight (sequence_tree t)) (both_parts steps xs i part) all)

-- ---- what holds no condition that is met, and what is done in place

pub unconditional_straight : (command : CommandTree) → IsUnconditional command → IsStraight command
unconditional_straight (Test kind report) none = tt
unconditional_straight (Act kind report) none = tt
unconditional_straight (Index s) none = tt
unconditional_straight (Override list) none = tt
unconditional_straight (TryEach bs) none = none
unconditional_straight (RunSequence inner) none = none

pub are_straight : (s : SequenceTree) → AreUnconditional s → AreStraight s
are_straight NoSteps all = tt
are_straight (StepThen p command rest) all = (unconditional_straight command all.0, are_straight rest all.1)

pub unconditional_in_place : (tests : Bool) (command : CommandTree) → IsUnconditional command → IsInPlace tests command
unconditional_in_place true command none = unconditional_straight command none
unconditional_in_place false command none = none

straight_in_place : (tests : Bool) (command : CommandTree) → IsInPlace tests command → IsStraight command
straight_in_place true command here = here
straight_in_place false command here = unconditional_straight command here

pub in_place_straight : (tests : Bool) (s : SequenceTree) → AreInPlace tests s → AreStraight s
in_place_straight tests NoSteps all = tt
in_place_straight tests (StepThen p command rest) all = (straight_in_place tests command all.0, in_place_straight tests rest all.1)

-- without the conditions
pub in_place_unconditional : (s : SequenceTree) → AreInPlace false s → AreUnconditional s
in_place_unconditional NoSteps all = tt
in_place_unconditional (StepThen p command rest) all = (all.0, in_place_unconditional rest all.1)

unconditional_here : (ss : List Step) (i : ℕ) (d : Step) → i < length ss → AreUnconditional (sequence_tree ss) → IsUnconditional (command_tree (get_or ss i d).command)
unconditional_here [] i d lt all = absurd (omega arith)
unconditional_here (s ∷ ss) zero d lt all = all.0
unconditional_here (s ∷ ss) (suc i) d lt all = unconditional_here ss i d (omega arith) all.1

pub unconditional_at : (ss : List Step) (i : ℕ) (step : Step) → i < length ss → step ≡ get_or ss i step → AreUnconditional (sequence_tree ss) → IsUnconditional (command_tree step.command)
unconditional_at ss i step lt is all = subst (λ (s : Step). IsUnconditional (command_tree s.command)) (sym is) (unconditional_here ss i step lt all)

-- ---- a command in which a condition may be met

pub conditional_each : (cmd : Command) → (IsUnconditional (command_tree cmd) → ⊥) → (s : Selection) → cmd ≡ commands.Index s → ⊥
conditional_each cmd conditional s is = conditional (subst (λ (m : Command). IsUnconditional (command_tree m)) (sym is) tt)

pub conditional_holds : (cmd : Command) → ((kind : _) (report : _) → cmd ≡ commands.Test kind report → ⊥) → ((branches : _) → cmd ≡ commands.TryEach branches → ⊥) → ((inner : _) → cmd ≡ commands.Run inner → ⊥) → (IsUnconditional (command_tree cmd) → ⊥) → ⊥
conditional_holds (commands.Test kind report) test tries run conditional = test kind report refl
conditional_holds (commands.Act kind report) test tries run conditional = conditional tt
conditional_holds (commands.Index s) test tries run conditional = conditional tt
conditional_holds (commands.Override list) test tries run conditional = conditional tt
conditional_holds (commands.TryEach branches) test tries run conditional = tries branches refl
conditional_holds (commands.Run inner) test tries run conditional = run inner refl

-- the one that follows none that is done in place
pub conditional_next : (tests : Bool) (steps xs : List Step) (at : ℕ) (step : Step) → length xs ≤ 0 → at < length steps → step ≡ get_or steps at step → ((s : Step) → at + length xs < length steps → IsInPlace tests (command_tree (get_or steps (at + length xs) s).command) → ⊥) → IsUnconditional (command_tree step.command) → ⊥
conditional_next tests steps xs at step none lt is next here =
    let e : at + length xs ≡ at = omega (arith, none) in
    next step (omega (arith, e, lt)) (subst (λ (n : ℕ). IsInPlace tests (command_tree (get_or steps n step).command)) (sym e) (subst (λ (x : Step). IsInPlace tests (command_tree x.command)) is (unconditional_in_place tests (command_tree step.command) here)))

-- a try each that runs no condition has a first branch
pub first_there : (bs : List (Option SequenceTree)) → FirstIsUnconditional (branches_tree bs) → 0 < length bs
first_there [] first = absurd first
first_there (b ∷ bs) first = omega arith

pub first_of : (bs : List (Option SequenceTree)) (d : Option SequenceTree) (inner : SequenceTree) → get_or bs 0 d ≡ Some inner → 0 < length bs → FirstIsUnconditional (branches_tree bs) → AreUnconditional inner
first_of [] d inner is lt first = absurd first
first_of (None ∷ bs) d inner is lt first = absurd cc
first_of (Some s ∷ bs) d inner is lt first = let same : s ≡ inner = cc in subst AreUnconditional same first

-- ---- each step is smaller than the steps

size_here : (ss : List Step) (i : ℕ) (d : Step) → i < length ss → command_size (command_tree (get_or ss i d).command) + 1 ≤ sequence_size (sequence_tree ss)
size_here [] i d lt = absurd (omega arith)
size_here (s ∷ ss) zero d lt = omega arith
size_here (s ∷ ss) (suc i) d lt = omega (arith, size_here ss i d (omega arith))

pub size_at : (ss : List Step) (i : ℕ) (step : Step) → i < length ss → step ≡ get_or ss i step → command_size (command_tree step.command) + 1 ≤ sequence_size (sequence_tree ss)
size_at ss i step lt is = subst (λ (s : Step). command_size (command_tree s.command) + 1 ≤ sequence_size (sequence_tree ss)) (sym is) (size_here ss i step lt)

-- ---- inner sequences

module _ (body : Course) (c : ℕ) (k to : Kept) where
  pub Explores-inside : (goes_on : Bool) → RunsInside body c false k goes_on to → Explores (inner_course body c) (k ∷ []) (kept_if goes_on to) []
  Explores-inside true r = subst (λ (x : Kept). Explores (inner_course body c) (k ∷ []) (x ∷ []) []) (sym r.to_is) (Explores-inner body k.state c (k ∷ []) (r.inside ∷ []) [] (at-one k k.state refl) r.explores)
  Explores-inside false r = Explores-inner body k.state c (k ∷ []) [] [] (at-one k k.state refl) r.explores

  pub Explores-tried : (others : ℕ → Course) (goes_on : Bool) → RunsInside body c true k goes_on to → Explores (branch_course body others c) (k ∷ []) (kept_if goes_on to) []
  Explores-tried others true r = subst (λ (x : Kept). Explores (branch_course body others c) (k ∷ []) (x ∷ []) []) (sym r.to_is) (Explores-branch body others k.state c (k ∷ []) (r.inside ∷ []) [] [] [] (at-one k k.state refl) r.explores (Explores-none (others c)))
  Explores-tried others false r = Explores-branch body others k.state c (k ∷ []) [] [] [] [] (at-one k k.state refl) r.explores (Explores-none (others c))

pub Halts-inside : (body : Course) (c : ℕ) (k : Kept) (h : Halt) → Halts body (entered k.state c false k ∷ []) h → Halts (inner_course body c) (k ∷ []) h
Halts-inside body c k h u = Halts-run body k.state c k (entered k.state c false k) (entered k.state c false k ∷ []) refl refl refl h u

pub Halts-tried : (body : Course) (others : ℕ → Course) (c : ℕ) (k : Kept) (h : Halt) → Halts body (entered k.state c true k ∷ []) h → Halts (branch_course body others c) (k ∷ []) h
Halts-tried body others c k h u = Halts-lift body (branch_course body others c) (entered k.state c true k ∷ []) (k ∷ []) (λ facts events x. Uncovers-branch body others k.state c (k ∷ []) facts events (at-one k k.state refl) x) h u

-- the first branch of a try each
module _ (bs : List (Option SequenceTree)) (whole : BranchesTree) (is : branches_tree bs ≡ whole) (none : FirstIsUnconditional whole) (count p c : ℕ) (d : Option SequenceTree) (inner : SequenceTree) (here : get_or bs 0 d ≡ Some inner) (k to : Kept) where
  first_course : TriesIn (branches_tree bs) count p c ≡ branch_course (RunsAll inner count) (TriesIn (branches_tree (drop 1 bs)) count p) c
  first_course = at_some bs 0 count p c d inner (first_there bs (subst FirstIsUnconditional (sym is) none)) here

  pub Explores-first : (goes_on : Bool) → RunsInside (RunsAll inner count) c true k goes_on to → Explores (TriesIn whole count p c) (k ∷ []) (kept_if goes_on to) []
  Explores-first goes_on r =
      subst (λ (w : BranchesTree). Explores (TriesIn w count p c) (k ∷ []) (kept_if goes_on to) []) is
      (subst (λ (course : Course). Explores course (k ∷ []) (kept_if goes_on to) []) (sym first_course) (Explores-tried (RunsAll inner count) c k to (TriesIn (branches_tree (drop 1 bs)) count p) goes_on r))

  pub Halts-first : (h : Halt) → Halts (RunsAll inner count) (entered k.state c true k ∷ []) h → Halts (TriesIn whole count p c) (k ∷ []) h
  Halts-first h u =
      subst (λ (w : BranchesTree). Halts (TriesIn w count p c) (k ∷ []) h) is
      (subst (λ (course : Course). Halts course (k ∷ []) h) (sym first_course) (Halts-tried (RunsAll inner count) (TriesIn (branches_tree (drop 1 bs)) count p) c k h u))

-- an inner sequence begins, and completes

pub entered_is : (k : Kept) (facts : List Knowledge) (events : List Event) (ps : Parameters) (cs cs' : List ℕ) (soft soft' : Bool) (c : ℕ) → kept_of facts events (state_of ps cs soft) ≡ k → cs' ≡ c ∷ [] → kept_of facts events (state_of ps cs' soft') ≡ entered k.state c soft' k
entered_is k facts events ps cs cs' soft soft' c is one =
    subst (λ (x : Kept). kept_of facts events (state_of ps cs' soft') ≡ entered x.state c soft' x) is (ap (λ (t : List ℕ). kept_of facts events (state_of ps t soft')) one)

pub left_is : (k to : Kept) (facts facts' : List Knowledge) (events events' : List Event) (ps ps' : Parameters) (cs cs' cs'' : List ℕ) (soft soft' : Bool) → kept_of facts events (state_of ps cs soft) ≡ k → kept_of facts' events' (state_of ps' cs' soft') ≡ to → cs'' ≡ cs → kept_of facts' events' (state_of ps' cs'' soft) ≡ left k.state to
left_is k to facts facts' events events' ps ps' cs cs' cs'' soft soft' is to_is same =
    subst (λ (x : Kept). kept_of facts' events' (state_of ps' cs'' soft) ≡ left x.state to) is
    (subst (λ (y : Kept). kept_of facts' events' (state_of ps' cs'' soft) ≡ left (state_of ps cs soft) y) to_is (ap (λ (t : List ℕ). kept_of facts' events' (state_of ps' t soft)) same))

-- from the same state
pub Explores-begun : (a b : Course) (x y : Kept) (d : List Kept) → a ≡ b → x ≡ y → Explores a (x ∷ []) d [] → Explores b (y ∷ []) d []
Explores-begun a b x y d same begun e = subst (λ (course : Course). Explores course (y ∷ []) d []) same (subst (λ (k : Kept). Explores a (k ∷ []) d []) begun e)

pub Halts-begun : (a b : Course) (x y : Kept) (h : Halt) → a ≡ b → x ≡ y → Halts a (x ∷ []) h → Halts b (y ∷ []) h
Halts-begun a b x y h same begun u = subst (λ (course : Course). Halts course (y ∷ []) h) same (subst (λ (k : Kept). Halts a (k ∷ []) h) begun u)

-- set component index
pub Explores-index : (k to : Kept) (selection : Selection) (count p : ℕ) (cmd : Command) → cmd ≡ commands.Index selection → to ≡ with_selection k (selected_by selection count) → Explores (does_course (command_tree cmd) count p) (k ∷ []) (to ∷ []) []
Explores-index k to selection count p cmd is made =
    subst (λ (m : Command). Explores (does_course (command_tree m) count p) (k ∷ []) (to ∷ []) []) (sym is)
    (subst (λ (x : Kept). Explores (does_course (Index selection) count p) (k ∷ []) (x ∷ []) []) (sym made) (Explores-becomes (does_course (Index selection) count p) k (with_selection k (selected_by selection count)).state (λ ids es e r. r) (λ ids. (refl, refl))))

-- ---- one state after another in one list: those that go on are at its front

Explores-behind : (course : Course) (k : Kept) (ks d d' : List Kept) (f f' : List Stopped) → Explores course ks d f → Explores course (k ∷ []) d' f' → Explores course (ks ++ k ∷ []) (d ++ d') (f ++ f')
Explores-behind course k ks d d' f f' x y = record {
  complete = λ k' h ids al es e r. elim (In-cases k' ks (k ∷ []) h) [
    | inl i ↦ let z = x.complete k' i ids al es e r in (z.0, Found-left k' ids es d d' f f' e z.1)
    | inr i ↦ let z = y.complete k' i ids al es e r in (z.0, Found-right k' ids es d d' f f' e z.1)
  ];
  reached = λ to h. elim (In-cases to d d' h) [
    | inl i ↦ let z = x.reached to i in (z.0, In-left z.0 ks (k ∷ []) z.1, z.2)
    | inr i ↦ let z = y.reached to i in (z.0, In-right z.0 ks (k ∷ []) z.1, z.2)
  ];
  stopped = λ to h. elim (In-cases to f f' h) [
    | inl i ↦ let z = x.stopped to i in (z.0, In-left z.0 ks (k ∷ []) z.1, z.2)
    | inr i ↦ let z = y.stopped to i in (z.0, In-right z.0 ks (k ∷ []) z.1, z.2)
  ];
}

Continues-behind : (none : Type 0) (course : Course) (k : Kept) (ks d d' : List Kept) → Continues none course ks d → Continues none course (k ∷ []) d' → Continues none course (ks ++ k ∷ []) (d ++ d')
Continues-behind none course k ks d d' (f, x, quiet) (f', y, quiet') = (f ++ f', Explores-behind course k ks d d' f f' x y, λ n. no_more f f' (quiet n) (quiet' n))

-- the first ones were done, and of these some are kept
pub record Compacts (none : Type 0) (course : Course) (from now : List Kept) (at kept : ℕ) : Type 0 where
  pub behind : kept ≤ at
  pub count : length now ≡ length from
  pub rest : drop at now ≡ drop at from
  pub continues : Continues none course (take at from) (take kept now)

-- after a swap, one more stands at the front
swapped-front : {X : Type 0} → (xs : List X) (i j : ℕ) (d : X) → i ≤ j → j < length xs → take (i + 1) (swap xs i j) ≡ take i xs ++ get_or xs j d ∷ []
swapped-front {X} xs i j d le lt =
    let li : i < length xs = omega (arith, le, lt) in
    let is : set (set xs i (get_or xs j d)) j (get_or xs i d) ≡ swap xs i j = swap_is xs i j d li lt in
    elim (cases_lt i j) [
      | inl before ↦
          let outer : take (i + 1) (set (set xs i (get_or xs j d)) j (get_or xs i d)) ≡ take (i + 1) (set xs i (get_or xs j d)) = take-set-le (i + 1) (set xs i (get_or xs j d)) j (get_or xs i d) (omega (arith, before)) in
          ap (λ (ys : List X). take (i + 1) ys) (sym is) ∙ outer ∙ take_more_set xs i (get_or xs j d) li
      | inr behind ↦
          let same : i ≡ j = omega (arith, le, behind) in
          let within : i < length (set xs i (get_or xs j d)) = omega (arith, li, length-set xs i (get_or xs j d)) in
          let one : take (i + 1) (set (set xs i (get_or xs j d)) i (get_or xs i d)) ≡ take i (set xs i (get_or xs j d)) ++ get_or xs i d ∷ [] = take_more_set (set xs i (get_or xs j d)) i (get_or xs i d) within in
          ap (λ (ys : List X). take (i + 1) ys) (sym is) ∙ ap (λ (n : ℕ). take (i + 1) (set (set xs i (get_or xs j d)) n (get_or xs i d))) (sym same) ∙ one
          ∙ ap (λ (ys : List X). ys ++ get_or xs i d ∷ []) (take-set-le i xs i (get_or xs j d) (omega arith)) ∙ ap (λ (n : ℕ). take i xs ++ get_or xs n d ∷ []) same
    ]

-- and those after it are as they were
swapped-rest : {X : Type 0} → (xs : List X) (i j : ℕ) (d : X) → i ≤ j → j < length xs → drop (j + 1) (swap xs i j) ≡ drop (j + 1) xs
swapped-rest {X} xs i j d le lt =
    let is : set (set xs i (get_or xs j d)) j (get_or xs i d) ≡ swap xs i j = swap_is xs i j d (omega (arith, le, lt)) lt in
    ap (λ (ys : List X). drop (j + 1) ys) (sym is) ∙ drop-set-lt (j + 1) (set xs i (get_or xs j d)) j (get_or xs i d) (omega arith) ∙ drop-set-lt (j + 1) xs i (get_or xs j d) (omega (arith, le))

module _ (none : Type 0) (course : Course) (from now : List Kept) (at kept : ℕ) (d : Kept) (w : Compacts none course from now at kept) (lt : at < length now) where
  -- the next one is as it was at first
  pub next-is : get_or now at d ≡ get_or from at d
  next-is =
      let zero-on : at + 0 ≡ at = omega arith in
      ap (λ (n : ℕ). get_or now n d) (sym zero-on) ∙ sym (get_or-drop at now 0 d) ∙ ap (λ (ks : List Kept). get_or ks 0 d) w.rest ∙ get_or-drop at from 0 d ∙ ap (λ (n : ℕ). get_or from n d) zero-on

  rest-next : drop (at + 1) now ≡ drop (at + 1) from
  rest-next = sym (drop-drop 1 at now) ∙ ap (λ (ks : List Kept). drop 1 ks) w.rest ∙ drop-drop 1 at from

  done-next : (to : Kept) (goes_on : Bool) → Continues none course (get_or now at d ∷ []) (kept_if goes_on to) → Continues none course (take (at + 1) from) (take kept now ++ kept_if goes_on to)
  done-next to goes_on x =
      let all : take (at + 1) from ≡ take at from ++ get_or now at d ∷ [] = take_more from at d (omega (arith, lt, w.count)) ∙ ap (λ (k : Kept). take at from ++ k ∷ []) (sym next-is) in
      subst (λ (ks : List Kept). Continues none course ks (take kept now ++ kept_if goes_on to)) (sym all) (Continues-behind none course (get_or now at d) (take at from) (take kept now) (kept_if goes_on to) w.continues x)

  pub Compacts-gone : (to : Kept) → Continues none course (get_or now at d ∷ []) [] → Compacts none course from (set now at to) (at + 1) kept
  Compacts-gone to x = record {
    behind = omega (arith, w.behind);
    count = length-set now at to ∙ w.count;
    rest = drop-set-lt (at + 1) now at to (omega arith) ∙ rest-next;
    continues =
        subst (λ (ks : List Kept). Continues none course (take (at + 1) from) ks) (append-nil (take kept now) ∙ sym (take-set-le kept now at to w.behind)) (done-next to false x);
  }

  pub Compacts-kept : (to : Kept) → Continues none course (get_or now at d ∷ []) (to ∷ []) → Compacts none course from (swap (set now at to) kept at) (at + 1) (kept + 1)
  Compacts-kept to x =
      let ks : List Kept = set now at to in
      let within : at < length ks = omega (arith, lt, length-set now at to) in
      let front : take (kept + 1) (swap ks kept at) ≡ take kept now ++ to ∷ [] =
      swapped-front ks kept at d w.behind within ∙ ap (λ (k : Kept). take kept ks ++ k ∷ []) (get_or-set_same now at to d lt) ∙ ap (λ (xs : List Kept). xs ++ to ∷ []) (take-set-le kept now at to w.behind)
      in
      record {
        behind = omega (arith, w.behind);
        count = length-swap ks kept at ∙ length-set now at to ∙ w.count;
        rest = swapped-rest ks kept at d w.behind within ∙ drop-set-lt (at + 1) now at to (omega arith) ∙ rest-next;
        continues = subst (λ (xs : List Kept). Continues none course (take (at + 1) from) xs) (sym front) (done-next to true x);
      }

  pub Compacts-halts : (h : Halt) → Halts course (get_or now at d ∷ []) h → Halts course from h
  Compacts-halts h u = Halts-lift course course (get_or now at d ∷ []) from here h u
    where
      member : (ks : List Kept) (i : ℕ) → i < length ks → In (get_or ks i d) ks
      member [] i le = absurd (omega arith)
      member (k ∷ ks) zero le = inl refl
      member (k ∷ ks) (suc i) le = inr (member ks i (omega arith))

      here : (facts : List Knowledge) (events : List Event) → Uncovers course (get_or now at d ∷ []) facts events → Uncovers course from facts events
      here facts events (k', inl p, v) = (k', subst (λ (k : Kept). In k from) (sym next-is ∙ p) (member from at (omega (arith, lt, w.count))), v)
      here facts events (k', inr n, v) = absurd n

pub Compacts-end : (none : Type 0) (course : Course) (from now : List Kept) (at kept : ℕ) → Compacts none course from now at kept → length from ≤ at → Continues none course from (take kept now)
Compacts-end none course from now at kept w past = subst (λ (ks : List Kept). Continues none course ks (take kept now)) (take_all at from past) w.continues
