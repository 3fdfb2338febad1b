-- Parts of a procedure, one after another, where the states after the last one are not kept.
use Rattle.std.proofs.Common.{◌≡◌, ℕ, ◌+◌, ◌<◌, List, [], ◌∷◌, ◌++◌, length, get_or, drop, refl, sym, ap, ◌∙◌, subst, append_assoc, inl, inr}
use Rattle.std.proofs.lemmas.List.{append-nil}
use Rattle.suit_commands.specs.declared.command.Step.{Step}
use Rattle.suit_commands.specs.Tree.{SequenceTree, PlanTree}
use Rattle.suit_commands.specs.View.{sequence_tree, command_tree}
use Rattle.path_model.specs.declared.event.Event.{Event}
use Rattle.path_model.specs.declared.identity.Identity.{Identity}
use Rattle.path_model.specs.Behaviour.{State, Ending, Done, Condition, Directive, Behaviour, Then}
use Rattle.path_model.specs.Following.{CoveredFrom}
use Rattle.path_model.specs.Path.{RunsPlan}
use Rattle.path_model.proofs.Covering.{CoveredFrom-append}
use Rattle.path_checker.specs.declared.judge_plan.facts.Knowledge.{Knowledge}
use Rattle.path_checker.specs.declared.judge_plan.halt.Halt.{Halt}
use Rattle.path_checker.specs.Knowing.{Allows}
use Rattle.path_checker.specs.Exploring.{Course, Kept, Passes, Uncovered, Uncovers, kept_of}
use Rattle.path_checker.specs.Going.{GoesOn}
use Rattle.path_checker.specs.Halting.{Halts}
use Rattle.path_checker.specs.Invoking.{AreQuiet, Covers}
use Rattle.path_checker.specs.Procedures.{FromStart, FromThird, FromSecond, ThirdInvokes, SecondInvokes}
use Rattle.path_checker.specs.Rests.{RunsRest}
use Rattle.path_checker.specs.Steps.{RunsAll}
use Rattle.path_checker.proofs.Carrying.{nothing_course, Explores-nothing}
use Rattle.path_checker.proofs.Exploring.{then_course}
use Rattle.path_checker.proofs.Membership.{In-left, In-right, In-cases}
use Rattle.path_checker.proofs.Quiet.{IsSilent, quiet_covered}
use Rattle.path_checker.proofs.Starting.{Covers-then, third_silent, second_silent}
use Rattle.path_checker.proofs.Uncovering.{Uncovered-lift, Uncovers-first, Uncovers-second}
use Rattle.path_checker.proofs.Walking.{Halts-lift, does_course, rest-is}

-- ---- one after another, grouped either way

pub then-left : (a b c : Behaviour) (s : State) (es : List Event) (e : Ending) → Then (Then a b) c s es e → Then a (Then b c) s es e
then-left a b c s es e (inl (f, inl (g, r))) = inl (f, r)
then-left a b c s es e (inl (f, inr (m, x, y, is, r, q))) = inr (m, x, y, is, r, inl (f, q))
then-left a b c s es e (inr (m, x, y, is, inl (f, r), q)) = absurd f
then-left a b c s es e (inr (m, x, y, is, inr (n, v, w, is', r, p), q)) = inr (n, v, w ++ y, is ∙ ap (λ (z : List Event). z ++ y) is' ∙ append_assoc v w y, r, inr (m, w, y, refl, p, q))

pub then-right : (a b c : Behaviour) (s : State) (es : List Event) (e : Ending) → Then a (Then b c) s es e → Then (Then a b) c s es e
then-right a b c s es e (inl (f, r)) = inl (f, inl (f, r))
then-right a b c s es e (inr (m, x, y, is, r, inl (f, q))) = inl (f, inr (m, x, y, is, r, q))
then-right a b c s es e (inr (m, x, y, is, r, inr (n, v, w, is', p, q))) = inr (n, x ++ v, w, is ∙ ap (λ (z : List Event). x ++ z) is' ∙ sym (append_assoc x v w), inr (m, x, v, refl, r, p), q)

pub Covers-left : (a b c : Course) (from : List Kept) → Covers (then_course a (then_course b c)) from → Covers (then_course (then_course a b) c) from
Covers-left a b c from h k i ids al es e r = h k i ids al es e (then-left (a ids) (b ids) (c ids) k.state es e r)

pub Uncovers-left : (a b c : Course) (from : List Kept) (facts : List Knowledge) (events : List Event) → Uncovers (then_course a (then_course b c)) from facts events → Uncovers (then_course (then_course a b) c) from facts events
Uncovers-left a b c from facts events (k, i, u) =
    (k, i, Uncovered-lift (then_course a (then_course b c)) (then_course (then_course a b) c) k k facts events refl refl (λ ids al es place r. then-right (a ids) (b ids) (c ids) k.state es (Directive place) r) u)

-- ---- the invariant of a loop

pub GoesOn-start : (whole : Course) (from : List Kept) → GoesOn whole from whole from
GoesOn-start whole from = record { covers = λ h. h; uncovers = λ facts events u. u }

pub GoesOn-halts : (whole rest : Course) (from now : List Kept) → GoesOn whole from rest now → (h : Halt) → Halts rest now h → Halts whole from h
GoesOn-halts whole rest from now g h u = Halts-lift rest whole now from g.uncovers h u

pub Covers-none : (course : Course) → Covers course []
Covers-none course k i = absurd i

-- ---- one command after another

module _ (steps : List Step) (i count : ℕ) (step : Step) (lt : i < length steps) (is : step ≡ get_or steps i step) (after whole : Course) (from now : List Kept)
    (g : GoesOn whole from (then_course (RunsAll (sequence_tree (drop i steps)) count) after) now) where
  abbrev does : Course
  does = does_course (command_tree step.command) count step.place

  abbrev rest : Course
  rest = RunsAll (sequence_tree (drop (i + 1) steps)) count

  parted : GoesOn whole from (then_course (then_course does rest) after) now
  parted =
      subst (λ (s : Step). GoesOn whole from (then_course (then_course (does_course (command_tree s.command) count s.place) rest) after) now) (sym is)
      (subst (λ (r : Course). GoesOn whole from (then_course r after) now) (rest-is steps i count step lt) g)

  pub GoesOn-step : (mid : List Kept) → Passes does now mid → GoesOn whole from (then_course rest after) mid
  GoesOn-step mid p = record {
    covers = λ h. parted.covers (Covers-left does rest after now (Covers-then does (then_course rest after) now mid p h));
    uncovers = λ facts events u. parted.uncovers facts events (Uncovers-left does rest after now facts events (Uncovers-second does (then_course rest after) now mid p.0 facts events p.1 u));
  }

  pub GoesOn-stops : (h : Halt) → Halts does now h → Halts whole from h
  GoesOn-stops h u = Halts-lift does whole now from (λ facts events x. parted.uncovers facts events (Uncovers-left does rest after now facts events (Uncovers-first does (then_course rest after) now facts events x))) h u

  -- the command, and then those after it
  pub GoesOn-next : GoesOn whole from (then_course does (then_course rest after)) now
  GoesOn-next = record {
    covers = λ h. parted.covers (Covers-left does rest after now h);
    uncovers = λ facts events u. parted.uncovers facts events (Uncovers-left does rest after now facts events u);
  }

pub GoesOn-end : (steps : List Step) (i count : ℕ) (after whole : Course) (from now : List Kept) → drop i steps ≡ [] → GoesOn whole from (then_course (RunsAll (sequence_tree (drop i steps)) count) after) now → GoesOn whole from after now
GoesOn-end steps i count after whole from now none g =
    let at : GoesOn whole from (then_course nothing_course after) now = subst (λ (xs : List Step). GoesOn whole from (then_course (RunsAll (sequence_tree xs) count) after) now) none g in
    record {
      covers = λ h. at.covers (Covers-then nothing_course after now now ([], Explores-nothing now) h);
      uncovers = λ facts events u. at.uncovers facts events (Uncovers-second nothing_course after now now [] facts events (Explores-nothing now) u);
    }

-- ---- one state after another, from the last one on

pub GoesOn-popped : (whole : Course) (from now rest : List Kept) (k : Kept) → GoesOn whole from whole now → now ≡ rest ++ k ∷ [] → Covers whole (k ∷ []) → GoesOn whole from whole rest
GoesOn-popped whole from now rest k g popped one =
    let at : GoesOn whole from whole (rest ++ k ∷ []) = subst (λ (ks : List Kept). GoesOn whole from whole ks) popped g in
    record {
      covers = λ h. at.covers (λ to i. elim (In-cases to rest (k ∷ []) i) [
        | inl j ↦ h to j
        | inr j ↦ one to j
      ]);
      uncovers = λ facts events u. at.uncovers facts events (u.0, In-left u.0 rest (k ∷ []) u.1, u.2);
    }

pub GoesOn-halted : (whole : Course) (from now rest : List Kept) (k : Kept) → GoesOn whole from whole now → now ≡ rest ++ k ∷ [] → (h : Halt) → Halts whole (k ∷ []) h → Halts whole from h
GoesOn-halted whole from now rest k g popped h u =
    let at : GoesOn whole from whole (rest ++ k ∷ []) = subst (λ (ks : List Kept). GoesOn whole from whole ks) popped g in
    Halts-lift whole whole (k ∷ []) from (λ facts events x. at.uncovers facts events (x.0, In-right x.0 rest (k ∷ []) x.1, x.2)) h u

pub GoesOn-covers : (whole : Course) (from now : List Kept) → GoesOn whole from whole now → now ≡ [] → Covers whole from
GoesOn-covers whole from now g none = g.covers (subst (Covers whole) (sym none) (Covers-none whole))

-- ---- one state becomes another

module _ (whole rest : Course) (k : Kept) (state : State) (ones : List Kept) (one : ones ≡ kept_of k.facts k.events state ∷ [])
    (there : (ids : List Identity) (es : List Event) (e : Ending) → whole ids k.state es e → rest ids state es e) (back : (ids : List Identity) (es : List Event) (p : ℕ) → rest ids state es (Directive p) → whole ids k.state es (Directive p)) where
  moved-covers : Covers rest (kept_of k.facts k.events state ∷ []) → Covers whole (k ∷ [])
  moved-covers h to i = elim i [
    | inr n ↦ absurd n
    | inl is ↦ subst (λ (z : Kept). (ids : List Identity) → Allows z.facts ids → (es : List Event) (e : Ending) → whole ids z.state es e → CoveredFrom z.events es) is (λ ids al es e r. h (kept_of k.facts k.events state) (inl refl) ids al es e (there ids es e r))
  ]

  moved-uncovers : (facts : List Knowledge) (events : List Event) → Uncovers rest (kept_of k.facts k.events state ∷ []) facts events → Uncovers whole (k ∷ []) facts events
  moved-uncovers facts events (to, inr n, u) = absurd n
  moved-uncovers facts events (to, inl is, u) =
      let at : Uncovered rest (kept_of k.facts k.events state) facts events = subst (λ (z : Kept). Uncovered rest z facts events) (sym is) u in
      (k, inl refl, Uncovered-lift rest whole (kept_of k.facts k.events state) k facts events refl refl (λ ids al es p r. back ids es p r) at)

  pub GoesOn-moved : GoesOn whole (k ∷ []) rest ones
  GoesOn-moved = record {
    covers = λ h. moved-covers (subst (Covers rest) one h);
    uncovers = λ facts events u. moved-uncovers facts events (subst (λ (ks : List Kept). Uncovers rest ks facts events) one u);
  }

-- if nothing is left to run, no event comes
pub Covers-end : (count : ℕ) (from : List Kept) → Covers (RunsRest [] count) from
Covers-end count from k i ids al es e r = subst (CoveredFrom k.events) (sym r.0) tt

-- ---- the last parts left out

-- each run of `other` begins with one of `course`, and goes on without an invoke; a failed directive of `course` is one
-- of `other`
pub record StandsFor (course other : Course) : Type 0 where
  pub begins : (ids : List Identity) (s : State) (es : List Event) (e : Ending) → other ids s es e
      → (first : List Event) × (last : List Event) × (end : Ending) × (es ≡ first ++ last) × course ids s first end × AreQuiet last
  pub fails : (ids : List Identity) (s : State) (es : List Event) (place : ℕ) → course ids s es (Directive place) → other ids s es (Directive place)

pub StandsFor-covers : (course other : Course) (from : List Kept) → StandsFor course other → Covers course from → Covers other from
StandsFor-covers course other from stands h k i ids al es e r =
    let x = stands.begins ids k.state es e r in
    subst (CoveredFrom k.events) (sym x.3) (CoveredFrom-append k.events x.0 x.1 (h k i ids al x.0 x.2 x.4) (quiet_covered (k.events ++ x.0) x.1 x.5))

pub StandsFor-halts : (course other : Course) (from : List Kept) → StandsFor course other → (h : Halt) → Halts course from h → Halts other from h
StandsFor-halts course other from stands h u =
    Halts-lift course other from from (λ facts events x. (x.0, x.1, Uncovered-lift course other x.0 x.0 facts events refl refl (λ ids al es place r. stands.fails ids x.0.state es place r) x.2)) h u

pub StandsFor-then : (first course other : Course) → StandsFor course other → StandsFor (then_course first course) (then_course first other)
StandsFor-then first course other stands = record { begins = begins; fails = fails }
  where
    begins : (ids : List Identity) (s : State) (es : List Event) (e : Ending) → then_course first other ids s es e
        → (one : List Event) × (last : List Event) × (end : Ending) × (es ≡ one ++ last) × then_course first course ids s one end × AreQuiet last
    begins ids s es e (inl r) = (es, [], e, sym (append-nil es), inl r, tt)
    begins ids s es e (inr (m, x, y, is, r, q)) =
        let p = stands.begins ids m y e q in
        (x ++ p.0, p.1, p.2, is ∙ ap (λ (z : List Event). x ++ z) p.3 ∙ sym (append_assoc x p.0 p.1), inr (m, x, p.0, refl, r, p.4), p.5)

    fails : (ids : List Identity) (s : State) (es : List Event) (place : ℕ) → then_course first course ids s es (Directive place) → then_course first other ids s es (Directive place)
    fails ids s es place (inl r) = inl r
    fails ids s es place (inr (m, x, y, is, r, q)) = inr (m, x, y, is, r, stands.fails ids m y place q)

-- the course that does nothing stands for a silent one
pub StandsFor-silent : (other : Course) → IsSilent other → StandsFor nothing_course other
StandsFor-silent other silent = record {
  begins = λ ids s es e r. ([], es, Done s, refl, (refl, refl), silent ids s es e r);
  fails = λ ids s es place r. absurd (no_directive s place r.1);
}
  where
    no_directive : (s : State) (place : ℕ) → Directive place ≡ Done s → ⊥
    no_directive s place is = absurd cc

-- a course followed by nothing stands for the course
pub StandsFor-last : (other : Course) → StandsFor (then_course other nothing_course) other
StandsFor-last other = record { begins = begins; fails = fails }
  where
    begins : (ids : List Identity) (s : State) (es : List Event) (e : Ending) → other ids s es e
        → (one : List Event) × (last : List Event) × (end : Ending) × (es ≡ one ++ last) × then_course other nothing_course ids s one end × AreQuiet last
    begins ids s es (Done m) r = (es, [], Done m, sym (append-nil es), inr (m, es, [], sym (append-nil es), r, (refl, refl)), tt)
    begins ids s es (Condition p soft) r = (es, [], Condition p soft, sym (append-nil es), inl (tt, r), tt)
    begins ids s es (Directive p) r = (es, [], Directive p, sym (append-nil es), inl (tt, r), tt)

    fails : (ids : List Identity) (s : State) (es : List Event) (place : ℕ) → then_course other nothing_course ids s es (Directive place) → other ids s es (Directive place)
    fails ids s es place (inl r) = r.1
    fails ids s es place (inr (m, x, y, is, r, q)) = absurd (no_directive m place q.1)
      where
        no_directive : (t : State) (p : ℕ) → Directive p ≡ Done t → ⊥
        no_directive t p same = absurd cc

module _ (plan : PlanTree) where
  abbrev pub from_course : SequenceTree → Course
  from_course sequence = FromStart sequence plan.count

  abbrev pub all_parts : Course
  all_parts = then_course (from_course plan.shared) (then_course (from_course plan.first) (then_course (from_course plan.shared) (then_course (from_course plan.second) (then_course (from_course plan.shared) (then_course (from_course plan.third) nothing_course)))))

  abbrev pub up_to_second : Course
  up_to_second = then_course (from_course plan.shared) (then_course (from_course plan.first) (then_course (from_course plan.shared) (then_course (from_course plan.second) nothing_course)))

  abbrev pub up_to_first : Course
  up_to_first = then_course (from_course plan.shared) (then_course (from_course plan.first) nothing_course)

  pub stands_all : StandsFor all_parts (RunsPlan plan)
  stands_all =
      StandsFor-then (from_course plan.shared) _ _ (StandsFor-then (from_course plan.first) _ _ (StandsFor-then (from_course plan.shared) _ _ (StandsFor-then (from_course plan.second) _ _
      (StandsFor-then (from_course plan.shared) _ _ (StandsFor-last (from_course plan.third))))))

  pub stands_second : (ThirdInvokes plan → ⊥) → StandsFor up_to_second (RunsPlan plan)
  stands_second never =
      StandsFor-then (from_course plan.shared) _ _ (StandsFor-then (from_course plan.first) _ _ (StandsFor-then (from_course plan.shared) _ _ (StandsFor-then (from_course plan.second) _ _
      (StandsFor-silent (FromThird plan) (third_silent plan never)))))

  pub stands_first : (SecondInvokes plan → ⊥) → StandsFor up_to_first (RunsPlan plan)
  stands_first never = StandsFor-then (from_course plan.shared) _ _ (StandsFor-then (from_course plan.first) _ _ (StandsFor-silent (FromSecond plan) (second_silent plan never)))
