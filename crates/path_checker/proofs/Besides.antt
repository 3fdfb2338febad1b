-- A try each whose last branch is followed by the rest of the procedure: what may follow the states in it, and those
-- that are done with an earlier branch.
use Rattle.std.proofs.Common.{◌≡◌, ℕ, ◌+◌, ◌<◌, add-one, true, false, List, [], ◌∷◌, ◌++◌, Option, Some, None, length, get_or, drop, refl, sym, ap, ◌∙◌, subst, append_assoc, inl, inr}
use Rattle.std.proofs.Math.Seq.{drop-cons}
use Rattle.std.proofs.lemmas.List.{append-nil}
use Rattle.suit_commands.specs.Tree.{SequenceTree}
use Rattle.suit_commands.specs.View.{branches_tree}
use Rattle.path_model.specs.declared.identity.Identity.{Identity}
use Rattle.path_model.specs.declared.event.Event.{Event}
use Rattle.path_model.specs.Behaviour.{State, Ending, Done, Condition, Directive, IsFailure}
use Rattle.path_model.specs.Runs.{entry_state, completed_state, after_branch, FailsSoftly}
use Rattle.path_model.specs.Following.{CoveredFrom}
use Rattle.path_model.proofs.Covering.{CoveredFrom-append}
use Rattle.path_model.proofs.Following.{CoveredFrom-same}
use Rattle.path_checker.specs.declared.judge_plan.facts.Knowledge.{Knowledge}
use Rattle.path_checker.specs.declared.judge_plan.halt.Halt.{Halt}
use Rattle.path_checker.specs.Knowing.{Allows}
use Rattle.path_checker.specs.Exploring.{Course, In, Kept, Stopped, Failures, after_stops, Found, Explores, Uncovered, Uncovers}
use Rattle.path_checker.specs.Going.{GoesLast}
use Rattle.path_checker.specs.Halting.{Halts}
use Rattle.path_checker.specs.Inner.{AllAt, BranchAdds, outside_of, entered, all_entered, left, all_left, resumed, softly, none_inside}
use Rattle.path_checker.specs.Invoking.{Covers}
use Rattle.path_checker.specs.Rests.{Leaves}
use Rattle.path_checker.specs.Small.{IsSmallSequence, AreSmallBranches}
use Rattle.path_checker.specs.Steps.{RunsAll, TriesIn}
use Rattle.path_checker.proofs.Branching.{failing_course, softly-at}
use Rattle.path_checker.proofs.Carrying.{nothing_course, Explores-nothing}
use Rattle.path_checker.proofs.Exploring.{then_course}
use Rattle.path_checker.proofs.InnerSequences.{Leads-outer}
use Rattle.path_checker.proofs.InnerStates.{In-entered, In-all_left, left-from, In-softly}
use Rattle.path_checker.proofs.Keeping.{softly-inside}
use Rattle.path_checker.proofs.Membership.{In-left, In-right, In-cases}
use Rattle.path_checker.proofs.OneBranch.{branch_course}
use Rattle.path_checker.proofs.Starting.{Covers-then}
use Rattle.path_checker.proofs.Uncovering.{Uncovered-lift, Uncovered-then, Uncovers-outer, Uncovers-others, Uncovers-second}
use Rattle.path_checker.proofs.Walking.{Halts-lift}

-- a branch is left, and something follows
abbrev pub leaving_course : State → Course → Course
leaving_course s after ids = Leaves s.selection s.soft_failure (after ids)

pub same_state : (s t : State) → ◌≡◌ {A = Ending} (Done s) (Done t) → s ≡ t
same_state s t is = cc

no_state : (s : State) (p : ℕ) (soft : _) → ◌≡◌ {A = Ending} (Done s) (Condition p soft) → ⊥
no_state s p soft is = absurd cc

no_state_either : (s : State) (p : ℕ) → ◌≡◌ {A = Ending} (Done s) (Directive p) → ⊥
no_state_either s p is = absurd cc

-- ---- a branch, then the others, and then what follows

module _ (body : Course) (others : ℕ → Course) (after : Course) (s : State) (c : ℕ) (from done : List Kept) (failed : List Stopped) (same : AllAt s from) (a : Explores body (all_entered s c true from) done failed) where
  abbrev tried : Course
  tried = branch_course body others c

  module _ (h : Covers (then_course (others c) after) (softly s failed)) (g : Covers after (all_left s done)) where
    -- it failed softly, and the others go on
    soft_on : (k : Kept) (ids : List Identity) (x y : List Event) (e end : Ending) → FailsSoftly end → CoveredFrom k.events x → Found (entered s c true k) ids x done failed end → then_course (others c) after ids s y e → CoveredFrom k.events (x ++ y)
    soft_on k ids x y e (Done t) soft fine f r = absurd soft
    soft_on k ids x y e (Condition p false) soft fine f r = absurd soft
    soft_on k ids x y e (Directive p) soft fine f r = absurd soft
    soft_on k ids x y e (Condition p true) soft fine f r =
        let start : Kept = resumed s f.0 in
        CoveredFrom-append k.events x y fine (CoveredFrom-same start.events (k.events ++ x) y f.4 (h start (In-softly s f.0 failed f.1 f.3) ids f.2 y e r))

    -- it completed
    done_on : (k : Kept) (ids : List Identity) (x y : List Event) (e end : Ending) (m : State) → ◌≡◌ {A = Ending} (Done m) (after_branch s end) → CoveredFrom k.events x → Found (entered s c true k) ids x done failed end → after ids m y e → CoveredFrom k.events (x ++ y)
    done_on k ids x y e (Condition p soft) m is fine f r = absurd (no_state m p s.soft_failure is)
    done_on k ids x y e (Directive p) m is fine f r = absurd (no_state_either m p is)
    done_on k ids x y e (Done t) m is fine f r =
        let to : Kept = left s f.0 in
        let at : m ≡ to.state = same_state m (completed_state s t) is ∙ ap (completed_state s) (sym f.3) in
        CoveredFrom-append k.events x y fine (CoveredFrom-same to.events (k.events ++ x) y f.4 (g to (In-all_left s f.0 done f.1) ids f.2 y e (subst (λ (z : State). after ids z y e) at r)))

    covers_at : (k : Kept) → In k from → (ids : List Identity) → Allows k.facts ids → (es : List Event) (e : Ending) → then_course tried after ids s es e → CoveredFrom k.events es
    covers_at k i ids al es e (inl (f, inl (end, run, stay, is))) = (a.complete (entered s c true k) (In-entered s c true k from i) ids al es end run).0
    covers_at k i ids al es e (inl (f, inr (end, x, y, is, run, soft, r))) =
        let z = a.complete (entered s c true k) (In-entered s c true k from i) ids al x end run in
        subst (CoveredFrom k.events) (sym is) (soft_on k ids x y e end soft z.0 z.1 (inl (f, r)))
    covers_at k i ids al es e (inr (m, x, y, is, inl (end, run, stay, same_end), q)) =
        let z = a.complete (entered s c true k) (In-entered s c true k from i) ids al x end run in
        subst (CoveredFrom k.events) (sym is) (done_on k ids x y e end m same_end z.0 z.1 q)
    covers_at k i ids al es e (inr (m, x, y, is, inr (end, v, w, parts, run, soft, r), q)) =
        let z = a.complete (entered s c true k) (In-entered s c true k from i) ids al v end run in
        subst (CoveredFrom k.events) (sym (is ∙ ap (λ (u : List Event). u ++ y) parts ∙ append_assoc v w y)) (soft_on k ids v (w ++ y) e end soft z.0 z.1 (inr (m, w, y, refl, r, q)))

    pub Covers-tried : Covers (then_course tried after) from
    Covers-tried k i ids al es e r = covers_at k i ids al es e (subst (λ (t : State). then_course tried after ids t es e) (same k i) r)

  -- the others, and what follows them
  abbrev later : ℕ → Course
  later d = then_course (others d) after

  regroup : (ids : List Identity) (t : State) (es : List Event) (p : ℕ) → branch_course body later c ids t es (Directive p) → then_course tried after ids t es (Directive p)
  regroup ids t es p (inl (end, run, stay, is)) = inl (tt, inl (end, run, stay, is))
  regroup ids t es p (inr (end, x, y, is, run, soft, inl (f, r))) = inl (tt, inr (end, x, y, is, run, soft, r))
  regroup ids t es p (inr (end, x, y, is, run, soft, inr (m, v, w, parts, r, q))) =
      inr (m, x ++ v, w, is ∙ ap (λ (u : List Event). x ++ u) parts ∙ sym (append_assoc x v w), inr (end, x, v, refl, run, soft, r), q)

  pub Uncovers-soft : (facts : List Knowledge) (events : List Event) → Uncovers (then_course (others c) after) (softly s failed) facts events → Uncovers (then_course tried after) from facts events
  Uncovers-soft facts events u =
      let x = Uncovers-others body later s c from done failed facts events same a u in
      (x.0, x.1, Uncovered-lift (branch_course body later c) (then_course tried after) x.0 x.0 facts events refl refl (λ ids al es p r. regroup ids x.0.state es p r) x.2)

  pub Uncovers-done : (facts : List Knowledge) (events : List Event) → Uncovers after (all_left s done) facts events → Uncovers (then_course tried after) from facts events
  Uncovers-done facts events (k, i, u) =
      let y = left-from s k done i in
      let to : Kept = left s y.0 in
      let l = Leads-outer body tried s c true from y.0.facts y.0.events (Done y.0.state) (Done to.state) same (λ ids es r. inl (Done y.0.state, r, (λ n. n), refl)) (a.reached y.0 y.1) in
      let v : Uncovered after to facts events = subst (λ (z : Kept). Uncovered after z facts events) (sym y.2) u in
      (l.0, l.1, Uncovered-then tried after (then_course tried after) l.0 to (Done to.state) facts events (λ ids es fs p r q. inr (to.state, es, fs, refl, r, q)) l.2 v)

-- ---- the last branch, in which what follows it follows at once

module _ (body after : Course) (s : State) (c p : ℕ) (from : List Kept) (same : AllAt s from) where
  abbrev last_tried : Course
  last_tried = branch_course body (λ d. failing_course p) c

  abbrev pub through : Course
  through = then_course body (leaving_course s after)

  fails_inside : (e end : Ending) → IsFailure e → e ≡ after_branch s end → IsFailure end
  fails_inside e (Done t) f is = subst IsFailure is f
  fails_inside e (Condition q soft) f is = tt
  fails_inside e (Directive q) f is = tt

  fails_softly : (end : Ending) → FailsSoftly end → IsFailure end
  fails_softly (Done t) soft = absurd soft
  fails_softly (Condition q soft_failure) soft = tt
  fails_softly (Directive q) soft = tt

  goes_through : (ids : List Identity) (es x y : List Event) (e end : Ending) (m : State) → ◌≡◌ {A = Ending} (Done m) (after_branch s end) → es ≡ x ++ y → body ids (entry_state s c true) x end → after ids m y e → through ids (entry_state s c true) es e
  goes_through ids es x y e (Condition q soft) m is parts run r = absurd (no_state m q s.soft_failure is)
  goes_through ids es x y e (Directive q) m is parts run r = absurd (no_state_either m q is)
  goes_through ids es x y e (Done t) m is parts run r = inr (t, x, y, parts, run, subst (λ (z : State). after ids z y e) (same_state m (completed_state s t) is) r)

  module _ (h : Covers through (all_entered s c true from)) where
    last_at : (k : Kept) → In k from → (ids : List Identity) → Allows k.facts ids → (es : List Event) (e : Ending) → then_course last_tried after ids s es e → CoveredFrom k.events es
    last_at k i ids al es e (inl (f, inl (end, run, stay, is))) = h (entered s c true k) (In-entered s c true k from i) ids al es end (inl (fails_inside e end f is, run))
    last_at k i ids al es e (inl (f, inr (end, x, y, is, run, soft, r))) =
        subst (CoveredFrom k.events) (sym (is ∙ ap (λ (z : List Event). x ++ z) r.0 ∙ append-nil x)) (h (entered s c true k) (In-entered s c true k from i) ids al x end (inl (fails_softly end soft, run)))
    last_at k i ids al es e (inr (m, x, y, is, inl (end, run, stay, same_end), q)) = h (entered s c true k) (In-entered s c true k from i) ids al es e (goes_through ids es x y e end m same_end is run q)
    last_at k i ids al es e (inr (m, x, y, is, inr (end, v, w, parts, run, soft, r), q)) = absurd (no_state m p s.soft_failure r.1)

    pub Covers-last : Covers (then_course last_tried after) from
    Covers-last k i ids al es e r = last_at k i ids al es e (subst (λ (t : State). then_course last_tried after ids t es e) (same k i) r)

  back_out : (ids : List Identity) (es : List Event) (q : ℕ) → through ids (entry_state s c true) es (Directive q) → then_course last_tried after ids s es (Directive q)
  back_out ids es q (inl (f, run)) = inl (tt, inl (Directive q, run, (λ n. n), refl))
  back_out ids es q (inr (t, x, y, is, run, r)) = inr (completed_state s t, x, y, is, inl (Done t, run, (λ n. n), refl), r)

  pub Uncovers-last : (facts : List Knowledge) (events : List Event) → Uncovers through (all_entered s c true from) facts events → Uncovers (then_course last_tried after) from facts events
  Uncovers-last facts events u = Uncovers-outer through (then_course last_tried after) s c true from facts events same back_out u

-- ---- the invariant of the loop over the branches

-- what may follow the states in which the next branch is tried, and those that are done, stands for what may follow the
-- others
pub record GoesBoth (whole : Course) (from : List Kept) (rest after : Course) (now done : List Kept) : Type 0 where
  pub covers : Covers (then_course rest after) now → Covers after done → Covers whole from
  pub uncovers : (facts : List Knowledge) (events : List Event) → Uncovers (then_course rest after) now facts events → Uncovers whole from facts events
  pub uncovers_done : (facts : List Knowledge) (events : List Event) → Uncovers after done facts events → Uncovers whole from facts events

pub GoesBoth-start : (rest after : Course) (from now done : List Kept) → now ≡ from → done ≡ [] → GoesBoth (then_course rest after) from rest after now done
GoesBoth-start rest after from now done all none =
    let at : GoesBoth (then_course rest after) from rest after from [] = record {
      covers = λ h g. h;
      uncovers = λ facts events u. u;
      uncovers_done = λ facts events u. absurd u.1;
    } in
    subst (λ (ks : List Kept). GoesBoth (then_course rest after) from rest after ks done) (sym all) (subst (λ (ks : List Kept). GoesBoth (then_course rest after) from rest after from ks) (sym none) at)

module _ (whole body : Course) (others : ℕ → Course) (after : Course) (s : State) (c : ℕ) (from now done : List Kept) (same : AllAt s now) (w : GoesBoth whole from (branch_course body others c) after now done) where
  both_on : (d : List Kept) (st : List Stopped) → Explores body (all_entered s c true now) d st → GoesBoth whole from (others c) after (softly s st) (done ++ all_left s d)
  both_on d st x = record {
    covers = λ h g. w.covers (Covers-tried body others after s c now d st same x h (λ k i. g k (In-right k done (all_left s d) i))) (λ k i. g k (In-left k done (all_left s d) i));
    uncovers = λ facts events u. w.uncovers facts events (Uncovers-soft body others after s c now d st same x facts events u);
    uncovers_done = λ facts events u. elim (In-cases u.0 done (all_left s d) u.1) [
      | inl i ↦ w.uncovers_done facts events (u.0, i, u.2)
      | inr i ↦ w.uncovers facts events (Uncovers-done body others after s c now d st same x facts events (u.0, i, u.2))
    ];
  }

  pub GoesBoth-branch : (inside rest done' : List Kept) (stops failed failed' : Failures) → inside ≡ all_entered s c true now → stops ≡ none_inside true failed s → BranchAdds body s inside rest stops (outside_of done failed) (outside_of done' failed') → GoesBoth whole from (others c) after rest done' × AllAt s rest
  GoesBoth-branch inside rest done' stops failed failed' entered_is stops_is b =
      let x : Explores body (all_entered s c true now) b.done b.stops = subst (λ (y : List Kept). Explores body y b.done b.stops) entered_is b.explores in
      let rest_is : rest ≡ softly s b.stops = b.rest_is ∙ ap (λ (f : Failures). softly s (after_stops f b.stops).items) stops_is ∙ softly-inside true failed s b.stops (inl refl) in (
        subst (λ (ks : List Kept). GoesBoth whole from (others c) after ks done') (sym rest_is) (subst (λ (ks : List Kept). GoesBoth whole from (others c) after (softly s b.stops) ks) (sym b.next_is) (both_on b.done b.stops x)),
        subst (AllAt s) (sym rest_is) (softly-at s b.stops),
      )

  pub GoesBoth-halts : (inside : List Kept) → inside ≡ all_entered s c true now → (h : Halt) → Halts body inside h → Halts whole from h
  GoesBoth-halts inside entered_is h u = Halts-lift body whole inside from (λ facts events x. w.uncovers facts events (first facts events (subst (λ (y : List Kept). Uncovers body y facts events) entered_is x))) h u
    where
      first : (facts : List Knowledge) (events : List Event) → Uncovers body (all_entered s c true now) facts events → Uncovers (then_course (branch_course body others c) after) now facts events
      first facts events u = Uncovers-outer body (then_course (branch_course body others c) after) s c true now facts events same (λ ids es p r. inl (tt, inl (Directive p, r, (λ n. n), refl))) u

-- null: all that are left are done
pub GoesBoth-null : (whole ends after : Course) (from now last done done' : List Kept) → GoesBoth whole from nothing_course after now done → last ≡ [] → done' ≡ done ++ now → GoesLast whole from ends after last done'
GoesBoth-null whole ends after from now last done done' w none all =
    subst (λ (ks : List Kept). GoesLast whole from ends after ks done') (sym none) (subst (λ (ks : List Kept). GoesLast whole from ends after [] ks) (sym all) (record {
      covers = λ h g. w.covers (Covers-then nothing_course after now now ([], Explores-nothing now) (λ k i. g k (In-right k done now i))) (λ k i. g k (In-left k done now i));
      uncovers = λ facts events u. absurd u.1;
      uncovers_done = λ facts events u. elim (In-cases u.0 done now u.1) [
        | inl i ↦ w.uncovers_done facts events (u.0, i, u.2)
        | inr i ↦ w.uncovers facts events (Uncovers-second nothing_course after now now [] facts events (Explores-nothing now) (u.0, i, u.2))
      ];
    }))

-- the last branch
pub GoesBoth-last : (whole body after : Course) (s : State) (c p : ℕ) (from now inside done : List Kept) → AllAt s now → GoesBoth whole from (branch_course body (λ d. failing_course p) c) after now done → inside ≡ all_entered s c true now
    → GoesLast whole from (then_course body (leaving_course s after)) after inside done
GoesBoth-last whole body after s c p from now inside done same w entered_is = record {
  covers = λ h g. w.covers (Covers-last body after s c p now same (subst (Covers (then_course body (leaving_course s after))) entered_is h)) g;
  uncovers = λ facts events u. w.uncovers facts events (Uncovers-last body after s c p now same facts events (subst (λ (y : List Kept). Uncovers (then_course body (leaving_course s after)) y facts events) entered_is u));
  uncovers_done = w.uncovers_done;
}

-- what follows the last branch, and then what follows those that are done
pub GoesLast-halts : (whole ends after : Course) (from last done : List Kept) → GoesLast whole from ends after last done → (h : Halt) → Halts ends last h → Halts whole from h
GoesLast-halts whole ends after from last done w h u = Halts-lift ends whole last from w.uncovers h u

pub GoesLast-ends : (whole ends after : Course) (from last done : List Kept) → GoesLast whole from ends after last done → (h : Halt) → Halts after done h → Halts whole from h
GoesLast-ends whole ends after from last done w h u = Halts-lift after whole done from w.uncovers_done h u

-- ---- the branches from a place on, and others behind them

module _ (bs tail : List (Option SequenceTree)) (i : ℕ) (d : Option SequenceTree) (lt : i < length bs) where
  next_is : drop i bs ++ tail ≡ get_or bs i d ∷ (drop (i + 1) bs ++ tail)
  next_is = ap (λ (xs : List (Option SequenceTree)). xs ++ tail) (drop-cons bs i d lt) ∙ ap (λ (n : ℕ). get_or bs i d ∷ (drop n bs ++ tail)) (sym (add-one i))

  pub before_some : (inner : SequenceTree) (count p c : ℕ) → get_or bs i d ≡ Some inner
      → TriesIn (branches_tree (drop i bs ++ tail)) count p c ≡ branch_course (RunsAll inner count) (TriesIn (branches_tree (drop (i + 1) bs ++ tail)) count p) c
  before_some inner count p c is =
      ap (λ (xs : List (Option SequenceTree)). TriesIn (branches_tree xs) count p c) next_is
      ∙ ap (λ (o : Option SequenceTree). TriesIn (branches_tree (o ∷ (drop (i + 1) bs ++ tail))) count p c) is

  pub before_none : (count p c : ℕ) → get_or bs i d ≡ None → TriesIn (branches_tree (drop i bs ++ tail)) count p c ≡ nothing_course
  before_none count p c is =
      ap (λ (xs : List (Option SequenceTree)). TriesIn (branches_tree xs) count p c) next_is
      ∙ ap (λ (o : Option SequenceTree). TriesIn (branches_tree (o ∷ (drop (i + 1) bs ++ tail))) count p c) is

  pub small_before : (inner : SequenceTree) (count : ℕ) → get_or bs i d ≡ Some inner → AreSmallBranches count (branches_tree (drop i bs ++ tail))
      → IsSmallSequence count inner × AreSmallBranches count (branches_tree (drop (i + 1) bs ++ tail))
  small_before inner count is all =
      subst (λ (o : Option SequenceTree). AreSmallBranches count (branches_tree (o ∷ (drop (i + 1) bs ++ tail)))) is (subst (λ (xs : List (Option SequenceTree)). AreSmallBranches count (branches_tree xs)) next_is all)

-- the last branch is small where all are
pub small_last : (bs : List (Option SequenceTree)) (last : SequenceTree) (count : ℕ) → AreSmallBranches count (branches_tree (bs ++ Some last ∷ [])) → IsSmallSequence count last
small_last [] last count small = small.0
small_last (Some inner ∷ bs) last count small = small_last bs last count small.1
small_last (None ∷ bs) last count small = small_last bs last count small
