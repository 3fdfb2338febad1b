-- The ends of each, run sequence and try each.
use Rattle.std.proofs.Common.{◌≡◌, ℕ, ◌+◌, ◌<◌, suc, add-one, Bool, true, false, List, [], ◌∷◌, ◌++◌, Option, Some, None, length, get_or, drop, refl, sym, ap, ◌∙◌, subst, append_assoc, inl, inr}
use Rattle.std.specs.Prelude.{◌⊎◌}
use Rattle.std.proofs.Math.Seq.{drop-cons}
use Rattle.std.proofs.lemmas.List.{append-nil}
use Rattle.suit_commands.specs.Tree.{SequenceTree}
use Rattle.suit_commands.specs.View.{branches_tree}
use Rattle.path_model.specs.declared.event.Event.{Event}
use Rattle.path_model.specs.Behaviour.{State, Ending, Condition}
use Rattle.path_model.specs.Following.{CoveredFrom, SameMatches}
use Rattle.path_model.proofs.Following.{same_matches}
use Rattle.path_checker.specs.declared.judge_plan.halt.Halt.{Halt}
use Rattle.path_checker.specs.Exploring.{Course, In, Kept, Stopped, Failures, keeps, after_stops, Found, Leads, Explores, Uncovers, Adds}
use Rattle.path_checker.specs.Inner.{AllAt, BranchAdds, outside_of, entered, all_entered, all_left, softly, hardly, exhausted_at, exhausted, none_inside}
use Rattle.path_checker.specs.Halting.{Halts}
use Rattle.path_checker.specs.Steps.{RunsAll, TriesIn}
use Rattle.path_checker.proofs.InnerStates.{softly-from}
use Rattle.path_checker.proofs.Keeping.{after_none, after_both, softly-inside, hardly-inside, exhausted-inside}
use Rattle.path_checker.proofs.InnerSequences.{inner_course, Explores-inner}
use Rattle.path_checker.proofs.OneBranch.{branch_course}
use Rattle.path_checker.proofs.Uncovering.{Uncovers-inner, Uncovers-branch}
use Rattle.path_checker.proofs.Walking.{Halts-lift}
use Rattle.path_checker.proofs.Carrying.{Carries, Carries-start, Carries-branch, Carries-end, nothing_course}

pub at-one : (k : Kept) (s : State) → s ≡ k.state → AllAt s (k ∷ [])
at-one k s e k' (inl p) = sym (ap (λ (x : Kept). x.state) p) ∙ sym e
at-one k s e k' (inr n) = absurd n

-- ---- run sequence

start-is : (s : State) (c : ℕ) (k inside : Kept) (from : List Kept) → s ≡ k.state → inside ≡ entered k.state c false k → from ≡ inside ∷ [] → from ≡ all_entered s c false (k ∷ [])
start-is s c k inside from same is one = one ∙ ap (λ (x : Kept). x ∷ []) is ∙ ap (λ (t : State). entered t c false k ∷ []) (sym same)

pub Adds-run : (body : Course) (s : State) (c : ℕ) (k inside : Kept) (from d n n' : List Kept) (st0 st f f' : Failures) → s ≡ k.state → inside ≡ entered k.state c false k → from ≡ inside ∷ [] → Adds body from [] d st0 st → st0 ≡ none_inside true f s
    → n' ≡ (n ++ all_left s d) ++ softly s st.items → f' ≡ after_stops f (hardly s st.items) → Adds (inner_course body c) (k ∷ []) n n' f f'
Adds-run body s c k inside from d n n' st0 st f f' same is one a none next fail =
    let st-is : st ≡ after_stops (none_inside true f s) a.failed = a.failed_is ∙ ap (λ (x : Failures). after_stops x a.failed) none in
    let explores = subst (λ (y : List Kept). Explores body from y a.failed) (sym a.next_is) a.explores in
    record {
      done = all_left s d ++ softly s a.failed;
      failed = hardly s a.failed;
      next_is = next ∙ ap (λ (x : Failures). (n ++ all_left s d) ++ softly s x.items) st-is ∙ ap (λ (y : List Kept). (n ++ all_left s d) ++ y) (softly-inside true f s a.failed (inl refl)) ∙ append_assoc n (all_left s d) (softly s a.failed);
      failed_is = fail ∙ ap (λ (x : Failures). after_stops f (hardly s x.items)) st-is ∙ hardly-inside true f s a.failed;
      explores = Explores-inner body s c (k ∷ []) d a.failed (at-one k s same) (subst (λ (y : List Kept). Explores body y d a.failed) (start-is s c k inside from same is one) explores);
    }

pub Halts-run : (body : Course) (s : State) (c : ℕ) (k inside : Kept) (from : List Kept) → s ≡ k.state → inside ≡ entered k.state c false k → from ≡ inside ∷ [] → (h : Halt) → Halts body from h → Halts (inner_course body c) (k ∷ []) h
Halts-run body s c k inside from same is one h u =
    Halts-lift body (inner_course body c) from (k ∷ []) (λ facts events x. Uncovers-inner body s c (k ∷ []) facts events (at-one k s same) (subst (λ (y : List Kept). Uncovers body y facts events) (start-is s c k inside from same is one) x)) h u

pub Adds-branch : (body : Course) (s : State) (inside d n n1 r : List Kept) (st0 st f f' : Failures) → Adds body inside [] d st0 st → n1 ≡ n ++ all_left s d → r ≡ softly s st.items → f' ≡ after_stops f (hardly s st.items) → BranchAdds body s inside r st0 (outside_of n f) (outside_of n1 f')
Adds-branch body s inside d n n1 r st0 st f f' a next soft hard = record {
  done = d;
  stops = a.failed;
  next_is = next;
  failed_is = hard ∙ ap (λ (x : Failures). after_stops f (hardly s x.items)) a.failed_is;
  rest_is = soft ∙ ap (λ (x : Failures). softly s x.items) a.failed_is;
  explores = subst (λ (y : List Kept). Explores body inside y a.failed) (sym a.next_is) a.explores;
}

-- ---- try each

pub softly-at : (s : State) (st : List Stopped) → AllAt s (softly s st)
softly-at s st k i = let y = softly-from s st k i in sym (ap (λ (x : Kept). x.state) y.3)

-- the invariant of the loop over the branches: those that are tried now are all, where what follows them is kept
pub record Trying (whole : Course) (k : Kept) (s : State) (next0 next : List Kept) (failed0 failed : Failures) (rest : Course) (now : List Kept) (Stays : Type 0) : Type 0 where
  pub done : List Kept
  pub added : List Stopped
  pub all : List Kept
  pub next_is : next ≡ next0 ++ done
  pub failed_is : failed ≡ after_stops failed0 added
  pub now_is : Stays ⊎ (keeps failed0 s.soft_failure ≡ true) → now ≡ all
  pub at : AllAt s all
  pub carries : Carries whole (k ∷ []) rest all done added

pub Trying-start : (whole : Course) (k : Kept) (s : State) (next : List Kept) (failed : Failures) (now : List Kept) (Stays : Type 0) → s ≡ k.state → now ≡ k ∷ [] → Trying whole k s next next failed failed whole now Stays
Trying-start whole k s next failed now Stays same one = record {
  done = [];
  added = [];
  all = k ∷ [];
  next_is = sym (append-nil next);
  failed_is = sym (after_none failed);
  now_is = λ stays. one;
  at = at-one k s same;
  carries = Carries-start whole (k ∷ []);
}

pub Trying-branch : (whole body : Course) (others : ℕ → Course) (k : Kept) (s : State) (c : ℕ) (next0 next next' : List Kept) (failed0 failed failed' stops : Failures) (now inside rest : List Kept) (Stays Goes : Type 0) (on : Bool)
    → Trying whole k s next0 next failed0 failed (branch_course body others c) now Stays → Stays → (Goes → on ≡ true) → inside ≡ all_entered s c true now → stops ≡ none_inside on failed s → BranchAdds body s inside rest stops (outside_of next failed) (outside_of next' failed') → Trying whole k s next0 next' failed0 failed' (others c) rest Goes
Trying-branch whole body others k s c next0 next next' failed0 failed failed' stops now inside rest Stays Goes on w stays goes entered_is stops_is b =
    let keeps-is : keeps failed s.soft_failure ≡ keeps failed0 s.soft_failure = ap (λ (f : Failures). keeps f s.soft_failure) w.failed_is in
    let begin : inside ≡ all_entered s c true w.all = entered_is ∙ ap (all_entered s c true) (w.now_is (inl stays)) in
    let hard : failed' ≡ after_stops failed (hardly s b.stops) =
    b.failed_is ∙ ap (λ (x : Failures). after_stops failed (hardly s (after_stops x b.stops).items)) stops_is ∙ hardly-inside on failed s b.stops
    in
    let x : Explores body (all_entered s c true w.all) b.done b.stops = subst (λ (y : List Kept). Explores body y b.done b.stops) begin b.explores in
    record {
      done = w.done ++ all_left s b.done;
      added = w.added ++ hardly s b.stops;
      all = softly s b.stops;
      next_is = b.next_is ∙ ap (λ (x : List Kept). x ++ all_left s b.done) w.next_is ∙ append_assoc next0 w.done (all_left s b.done);
      failed_is = after_both failed0 failed failed' w.added (hardly s b.stops) w.failed_is hard;
      now_is = λ h.
          let stay : (on ≡ true) ⊎ (keeps failed s.soft_failure ≡ true) = elim h [ inl g ↦ inl (goes g) | inr e ↦ inr (keeps-is ∙ e) ] in
          b.rest_is ∙ ap (λ (x : Failures). softly s (after_stops x b.stops).items) stops_is ∙ softly-inside on failed s b.stops stay;
      at = softly-at s b.stops;
      carries = Carries-branch whole body others s c (k ∷ []) w.all b.done w.done w.added b.stops w.at w.carries x;
    }

pub Trying-null : (whole : Course) (k : Kept) (s : State) (next0 next next' : List Kept) (failed0 failed : Failures) (now : List Kept) (Stays : Type 0) → Trying whole k s next0 next failed0 failed nothing_course now Stays → Stays → next' ≡ next ++ now → Adds whole (k ∷ []) next0 next' failed0 failed
Trying-null whole k s next0 next next' failed0 failed now Stays w stays more = record {
  done = w.done ++ w.all;
  failed = w.added;
  next_is = more ∙ ap (λ (x : List Kept). next ++ x) (w.now_is (inl stays)) ∙ ap (λ (x : List Kept). x ++ w.all) w.next_is ∙ append_assoc next0 w.done w.all;
  failed_is = w.failed_is;
  explores = Carries-end whole (k ∷ []) w.all w.done w.added w.carries;
}

-- no branch completed
abbrev pub failing_course : ℕ → Course
failing_course p ids s es e = (es ≡ []) × (e ≡ Condition p s.soft_failure)

In-exhausted : (s : State) (p : ℕ) (k : Kept) (ks : List Kept) → In k ks → In (exhausted_at s p k) (exhausted s p ks)
In-exhausted s p k [] h = absurd h
In-exhausted s p k (x ∷ ks) (inl e) = inl (ap (exhausted_at s p) e)
In-exhausted s p k (x ∷ ks) (inr h) = inr (In-exhausted s p k ks h)

exhausted-from : (s : State) (p : ℕ) (ks : List Kept) (to : Stopped) → In to (exhausted s p ks) → (k : Kept) × In k ks × (exhausted_at s p k ≡ to)
exhausted-from s p [] to h = absurd h
exhausted-from s p (x ∷ ks) to (inl e) = (x, inl refl, e)
exhausted-from s p (x ∷ ks) to (inr h) = let y = exhausted-from s p ks to h in (y.0, inr y.1, y.2)

pub Explores-exhausted : (s : State) (p : ℕ) (ks : List Kept) → AllAt s ks → Explores (failing_course p) ks [] (exhausted s p ks)
Explores-exhausted s p ks at = record {
  complete = λ k i ids al es e r.
      let to : Stopped = exhausted_at s p k in
      let f : CoveredFrom k.events [] × Found k ids [] [] (exhausted s p ks) (Condition p k.state.soft_failure) =
      (tt, (to, In-exhausted s p k ks i, al, ap (λ (x : State). x.soft_failure) (sym (at k i)), subst (SameMatches k.events) (sym (append-nil k.events)) (same_matches k.events)))
      in
      subst (λ (es' : List Event). CoveredFrom k.events es' × Found k ids es' [] (exhausted s p ks) e) (sym r.0) (subst (λ (e' : Ending). CoveredFrom k.events [] × Found k ids [] [] (exhausted s p ks) e') (sym r.1) f);
  reached = λ to h. absurd h;
  stopped = λ to h.
      let y = exhausted-from s p ks to h in
      subst (λ (x : Stopped). Leads (failing_course p) ks x.facts x.events (Condition x.place x.soft_failure)) y.2 (y.0, y.1, record { since = []; parts = sym (append-nil y.0.events); covered = tt; count = refl; path = λ ids al. (al, (refl, ap (λ (x : State). Condition p x.soft_failure) (sym (at y.0 y.1)))) });
}

pub Trying-end : (whole : Course) (k : Kept) (s : State) (p : ℕ) (next0 next : List Kept) (failed0 failed failed' : Failures) (now : List Kept) (Stays : Type 0) → Trying whole k s next0 next failed0 failed (failing_course p) now Stays → failed' ≡ after_stops failed (exhausted s p now) → Adds whole (k ∷ []) next0 next failed0 failed'
Trying-end whole k s p next0 next failed0 failed failed' now Stays w more =
    let keeps-is : keeps failed s.soft_failure ≡ keeps failed0 s.soft_failure = ap (λ (f : Failures). keeps f s.soft_failure) w.failed_is in
    let ends : failed' ≡ after_stops failed (exhausted s p w.all) = more ∙ exhausted-inside failed s p now w.all (λ e. w.now_is (inr (sym keeps-is ∙ e))) in
    record {
      done = w.done ++ [];
      failed = w.added ++ exhausted s p w.all;
      next_is = w.next_is ∙ ap (λ (x : List Kept). next0 ++ x) (sym (append-nil w.done));
      failed_is = after_both failed0 failed failed' w.added (exhausted s p w.all) w.failed_is ends;
      explores = w.carries.explores [] (exhausted s p w.all) (Explores-exhausted s p w.all w.at);
    }

pub Trying-halt : (whole body : Course) (others : ℕ → Course) (k : Kept) (s : State) (c : ℕ) (next0 next : List Kept) (failed0 failed : Failures) (now inside : List Kept) (Stays : Type 0) → Trying whole k s next0 next failed0 failed (branch_course body others c) now Stays → Stays → inside ≡ all_entered s c true now → (h : Halt) → Halts body inside h → Halts whole (k ∷ []) h
Trying-halt whole body others k s c next0 next failed0 failed now inside Stays w stays entered_is h u =
    let begin : inside ≡ all_entered s c true w.all = entered_is ∙ ap (all_entered s c true) (w.now_is (inl stays)) in
    Halts-lift body whole inside (k ∷ []) (λ facts events x. w.carries.uncovers facts events (Uncovers-branch body others s c w.all facts events w.at (subst (λ (y : List Kept). Uncovers body y facts events) begin x))) h u

pub at_some : (bs : List (Option SequenceTree)) (i count p c : ℕ) (d : Option SequenceTree) (inner : SequenceTree) → i < length bs → get_or bs i d ≡ Some inner
    → TriesIn (branches_tree (drop i bs)) count p c ≡ branch_course (RunsAll inner count) (TriesIn (branches_tree (drop (i + 1) bs)) count p) c
at_some bs i count p c d inner lt e =
    ap (λ (xs : List (Option SequenceTree)). TriesIn (branches_tree xs) count p c) (drop-cons bs i d lt)
    ∙ ap (λ (o : Option SequenceTree). TriesIn (branches_tree (o ∷ drop (suc i) bs)) count p c) e
    ∙ ap (λ (n : ℕ). branch_course (RunsAll inner count) (TriesIn (branches_tree (drop n bs)) count p) c) (sym (add-one i))

pub at_none : (bs : List (Option SequenceTree)) (i count p c : ℕ) (d : Option SequenceTree) → i < length bs → get_or bs i d ≡ None → TriesIn (branches_tree (drop i bs)) count p c ≡ nothing_course
at_none bs i count p c d lt e =
    ap (λ (xs : List (Option SequenceTree)). TriesIn (branches_tree xs) count p c) (drop-cons bs i d lt)
    ∙ ap (λ (o : Option SequenceTree). TriesIn (branches_tree (o ∷ drop (suc i) bs)) count p c) e

pub Adds-appended : (course : Course) (from n n' now : List Kept) (f f' : Failures) → Adds course from [] now f f' → n' ≡ n ++ now → Adds course from n n' f f'
Adds-appended course from n n' now f f' a more = record { done = a.done; failed = a.failed; next_is = more ∙ ap (λ (x : List Kept). n ++ x) a.next_is; failed_is = a.failed_is; explores = a.explores }
