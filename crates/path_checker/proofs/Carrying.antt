-- Going on from where a loop stands.
use Rattle.std.proofs.Common.{ℕ, true, List, [], ◌∷◌, ◌++◌, refl, sym, subst, append_assoc, inl, inr}
use Rattle.std.proofs.lemmas.List.{append-nil}
use Rattle.path_model.specs.declared.identity.Identity.{Identity}
use Rattle.path_model.specs.declared.event.Event.{Event}
use Rattle.path_model.specs.Behaviour.{State, Ending, Done, Condition, Becomes}
use Rattle.path_model.specs.Following.{CoveredFrom, SameMatches}
use Rattle.path_model.proofs.Following.{same_matches}
use Rattle.path_checker.specs.declared.judge_plan.facts.Knowledge.{Knowledge}
use Rattle.path_checker.specs.Knowing.{Allows}
use Rattle.path_checker.specs.Exploring.{Course, In, Kept, Stopped, Leads, Found, Explores, Uncovers}
use Rattle.path_checker.specs.Inner.{AllAt, all_entered, all_left, softly, hardly}
use Rattle.path_checker.proofs.Exploring.{then_course, Explores-then, Found-left, Found-right}
use Rattle.path_checker.proofs.Membership.{In-cases}
use Rattle.path_checker.proofs.OneBranch.{branch_course, Explores-branch}
use Rattle.path_checker.proofs.Uncovering.{Uncovers-second, Uncovers-others}

-- the rest of a course, from where it stands now, with what was added on the way
pub record Carries (whole : Course) (from : List Kept) (rest : Course) (now done : List Kept) (failed : List Stopped) : Type 0 where
  pub explores : (d : List Kept) (f : List Stopped) → Explores rest now d f → Explores whole from (done ++ d) (failed ++ f)
  pub uncovers : (facts : List Knowledge) (events : List Event) → Uncovers rest now facts events → Uncovers whole from facts events

pub Carries-start : (whole : Course) (from : List Kept) → Carries whole from whole from [] []
Carries-start whole from = record { explores = λ d f x. x; uncovers = λ facts events u. u }

pub Carries-then : (whole first second : Course) (from now mid done : List Kept) (failed f : List Stopped) → Carries whole from (then_course first second) now done failed → Explores first now mid f → Carries whole from second mid done (failed ++ f)
Carries-then whole first second from now mid done failed f c x = record {
  explores = λ d g y. subst (λ (h : List Stopped). Explores whole from (done ++ d) h) (sym (append_assoc failed f g)) (c.explores d (f ++ g) (Explores-then first second now mid d f g x y));
  uncovers = λ facts events u. c.uncovers facts events (Uncovers-second first second now mid f facts events x u);
}

pub Carries-branch : (whole body : Course) (others : ℕ → Course) (s : State) (c : ℕ) (from now d done : List Kept) (failed st : List Stopped) → AllAt s now → Carries whole from (branch_course body others c) now done failed → Explores body (all_entered s c true now) d st → Carries whole from (others c) (softly s st) (done ++ all_left s d) (failed ++ hardly s st)
Carries-branch whole body others s c from now d done failed st same carry x = record {
  explores = λ d' f' y.
      let z = carry.explores (all_left s d ++ d') (hardly s st ++ f') (Explores-branch body others s c now d d' st f' same x y) in
      subst (λ (h : List Kept). Explores whole from h ((failed ++ hardly s st) ++ f')) (sym (append_assoc done (all_left s d) d')) (subst (λ (h : List Stopped). Explores whole from (done ++ (all_left s d ++ d')) h) (sym (append_assoc failed (hardly s st) f')) z);
  uncovers = λ facts events u. carry.uncovers facts events (Uncovers-others body others s c now d st facts events same x u);
}

-- nothing more happens
abbrev pub nothing_course : Course
nothing_course ids s = Becomes s

nothing-complete : (ks : List Kept) (k : Kept) → In k ks → (ids : List Identity) → Allows k.facts ids → (es : List Event) (e : Ending) → nothing_course ids k.state es e → CoveredFrom k.events es × Found k ids es ks [] e
nothing-complete ks k i ids al es e r =
    let found : CoveredFrom k.events [] × Found k ids [] ks [] (Done k.state) =
    (tt, (k, i, al, refl, subst (λ (x : List Event). SameMatches k.events x) (sym (append-nil k.events)) (same_matches k.events)))
    in
    subst (λ (es' : List Event). CoveredFrom k.events es' × Found k ids es' ks [] e) (sym r.0) (subst (λ (e' : Ending). CoveredFrom k.events [] × Found k ids [] ks [] e') (sym r.1) found)

pub Explores-nothing : (ks : List Kept) → Explores nothing_course ks ks []
Explores-nothing ks = record {
  complete = nothing-complete ks;
  reached = λ to i. (to, i, record { since = []; parts = sym (append-nil to.events); covered = tt; count = refl; path = λ ids al. (al, (refl, refl)) });
  stopped = λ to h. absurd h;
}

-- the end of a loop
pub Carries-end : (whole : Course) (from now done : List Kept) (failed : List Stopped) → Carries whole from nothing_course now done failed → Explores whole from (done ++ now) failed
Carries-end whole from now done failed c = subst (Explores whole from (done ++ now)) (append-nil failed) (c.explores now [] (Explores-nothing now))

-- ---- a loop over states, from the last one on

pub Explores-more : (course : Course) (k : Kept) (ks d d' : List Kept) (f f' : List Stopped) → Explores course ks d f → Explores course (k ∷ []) d' f' → Explores course (k ∷ ks) (d ++ d') (f ++ f')
Explores-more course k ks d d' f f' x y = record {
  complete = λ k' h ids al es e r. elim h [
    | inl p ↦ let z = y.complete k' (inl p) ids al es e r in (z.0, Found-right k' ids es d d' f f' e z.1)
    | inr i ↦ let z = x.complete k' i ids al es e r in (z.0, Found-left k' ids es d d' f f' e z.1)
  ];
  reached = λ to h. elim (In-cases to d d' h) [
    | inl i ↦ let z = x.reached to i in (z.0, inr z.1, z.2)
    | inr i ↦ let z = y.reached to i in front to.facts to.events (Done to.state) z
  ];
  stopped = λ to h. elim (In-cases to f f' h) [
    | inl i ↦ let z = x.stopped to i in (z.0, inr z.1, z.2)
    | inr i ↦ let z = y.stopped to i in front to.facts to.events (Condition to.place to.soft_failure) z
  ];
}
  where
    front : (facts : List Knowledge) (events : List Event) (e : Ending) → Leads course (k ∷ []) facts events e → Leads course (k ∷ ks) facts events e
    front facts events e (k', inl p, r) = (k', inl p, r)
    front facts events e (k', inr n, r) = absurd n
