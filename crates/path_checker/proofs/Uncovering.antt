-- An invoke that is not covered, seen from the commands round it.
use Rattle.std.proofs.Common.{◌≡◌, ℕ, Bool, true, false, List, [], ◌∷◌, ◌++◌, length, refl, sym, ap, ◌∙◌, subst, append_assoc, inl, inr}
use Rattle.path_model.specs.declared.identity.Identity.{Identity}
use Rattle.path_model.specs.declared.event.Event.{Event}
use Rattle.path_model.specs.declared.event.Event.TheVariants.{Failed}
use Rattle.path_model.specs.Behaviour.{State, Ending, Done, Condition, Directive}
use Rattle.path_model.specs.Runs.{entry_state}
use Rattle.path_model.specs.Safe.{IsCovered}
use Rattle.path_model.specs.Following.{CoveredFrom}
use Rattle.path_model.proofs.Following.{joined, CoveredFrom-joined}
use Rattle.path_checker.specs.declared.judge_plan.facts.Knowledge.{Knowledge}
use Rattle.path_checker.specs.Knowing.{Allows}
use Rattle.path_checker.specs.Exploring.{Course, Kept, Stopped, Reaches, Explores, Uncovered, Uncovers}
use Rattle.path_checker.specs.Inner.{entered, all_entered, AllAt, resumed, softly}
use Rattle.path_checker.proofs.Exploring.{then_course}
use Rattle.path_checker.proofs.InnerStates.{entered-from, softly-from}
use Rattle.path_checker.proofs.InnerSequences.{inner_course}
use Rattle.path_checker.proofs.OneBranch.{branch_course}

-- the same, for another course and from another state of the same history
pub Uncovered-lift : (a b : Course) (k to : Kept) (facts : List Knowledge) (events : List Event) → k.facts ≡ to.facts → k.events ≡ to.events
    → ((ids : List Identity) → Allows k.facts ids → (es : List Event) (place : ℕ) → a ids k.state es (Directive place) → b ids to.state es (Directive place)) → Uncovered a k facts events → Uncovered b to facts events
Uncovered-lift a b k to facts events same_facts same_events lift u = record {
  since = u.since;
  last = u.last;
  place = u.place;
  parts = u.parts ∙ ap (λ (es : List Event). (es ++ u.since) ++ u.last ∷ []) same_events;
  covered = subst (λ (es : List Event). CoveredFrom es u.since) same_events u.covered;
  count = u.count ∙ ap (λ (fs : List Knowledge). length fs) same_facts;
  uncovered = λ h. u.uncovered (subst (λ (es : List Event). IsCovered (es ++ u.since) u.last) (sym same_events) h);
  path = λ ids al. let x = u.path ids al in (subst (λ (fs : List Knowledge). Allows fs ids) same_facts x.0, lift ids x.0 (u.since ++ u.last ∷ Failed u.place ∷ []) u.place x.1);
}

pub Uncovers-first : (first second : Course) (from : List Kept) (facts : List Knowledge) (events : List Event) → Uncovers first from facts events → Uncovers (then_course first second) from facts events
Uncovers-first first second from facts events (k, i, u) = (k, i, Uncovered-lift first (then_course first second) k k facts events refl refl (λ ids al es place r. inl (tt, r)) u)

-- after a run that reaches a state
module _ (first second whole : Course) (k to : Kept) (middle : Ending) (facts : List Knowledge) (events : List Event)
    (join : (ids : List Identity) (es fs : List Event) (place : ℕ) → first ids k.state es middle → second ids to.state fs (Directive place) → whole ids k.state (es ++ fs) (Directive place)) where
  pub Uncovered-then : Reaches first k to.facts to.events middle → Uncovered second to facts events → Uncovered whole k facts events
  Uncovered-then r u =
      let history : to.events ++ u.since ≡ k.events ++ (r.since ++ u.since) = joined k.events to.events r.since u.since (to.events ++ u.since) r.parts refl in
      record {
        since = r.since ++ u.since;
        last = u.last;
        place = u.place;
        parts = u.parts ∙ ap (λ (es : List Event). es ++ u.last ∷ []) history;
        covered = CoveredFrom-joined k.events to.events r.since u.since r.parts r.covered u.covered;
        count = u.count ∙ r.count;
        uncovered = λ f. u.uncovered (subst (λ (es : List Event). IsCovered es u.last) (sym history) f);
        path = λ ids al. let x = u.path ids al in let y = r.path ids x.0 in
            (y.0, subst (λ (es : List Event). whole ids k.state es (Directive u.place)) (sym (append_assoc r.since u.since (u.last ∷ Failed u.place ∷ []))) (join ids r.since (u.since ++ u.last ∷ Failed u.place ∷ []) u.place y.1 x.1));
      }

pub Uncovers-second : (first second : Course) (from mid : List Kept) (failed : List Stopped) (facts : List Knowledge) (events : List Event) → Explores first from mid failed → Uncovers second mid facts events → Uncovers (then_course first second) from facts events
Uncovers-second first second from mid failed facts events a (k, i, u) =
    let m = a.reached k i in
    (m.0, m.1, Uncovered-then first second (then_course first second) m.0 k (Done k.state) facts events (λ ids es fs place p q. inr (k.state, es, fs, refl, p, q)) m.2 u)

-- an inner sequence that ends in a failed directive ends the outer command likewise
pub Uncovers-outer : (body outer : Course) (s : State) (c : ℕ) (soft : Bool) (from : List Kept) (facts : List Knowledge) (events : List Event) → AllAt s from → ((ids : List Identity) (es : List Event) (place : ℕ) → body ids (entry_state s c soft) es (Directive place) → outer ids s es (Directive place)) → Uncovers body (all_entered s c soft from) facts events → Uncovers outer from facts events
Uncovers-outer body outer s c soft from facts events same lift (kin, i, v) =
    let y = entered-from s c soft kin from i in
    let u : Uncovered body (entered s c soft y.0) facts events = subst (λ (k : Kept). Uncovered body k facts events) (sym y.2) v in
    (y.0, y.1, Uncovered-lift body outer (entered s c soft y.0) y.0 facts events refl refl (λ ids al es place r. subst (λ (t : State). outer ids t es (Directive place)) (sym (same y.0 y.1)) (lift ids es place r)) u)

pub Uncovers-inner : (body : Course) (s : State) (c : ℕ) (from : List Kept) (facts : List Knowledge) (events : List Event) → AllAt s from → Uncovers body (all_entered s c false from) facts events → Uncovers (inner_course body c) from facts events
Uncovers-inner body s c from facts events same = Uncovers-outer body (inner_course body c) s c false from facts events same (λ ids es place r. (Directive place, r, refl))

pub Uncovers-branch : (body : Course) (others : ℕ → Course) (s : State) (c : ℕ) (from : List Kept) (facts : List Knowledge) (events : List Event) → AllAt s from → Uncovers body (all_entered s c true from) facts events → Uncovers (branch_course body others c) from facts events
Uncovers-branch body others s c from facts events same = Uncovers-outer body (branch_course body others c) s c true from facts events same (λ ids es place r. inl (Directive place, r, (λ n. n), refl))

pub Uncovers-others : (body : Course) (others : ℕ → Course) (s : State) (c : ℕ) (from done : List Kept) (failed : List Stopped) (facts : List Knowledge) (events : List Event) → AllAt s from → Explores body (all_entered s c true from) done failed → Uncovers (others c) (softly s failed) facts events → Uncovers (branch_course body others c) from facts events
Uncovers-others body others s c from done failed facts events same a (k, i, u) =
    let y = softly-from s failed k i in
    let f = y.0 in
    let start = a.stopped f y.1 in
    let z = entered-from s c true start.0 from start.1 in
    let first : Reaches body (entered s c true z.0) f.facts f.events (Condition f.place true) = subst (λ (k : Kept). Reaches body k f.facts f.events (Condition f.place true)) (sym z.2) (subst (λ (b : Bool). Reaches body start.0 f.facts f.events (Condition f.place b)) y.2 start.2) in
    let v : Uncovered (others c) (resumed s f) facts events = subst (λ (k' : Kept). Uncovered (others c) k' facts events) (sym y.3) u in (
      z.0,
      z.1,
      Uncovered-then
          (λ ids t. body ids (entry_state s c true))
          (others c)
          (branch_course body others c)
          z.0
          (resumed s f)
          (Condition f.place true)
          facts
          events
          (λ ids es fs place p q. subst (λ (t : State). branch_course body others c ids t (es ++ fs) (Directive place)) (sym (same z.0 z.1)) (inr (Condition f.place true, es, fs, refl, p, tt, q)))
          (record { since = first.since; parts = first.parts; covered = first.covered; count = first.count; path = first.path }) v,
    )
