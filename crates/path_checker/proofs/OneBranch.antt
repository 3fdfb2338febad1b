-- Exploring the branches of a try each.
use Rattle.std.proofs.Common.{ℕ, Bool, true, false, List, ◌++◌, refl, sym, ap, ◌∙◌, subst, inl, inr}
use Rattle.path_model.specs.declared.identity.Identity.{Identity}
use Rattle.path_model.specs.declared.event.Event.{Event}
use Rattle.path_model.specs.Behaviour.{State, Ending, Done, Condition, Directive}
use Rattle.path_model.specs.Runs.{completed_state, after_branch, FailsSoftly, TriesBranch}
use Rattle.path_model.specs.Following.{CoveredFrom}
use Rattle.path_model.proofs.Covering.{CoveredFrom-append}
use Rattle.path_model.proofs.Following.{CoveredFrom-same, joined, CoveredFrom-joined}
use Rattle.path_checker.specs.declared.judge_plan.facts.Knowledge.{Knowledge}
use Rattle.path_checker.specs.Knowing.{Allows}
use Rattle.path_checker.specs.Exploring.{Course, In, Kept, Stopped, Found, Reaches, Leads, Explores}
use Rattle.path_checker.specs.Inner.{entered, all_entered, AllAt, left, all_left, resumed, hardened, softly, hardly}
use Rattle.path_checker.proofs.Membership.{In-left, In-right, In-cases}
use Rattle.path_checker.proofs.Exploring.{Found-later}
use Rattle.path_checker.proofs.InnerStates.{In-entered, entered-from, In-all_left, left-from, In-softly, softly-from, In-hardly, hardly-from}
use Rattle.path_checker.proofs.InnerSequences.{Leads-outer}

-- the others are tried at the same component
abbrev pub branch_course : Course → (ℕ → Course) → ℕ → Course
branch_course body others c ids = TriesBranch (body ids) (λ d. others d ids) c

Found-wider : (k : Kept) (ids : List Identity) (es : List Event) (d d' : List Kept) (f : List Stopped) (e : Ending) → Found k ids es d' f e → Found k ids es (d ++ d') f e
Found-wider k ids es d d' f (Done s) h = (h.0, In-right h.0 d d' h.1, h.2, h.3, h.4)
Found-wider k ids es d d' f (Condition pl soft) h = h
Found-wider k ids es d d' f (Directive pl) h = tt

module _ (body : Course) (others : ℕ → Course) (s : State) (c : ℕ) (from done done' : List Kept) (failed failed' : List Stopped) (same : AllAt s from)
    (a : Explores body (all_entered s c true from) done failed) (b : Explores (others c) (softly s failed) done' failed') where
  branch-found : (k : Kept) (ids : List Identity) (es : List Event) (e : Ending) → (FailsSoftly e → ⊥) → Found (entered s c true k) ids es done failed e → Found k ids es (all_left s done ++ done') (hardly s failed ++ failed') (after_branch s e)
  branch-found k ids es (Done t) stay h = (left s h.0, In-left (left s h.0) (all_left s done) done' (In-all_left s h.0 done h.1), h.2, ap (completed_state s) h.3, h.4)
  branch-found k ids es (Condition pl true) stay h = absurd (stay tt)
  branch-found k ids es (Condition pl false) stay h = (hardened s h.0, In-left (hardened s h.0) (hardly s failed) failed' (In-hardly s h.0 failed h.1 h.3), h.2, refl, h.4)
  branch-found k ids es (Directive pl) stay h = tt

  -- a branch failed softly, and the others go on
  branch-on : (k : Kept) (ids : List Identity) (before after : List Event) (e inner : Ending) → FailsSoftly inner → CoveredFrom k.events before → Found (entered s c true k) ids before done failed inner → others c ids s after e → CoveredFrom k.events (before ++ after) × Found k ids (before ++ after) (all_left s done ++ done') (hardly s failed ++ failed') e
  branch-on k ids before after e (Done t) soft fine h r = absurd soft
  branch-on k ids before after e (Condition pl false) soft fine h r = absurd soft
  branch-on k ids before after e (Directive pl) soft fine h r = absurd soft
  branch-on k ids before after e (Condition pl true) soft fine h r =
      let start : Kept = resumed s h.0 in
      let y = b.complete start (In-softly s h.0 failed h.1 h.3) ids h.2 after e r in
      (CoveredFrom-append k.events before after fine (CoveredFrom-same start.events (k.events ++ before) after h.4 y.0), Found-wider k ids (before ++ after) (all_left s done) done' (hardly s failed ++ failed') e (Found-later k start ids before after done' (hardly s failed) failed' e h.4 y.1))

  branch-at : (k : Kept) → In k from → (ids : List Identity) → Allows k.facts ids → (es : List Event) (e : Ending) → branch_course body others c ids s es e → CoveredFrom k.events es × Found k ids es (all_left s done ++ done') (hardly s failed ++ failed') e
  branch-at k i ids al es e (inl r) =
      let x = a.complete (entered s c true k) (In-entered s c true k from i) ids al es r.0 r.1 in
      subst (λ (e' : Ending). CoveredFrom k.events es × Found k ids es (all_left s done ++ done') (hardly s failed ++ failed') e') (sym r.3) (x.0, branch-found k ids es r.0 r.2 x.1)
  branch-at k i ids al es e (inr r) =
      let x = a.complete (entered s c true k) (In-entered s c true k from i) ids al r.1 r.0 r.4 in
      subst (λ (es' : List Event). CoveredFrom k.events es' × Found k ids es' (all_left s done ++ done') (hardly s failed ++ failed') e) (sym r.3) (branch-on k ids r.1 r.2 e r.0 r.5 x.0 x.1 r.6)

  branch-leads : (facts : List Knowledge) (events : List Event) (e : Ending) → (FailsSoftly e → ⊥) → Leads body (all_entered s c true from) facts events e → Leads (branch_course body others c) from facts events (after_branch s e)
  branch-leads facts events e stay = Leads-outer body (branch_course body others c) s c true from facts events e (after_branch s e) same (λ ids es r. inl (e, r, stay, refl))

  -- from a state after a failed branch, back to the start
  branch-back : (facts : List Knowledge) (events : List Event) (e : Ending) → Leads (others c) (softly s failed) facts events e → Leads (branch_course body others c) from facts events e
  branch-back facts events e l =
      let y = softly-from s failed l.0 l.1 in
      let f = y.0 in
      let start = a.stopped f y.1 in
      let z = entered-from s c true start.0 from start.1 in
      let first : Reaches body (entered s c true z.0) f.facts f.events (Condition f.place true) = subst (λ (k : Kept). Reaches body k f.facts f.events (Condition f.place true)) (sym z.2) (subst (λ (b : Bool). Reaches body start.0 f.facts f.events (Condition f.place b)) y.2 start.2) in
      let at : Reaches (others c) (resumed s f) facts events e = subst (λ (k' : Kept). Reaches (others c) k' facts events e) (sym y.3) l.2 in (
        z.0,
        z.1,
        record {
          since = first.since ++ at.since;
          parts = joined z.0.events f.events first.since at.since events first.parts at.parts;
          covered = CoveredFrom-joined z.0.events f.events first.since at.since first.parts first.covered at.covered;
          count = at.count ∙ first.count;
          path = λ ids al. let x = at.path ids al in let w = first.path ids x.0 in (w.0, subst (λ (t : State). branch_course body others c ids t (first.since ++ at.since) e) (sym (same z.0 z.1)) (inr (Condition f.place true, first.since, at.since, refl, w.1, tt, x.1)));
        },
      )

  branch-reached : (to : Kept) → In to (all_left s done ++ done') → Leads (branch_course body others c) from to.facts to.events (Done to.state)
  branch-reached to h =
      elim (In-cases to (all_left s done) done' h) [
        | inl i ↦
            let y = left-from s to done i in
            subst (λ (to' : Kept). Leads (branch_course body others c) from to'.facts to'.events (Done to'.state)) y.2 (branch-leads y.0.facts y.0.events (Done y.0.state) (λ n. n) (a.reached y.0 y.1))
        | inr i ↦ branch-back to.facts to.events (Done to.state) (b.reached to i)
      ]

  branch-stopped : (to : Stopped) → In to (hardly s failed ++ failed') → Leads (branch_course body others c) from to.facts to.events (Condition to.place to.soft_failure)
  branch-stopped to h =
      elim (In-cases to (hardly s failed) failed' h) [
        | inl i ↦
            let y = hardly-from s failed to i in
            let z : Leads body (all_entered s c true from) y.0.facts y.0.events (Condition y.0.place false) = subst (λ (b : Bool). Leads body (all_entered s c true from) y.0.facts y.0.events (Condition y.0.place b)) y.2 (a.stopped y.0 y.1) in
            subst (λ (to' : Stopped). Leads (branch_course body others c) from to'.facts to'.events (Condition to'.place to'.soft_failure)) y.3 (branch-leads y.0.facts y.0.events (Condition y.0.place false) (λ n. n) z)
        | inr i ↦ branch-back to.facts to.events (Condition to.place to.soft_failure) (b.stopped to i)
      ]

  pub Explores-branch : Explores (branch_course body others c) from (all_left s done ++ done') (hardly s failed ++ failed')
  Explores-branch = record {
    complete = λ k i ids al es e r. branch-at k i ids al es e (subst (λ (t : State). branch_course body others c ids t es e) (same k i) r);
    reached = branch-reached;
    stopped = branch-stopped;
  }
