-- Exploring inner sequences.
use Rattle.std.proofs.Common.{ℕ, Bool, true, false, List, ◌++◌, refl, sym, ap, subst, inl, inr}
use Rattle.path_model.specs.declared.identity.Identity.{Identity}
use Rattle.path_model.specs.declared.event.Event.{Event}
use Rattle.path_model.specs.Behaviour.{State, Ending, Done, Condition, Directive}
use Rattle.path_model.specs.Runs.{entry_state, completed_state, after_run, RunsInner}
use Rattle.path_model.specs.Following.{CoveredFrom}
use Rattle.path_checker.specs.declared.judge_plan.facts.Knowledge.{Knowledge}
use Rattle.path_checker.specs.Knowing.{Allows}
use Rattle.path_checker.specs.Exploring.{Course, In, Kept, Stopped, Found, Reaches, Leads, Explores}
use Rattle.path_checker.specs.Inner.{entered, all_entered, AllAt, left, all_left, resumed, hardened, softly, hardly}
use Rattle.path_checker.proofs.Membership.{In-left, In-right, In-cases}
use Rattle.path_checker.proofs.InnerStates.{In-entered, entered-from, In-all_left, left-from, In-softly, softly-from, In-hardly, hardly-from}

abbrev pub inner_course : Course → ℕ → Course
inner_course body c ids = RunsInner (body ids) c

-- a run of the outer command, from a run of the inner sequence
pub Leads-outer : (body outer : Course) (s : State) (c : ℕ) (soft : Bool) (from : List Kept) (facts : List Knowledge) (events : List Event) (e e' : Ending) → AllAt s from → ((ids : List Identity) (es : List Event) → body ids (entry_state s c soft) es e → outer ids s es e') → Leads body (all_entered s c soft from) facts events e → Leads outer from facts events e'
Leads-outer body outer s c soft from facts events e e' same lift (kin, i, r) =
    let y = entered-from s c soft kin from i in
    let at : Reaches body (entered s c soft y.0) facts events e = subst (λ (k : Kept). Reaches body k facts events e) (sym y.2) r in (
      y.0,
      y.1,
      record {
        since = at.since;
        parts = at.parts;
        covered = at.covered;
        count = at.count;
        path = λ ids al. let x = at.path ids al in (x.0, subst (λ (t : State). outer ids t at.since e') (sym (same y.0 y.1)) (lift ids at.since x.1));
      },
    )

module _ (body : Course) (s : State) (c : ℕ) (from done : List Kept) (failed : List Stopped) (same : AllAt s from) (a : Explores body (all_entered s c false from) done failed) where
  inner-found : (k : Kept) (ids : List Identity) (es : List Event) (e : Ending) → Found (entered s c false k) ids es done failed e → Found k ids es (all_left s done ++ softly s failed) (hardly s failed) (after_run s e)
  inner-found k ids es (Done t) h = (left s h.0, In-left (left s h.0) (all_left s done) (softly s failed) (In-all_left s h.0 done h.1), h.2, ap (completed_state s) h.3, h.4)
  inner-found k ids es (Condition pl true) h = (resumed s h.0, In-right (resumed s h.0) (all_left s done) (softly s failed) (In-softly s h.0 failed h.1 h.3), h.2, refl, h.4)
  inner-found k ids es (Condition pl false) h = (hardened s h.0, In-hardly s h.0 failed h.1 h.3, h.2, refl, h.4)
  inner-found k ids es (Directive pl) h = tt

  inner-leads : (facts : List Knowledge) (events : List Event) (e : Ending) → Leads body (all_entered s c false from) facts events e → Leads (inner_course body c) from facts events (after_run s e)
  inner-leads facts events e = Leads-outer body (inner_course body c) s c false from facts events e (after_run s e) same (λ ids es r. (e, r, refl))

  inner-complete : (k : Kept) → In k from → (ids : List Identity) → Allows k.facts ids → (es : List Event) (e : Ending) → inner_course body c ids k.state es e → CoveredFrom k.events es × Found k ids es (all_left s done ++ softly s failed) (hardly s failed) e
  inner-complete k i ids al es e r =
      let r' : inner_course body c ids s es e = subst (λ (t : State). inner_course body c ids t es e) (same k i) r in
      let x = a.complete (entered s c false k) (In-entered s c false k from i) ids al es r'.0 r'.1 in
      subst (λ (e' : Ending). CoveredFrom k.events es × Found k ids es (all_left s done ++ softly s failed) (hardly s failed) e') (sym r'.2) (x.0, inner-found k ids es r'.0 x.1)

  inner-reached : (to : Kept) → In to (all_left s done ++ softly s failed) → Leads (inner_course body c) from to.facts to.events (Done to.state)
  inner-reached to h =
      elim (In-cases to (all_left s done) (softly s failed) h) [
        | inl i ↦
            let y = left-from s to done i in
            subst (λ (to' : Kept). Leads (inner_course body c) from to'.facts to'.events (Done to'.state)) y.2 (inner-leads y.0.facts y.0.events (Done y.0.state) (a.reached y.0 y.1))
        | inr i ↦
            let y = softly-from s failed to i in
            let z : Leads (inner_course body c) from y.0.facts y.0.events (after_run s (Condition y.0.place y.0.soft_failure)) = inner-leads y.0.facts y.0.events (Condition y.0.place y.0.soft_failure) (a.stopped y.0 y.1) in
            let w : Leads (inner_course body c) from y.0.facts y.0.events (Done s) = subst (λ (b : Bool). Leads (inner_course body c) from y.0.facts y.0.events (after_run s (Condition y.0.place b))) y.2 z in
            subst (λ (to' : Kept). Leads (inner_course body c) from to'.facts to'.events (Done to'.state)) y.3 w
      ]

  inner-stopped : (to : Stopped) → In to (hardly s failed) → Leads (inner_course body c) from to.facts to.events (Condition to.place to.soft_failure)
  inner-stopped to h =
      let y = hardly-from s failed to h in
      let z : Leads (inner_course body c) from y.0.facts y.0.events (after_run s (Condition y.0.place y.0.soft_failure)) = inner-leads y.0.facts y.0.events (Condition y.0.place y.0.soft_failure) (a.stopped y.0 y.1) in
      let w : Leads (inner_course body c) from y.0.facts y.0.events (Condition y.0.place s.soft_failure) = subst (λ (b : Bool). Leads (inner_course body c) from y.0.facts y.0.events (after_run s (Condition y.0.place b))) y.2 z in
      subst (λ (to' : Stopped). Leads (inner_course body c) from to'.facts to'.events (Condition to'.place to'.soft_failure)) y.3 w

  pub Explores-inner : Explores (inner_course body c) from (all_left s done ++ softly s failed) (hardly s failed)
  Explores-inner = record {
    complete = inner-complete;
    reached = inner-reached;
    stopped = inner-stopped;
  }
