-- Exploring a command at one component, from one state.
use Rattle.std.proofs.Common.{◌≡◌, ℕ, List, [], ◌∷◌, ◌++◌, refl, sym, ◌∙◌, subst, inl, inr}
use Rattle.std.specs.Prelude.{◌⊎◌}
use Rattle.path_model.specs.declared.identity.Identity.{Identity}
use Rattle.path_model.specs.declared.event.Event.{Event}
use Rattle.path_model.specs.Behaviour.{State, Ending, Done, Condition, Directive}
use Rattle.path_model.specs.Following.{CoveredFrom}
use Rattle.path_model.proofs.Following.{same_matches}
use Rattle.path_checker.specs.declared.judge_plan.facts.Knowledge.{Knowledge}
use Rattle.path_checker.specs.Knowing.{Allows, Learns}
use Rattle.path_checker.specs.Exploring.{Course, Kept, Stopped, Reaches, Found, Explores}
use Rattle.path_checker.specs.Steps.{knowing, stopped_by}
use Rattle.path_checker.proofs.Membership.{In-cases}
use Rattle.path_checker.proofs.Exploring.{FromOne-of, Explores-one, Found-left, Found-right}

-- the only thing that may happen
abbrev pub Only : List Event → Ending → Course
Only es e ids s es' e' = (es' ≡ es) × (e' ≡ e)

only-complete : (k : Kept) (es : List Event) (e : Ending) (done : List Kept) (failed : List Stopped) → CoveredFrom k.events es → ((ids : List Identity) → Allows k.facts ids → Found k ids es done failed e) → (ids : List Identity) → Allows k.facts ids → (es' : List Event) (e' : Ending) → Only es e ids k.state es' e' → CoveredFrom k.events es' × Found k ids es' done failed e'
only-complete k es e done failed fine found ids al es' e' r =
    subst (λ (x : List Event). CoveredFrom k.events x × Found k ids x done failed e') (sym r.0) (fine, subst (Found k ids es done failed) (sym r.1) (found ids al))

only-reaches : (k : Kept) (es : List Event) (e : Ending) → CoveredFrom k.events es → Reaches (Only es e) k k.facts (k.events ++ es) e
only-reaches k es e fine = record { since = es; parts = refl; covered = fine; count = refl; path = λ ids al. (al, (refl, refl)) }

-- the course goes on in this state
pub Explores-done : (k : Kept) (es : List Event) (s : State) → CoveredFrom k.events es → Explores (Only es (Done s)) (k ∷ []) (record { facts = k.facts; events = k.events ++ es; state = s } ∷ []) []
Explores-done k es s fine =
    let to : Kept = record { facts = k.facts; events = k.events ++ es; state = s } in
    Explores-one (Only es (Done s)) k (to ∷ []) [] (record {
      complete = only-complete k es (Done s) (to ∷ []) [] fine (λ ids al. (to, inl refl, al, refl, same_matches (k.events ++ es)));
      reached = λ x h. elim h [
        | inl p ↦ subst (λ (x : Kept). Reaches (Only es (Done s)) k x.facts x.events (Done x.state)) p (only-reaches k es (Done s) fine)
        | inr n ↦ absurd n
      ];
      stopped = λ x h. absurd h;
    })

-- the course fails as a condition does
pub Explores-fails : (k : Kept) (es : List Event) (p : ℕ) → CoveredFrom k.events es → Explores (Only es (Condition p k.state.soft_failure)) (k ∷ []) [] (stopped_by k es p ∷ [])
Explores-fails k es p fine =
    let to : Stopped = stopped_by k es p in
    Explores-one (Only es (Condition p k.state.soft_failure)) k [] (to ∷ []) (record {
      complete = only-complete k es (Condition p k.state.soft_failure) [] (to ∷ []) fine (λ ids al. (to, inl refl, al, refl, same_matches (k.events ++ es)));
      reached = λ x h. absurd h;
      stopped = λ x h. elim h [
        | inl q ↦ subst (λ (x : Stopped). Reaches (Only es (Condition p k.state.soft_failure)) k x.facts x.events (Condition x.place x.soft_failure)) q (only-reaches k es (Condition p k.state.soft_failure) fine)
        | inr n ↦ absurd n
      ];
    })

-- the course ends the procedure
pub Explores-ends : (k : Kept) (es : List Event) (p : ℕ) → CoveredFrom k.events es → Explores (Only es (Directive p)) (k ∷ []) [] []
Explores-ends k es p fine =
    Explores-one (Only es (Directive p)) k [] [] (record {
      complete = only-complete k es (Directive p) [] [] fine (λ ids al. tt);
      reached = λ x h. absurd h;
      stopped = λ x h. absurd h;
    })

abbrev pub Either : Course → Course → Course
Either a b ids s es e = a ids s es e ⊎ b ids s es e

Reaches-lift : (a b : Course) (k : Kept) (facts : List Knowledge) (events : List Event) (e : Ending) → ((ids : List Identity) (es : List Event) → a ids k.state es e → b ids k.state es e) → Reaches a k facts events e → Reaches b k facts events e
Reaches-lift a b k facts events e lift r = record { since = r.since; parts = r.parts; covered = r.covered; count = r.count; path = λ ids al. let x = r.path ids al in (x.0, lift ids r.since x.1) }

-- one course or another
pub Explores-either : (a b : Course) (k : Kept) (d d' : List Kept) (f f' : List Stopped) → Explores a (k ∷ []) d f → Explores b (k ∷ []) d' f' → Explores (Either a b) (k ∷ []) (d ++ d') (f ++ f')
Explores-either a b k d d' f f' x y =
    let p = FromOne-of a k d f x in
    let q = FromOne-of b k d' f' y in
    Explores-one (Either a b) k (d ++ d') (f ++ f') (record {
      complete = λ ids al es e r. elim r [
        | inl r ↦ let z = p.complete ids al es e r in (z.0, Found-left k ids es d d' f f' e z.1)
        | inr r ↦ let z = q.complete ids al es e r in (z.0, Found-right k ids es d d' f f' e z.1)
      ];
      reached = λ to h. elim (In-cases to d d' h) [
        | inl i ↦ Reaches-lift a (Either a b) k to.facts to.events (Done to.state) (λ ids es r. inl r) (p.reached to i)
        | inr i ↦ Reaches-lift b (Either a b) k to.facts to.events (Done to.state) (λ ids es r. inr r) (q.reached to i)
      ];
      stopped = λ to h. elim (In-cases to f f' h) [
        | inl i ↦ Reaches-lift a (Either a b) k to.facts to.events (Condition to.place to.soft_failure) (λ ids es r. inl r) (p.stopped to i)
        | inr i ↦ Reaches-lift b (Either a b) k to.facts to.events (Condition to.place to.soft_failure) (λ ids es r. inr r) (q.stopped to i)
      ];
    })

-- both courses are the same for the identities that are allowed
pub record Same (k : Kept) (a b : Course) : Type 0 where
  pub there : (ids : List Identity) → Allows k.facts ids → (es : List Event) (e : Ending) → a ids k.state es e → b ids k.state es e
  pub back : (ids : List Identity) → Allows k.facts ids → (es : List Event) (e : Ending) → b ids k.state es e → a ids k.state es e

same-reaches : (k : Kept) (a b : Course) (same : Same k a b) (facts : List Knowledge) (events : List Event) (e : Ending) → Reaches a k facts events e → Reaches b k facts events e
same-reaches k a b same facts events e r = record { since = r.since; parts = r.parts; covered = r.covered; count = r.count; path = λ ids al. let x = r.path ids al in (x.0, same.there ids x.0 r.since e x.1) }

pub Explores-same : (k : Kept) (a b : Course) (d : List Kept) (f : List Stopped) → Same k a b → Explores a (k ∷ []) d f → Explores b (k ∷ []) d f
Explores-same k a b d f same x =
    let p = FromOne-of a k d f x in
    Explores-one b k d f (record {
      complete = λ ids al es e r. p.complete ids al es e (same.back ids al es e r);
      reached = λ to h. same-reaches k a b same to.facts to.events (Done to.state) (p.reached to h);
      stopped = λ to h. same-reaches k a b same to.facts to.events (Condition to.place to.soft_failure) (p.stopped to h);
    })

-- ---- facts

-- a course that is possible only if one more fact holds
abbrev pub Where : (List Identity → Type 0) → Course → Course
Where fact a ids s es e = fact ids × a ids s es e

where-reaches : (k : Kept) (learned : List Knowledge) (fact : List Identity → Type 0) (a : Course) (facts : List Knowledge) (events : List Event) (e : Ending) → Learns k.facts learned fact → Reaches a (knowing k learned) facts events e → Reaches (Where fact a) k facts events e
where-reaches k learned fact a facts events e learns r = record {
  since = r.since;
  parts = r.parts;
  covered = r.covered;
  count = r.count ∙ learns.count;
  path = λ ids al. let x = r.path ids al in let y = (learns.allows ids).0 x.0 in (y.0, (y.1, x.1));
}

where-found : (k : Kept) (learned : List Knowledge) (ids : List Identity) (es : List Event) (done : List Kept) (failed : List Stopped) (e : Ending) → Found (knowing k learned) ids es done failed e → Found k ids es done failed e
where-found k learned ids es done failed (Done s) h = h
where-found k learned ids es done failed (Condition p soft) h = h
where-found k learned ids es done failed (Directive p) h = h

pub Explores-where : (k : Kept) (learned : List Knowledge) (fact : List Identity → Type 0) (a : Course) (d : List Kept) (g : List Stopped) → Learns k.facts learned fact → Explores a (knowing k learned ∷ []) d g → Explores (Where fact a) (k ∷ []) d g
Explores-where k learned fact a d g learns x =
    let p = FromOne-of a (knowing k learned) d g x in
    Explores-one (Where fact a) k d g (record {
      complete = λ ids al es e r. let z = p.complete ids ((learns.allows ids).1 (al, r.0)) es e r.1 in (z.0, where-found k learned ids es d g e z.1);
      reached = λ to h. where-reaches k learned fact a to.facts to.events (Done to.state) learns (p.reached to h);
      stopped = λ to h. where-reaches k learned fact a to.facts to.events (Condition to.place to.soft_failure) learns (p.stopped to h);
    })
