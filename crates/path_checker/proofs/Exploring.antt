-- Exploring one part after another.
use Rattle.std.proofs.Common.{List, [], ◌∷◌, ◌++◌, refl, sym, ◌∙◌, subst, inl, inr}
use Rattle.path_model.specs.declared.identity.Identity.{Identity}
use Rattle.path_model.specs.declared.event.Event.{Event}
use Rattle.path_model.specs.Behaviour.{State, Ending, Done, Condition, Directive, IsFailure, Then}
use Rattle.path_model.specs.Following.{CoveredFrom, SameMatches}
use Rattle.path_model.proofs.Covering.{CoveredFrom-append}
use Rattle.path_model.proofs.Following.{CoveredFrom-same, joined, CoveredFrom-joined, same_joined}
use Rattle.path_checker.specs.declared.judge_plan.facts.Knowledge.{Knowledge}
use Rattle.path_checker.specs.Knowing.{Allows}
use Rattle.path_checker.specs.Exploring.{Course, In, Kept, Stopped, Found, Reaches, Leads, Explores}
use Rattle.path_checker.proofs.Membership.{In-left, In-right, In-cases}

abbrev pub then_course : Course → Course → Course
then_course first second identities = Then (first identities) (second identities)

pub Found-later : (k to : Kept) (ids : List Identity) (es fs : List Event) (done : List Kept) (f g : List Stopped) (e : Ending) → SameMatches to.events (k.events ++ es) → Found to ids fs done g e → Found k ids (es ++ fs) done (f ++ g) e
Found-later k to ids es fs done f g (Done s) p h = (h.0, h.1, h.2, h.3, same_joined to.events k.events es fs h.0.events p h.4)
Found-later k to ids es fs done f g (Condition pl soft) p h = (h.0, In-right h.0 f g h.1, h.2, h.3, same_joined to.events k.events es fs h.0.events p h.4)
Found-later k to ids es fs done f g (Directive pl) p h = tt

Found-over : (k : Kept) (ids : List Identity) (es : List Event) (mid done : List Kept) (f g : List Stopped) (e : Ending) → IsFailure e → Found k ids es mid f e → Found k ids es done (f ++ g) e
Found-over k ids es mid done f g (Done s) over h = absurd over
Found-over k ids es mid done f g (Condition pl soft) over h = (h.0, In-left h.0 f g h.1, h.2, h.3, h.4)
Found-over k ids es mid done f g (Directive pl) over h = tt

module _ (first second : Course) (from mid done : List Kept) (f g : List Stopped) (a : Explores first from mid f) (b : Explores second mid done g) where
  then-complete : (k : Kept) → In k from → (ids : List Identity) → Allows k.facts ids → (es : List Event) (e : Ending) → then_course first second ids k.state es e → CoveredFrom k.events es × Found k ids es done (f ++ g) e
  then-complete k in_from ids al es e (inl r) =
      let x = a.complete k in_from ids al es e r.1 in
      (x.0, Found-over k ids es mid done f g e r.0 x.1)
  then-complete k in_from ids al es e (inr r) =
      let x = a.complete k in_from ids al r.1 (Done r.0) r.4 in
      let to = x.1.0 in
      let y = b.complete to x.1.1 ids x.1.2 r.2 e (subst (λ (s : State). second ids s r.2 e) (sym x.1.3) r.5) in
      let all : CoveredFrom k.events (r.1 ++ r.2) × Found k ids (r.1 ++ r.2) done (f ++ g) e =
      (CoveredFrom-append k.events r.1 r.2 x.0 (CoveredFrom-same to.events (k.events ++ r.1) r.2 x.1.4 y.0), Found-later k to ids r.1 r.2 done f g e x.1.4 y.1)
      in
      subst (λ (es' : List Event). CoveredFrom k.events es' × Found k ids es' done (f ++ g) e) (sym r.3) all

  -- from a kept state in the middle, back to the start
  leads-back : (facts : List Knowledge) (events : List Event) (e : Ending) → Leads second mid facts events e → Leads (then_course first second) from facts events e
  leads-back facts events e (k, i, l) =
      let m = a.reached k i in (
        m.0,
        m.1,
        record {
          since = m.2.since ++ l.since;
          parts = joined m.0.events k.events m.2.since l.since events m.2.parts l.parts;
          covered = CoveredFrom-joined m.0.events k.events m.2.since l.since m.2.parts m.2.covered l.covered;
          count = l.count ∙ m.2.count;
          path = λ ids al. let x = l.path ids al in let y = m.2.path ids x.0 in (y.0, inr (k.state, m.2.since, l.since, refl, y.1, x.1));
        },
      )

  leads-first : (facts : List Knowledge) (events : List Event) (e : Ending) → IsFailure e → Leads first from facts events e → Leads (then_course first second) from facts events e
  leads-first facts events e over (k, i, l) = (k, i, record { since = l.since; parts = l.parts; covered = l.covered; count = l.count; path = λ ids al. let x = l.path ids al in (x.0, inl (over, x.1)) })

  then-stopped : (to : Stopped) → In to (f ++ g) → Leads (then_course first second) from to.facts to.events (Condition to.place to.soft_failure)
  then-stopped to h = elim (In-cases to f g h) [
    | inl i ↦ leads-first to.facts to.events (Condition to.place to.soft_failure) tt (a.stopped to i)
    | inr i ↦ leads-back to.facts to.events (Condition to.place to.soft_failure) (b.stopped to i)
  ]

  pub Explores-then : Explores (then_course first second) from done (f ++ g)
  Explores-then = record {
    complete = then-complete;
    reached = λ to h. leads-back to.facts to.events (Done to.state) (b.reached to h);
    stopped = then-stopped;
  }

-- ---- several starting states

pub Found-left : (k : Kept) (ids : List Identity) (es : List Event) (d d' : List Kept) (f f' : List Stopped) (e : Ending) → Found k ids es d f e → Found k ids es (d ++ d') (f ++ f') e
Found-left k ids es d d' f f' (Done s) h = (h.0, In-left h.0 d d' h.1, h.2, h.3, h.4)
Found-left k ids es d d' f f' (Condition pl soft) h = (h.0, In-left h.0 f f' h.1, h.2, h.3, h.4)
Found-left k ids es d d' f f' (Directive pl) h = tt

pub Found-right : (k : Kept) (ids : List Identity) (es : List Event) (d d' : List Kept) (f f' : List Stopped) (e : Ending) → Found k ids es d' f' e → Found k ids es (d ++ d') (f ++ f') e
Found-right k ids es d d' f f' (Done s) h = (h.0, In-right h.0 d d' h.1, h.2, h.3, h.4)
Found-right k ids es d d' f f' (Condition pl soft) h = (h.0, In-right h.0 f f' h.1, h.2, h.3, h.4)
Found-right k ids es d d' f f' (Directive pl) h = tt

pub Explores-none : (course : Course) → Explores course [] [] []
Explores-none course = record {
  complete = λ k h. absurd h;
  reached = λ to h. absurd h;
  stopped = λ to h. absurd h;
}

-- ---- one starting state

pub record FromOne (course : Course) (k : Kept) (done : List Kept) (failed : List Stopped) : Type 0 where
  pub complete : (ids : List Identity) → Allows k.facts ids → (es : List Event) (e : Ending) → course ids k.state es e → CoveredFrom k.events es × Found k ids es done failed e
  pub reached : (to : Kept) → In to done → Reaches course k to.facts to.events (Done to.state)
  pub stopped : (to : Stopped) → In to failed → Reaches course k to.facts to.events (Condition to.place to.soft_failure)

pub Explores-one : (course : Course) (k : Kept) (done : List Kept) (failed : List Stopped) → FromOne course k done failed → Explores course (k ∷ []) done failed
Explores-one course k done failed o = record {
  complete = λ k' h. elim h [
    | inl e ↦ subst (λ (k' : Kept). (ids : List Identity) → Allows k'.facts ids → (es : List Event) (e : Ending) → course ids k'.state es e → CoveredFrom k'.events es × Found k' ids es done failed e) e o.complete
    | inr n ↦ absurd n
  ];
  reached = λ to h. (k, inl refl, o.reached to h);
  stopped = λ to h. (k, inl refl, o.stopped to h);
}

Reaches-only : (course : Course) (k : Kept) (facts : List Knowledge) (events : List Event) (e : Ending) → Leads course (k ∷ []) facts events e → Reaches course k facts events e
Reaches-only course k facts events e (k', inl p, l) = subst (λ (x : Kept). Reaches course x facts events e) (sym p) l
Reaches-only course k facts events e (k', inr n, l) = absurd n

pub FromOne-of : (course : Course) (k : Kept) (done : List Kept) (failed : List Stopped) → Explores course (k ∷ []) done failed → FromOne course k done failed
FromOne-of course k done failed x = record {
  complete = λ ids al. x.complete k (inl refl) ids al;
  reached = λ to h. Reaches-only course k to.facts to.events (Done to.state) (x.reached to h);
  stopped = λ to h. Reaches-only course k to.facts to.events (Condition to.place to.soft_failure) (x.stopped to h);
}
