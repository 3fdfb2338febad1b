-- Explored states stay explored where some states stand for all.
use Rattle.std.proofs.Common.{◌≡◌, ◌+◌, ◌<◌, ℕ, Bool, zero, suc, List, [], ◌∷◌, ◌++◌, length, get_or, take, refl, sym, ap, ◌∙◌, subst, arith, inl, inr}
use Rattle.std.specs.Prelude.{◌⊎◌}
use Rattle.std.proofs.lemmas.List.{take_more, append-nil}
use Rattle.path_model.specs.declared.identity.Identity.{Identity}
use Rattle.path_model.specs.declared.event.Event.{Event}
use Rattle.path_model.specs.Behaviour.{Ending, Done, Condition, Directive}
use Rattle.path_model.proofs.Following.{same_matches, same_trans}
use Rattle.path_checker.specs.declared.judge_plan.facts.Knowledge.{Knowledge}
use Rattle.path_checker.specs.Knowing.{Allows}
use Rattle.path_checker.specs.Exploring.{Course, In, Kept, Stopped, Found, Explores, Failures, all_kept, Adds}
use Rattle.path_checker.specs.Merging.{Merges, SameState, SameStop, Settles}
use Rattle.path_checker.proofs.Keeping.{none_of, all_kept-append, all_kept-those, kept-from, kept-either, all_dropped, dropped-from, dropped-kept}
use Rattle.path_checker.proofs.Membership.{In-left, In-right, In-cases}
use Rattle.path_checker.proofs.Walking.{Walks}

-- ---- one after another, from the last one on

-- some are left, and those that are kept stand for the others
pub record MergesLeft {A : Type 0} (S : A → A → Type 0) (all left kept : List A) : Type 0 where
  pub part : (x : A) → In x kept → In x all
  pub rest : (x : A) → In x left → In x all
  pub each : (x : A) → In x all → In x left ⊎ ((y : A) × In y kept × S y x)

pub Left-start : {A : Type 0} (S : A → A → Type 0) (xs kept : List A) → kept ≡ [] → MergesLeft S xs xs kept
Left-start {A} S xs kept none = record {
  part = λ x h. absurd (subst (λ (ys : List A). In x ys) none h);
  rest = λ x i. i;
  each = λ x i. inl i;
}

-- one that another stands for, found among those kept as they were read
pub Left-found : {A : Type 0} (S : A → A → Type 0) (all left left' kept read : List A) (x : A) → MergesLeft S all left kept → left ≡ left' ++ x ∷ [] → read ≡ kept → ((y : A) × In y read × S y x) → MergesLeft S all left' kept
Left-found {A} S all left left' kept read x m popped same y = record {
  part = m.part;
  rest = λ z i. m.rest z (subst (λ (xs : List A). In z xs) (sym popped) (In-left z left' (x ∷ []) i));
  each = λ z i. elim (m.each z i) [
    | inl h ↦ elim (In-cases z left' (x ∷ []) (subst (λ (xs : List A). In z xs) popped h)) [
      | inl there ↦ inl there
      | inr (inl e) ↦ inr (y.0, subst (In y.0) same y.1, subst (S y.0) e y.2)
      | inr (inr n) ↦ absurd n
    ]
    | inr kept ↦ inr kept
  ];
}

-- one that is put behind those kept
pub Left-pushed : {A : Type 0} (S : A → A → Type 0) (all left left' kept more : List A) (x : A) → MergesLeft S all left kept → left ≡ left' ++ x ∷ [] → S x x → more ≡ kept ++ x ∷ [] → MergesLeft S all left' more
Left-pushed {A} S all left left' kept more x m popped self pushed = record {
  part = λ z i. elim (In-cases z kept (x ∷ []) (subst (λ (xs : List A). In z xs) pushed i)) [
    | inl there ↦ m.part z there
    | inr there ↦ m.rest z (subst (λ (xs : List A). In z xs) (sym popped) (In-right z left' (x ∷ []) there))
  ];
  rest = λ z i. m.rest z (subst (λ (xs : List A). In z xs) (sym popped) (In-left z left' (x ∷ []) i));
  each = λ z i. elim (m.each z i) [
    | inl h ↦ elim (In-cases z left' (x ∷ []) (subst (λ (xs : List A). In z xs) popped h)) [
      | inl there ↦ inl there
      | inr (inl e) ↦ inr (x, subst (λ (xs : List A). In x xs) (sym pushed) (In-right x kept (x ∷ []) (inl refl)), subst (S x) e self)
      | inr (inr n) ↦ absurd n
    ]
    | inr y ↦ inr (y.0, subst (λ (xs : List A). In y.0 xs) (sym pushed) (In-left y.0 kept (x ∷ []) y.1), y.2)
  ];
}

pub none_more : {A : Type 0} (xs : List A) → (0 < length xs → ⊥) → xs ≡ []
none_more [] none = refl
none_more (x ∷ xs) none = absurd (none (omega arith))

pub Left-none : {A : Type 0} (S : A → A → Type 0) (all left kept : List A) → MergesLeft S all left kept → left ≡ [] → Merges S all kept
Left-none {A} S all left kept m none = record {
  part = m.part;
  each = λ z i. elim (m.each z i) [
    | inl h ↦ absurd (subst (λ (xs : List A). In z xs) none h)
    | inr y ↦ y
  ];
}

pub Merges-append : {A : Type 0} (S : A → A → Type 0) (xs kept more : List A) → ((x : A) → S x x) → Merges S xs kept → Merges S (xs ++ more) (kept ++ more)
Merges-append {A} S xs kept more self m = record {
  part = λ z i. elim (In-cases z kept more i) [
    | inl i ↦ In-left z xs more (m.part z i)
    | inr i ↦ In-right z xs more i
  ];
  each = λ z i. elim (In-cases z xs more i) [
    | inl i ↦ let y = m.each z i in (y.0, In-left y.0 kept more y.1, y.2)
    | inr i ↦ (z, In-right z kept more i, self z)
  ];
}

pub in_list : {A : Type 0} (xs : List A) (i : ℕ) (d : A) → i < length xs → In (get_or xs i d) xs
in_list [] i d lt = absurd (omega arith)
in_list (x ∷ xs) zero d lt = inl refl
in_list (x ∷ xs) (suc i) d lt = inr (in_list xs i d (omega arith))

-- two lists of one length, up to an index
abbrev pub SameSoFar : {A : Type 0} → ℕ → List A → List A → Type 0
SameSoFar index xs ys = record {
  lengths : length ys ≡ length xs;
  same : take index xs ≡ take index ys;
}

pub take_next : {A : Type 0} (xs ys : List A) (i : ℕ) (d : A) → i < length xs → length ys ≡ length xs → get_or xs i d ≡ get_or ys i d → take i xs ≡ take i ys → take (i + 1) xs ≡ take (i + 1) ys
take_next {A} xs ys i d lt same here so_far =
    take_more xs i d lt ∙ ap (λ (zs : List A). zs ++ get_or xs i d ∷ []) so_far ∙ ap (λ (z : A). take i ys ++ z ∷ []) here ∙ sym (take_more ys i d (omega (arith, lt, same)))

pub same_state : (k : Kept) → SameState k k
same_state k = record { facts = refl; state = refl; matches = same_matches k.events }

pub same_stop : (stop : Stopped) → SameStop stop stop
same_stop stop = record { facts = refl; soft_failure = refl; matches = same_matches stop.events }

-- ---- states after a course

Found-states : (k : Kept) (ids : List Identity) (es : List Event) (d d' : List Kept) (f : List Stopped) (e : Ending) → Merges SameState d d' → Found k ids es d f e → Found k ids es d' f e
Found-states k ids es d d' f (Done s) m h =
    let y = m.each h.0 h.1 in
    (y.0, y.1, subst (λ (fs : List Knowledge). Allows fs ids) (sym y.2.facts) h.2, y.2.state ∙ h.3, same_trans y.0.events h.0.events (k.events ++ es) y.2.matches h.4)
Found-states k ids es d d' f (Condition p soft) m h = h
Found-states k ids es d d' f (Directive p) m h = tt

Explores-states : (course : Course) (from d d' : List Kept) (f : List Stopped) → Merges SameState d d' → Explores course from d f → Explores course from d' f
Explores-states course from d d' f m x = record {
  complete = λ k i ids al es e r. let y = x.complete k i ids al es e r in (y.0, Found-states k ids es d d' f e m y.1);
  reached = λ to i. x.reached to (m.part to i);
  stopped = x.stopped;
}

pub Adds-states : (course : Course) (from n v : List Kept) (f f' : Failures) → Adds course from [] n f f' → Merges SameState n v → Adds course from [] v f f'
Adds-states course from n v f f' a m = record {
  done = v;
  failed = a.failed;
  next_is = refl;
  failed_is = a.failed_is;
  explores = Explores-states course from a.done v a.failed (subst (λ (x : List Kept). Merges SameState x v) a.next_is m) a.explores;
}

-- ---- failures of a course

Found-stops : (k : Kept) (ids : List Identity) (es : List Event) (d : List Kept) (f f' : List Stopped) (e : Ending) → Merges SameStop f f' → Found k ids es d f e → Found k ids es d f' e
Found-stops k ids es d f f' (Done s) m h = h
Found-stops k ids es d f f' (Condition p soft) m h =
    let y = m.each h.0 h.1 in
    (y.0, y.1, subst (λ (fs : List Knowledge). Allows fs ids) (sym y.2.facts) h.2, y.2.soft_failure ∙ h.3, same_trans y.0.events h.0.events (k.events ++ es) y.2.matches h.4)
Found-stops k ids es d f f' (Directive p) m h = tt

Explores-stops : (course : Course) (from d : List Kept) (f f' : List Stopped) → Merges SameStop f f' → Explores course from d f → Explores course from d f'
Explores-stops course from d f f' m x = record {
  complete = λ k i ids al es e r. let y = x.complete k i ids al es e r in (y.0, Found-stops k ids es d f f' e m y.1);
  reached = x.reached;
  stopped = λ to i. x.stopped to (m.part to i);
}

abbrev failures_of : List Stopped → Bool → Bool → Failures
failures_of items soft hard = record { items = items; soft = soft; hard = hard }

module _ (soft hard : Bool) (all kept : List Stopped) (m : Merges SameStop (all_kept soft hard all) kept) where
  -- those that stand for all that are kept, and those that are not
  abbrev with_dropped : List Stopped
  with_dropped = kept ++ all_dropped soft hard all

  pub still_kept : all_kept soft hard with_dropped ≡ kept
  still_kept =
      all_kept-append soft hard kept (all_dropped soft hard all)
      ∙ ap (λ (xs : List Stopped). xs ++ all_kept soft hard (all_dropped soft hard all)) (all_kept-those soft hard kept (λ x there. (kept-from soft hard x all (m.part x there)).1))
      ∙ ap (λ (xs : List Stopped). kept ++ xs) (dropped-kept soft hard all)
      ∙ append-nil kept

  pub Merges-dropped : Merges SameStop all with_dropped
  Merges-dropped = record {
    part = λ x there. elim (In-cases x kept (all_dropped soft hard all) there) [
      | inl i ↦ (kept-from soft hard x all (m.part x i)).0
      | inr i ↦ dropped-from soft hard x all i
    ];
    each = λ x there. elim (kept-either soft hard x all there) [
      | inl i ↦ let y = m.each x i in (y.0, In-left y.0 kept (all_dropped soft hard all) y.1, y.2)
      | inr i ↦ (x, In-right x kept (all_dropped soft hard all) i, same_stop x)
    ];
  }

pub Walks-settled : (whole rest : Course) (from now : List Kept) (f0 f f' : Failures) → Walks whole from (none_of f0) rest now f → Settles f f' → Walks whole from (none_of f0) rest now f'
Walks-settled whole rest from now f0 f f' w settles =
    let m : Merges SameStop (all_kept f0.soft f0.hard w.added) f'.items = subst (λ (g : Failures). Merges SameStop g.items f'.items) w.failed_is settles.merges in
    let all : List Stopped = with_dropped f0.soft f0.hard w.added f'.items m in
    record {
      added = all;
      failed_is =
          ap (λ (b : Bool). failures_of f'.items b f'.hard) (settles.soft ∙ ap (λ (g : Failures). g.soft) w.failed_is)
          ∙ ap (λ (b : Bool). failures_of f'.items f0.soft b) (settles.hard ∙ ap (λ (g : Failures). g.hard) w.failed_is)
          ∙ ap (λ (xs : List Stopped). failures_of xs f0.soft f0.hard) (sym (still_kept f0.soft f0.hard w.added f'.items m));
      carries = record {
        explores = λ d g y. Explores-stops whole from d (w.added ++ g) (all ++ g) (Merges-append SameStop w.added all g same_stop (Merges-dropped f0.soft f0.hard w.added f'.items m)) (w.carries.explores d g y);
        uncovers = w.carries.uncovers;
      };
    }

-- failures that are put behind others
pub Adds-behind : (course : Course) (from n : List Kept) (f f' st : Failures) → Adds course from [] n (none_of f) st → f' ≡ record { items = f.items ++ st.items; soft = f.soft; hard = f.hard } → Adds course from [] n f f'
Adds-behind course from n f f' st a more = record {
  done = a.done;
  failed = a.failed;
  next_is = a.next_is;
  failed_is = more ∙ ap (λ (x : Failures). failures_of (f.items ++ x.items) f.soft f.hard) a.failed_is;
  explores = a.explores;
}
