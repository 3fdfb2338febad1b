-- The states each directive adds.
use Rattle.std.proofs.Common.{◌≡◌, ℕ, Bool, true, false, List, [], ◌∷◌, ◌++◌, Option, Some, None, refl, sym, ap, ◌∙◌, subst, inl, inr, rules}
use Rattle.std.specs.Prelude.{◌⊎◌, is_some, IsTrue}
use Rattle.std.proofs.lemmas.List.{append-nil}
use Rattle.suit_params.specs.declared.digest.Digest.{Digest}
use Rattle.suit_params.specs.declared.param.Param.{Param}
use Rattle.suit_params.specs.declared.param.ParamKey.TheVariants as keys
use Rattle.suit_params.specs.InForce.{Parameters, in_force, with_param, overridden, number_of, bytes_of, digest_in, size_in}
use Rattle.suit_commands.specs.declared.kinds.ActKind.TheVariants as acts
use Rattle.path_model.specs.declared.event.Event.{Event}
use Rattle.path_model.specs.declared.event.Event.TheVariants.{Set, Wrote, Invoked, Failed}
use Rattle.path_model.specs.Behaviour.{State, Ending, Done, Directive}
use Rattle.path_model.specs.Directives.{Writes, Overrides, set_events, soft_after, after_override}
use Rattle.path_model.specs.Safe.{IsCovered, HasMatched}
use Rattle.path_model.specs.Following.{CoveredFrom}
use Rattle.path_checker.specs.Exploring.{Course, Kept, Failures, Explores, Uncovers, Adds, kept_if}
use Rattle.path_checker.specs.Steps.{with_events, soft_after_all, ActsAt}
use Rattle.path_checker.proofs.Keeping.{after_none}
use Rattle.path_checker.proofs.Leaves.{Only, Either, Same, Explores-same, Explores-done, Explores-ends, Explores-either}

-- ---- directives that write

abbrev writing : ℕ → Kept → List Event → Course
writing p k events = Either (Only events (Done k.state)) (Only (events ++ Failed p ∷ []) (Directive p))

writes_at : {A : Type 0} (p : ℕ) (k : Kept) (o : Option A) (written : A → List Event) (events : List Event) → is_some o ≡ true → ((a : A) → o ≡ Some a → written a ≡ events) → Same k (writing p k events) (λ ids s. Writes p o written k.state)
writes_at p k None written events some is = absurd cc
writes_at p k (Some a) written events some is =
    let same = is a refl in
    record {
      there = λ ids al es e r. subst (λ (xs : List Event). ((es ≡ xs) × (e ≡ Done k.state)) ⊎ ((es ≡ xs ++ Failed p ∷ []) × (e ≡ Directive p))) (sym same) r;
      back = λ ids al es e r. subst (λ (xs : List Event). ((es ≡ xs) × (e ≡ Done k.state)) ⊎ ((es ≡ xs ++ Failed p ∷ []) × (e ≡ Directive p))) same r;
    }

no_writes_at : {A : Type 0} (p : ℕ) (k : Kept) (o : Option A) (written : A → List Event) → is_some o ≡ false → Same k (Only (Failed p ∷ []) (Directive p)) (λ ids s. Writes p o written k.state)
no_writes_at p k (Some a) written none = absurd cc
no_writes_at p k None written none = record { there = λ ids al es e r. r; back = λ ids al es e r. r }

-- a directive that writes, with its parameter or without
Explores-writes : {A : Type 0} (course : Course) (p : ℕ) (k : Kept) (o : Option A) (written : A → List Event) (events : List Event) (has : Bool) → Same k (λ ids s. Writes p o written k.state) course → has ≡ is_some o → ((a : A) → o ≡ Some a → written a ≡ events)
    → CoveredFrom k.events events → CoveredFrom k.events (events ++ Failed p ∷ []) → Explores course (k ∷ []) (kept_if has (with_events k events)) []
Explores-writes course p k o written events true same some is fine fine_failed =
    Explores-same k (λ ids s. Writes p o written k.state) course (with_events k events ∷ []) [] same
    (Explores-same k (writing p k events) (λ ids s. Writes p o written k.state) (with_events k events ∷ []) [] (writes_at p k o written events (sym some) is)
    (Explores-either (Only events (Done k.state)) (Only (events ++ Failed p ∷ []) (Directive p)) k (with_events k events ∷ []) [] [] [] (Explores-done k events k.state fine) (Explores-ends k (events ++ Failed p ∷ []) p fine_failed)))
Explores-writes course p k o written events false same none is fine fine_failed =
    Explores-same k (λ ids s. Writes p o written k.state) course [] [] same
    (Explores-same k (Only (Failed p ∷ []) (Directive p)) (λ ids s. Writes p o written k.state) [] [] (no_writes_at p k o written (sym none)) (Explores-ends k (Failed p ∷ []) p (tt, tt)))

-- one that writes the component alone
Explores-written : {A : Type 0} (course : Course) (p c : ℕ) (k to : Kept) (parameter : Parameters → Option A) (ps : Parameters) (has on : Bool) → Same k (λ ids s. Writes p (parameter k.state.parameters) (λ a. Wrote c ∷ []) k.state) course
    → ps ≡ k.state.parameters → has ≡ is_some (parameter ps) → kept_if on to ≡ kept_if has (with_events k (Wrote c ∷ [])) → Explores course (k ∷ []) (kept_if on to) []
Explores-written course p c k to parameter ps has on is same some made =
    subst (λ (ks : List Kept). Explores course (k ∷ []) ks []) (sym made)
    (Explores-writes course p k (parameter k.state.parameters) (λ a. Wrote c ∷ []) (Wrote c ∷ []) has is (subst (λ (q : Parameters). has ≡ is_some (parameter q)) same some) (λ a e. refl) (tt, tt) (tt, (tt, tt)))

pub Explores-write : (p c : ℕ) (k to : Kept) (ps : Parameters) (has on : Bool) → ps ≡ k.state.parameters → has ≡ is_some (bytes_of (in_force ps c keys.Content)) → kept_if on to ≡ kept_if has (with_events k (Wrote c ∷ [])) → Explores (ActsAt acts.Write p c) (k ∷ []) (kept_if on to) []
Explores-write p c k to ps has on = Explores-written (ActsAt acts.Write p c) p c k to (λ q. bytes_of (in_force q c keys.Content)) ps has on (record { there = λ ids al es e r. r; back = λ ids al es e r. r })

pub Explores-fetch : (p c : ℕ) (k to : Kept) (ps : Parameters) (has on : Bool) → ps ≡ k.state.parameters → has ≡ is_some (bytes_of (in_force ps c keys.Uri)) → kept_if on to ≡ kept_if has (with_events k (Wrote c ∷ [])) → Explores (ActsAt acts.Fetch p c) (k ∷ []) (kept_if on to) []
Explores-fetch p c k to ps has on = Explores-written (ActsAt acts.Fetch p c) p c k to (λ q. bytes_of (in_force q c keys.Uri)) ps has on (record { there = λ ids al es e r. r; back = λ ids al es e r. r })

pub Explores-copy : (p c : ℕ) (k to : Kept) (ps : Parameters) (has on : Bool) → ps ≡ k.state.parameters → has ≡ is_some (number_of (in_force ps c keys.Source)) → kept_if on to ≡ kept_if has (with_events k (Wrote c ∷ [])) → Explores (ActsAt acts.Copy p c) (k ∷ []) (kept_if on to) []
Explores-copy p c k to ps has on = Explores-written (ActsAt acts.Copy p c) p c k to (λ q. number_of (in_force q c keys.Source)) ps has on (record { there = λ ids al es e r. r; back = λ ids al es e r. r })

same_number : (a b : ℕ) → ◌≡◌ {A = Option ℕ} (Some a) (Some b) → a ≡ b
same_number a b e = cc

pub Explores-swap : (p c source : ℕ) (k to : Kept) (ps : Parameters) → ps ≡ k.state.parameters → Some source ≡ number_of (in_force ps c keys.Source) → to ≡ with_events k (Wrote c ∷ Wrote source ∷ []) → Explores (ActsAt acts.Swap p c) (k ∷ []) (to ∷ []) []
Explores-swap p c source k to ps same some made =
    let some' : Some source ≡ number_of (in_force k.state.parameters c keys.Source) = subst (λ (q : Parameters). Some source ≡ number_of (in_force q c keys.Source)) same some in
    subst (λ (x : Kept). Explores (ActsAt acts.Swap p c) (k ∷ []) (x ∷ []) []) (sym made)
    (Explores-writes (ActsAt acts.Swap p c) p k (number_of (in_force k.state.parameters c keys.Source)) (λ source. Wrote c ∷ Wrote source ∷ []) (Wrote c ∷ Wrote source ∷ []) true (record { there = λ ids al es e r. r; back = λ ids al es e r. r }) (ap (λ (o : Option ℕ). is_some o) some')
    (λ a e. ap (λ (x : ℕ). Wrote c ∷ Wrote x ∷ []) (same_number a source (sym e ∙ sym some'))) (tt, (tt, tt)) (tt, (tt, (tt, tt))))

pub Explores-no_swap : (p c : ℕ) (k : Kept) (ps : Parameters) → ps ≡ k.state.parameters → None ≡ number_of (in_force ps c keys.Source) → Explores (ActsAt acts.Swap p c) (k ∷ []) [] []
Explores-no_swap p c k ps same none =
    let none' : None ≡ number_of (in_force k.state.parameters c keys.Source) = subst (λ (q : Parameters). None ≡ number_of (in_force q c keys.Source)) same none in
    let s = no_writes_at p k (number_of (in_force k.state.parameters c keys.Source)) (λ source. Wrote c ∷ Wrote source ∷ []) (subst (λ (o : Option ℕ). is_some o ≡ false) none' refl) in
    Explores-same k (Only (Failed p ∷ []) (Directive p)) (ActsAt acts.Swap p c) [] [] (record { there = s.there; back = s.back }) (Explores-ends k (Failed p ∷ []) p (tt, tt))

-- ---- invoke

abbrev InvokesAs : ℕ → ℕ → Option Digest → Option ℕ → State → List Event → Ending → Type 0
InvokesAs p c o z s es e = ((es ≡ Invoked c o z true ∷ []) × (e ≡ Done s)) ⊎ ((es ≡ Invoked c o z false ∷ Failed p ∷ []) × (e ≡ Directive p))

pub Adds-invoke : (p c : ℕ) (k to : Kept) (ps : Parameters) (d : Digest) (s : Option ℕ) (n n' : List Kept) → ps ≡ k.state.parameters → Some d ≡ digest_in ps c → s ≡ size_in ps c → HasMatched k.events c d s → to ≡ with_events k (Invoked c (Some d) s true ∷ []) → n' ≡ n ++ to ∷ []
    → (f : Failures) → Adds (ActsAt acts.Invoke p c) (k ∷ []) n n' f f
Adds-invoke p c k to ps d s n n' same some size matched is pushed f =
    let d-is : Some d ≡ digest_in k.state.parameters c = subst (λ (q : Parameters). Some d ≡ digest_in q c) same some in
    let s-is : s ≡ size_in k.state.parameters c = subst (λ (q : Parameters). s ≡ size_in q c) same size in
    let ok : List Event = Invoked c (Some d) s true ∷ [] in
    let bad : List Event = Invoked c (Some d) s false ∷ Failed p ∷ [] in
    record {
      done = with_events k ok ∷ [];
      failed = [];
      next_is = subst (λ (x : Kept). n' ≡ n ++ x ∷ []) is pushed;
      failed_is = sym (after_none f);
      explores = Explores-same k (Either (Only ok (Done k.state)) (Only bad (Directive p))) (ActsAt acts.Invoke p c) (with_events k ok ∷ []) []
          (record {
            there = λ ids al es e r. subst (λ (o : Option Digest). InvokesAs p c o (size_in k.state.parameters c) k.state es e) d-is (subst (λ (z : Option ℕ). InvokesAs p c (Some d) z k.state es e) s-is r);
            back = λ ids al es e r. subst (λ (z : Option ℕ). InvokesAs p c (Some d) z k.state es e) (sym s-is) (subst (λ (o : Option Digest). InvokesAs p c o (size_in k.state.parameters c) k.state es e) (sym d-is) r);
          })
          (Explores-either (Only ok (Done k.state)) (Only bad (Directive p)) k (with_events k ok ∷ []) [] [] [] (Explores-done k ok k.state (matched, tt)) (Explores-ends k bad p (matched, (tt, tt))));
    }

pub Uncovers-invoke : (p c : ℕ) (k to : Kept) (ps : Parameters) (o : Option Digest) (s : Option ℕ) → ps ≡ k.state.parameters → o ≡ digest_in ps c → s ≡ size_in ps c → (IsCovered k.events (Invoked c o s false) → ⊥) → to ≡ with_events k (Invoked c o s false ∷ []) → Uncovers (ActsAt acts.Invoke p c) (k ∷ []) to.facts to.events
Uncovers-invoke p c k to ps o s same is_o size bad is =
    let o-is : o ≡ digest_in k.state.parameters c = subst (λ (q : Parameters). o ≡ digest_in q c) same is_o in
    let s-is : s ≡ size_in k.state.parameters c = subst (λ (q : Parameters). s ≡ size_in q c) same size in
    subst (λ (x : Kept). Uncovers (ActsAt acts.Invoke p c) (k ∷ []) x.facts x.events) (sym is) (
      k,
      inl refl,
      record {
        since = [];
        last = Invoked c o s false;
        place = p;
        parts = ap (λ (es : List Event). es ++ Invoked c o s false ∷ []) (sym (append-nil k.events));
        covered = tt;
        count = refl;
        uncovered = λ h. bad (subst (λ (es : List Event). IsCovered es (Invoked c o s false)) (append-nil k.events) h);
        path = λ ids al. (al, subst (λ (q : Option Digest). InvokesAs p c q (size_in k.state.parameters c) k.state (Invoked c o s false ∷ Failed p ∷ []) (Directive p)) o-is (subst (λ (z : Option ℕ). InvokesAs p c o z k.state (Invoked c o s false ∷ Failed p ∷ []) (Directive p)) s-is (inr (refl, refl))));
      },
    )

-- ---- override parameters

sets_fine : (past : List Event) (c : ℕ) (list : List Param) → CoveredFrom past (set_events c list)
sets_fine past c [] = tt
sets_fine past c (p ∷ ps) = (tt, sets_fine (past ++ Set c p ∷ []) c ps)

override_is : (s : State) (c : ℕ) (list : List Param) → after_override s c list ≡ record { parameters = overridden s.parameters c list; selection = s.selection; soft_failure = soft_after_all s.soft_failure list }
override_is s c [] = refl
override_is s c (p ∷ ps) = override_is (record { parameters = with_param s.parameters c p; selection = s.selection; soft_failure = soft_after s.soft_failure p }) c ps

pub Adds-overrides : (list : List Param) (c : ℕ) (k to : Kept) (n n' : List Kept) → to ≡ record { facts = k.facts; events = k.events ++ set_events c list; state = record { parameters = overridden k.state.parameters c list; selection = k.state.selection; soft_failure = soft_after_all k.state.soft_failure list } }
    → n' ≡ n ++ to ∷ [] → (f : Failures) → Adds (λ ids. Overrides list c) (k ∷ []) n n' f f
Adds-overrides list c k to n n' is pushed f =
    let made : Kept = record { facts = k.facts; events = k.events ++ set_events c list; state = after_override k.state c list } in
    let same : to ≡ made = is ∙ ap (λ (s : State). record { facts = k.facts; events = k.events ++ set_events c list; state = s }) (sym (override_is k.state c list)) in
    record {
      done = made ∷ [];
      failed = [];
      next_is = subst (λ (x : Kept). n' ≡ n ++ x ∷ []) same pushed;
      failed_is = sym (after_none f);
      explores = Explores-same k (Only (set_events c list) (Done (after_override k.state c list))) (λ ids. Overrides list c) (made ∷ []) [] (record { there = λ ids al es e r. r; back = λ ids al es e r. r })
          (Explores-done k (set_events c list) (after_override k.state c list) (sets_fine k.events c list));
    }

pub never_true : IsTrue false → ⊥
never_true t = search rules
