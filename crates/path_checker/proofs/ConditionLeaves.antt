-- The states each condition adds.
use Rattle.std.proofs.Common.{◌≡◌, ℕ, Bool, true, false, List, [], ◌∷◌, ◌++◌, Option, Some, None, refl, sym, ap, ◌∙◌, subst, inl, inr}
use Rattle.std.specs.Prelude.{is_some, slice_get, option_map}
use Rattle.std.proofs.lemmas.List.{append-nil}
use Rattle.suit_params.specs.declared.digest.Digest.{Digest}
use Rattle.suit_params.specs.declared.param.ParamKey.TheVariants as keys
use Rattle.suit_params.specs.InForce.{Parameters, in_force, identifier_of, number_of, bytes_of, digest_in, size_in}
use Rattle.suit_commands.specs.declared.kinds.TestKind.{TestKind}
use Rattle.suit_commands.specs.declared.kinds.TestKind.TheVariants as tests
use Rattle.path_model.specs.declared.identity.Identity.{Identity}
use Rattle.path_model.specs.declared.event.Event.{Event}
use Rattle.path_model.specs.declared.event.Event.TheVariants.{Tried, Matched, Missed, Failed}
use Rattle.path_model.specs.Behaviour.{Done, Condition}
use Rattle.path_model.specs.CommandLaws.{IsOnIdentity}
use Rattle.path_model.specs.Conditions.{Compares, Matches, ChecksContent, vendor_of, class_of, device_of, slot_of}
use Rattle.path_checker.specs.declared.judge_plan.facts.Own.{Own}
use Rattle.path_checker.specs.declared.judge_plan.facts.Own.TheVariants as owns
use Rattle.path_checker.specs.declared.judge_plan.facts.Knowledge.{Knowledge}
use Rattle.path_checker.specs.Knowing.{Allows, Learns}
use Rattle.path_checker.specs.Forking.{Has, HasNo}
use Rattle.path_checker.specs.Wanting.{wanted_by, TestsOwn}
use Rattle.path_checker.specs.Exploring.{Course, Kept, Stopped, Failures, after_stops, Adds}
use Rattle.path_checker.specs.Steps.{with_events, knowing, stopped_by, TestsAt}
use Rattle.path_checker.proofs.Keeping.{after_none}
use Rattle.path_checker.proofs.Leaves.{Only, Either, Same, Where, Explores-same, Explores-fails, Explores-done, Explores-either, Explores-where}

-- ---- image match

pub Adds-missed : (p c : ℕ) (k : Kept) (ps : Parameters) (n : List Kept) (f f' : Failures) → ps ≡ k.state.parameters → None ≡ digest_in ps c → f' ≡ after_stops f (stopped_by k (Missed c ∷ Failed p ∷ []) p ∷ []) → Adds (TestsAt tests.ImageMatch p c) (k ∷ []) n n f f'
Adds-missed p c k ps n f f' same none pushed =
    let none' : None ≡ digest_in k.state.parameters c = subst (λ (q : Parameters). None ≡ digest_in q c) same none in
    record {
      done = [];
      failed = stopped_by k (Missed c ∷ Failed p ∷ []) p ∷ [];
      next_is = sym (append-nil n);
      failed_is = pushed;
      explores = Explores-same k (Only (Missed c ∷ Failed p ∷ []) (Condition p k.state.soft_failure)) (TestsAt tests.ImageMatch p c) [] (stopped_by k (Missed c ∷ Failed p ∷ []) p ∷ [])
          (record {
            there = λ ids al es e r. subst (λ (o : Option Digest). Matches p c o (size_in k.state.parameters c) k.state es e) none' r;
            back = λ ids al es e r. subst (λ (o : Option Digest). Matches p c o (size_in k.state.parameters c) k.state es e) (sym none') r;
          })
          (Explores-fails k (Missed c ∷ Failed p ∷ []) p (tt, (tt, tt)));
    }

pub Adds-matched : (p c : ℕ) (k copied : Kept) (ps : Parameters) (d : Digest) (s : Option ℕ) (n n' : List Kept) (f f' : Failures) → ps ≡ k.state.parameters → Some d ≡ digest_in ps c → s ≡ size_in ps c → copied ≡ k → n' ≡ n ++ with_events copied (Matched c d s ∷ []) ∷ []
    → f' ≡ after_stops f (stopped_by k (Missed c ∷ Failed p ∷ []) p ∷ []) → Adds (TestsAt tests.ImageMatch p c) (k ∷ []) n n' f f'
Adds-matched p c k copied ps d s n n' f f' same some size copy pushed pushed_stop =
    let some' : Some d ≡ digest_in k.state.parameters c = subst (λ (q : Parameters). Some d ≡ digest_in q c) same some in
    let size' : s ≡ size_in k.state.parameters c = subst (λ (q : Parameters). s ≡ size_in q c) same size in
    let to-is : with_events copied (Matched c d s ∷ []) ≡ with_events k (Matched c d (size_in k.state.parameters c) ∷ []) = ap (λ (x : Kept). with_events x (Matched c d s ∷ [])) copy ∙ ap (λ (z : Option ℕ). with_events k (Matched c d z ∷ [])) size' in
    let match : Course = Only (Matched c d (size_in k.state.parameters c) ∷ []) (Done k.state) in
    let miss : Course = Only (Missed c ∷ Failed p ∷ []) (Condition p k.state.soft_failure) in
    record {
      done = with_events k (Matched c d (size_in k.state.parameters c) ∷ []) ∷ [];
      failed = stopped_by k (Missed c ∷ Failed p ∷ []) p ∷ [];
      next_is = subst (λ (x : Kept). n' ≡ n ++ x ∷ []) to-is pushed;
      failed_is = pushed_stop;
      explores = Explores-same k (Either match miss) (TestsAt tests.ImageMatch p c) (with_events k (Matched c d (size_in k.state.parameters c) ∷ []) ∷ []) (stopped_by k (Missed c ∷ Failed p ∷ []) p ∷ [])
          (record {
            there = λ ids al es e r. subst (λ (o : Option Digest). Matches p c o (size_in k.state.parameters c) k.state es e) some' r;
            back = λ ids al es e r. subst (λ (o : Option Digest). Matches p c o (size_in k.state.parameters c) k.state es e) (sym some') r;
          })
          (Explores-either match miss k (with_events k (Matched c d (size_in k.state.parameters c) ∷ []) ∷ []) [] [] (stopped_by k (Missed c ∷ Failed p ∷ []) p ∷ [])
          (Explores-done k (Matched c d (size_in k.state.parameters c) ∷ []) k.state (tt, tt)) (Explores-fails k (Missed c ∷ Failed p ∷ []) p (tt, (tt, tt))));
    }

-- ---- conditions that are told by an event

abbrev pub told : TestKind → ℕ → Bool → Event
told kind c passed = Tried c kind passed

abbrev passing : TestKind → ℕ → Kept → Course
passing kind c k = Only (told kind c true ∷ []) (Done k.state)

abbrev missing : TestKind → ℕ → ℕ → Kept → Course
missing kind c p k = Only (told kind c false ∷ Failed p ∷ []) (Condition p k.state.soft_failure)

abbrev pub missed_by : TestKind → ℕ → ℕ → Kept → Stopped
missed_by kind c p k = stopped_by k (told kind c false ∷ Failed p ∷ []) p

pub Adds-only_missed : (course : Course) (kind : TestKind) (p c : ℕ) (k : Kept) (n : List Kept) (f f' : Failures) → Same k (missing kind c p k) course → f' ≡ after_stops f (missed_by kind c p k ∷ []) → Adds course (k ∷ []) n n f f'
Adds-only_missed course kind p c k n f f' same pushed = record {
  done = [];
  failed = missed_by kind c p k ∷ [];
  next_is = sym (append-nil n);
  failed_is = pushed;
  explores = Explores-same k (missing kind c p k) course [] (missed_by kind c p k ∷ []) same (Explores-fails k (told kind c false ∷ Failed p ∷ []) p (tt, (tt, tt)));
}

pub Adds-only_passed : (course : Course) (kind : TestKind) (c : ℕ) (k : Kept) (n n' : List Kept) (f : Failures) → Same k (passing kind c k) course → n' ≡ n ++ with_events k (told kind c true ∷ []) ∷ [] → Adds course (k ∷ []) n n' f f
Adds-only_passed course kind c k n n' f same pushed = record {
  done = with_events k (told kind c true ∷ []) ∷ [];
  failed = [];
  next_is = pushed;
  failed_is = sym (after_none f);
  explores = Explores-same k (passing kind c k) course (with_events k (told kind c true ∷ []) ∷ []) [] same (Explores-done k (told kind c true ∷ []) k.state (tt, tt));
}

pub Adds-abort : (p c : ℕ) (k : Kept) (f f' : Failures) → f' ≡ after_stops f (missed_by tests.Abort c p k ∷ []) → (n : List Kept) → Adds (TestsAt tests.Abort p c) (k ∷ []) n n f f'
Adds-abort p c k f f' pushed n = Adds-only_missed (TestsAt tests.Abort p c) tests.Abort p c k n f f' (record { there = λ ids al es e r. r; back = λ ids al es e r. r }) pushed

-- ---- check content

none_is : {A : Type 0} (o : Option A) → is_some o ≡ false → None ≡ o
none_is None e = refl
none_is (Some x) e = absurd cc

pub Adds-no_content : (p c : ℕ) (k : Kept) (ps : Parameters) (n : List Kept) (f f' : Failures) → ps ≡ k.state.parameters → is_some (bytes_of (in_force ps c keys.Content)) ≡ false → f' ≡ after_stops f (missed_by tests.CheckContent c p k ∷ []) → Adds (TestsAt tests.CheckContent p c) (k ∷ []) n n f f'
Adds-no_content p c k ps n f f' same none pushed =
    let none' : None ≡ bytes_of (in_force k.state.parameters c keys.Content) = none_is _ (subst (λ (q : Parameters). is_some (bytes_of (in_force q c keys.Content)) ≡ false) same none) in
    Adds-only_missed (TestsAt tests.CheckContent p c) tests.CheckContent p c k n f f'
    (record {
      there = λ ids al es e r. subst (λ (o : Option (List ℕ)). ChecksContent p c o k.state es e) none' r;
      back = λ ids al es e r. subst (λ (o : Option (List ℕ)). ChecksContent p c o k.state es e) (sym none') r;
    })
    pushed

content_at : (p c : ℕ) (k : Kept) (o : Option (List ℕ)) → is_some o ≡ true → Same k (Either (passing tests.CheckContent c k) (missing tests.CheckContent c p k)) (λ ids s. ChecksContent p c o k.state)
content_at p c k None e = absurd cc
content_at p c k (Some x) e = record { there = λ ids al es ending r. r; back = λ ids al es ending r. r }

pub Adds-content : (p c : ℕ) (k copied : Kept) (ps : Parameters) (n n' : List Kept) (f f' : Failures) → ps ≡ k.state.parameters → is_some (bytes_of (in_force ps c keys.Content)) ≡ true → copied ≡ k → n' ≡ n ++ with_events copied (told tests.CheckContent c true ∷ []) ∷ []
    → f' ≡ after_stops f (missed_by tests.CheckContent c p k ∷ []) → Adds (TestsAt tests.CheckContent p c) (k ∷ []) n n' f f'
Adds-content p c k copied ps n n' f f' same some copy pushed pushed_stop =
    let kind : TestKind = tests.CheckContent in
    let at = content_at p c k (bytes_of (in_force k.state.parameters c keys.Content)) (subst (λ (q : Parameters). is_some (bytes_of (in_force q c keys.Content)) ≡ true) same some) in
    record {
      done = with_events k (told kind c true ∷ []) ∷ [];
      failed = missed_by kind c p k ∷ [];
      next_is = subst (λ (x : Kept). n' ≡ n ++ with_events x (told kind c true ∷ []) ∷ []) copy pushed;
      failed_is = pushed_stop;
      explores = Explores-same k (Either (passing kind c k) (missing kind c p k)) (TestsAt kind p c) (with_events k (told kind c true ∷ []) ∷ []) (missed_by kind c p k ∷ [])
          (record { there = λ ids al es e r. at.there ids al es e r; back = λ ids al es e r. at.back ids al es e r })
          (Explores-either (passing kind c k) (missing kind c p k) k (with_events k (told kind c true ∷ []) ∷ []) [] [] (missed_by kind c p k ∷ [])
          (Explores-done k (told kind c true ∷ []) k.state (tt, tt)) (Explores-fails k (told kind c false ∷ Failed p ∷ []) p (tt, (tt, tt))));
    }

-- ---- identity conditions, by what they ask for

pub Adds-has : (kind : TestKind) (p c : ℕ) (own : Own) (k : Kept) (n n' : List Kept) (f : Failures) → ((ids : List Identity) → Allows k.facts ids → Has c own ids) → n' ≡ n ++ with_events k (told kind c true ∷ []) ∷ [] → Adds (TestsOwn kind p c (Some own)) (k ∷ []) n n' f f
Adds-has kind p c own k n n' f has pushed = Adds-only_passed (TestsOwn kind p c (Some own)) kind c k n n' f
    (record {
      there = λ ids al es e r. inl (has ids al, r);
      back = λ ids al es e r. elim r [ inl x ↦ x.1 | inr x ↦ absurd (x.0 (has ids al)) ];
    })
    pushed

pub Adds-has_not : (kind : TestKind) (p c : ℕ) (own : Own) (k : Kept) (n : List Kept) (f f' : Failures) → ((ids : List Identity) → Allows k.facts ids → HasNo c own ids) → f' ≡ after_stops f (missed_by kind c p k ∷ []) → Adds (TestsOwn kind p c (Some own)) (k ∷ []) n n f f'
Adds-has_not kind p c own k n f f' has_not pushed = Adds-only_missed (TestsOwn kind p c (Some own)) kind p c k n f f'
    (record {
      there = λ ids al es e r. inr (has_not ids al, r);
      back = λ ids al es e r. elim r [ inl x ↦ absurd (has_not ids al x.0) | inr x ↦ x.1 ];
    })
    pushed

pub Adds-either : (kind : TestKind) (p c : ℕ) (own : Own) (k : Kept) (has has_not : List Knowledge) (n n' : List Kept) (f f' : Failures) → Learns k.facts has (Has c own) → Learns k.facts has_not (HasNo c own)
    → n' ≡ n ++ with_events (knowing k has) (told kind c true ∷ []) ∷ [] → f' ≡ after_stops f (missed_by kind c p (knowing k has_not) ∷ []) → Adds (TestsOwn kind p c (Some own)) (k ∷ []) n n' f f'
Adds-either kind p c own k has has_not n n' f f' learns learns_not pushed pushed_stop =
    let there : Kept = with_events (knowing k has) (told kind c true ∷ []) in
    let missed : Stopped = missed_by kind c p (knowing k has_not) in
    record {
      done = there ∷ [];
      failed = missed ∷ [];
      next_is = pushed;
      failed_is = pushed_stop;
      explores = Explores-same k (Either (Where (Has c own) (passing kind c k)) (Where (HasNo c own) (missing kind c p k))) (TestsOwn kind p c (Some own)) (there ∷ []) (missed ∷ [])
          (record { there = λ ids al es e r. r; back = λ ids al es e r. r })
          (Explores-either (Where (Has c own) (passing kind c k)) (Where (HasNo c own) (missing kind c p k)) k (there ∷ []) [] [] (missed ∷ [])
          (Explores-where k has (Has c own) (passing kind c k) (there ∷ []) [] learns (Explores-done (knowing k has) (told kind c true ∷ []) k.state (tt, tt)))
          (Explores-where k has_not (HasNo c own) (missing kind c p k) [] (missed ∷ []) learns_not (Explores-fails (knowing k has_not) (told kind c false ∷ Failed p ∷ []) p (tt, (tt, tt)))));
    }

-- the identity that a condition asks for decides how it ends
compares : {A : Type 0} (kind : TestKind) (p c : ℕ) (k : Kept) (o : Option A) (make : A → Own) (own_of : List Identity → Option A) → ((a : A) (ids : List Identity) → (Has c (make a) ids → own_of ids ≡ Some a) × (own_of ids ≡ Some a → Has c (make a) ids))
    → Same k (TestsOwn kind p c (option_map make o)) (λ ids s. Compares p kind c o (own_of ids) s)
compares kind p c k None make own_of ties = record {
  there = λ ids al es e r. inr ((λ h. h), r);
  back = λ ids al es e r. elim r [ inl x ↦ absurd x.0 | inr x ↦ x.1 ];
}
compares kind p c k (Some a) make own_of ties = record {
  there = λ ids al es e r. elim r [ inl x ↦ inl ((ties a ids).0 x.0, x.1) | inr x ↦ inr ((λ h. x.0 ((ties a ids).1 h)), x.1) ];
  back = λ ids al es e r. elim r [ inl x ↦ inl ((ties a ids).1 x.0, x.1) | inr x ↦ inr ((λ h. x.0 ((ties a ids).0 h)), x.1) ];
}

pub tests_own : (kind : TestKind) (p c : ℕ) (k : Kept) → IsOnIdentity kind → Same k (TestsOwn kind p c (wanted_by kind k.state.parameters c)) (TestsAt kind p c)
tests_own tests.Vendor p c k on = let s = compares tests.Vendor p c k (identifier_of (in_force k.state.parameters c keys.Vendor)) owns.Vendor (λ ids. vendor_of (slice_get ids c)) (λ a ids. (λ h. h, λ h. h)) in record { there = s.there; back = s.back }
tests_own tests.Class p c k on = let s = compares tests.Class p c k (identifier_of (in_force k.state.parameters c keys.Class)) owns.Class (λ ids. class_of (slice_get ids c)) (λ a ids. (λ h. h, λ h. h)) in record { there = s.there; back = s.back }
tests_own tests.Device p c k on = let s = compares tests.Device p c k (identifier_of (in_force k.state.parameters c keys.Device)) owns.Device (λ ids. device_of (slice_get ids c)) (λ a ids. (λ h. h, λ h. h)) in record { there = s.there; back = s.back }
tests_own tests.Slot p c k on = let s = compares tests.Slot p c k (number_of (in_force k.state.parameters c keys.Slot)) owns.Slot (λ ids. slot_of (slice_get ids c)) (λ a ids. (λ h. h, λ h. h)) in record { there = s.there; back = s.back }
tests_own tests.ImageMatch p c k on = absurd on
tests_own tests.CheckContent p c k on = absurd on
tests_own tests.Abort p c k on = absurd on
