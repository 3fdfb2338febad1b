-- States that are followed by one at most, where failed conditions are not kept.
use Rattle.std.proofs.Common.{◌≡◌, ℕ, Bool, true, false, List, [], ◌∷◌, ◌++◌, Option, Some, None, refl, sym, ap, ◌∙◌, subst, inl, inr}
use Rattle.std.specs.Prelude.{is_some}
use Rattle.suit_params.specs.declared.param.ParamKey.TheVariants as keys
use Rattle.suit_params.specs.InForce.{Parameters, in_force, bytes_of}
use Rattle.suit_commands.specs.declared.kinds.TestKind.{TestKind}
use Rattle.suit_commands.specs.declared.kinds.TestKind.TheVariants as tests
use Rattle.suit_commands.specs.declared.command.Command.{Command}
use Rattle.suit_commands.specs.declared.command.Command.TheVariants as commands
use Rattle.suit_commands.specs.View.{command_tree}
use Rattle.path_model.specs.CommandLaws.{IsOnIdentity}
use Rattle.path_checker.specs.declared.judge_plan.facts.Own.{Own}
use Rattle.path_checker.specs.declared.judge_plan.facts.Knowledge.{Knowledge}
use Rattle.path_checker.specs.declared.judge_plan.halt.Halt.{Halt}
use Rattle.path_checker.specs.Halting.{Halts}
use Rattle.path_checker.specs.Exploring.{Course, Kept, Stopped, Explores, Failures, after_stops, Adds, Passes, kept_if}
use Rattle.path_checker.specs.Forking.{Learnt, some_if}
use Rattle.path_checker.specs.Small.{IsStraight}
use Rattle.path_checker.specs.Unconditional.{IsUnconditional}
use Rattle.path_checker.specs.Steps.{with_events, knowing, TestsAt}
use Rattle.path_checker.specs.Wanting.{wanted_by, TestsOwn}
use Rattle.path_checker.proofs.ConditionLeaves.{told, missed_by, tests_own, Adds-has, Adds-has_not, Adds-either, Adds-content, Adds-no_content}
use Rattle.path_checker.proofs.Keeping.{all_kept-all}
use Rattle.path_checker.proofs.Leaves.{Same, Explores-same}
use Rattle.path_checker.proofs.OwnTests.{Adds-no_own}
use Rattle.path_checker.proofs.Popping.{Pops, Pops-start, Pops-step, Pops-halt, Pops-moved, Pops-end}

-- ---- what is added to none

-- none, of which each is kept
abbrev pub none_yet : Failures
none_yet = record { items = []; soft = true; hard = true }

pub Explores-same_stops : (course : Course) (from n : List Kept) → Adds course from [] n none_yet none_yet → Explores course from n []
Explores-same_stops course from n a =
    let none : a.failed ≡ [] = sym (ap (λ (f : Failures). f.items) a.failed_is ∙ all_kept-all a.failed) in
    subst (λ (m : List Kept). Explores course from m []) (sym a.next_is) (subst (λ (f : List Stopped). Explores course from a.done f) none a.explores)

pub Explores-added : (course : Course) (from n : List Kept) → ((f : Failures) → Adds course from [] n f f) → Explores course from n []
Explores-added course from n adds = Explores-same_stops course from n (adds none_yet)

pub Passes-added : (course : Course) (from n : List Kept) (f f' : Failures) → Adds course from [] n f f' → Passes course from n
Passes-added course from n f f' a = (a.failed, subst (λ (m : List Kept). Explores course from m a.failed) (sym a.next_is) a.explores)

pub Passes-same : (k : Kept) (a b : Course) (n : List Kept) → Same k a b → Passes a (k ∷ []) n → Passes b (k ∷ []) n
Passes-same k a b n same (f, x) = (f, Explores-same k a b n f same x)

pub Adds-passes : (course : Course) (from n n' now : List Kept) (f : Failures) (p : Passes course from now) → n' ≡ n ++ now → Adds course from n n' f (after_stops f p.0)
Adds-passes course from n n' now f p more = record { done = now; failed = p.0; next_is = more; failed_is = refl; explores = p.1 }

-- ---- conditions on the identity

pub Passes-learnt : (kind : TestKind) (p c : ℕ) (own : Own) (k : Kept) (learned : List Knowledge) (n : List Kept) → Learnt k.facts c own (Some learned) → n ≡ with_events (knowing k learned) (told kind c true ∷ []) ∷ [] → Passes (TestsOwn kind p c (Some own)) (k ∷ []) n
Passes-learnt kind p c own k learned n (inl h) made =
    Passes-added (TestsOwn kind p c (Some own)) (k ∷ []) n none_yet none_yet (Adds-has kind p c own k [] n none_yet h.0 (subst (λ (fs : List Knowledge). n ≡ with_events (knowing k fs) (told kind c true ∷ []) ∷ []) h.1 made))
Passes-learnt kind p c own k learned n (inr h) made =
    Passes-added (TestsOwn kind p c (Some own)) (k ∷ []) n none_yet _ (Adds-either kind p c own k learned h.0 [] n none_yet (after_stops none_yet (missed_by kind c p (knowing k h.0) ∷ [])) h.1.0 h.1.1 made refl)

pub Passes-unlearnt : (kind : TestKind) (p c : ℕ) (own : Own) (k : Kept) → Learnt k.facts c own None → Passes (TestsOwn kind p c (Some own)) (k ∷ []) []
Passes-unlearnt kind p c own k none = Passes-added (TestsOwn kind p c (Some own)) (k ∷ []) [] none_yet _ (Adds-has_not kind p c own k [] none_yet (after_stops none_yet (missed_by kind c p k ∷ [])) none refl)

-- by what is learnt of the identity, if it may pass
pub Passes-told : (kind : TestKind) (p c : ℕ) (own : Own) (k to : Kept) (learned : List Knowledge) (may on : Bool) → Learnt k.facts c own (some_if may learned) → kept_if on to ≡ kept_if may (with_events (knowing k learned) (told kind c true ∷ [])) → Passes (TestsOwn kind p c (Some own)) (k ∷ []) (kept_if on to)
Passes-told kind p c own k to learned true on learns made = Passes-learnt kind p c own k learned (kept_if on to) learns made
Passes-told kind p c own k to learned false on none made = subst (λ (ks : List Kept). Passes (TestsOwn kind p c (Some own)) (k ∷ []) ks) (sym made) (Passes-unlearnt kind p c own k none)

pub Passes-no_own : (kind : TestKind) (p c : ℕ) (k : Kept) → Passes (TestsOwn kind p c None) (k ∷ []) []
Passes-no_own kind p c k = Passes-added (TestsOwn kind p c None) (k ∷ []) [] none_yet _ (Adds-no_own kind p c k [] none_yet (after_stops none_yet (missed_by kind c p k ∷ [])) refl)

pub Passes-identity : (kind : TestKind) (p c : ℕ) (k : Kept) (ps : Parameters) (o : Option Own) (n : List Kept) → IsOnIdentity kind → ps ≡ k.state.parameters → o ≡ wanted_by kind ps c → Passes (TestsOwn kind p c o) (k ∷ []) n → Passes (TestsAt kind p c) (k ∷ []) n
Passes-identity kind p c k ps o n on same is x =
    Passes-same k (TestsOwn kind p c (wanted_by kind k.state.parameters c)) (TestsAt kind p c) n (tests_own kind p c k on)
    (subst (λ (w : Option Own). Passes (TestsOwn kind p c w) (k ∷ []) n) (is ∙ ap (λ (q : Parameters). wanted_by kind q c) same) x)

-- ---- check content

pub Passes-content : (p c : ℕ) (k to : Kept) (ps : Parameters) (has on : Bool) → ps ≡ k.state.parameters → has ≡ is_some (bytes_of (in_force ps c keys.Content)) → kept_if on to ≡ kept_if has (with_events k (told tests.CheckContent c true ∷ [])) → Passes (TestsAt tests.CheckContent p c) (k ∷ []) (kept_if on to)
Passes-content p c k to ps true on same some made =
    subst (λ (ks : List Kept). Passes (TestsAt tests.CheckContent p c) (k ∷ []) ks) (sym made)
    (Passes-added (TestsAt tests.CheckContent p c) (k ∷ []) (with_events k (told tests.CheckContent c true ∷ []) ∷ []) none_yet (after_stops none_yet (missed_by tests.CheckContent c p k ∷ []))
    (Adds-content p c k k ps [] (with_events k (told tests.CheckContent c true ∷ []) ∷ []) none_yet (after_stops none_yet (missed_by tests.CheckContent c p k ∷ [])) same (sym some) refl refl refl))
Passes-content p c k to ps false on same none made =
    subst (λ (ks : List Kept). Passes (TestsAt tests.CheckContent p c) (k ∷ []) ks) (sym made)
    (Passes-added (TestsAt tests.CheckContent p c) (k ∷ []) [] none_yet (after_stops none_yet (missed_by tests.CheckContent c p k ∷ [])) (Adds-no_content p c k ps [] none_yet (after_stops none_yet (missed_by tests.CheckContent c p k ∷ [])) same (sym none) refl))

-- ---- a loop that takes states from the end of a list

abbrev pub Passed : Course → List Kept → List Kept → List Kept → Type 0
Passed course from now next = (failed : Failures) × Pops course from none_yet now next failed

pub Passed-start : (course : Course) (from next : List Kept) → next ≡ [] → Passed course from from next
Passed-start course from next none = (none_yet, Pops-start course from none_yet next none)

pub Passed-step : (course : Course) (from old rest rest' next next' more made : List Kept) (k : Kept) → Passed course from old next → old ≡ rest ++ k ∷ [] → rest' ≡ rest → next' ≡ next → Passes course (k ∷ []) more → made ≡ next' ++ more → Passed course from rest' made
Passed-step course from old rest rest' next next' more made k w popped rest_is next_is p pushed =
    let m = Pops-moved course from none_yet old rest rest' next next' w.0 k w.1 popped rest_is next_is in
    (after_stops w.0 p.0, Pops-step course from none_yet old rest' next' w.0 k m.0 m.1 made (after_stops w.0 p.0) (Adds-passes course (k ∷ []) next' made more w.0 p pushed))

pub Passed-end : (course : Course) (from now next : List Kept) → Passed course from now next → now ≡ [] → Passes course from next
Passed-end course from now next w none = Passes-added course from next none_yet w.0 (Pops-end course from none_yet now next w.0 w.1 none)

-- what is no condition holds none that is met
pub straight_unconditional : (cmd : Command) → ((kind : _) (report : _) → cmd ≡ commands.Test kind report → ⊥) → IsStraight (command_tree cmd) → IsUnconditional (command_tree cmd)
straight_unconditional (commands.Test kind report) test straight = test kind report refl
straight_unconditional (commands.Act kind report) test straight = tt
straight_unconditional (commands.Index s) test straight = tt
straight_unconditional (commands.Override list) test straight = tt
straight_unconditional (commands.TryEach bs) test straight = straight
straight_unconditional (commands.Run inner) test straight = straight

pub Passed-halt : (course : Course) (from old rest next : List Kept) (k : Kept) → Passed course from old next → old ≡ rest ++ k ∷ [] → (h : Halt) → Halts course (k ∷ []) h → Halts course from h
Passed-halt course from old rest next k w popped h u = Pops-halt course from none_yet old rest next w.0 k w.1 popped h u
