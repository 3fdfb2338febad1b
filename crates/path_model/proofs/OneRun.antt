-- Two runs are the same, or part at a free step.
use Rattle.std.proofs.Common.{◌≡◌, ℕ, true, false, List, [], ◌∷◌, ◌++◌, Option, Some, None, refl, sym, ap, subst, ◌∙◌, append_assoc, inl, inr, ◌⊎◌}
use Rattle.std.proofs.lemmas.List.{append-nil}
use Rattle.suit_params.specs.declared.digest.Digest.{Digest}
use Rattle.suit_params.specs.declared.param.Param.{Param}
use Rattle.suit_params.specs.declared.param.ParamKey.TheVariants as keys
use Rattle.suit_params.specs.InForce.{in_force, number_of, bytes_of, digest_in, size_in}
use Rattle.suit_commands.specs.declared.kinds.TestKind.{TestKind}
use Rattle.suit_commands.specs.declared.kinds.TestKind.TheVariants as tests
use Rattle.suit_commands.specs.declared.kinds.ActKind.{ActKind}
use Rattle.suit_commands.specs.declared.kinds.ActKind.TheVariants as acts
use Rattle.path_model.specs.declared.identity.Identity.{Identity}
use Rattle.path_model.specs.declared.event.Event.{Event}
use Rattle.path_model.specs.declared.event.Event.TheVariants.{Wrote, Failed}
use Rattle.suit_commands.specs.Tree.{CommandTree, Test, Act, Index, Override, TryEach, RunSequence, SequenceTree, NoSteps, StepThen, BranchesTree, NoBranches, BranchThen, NullThen, PlanTree}
use Rattle.path_model.specs.Behaviour.{State, Ending, Done, Condition, Directive, IsFailure, Behaviour, Then, Each}
use Rattle.path_model.specs.Conditions.{Matches, ChecksContent, Tests}
use Rattle.path_model.specs.Directives.{Overrides, Writes, Acts}
use Rattle.path_model.specs.Runs.{entry_state, after_run, RunsInner, FailsSoftly, after_branch, TriesBranch, Runs, Does, Tries}
use Rattle.path_model.specs.Path.{start_state, Starts, RunsPlan}
use Rattle.path_model.specs.OneRun.{FreeStep, MatchStep, ContentStep, WriteStep, SwapStep, InvokeStep, passed_told, failed_told, PartsAt, SameOrParts, OneRun}
use Rattle.path_model.proofs.CommandLaws.{identity_decides}
use Rattle.path_model.proofs.TwoComponents.{same_state}

-- ---- parting, seen from both sides, before and after more events

parted : (step : FreeStep) (es fs : List Event) → es ≡ passed_told step → fs ≡ failed_told step → PartsAt es fs
parted step es fs p f = record {
  common = [];
  step = step;
  passing_rest = [];
  failing_rest = [];
  passes = p ∙ sym (append-nil (passed_told step));
  fails = f ∙ sym (append-nil (failed_told step));
}

parts_after : (es fs a b : List Event) → PartsAt es fs → PartsAt (es ++ a) (fs ++ b)
parts_after es fs a b at = record {
  common = at.common;
  step = at.step;
  passing_rest = at.passing_rest ++ a;
  failing_rest = at.failing_rest ++ b;
  passes = ap (λ (xs : List Event). xs ++ a) at.passes ∙ append_assoc at.common (passed_told at.step ++ at.passing_rest) a
      ∙ ap (λ (xs : List Event). at.common ++ xs) (append_assoc (passed_told at.step) at.passing_rest a);
  fails = ap (λ (xs : List Event). xs ++ b) at.fails ∙ append_assoc at.common (failed_told at.step ++ at.failing_rest) b
      ∙ ap (λ (xs : List Event). at.common ++ xs) (append_assoc (failed_told at.step) at.failing_rest b);
}

parts_before : (front es fs : List Event) → PartsAt es fs → PartsAt (front ++ es) (front ++ fs)
parts_before front es fs at = record {
  common = front ++ at.common;
  step = at.step;
  passing_rest = at.passing_rest;
  failing_rest = at.failing_rest;
  passes = ap (λ (xs : List Event). front ++ xs) at.passes ∙ sym (append_assoc front at.common (passed_told at.step ++ at.passing_rest));
  fails = ap (λ (xs : List Event). front ++ xs) at.fails ∙ sym (append_assoc front at.common (failed_told at.step ++ at.failing_rest));
}

abbrev Part : List Event → List Event → Type 0
Part es fs = PartsAt es fs ⊎ PartsAt fs es

part_after : (es fs a b : List Event) → Part es fs → Part (es ++ a) (fs ++ b)
part_after es fs a b part = elim part [ inl at ↦ inl (parts_after es fs a b at) | inr at ↦ inr (parts_after fs es b a at) ]

part_before : (front es fs : List Event) → Part es fs → Part (front ++ es) (front ++ fs)
part_before front es fs part = elim part [ inl at ↦ inl (parts_before front es fs at) | inr at ↦ inr (parts_before front fs es at) ]

part_as : (es es' fs fs' : List Event) → es ≡ es' → fs ≡ fs' → Part es' fs' → Part es fs
part_as es es' fs fs' p q part = subst (λ (xs : List Event). Part xs fs) (sym p) (subst (λ (ys : List Event). Part es' ys) (sym q) part)

-- ---- behaviours of which that holds

abbrev IsOne : Behaviour → Type 0
IsOne run = (s : State) (es fs : List Event) (e f : Ending) → run s es e → run s fs f → SameOrParts es e fs f

abbrev IsOneAt : (ℕ → Behaviour) → Type 0
IsOneAt at = (c : ℕ) → IsOne (at c)

both_sides : (es fs : List Event) (e f : Ending) → SameOrParts es e fs f → SameOrParts fs f es e
both_sides es fs e f same =
    elim same [
      | inl (is, end) ↦ inl (sym is, sym end)
      | inr part ↦ inr (elim part [ inl at ↦ inr at | inr at ↦ inl at ])
    ]

-- one fails at the first where the other goes on
fails_alone : (es fs b a : List Event) (e f : Ending) (m : State) → IsFailure e → fs ≡ b ++ a → SameOrParts es e b (Done m) → SameOrParts es e fs f
fails_alone es fs b a e f m failed is same =
    elim same [
      | inl (told, end) ↦ absurd (subst IsFailure end failed)
      | inr part ↦ inr (part_as es (es ++ []) fs (b ++ a) (sym (append-nil es)) is (part_after es b [] a part))
    ]

then_one : (first second : Behaviour) → IsOne first → IsOne second → IsOne (Then first second)
then_one first second one two s es fs e f run other =
    elim run [
      | inl (failed, r) ↦ elim other [
        | inl (fails, q) ↦ one s es fs e f r q
        | inr (m, b, a, is, q, others) ↦ fails_alone es fs b a e f m failed is (one s es b e (Done m) r q)
      ]
      | inr (m, b, a, is, r, rest) ↦ elim other [
        | inl (fails, q) ↦ both_sides fs es f e (fails_alone fs es b a f e m fails is (one s fs b f (Done m) q r))
        | inr (n, d, k, js, q, more) ↦ elim (one s b d (Done m) (Done n) r q) [
          | inr part ↦ inr (part_as es (b ++ a) fs (d ++ k) is js (part_after b d a k part))
          | inl (told, end) ↦
              let more' : second m k f = subst (λ (t : State). second t k f) (sym (same_state m n end)) more in
              let js' : fs ≡ b ++ k = js ∙ ap (λ (xs : List Event). xs ++ k) (sym told) in
              elim (two m a k e f rest more') [
                | inl (same, ends) ↦ inl (is ∙ ap (λ (xs : List Event). b ++ xs) same ∙ sym js', ends)
                | inr part ↦ inr (part_as es (b ++ a) fs (b ++ k) is js' (part_before b a k part))
              ]
        ]
      ]
    ]

each_one : (at : ℕ → Behaviour) → IsOneAt at → (cs : List ℕ) → IsOne (Each at cs)
each_one at one [] s es fs e f (is, end) (js, fin) = inl (is ∙ sym js, end ∙ sym fin)
each_one at one (c ∷ cs) s es fs e f run other = then_one (at c) (Each at cs) (one c) (each_one at one cs) s es fs e f run other

-- ---- one condition or directive

-- the same, or one of two told at a free step
either : (step : FreeStep) (es fs : List Event) (e f done failed : Ending)
    → (((es ≡ passed_told step) × (e ≡ done)) ⊎ ((es ≡ failed_told step) × (e ≡ failed)))
    → (((fs ≡ passed_told step) × (f ≡ done)) ⊎ ((fs ≡ failed_told step) × (f ≡ failed))) → SameOrParts es e fs f
either step es fs e f done failed run other =
    elim run [
      | inl (is, end) ↦ elim other [
        | inl (js, fin) ↦ inl (is ∙ sym js, end ∙ sym fin)
        | inr (js, fin) ↦ inr (inl (parted step es fs is js))
      ]
      | inr (is, end) ↦ elim other [
        | inl (js, fin) ↦ inr (inr (parted step fs es js is))
        | inr (js, fin) ↦ inl (is ∙ sym js, end ∙ sym fin)
      ]
    ]

matches_one : (p c : ℕ) (digest : Option Digest) (size : Option ℕ) → IsOne (Matches p c digest size)
matches_one p c None size s es fs e f (is, end) (js, fin) = inl (is ∙ sym js, end ∙ sym fin)
matches_one p c (Some digest) size s es fs e f run other = either (MatchStep c p digest size) es fs e f (Done s) (Condition p s.soft_failure) run other

content_one : (p c : ℕ) (content : Option (List ℕ)) → IsOne (ChecksContent p c content)
content_one p c None s es fs e f (is, end) (js, fin) = inl (is ∙ sym js, end ∙ sym fin)
content_one p c (Some content) s es fs e f run other = either (ContentStep c p) es fs e f (Done s) (Condition p s.soft_failure) run other

tests_one : (kind : TestKind) (ids : List Identity) (p : ℕ) → IsOneAt (Tests kind ids p)
tests_one tests.Vendor ids p c s es fs e f run other = inl (identity_decides tests.Vendor ids p c s es fs e f tt run other)
tests_one tests.Class ids p c s es fs e f run other = inl (identity_decides tests.Class ids p c s es fs e f tt run other)
tests_one tests.Device ids p c s es fs e f run other = inl (identity_decides tests.Device ids p c s es fs e f tt run other)
tests_one tests.Slot ids p c s es fs e f run other = inl (identity_decides tests.Slot ids p c s es fs e f tt run other)
tests_one tests.ImageMatch ids p c s es fs e f run other = matches_one p c (digest_in s.parameters c) (size_in s.parameters c) s es fs e f run other
tests_one tests.CheckContent ids p c s es fs e f run other = content_one p c (bytes_of (in_force s.parameters c keys.Content)) s es fs e f run other
tests_one tests.Abort ids p c s es fs e f (is, end) (js, fin) = inl (is ∙ sym js, end ∙ sym fin)

writes_one : {A : Type 0} (p : ℕ) (held : Option A) (w : A → List Event) (step : A → FreeStep) → ((value : A) → w value ≡ passed_told (step value))
    → ((value : A) → w value ++ Failed p ∷ [] ≡ failed_told (step value)) → IsOne (Writes p held w)
writes_one p None w step passed failed s es fs e f (is, end) (js, fin) = inl (is ∙ sym js, end ∙ sym fin)
writes_one p (Some value) w step passed failed s es fs e f run other =
    either (step value) es fs e f (Done s) (Directive p)
    (elim run [ inl (is, end) ↦ inl (is ∙ passed value, end) | inr (is, end) ↦ inr (is ∙ failed value, end) ])
    (elim other [ inl (js, fin) ↦ inl (js ∙ passed value, fin) | inr (js, fin) ↦ inr (js ∙ failed value, fin) ])

acts_one : (kind : ActKind) (p : ℕ) → IsOneAt (Acts kind p)
acts_one acts.Write p c s es fs e f run other = writes_one p (bytes_of (in_force s.parameters c keys.Content)) (λ content. Wrote c ∷ []) (λ content. WriteStep c p) (λ content. refl) (λ content. refl) s es fs e f run other
acts_one acts.Fetch p c s es fs e f run other = writes_one p (bytes_of (in_force s.parameters c keys.Uri)) (λ uri. Wrote c ∷ []) (λ uri. WriteStep c p) (λ uri. refl) (λ uri. refl) s es fs e f run other
acts_one acts.Copy p c s es fs e f run other = writes_one p (number_of (in_force s.parameters c keys.Source)) (λ source. Wrote c ∷ []) (λ source. WriteStep c p) (λ source. refl) (λ source. refl) s es fs e f run other
acts_one acts.Swap p c s es fs e f run other = writes_one p (number_of (in_force s.parameters c keys.Source)) (λ source. Wrote c ∷ Wrote source ∷ []) (λ source. SwapStep c source p) (λ source. refl) (λ source. refl) s es fs e f run other
acts_one acts.Invoke p c s es fs e f run other = either (InvokeStep c p (digest_in s.parameters c) (size_in s.parameters c)) es fs e f (Done s) (Directive p) run other

overrides_one : (list : List Param) → IsOneAt (Overrides list)
overrides_one list c s es fs e f (is, end) (js, fin) = inl (is ∙ sym js, end ∙ sym fin)

-- ---- run sequence and try each

inner_one : (inner : Behaviour) → IsOne inner → IsOneAt (RunsInner inner)
inner_one inner one c s es fs e f (end, run, is) (fin, other, js) =
    elim (one (entry_state s c false) es fs end fin run other) [
      | inl (same, ends) ↦ inl (same, is ∙ ap (after_run s) ends ∙ sym js)
      | inr part ↦ inr part
    ]

-- a branch that stays, where the other run goes on
stays_alone : (es fs b a : List Event) (e f end fin : Ending) → (FailsSoftly end → ⊥) → FailsSoftly fin → fs ≡ b ++ a → SameOrParts es end b fin → SameOrParts es e fs f
stays_alone es fs b a e f end fin stays soft is same =
    elim same [
      | inl (told, ends) ↦ absurd (stays (subst FailsSoftly (sym ends) soft))
      | inr part ↦ inr (part_as es (es ++ []) fs (b ++ a) (sym (append-nil es)) is (part_after es b [] a part))
    ]

branch_one : (inner : Behaviour) (others : ℕ → Behaviour) → IsOne inner → IsOneAt others → IsOneAt (TriesBranch inner others)
branch_one inner others one two c s es fs e f run other =
    let t = entry_state s c true in
    elim run [
      | inl (end, r, stays, is) ↦ elim other [
        | inl (fin, q, rests, js) ↦ elim (one t es fs end fin r q) [
          | inl (same, ends) ↦ inl (same, is ∙ ap (after_branch s) ends ∙ sym js)
          | inr part ↦ inr part
        ]
        | inr (fin, d, k, js, q, soft, more) ↦ stays_alone es fs d k e f end fin stays soft js (one t es d end fin r q)
      ]
      | inr (end, b, a, is, r, soft, rest) ↦ elim other [
        | inl (fin, q, rests, js) ↦ both_sides fs es f e (stays_alone fs es b a f e fin end rests soft is (one t fs b fin end q r))
        | inr (fin, d, k, js, q, softly, more) ↦ elim (one t b d end fin r q) [
          | inr part ↦ inr (part_as es (b ++ a) fs (d ++ k) is js (part_after b d a k part))
          | inl (told, ends) ↦
              let js' : fs ≡ b ++ k = js ∙ ap (λ (xs : List Event). xs ++ k) (sym told) in
              elim (two c s a k e f rest more) [
                | inl (same, last) ↦ inl (is ∙ ap (λ (xs : List Event). b ++ xs) same ∙ sym js', last)
                | inr part ↦ inr (part_as es (b ++ a) fs (b ++ k) is js' (part_before b a k part))
              ]
        ]
      ]
    ]

-- ---- whole sequences

mutual
  runs_one : (sequence : SequenceTree) (ids : List Identity) (count : ℕ) → IsOne (Runs sequence ids count)
  runs_one NoSteps ids count s es fs e f (is, end) (js, fin) = inl (is ∙ sym js, end ∙ sym fin)
  runs_one (StepThen p command rest) ids count s es fs e f run other =
      then_one (Does command ids count p) (Runs rest ids count) (does_one command ids count p) (runs_one rest ids count) s es fs e f run other

  does_one : (command : CommandTree) (ids : List Identity) (count p : ℕ) → IsOne (Does command ids count p)
  does_one (Test kind report) ids count p s es fs e f run other = each_one (Tests kind ids p) (tests_one kind ids p) s.selection s es fs e f run other
  does_one (Act kind report) ids count p s es fs e f run other = each_one (Acts kind p) (acts_one kind p) s.selection s es fs e f run other
  does_one (Index selection) ids count p s es fs e f (is, end) (js, fin) = inl (is ∙ sym js, end ∙ sym fin)
  does_one (Override list) ids count p s es fs e f run other = each_one (Overrides list) (overrides_one list) s.selection s es fs e f run other
  does_one (TryEach tried) ids count p s es fs e f run other = each_one (Tries tried ids count p) (tries_one tried ids count p) s.selection s es fs e f run other
  does_one (RunSequence inner) ids count p s es fs e f run other =
      each_one (RunsInner (Runs inner ids count)) (inner_one (Runs inner ids count) (runs_one inner ids count)) s.selection s es fs e f run other

  tries_one : (tried : BranchesTree) (ids : List Identity) (count p : ℕ) → IsOneAt (Tries tried ids count p)
  tries_one NoBranches ids count p c s es fs e f (is, end) (js, fin) = inl (is ∙ sym js, end ∙ sym fin)
  tries_one (NullThen rest) ids count p c s es fs e f (is, end) (js, fin) = inl (is ∙ sym js, end ∙ sym fin)
  tries_one (BranchThen inner rest) ids count p c s es fs e f run other =
      branch_one (Runs inner ids count) (Tries rest ids count p) (runs_one inner ids count) (tries_one rest ids count p) c s es fs e f run other

starts_one : (sequence : SequenceTree) (plan : PlanTree) (ids : List Identity) → IsOne (Starts sequence plan ids)
starts_one sequence plan ids s es fs e f run other = runs_one sequence ids plan.count (start_state s) es fs e f run other

plan_one : (plan : PlanTree) (ids : List Identity) → IsOne (RunsPlan plan ids)
plan_one plan ids =
    let shared = Starts plan.shared plan ids in
    let first = Starts plan.first plan ids in
    let second = Starts plan.second plan ids in
    let third = Starts plan.third plan ids in
    let one = starts_one plan.shared plan ids in
    then_one shared (Then first (Then shared (Then second (Then shared third)))) one
    (then_one first (Then shared (Then second (Then shared third))) (starts_one plan.first plan ids)
    (then_one shared (Then second (Then shared third)) one
    (then_one second (Then shared third) (starts_one plan.second plan ids)
    (then_one shared third one (starts_one plan.third plan ids)))))

pub one_run : OneRun
one_run = record {
  sequence = λ sequence ids count s es fs e f run other. runs_one sequence ids count s es fs e f run other;
  procedure = λ plan ids s es fs e f run other. plan_one plan ids s es fs e f run other;
}
