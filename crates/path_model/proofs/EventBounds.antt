-- The events of a path are at most three times the work.
use Rattle.std.proofs.Common.{◌≡◌, ◌≢◌, ℕ, suc, ◌+◌, ◌*◌, ◌≤◌, true, false, List, [], ◌∷◌, ◌++◌, length, Option, Some, None, refl, ap, subst, ◌∙◌, arith, inl, inr}
use Rattle.std.proofs.lemmas.List.FromFn.{length-range_with_len}
use Rattle.suit_params.specs.declared.param.Param.{Param}
use Rattle.suit_params.specs.declared.param.ParamKey.TheVariants as keys
use Rattle.suit_params.specs.InForce.{in_force, number_of, bytes_of, digest_in, size_in}
use Rattle.path_model.specs.declared.identity.Identity.{Identity}
use Rattle.path_model.specs.declared.event.Event.{Event}
use Rattle.path_model.specs.declared.event.Event.TheVariants.{Set, Wrote, Invoked, Failed}
use Rattle.suit_commands.specs.declared.kinds.TestKind.{TestKind}
use Rattle.suit_commands.specs.declared.kinds.ActKind.{ActKind}
use Rattle.suit_commands.specs.declared.kinds.ActKind.TheVariants as acts
use Rattle.suit_commands.specs.declared.selection.Selection.TheVariants.{One, All, Listed}
use Rattle.suit_commands.specs.Selections.{selected_after}
use Rattle.suit_commands.specs.Tree.{CommandTree, Test, Act, Index, Override, TryEach, RunSequence, SequenceTree, NoSteps, StepThen, BranchesTree, NoBranches, BranchThen, NullThen, PlanTree}
use Rattle.suit_commands.specs.Numbers.{count_after, work_of, command_work, branches_work, work_number}
use Rattle.path_model.specs.Behaviour.{State, Ending, Done, Behaviour, Then, Each}
use Rattle.path_model.specs.Conditions.{Tests}
use Rattle.path_model.specs.Directives.{set_events, Overrides, Writes, Acts}
use Rattle.path_model.specs.Runs.{entry_state, RunsInner, Runs, Does, Tries}
use Rattle.path_model.specs.Path.{start_state, Starts, RunsPlan, first_state}
use Rattle.path_model.specs.EventBounds.{told_number, CountsEvents, PathsBounded}
use Rattle.path_model.specs.CommandLaws.{failure_event}
use Rattle.path_model.proofs.CommandLaws.{conditions_end}
use Rattle.path_model.proofs.SelectionLaws.{selection_kept}

told-append : (a b : List Event) → told_number (a ++ b) ≡ told_number a + told_number b
told-append [] b = omega arith
told-append (Set c param ∷ a) b = told-append a b
told-append (_ ∷ a) b = omega (arith, told-append a b)

told-one : (event : Event) → told_number (event ∷ []) ≤ 1
told-one (Set c param) = omega arith
told-one _ = omega arith

told-other : (event : Event) → ((c : ℕ) (param : Param) → event ≢ Set c param) → told_number (event ∷ []) ≡ 1
told-other (Set c param) differs = absurd (differs c param refl)
told-other _ differs = refl

pub counts_events : CountsEvents
counts_events = record { parts = told-append; setting = λ c param. refl; other = told-other }

told_as : (es known : List Event) → es ≡ known → told_number es ≡ told_number known
told_as es known is = ap told_number is

-- ---- one condition or directive

tests_told : (kind : TestKind) (ids : List Identity) (p c : ℕ) (s : State) (es : List Event) (e : Ending) → Tests kind ids p c s es e → told_number es ≤ 3
tests_told kind ids p c s es e run =
    let failure : Event = failure_event kind c in
    elim (conditions_end kind ids p c s es e run) [
      | inl end ↦ omega (arith, told_as es (end.event ∷ []) end.passed.0, told-one end.event)
      | inr (is, failed) ↦ omega (arith, told_as es (failure ∷ Failed p ∷ []) is, told-append (failure ∷ []) (Failed p ∷ []), told-one failure)
    ]

writes_told : {A : Type 0} (p : ℕ) (held : Option A) (w : A → List Event) → ((value : A) → told_number (w value) ≤ 2) → (s : State) (es : List Event) (e : Ending) → Writes p held w s es e → told_number es ≤ 3
writes_told p None w few s es e (is, ended) = omega (arith, told_as es (Failed p ∷ []) is)
writes_told p (Some value) w few s es e run =
    elim run [
      | inl (is, done) ↦ omega (arith, told_as es (w value) is, few value)
      | inr (is, ended) ↦ omega (arith, told_as es (w value ++ Failed p ∷ []) is, told-append (w value) (Failed p ∷ []), few value)
    ]

acts_told : (kind : ActKind) (p c : ℕ) (s : State) (es : List Event) (e : Ending) → Acts kind p c s es e → told_number es ≤ 3
acts_told acts.Write p c s es e run = writes_told p (bytes_of (in_force s.parameters c keys.Content)) (λ content. Wrote c ∷ []) (λ content. omega arith) s es e run
acts_told acts.Fetch p c s es e run = writes_told p (bytes_of (in_force s.parameters c keys.Uri)) (λ uri. Wrote c ∷ []) (λ uri. omega arith) s es e run
acts_told acts.Copy p c s es e run = writes_told p (number_of (in_force s.parameters c keys.Source)) (λ source. Wrote c ∷ []) (λ source. omega arith) s es e run
acts_told acts.Swap p c s es e run = writes_told p (number_of (in_force s.parameters c keys.Source)) (λ source. Wrote c ∷ Wrote source ∷ []) (λ source. omega arith) s es e run
acts_told acts.Invoke p c s es e run =
    elim run [
      | inl (is, done) ↦ omega (arith, told_as es (Invoked c (digest_in s.parameters c) (size_in s.parameters c) true ∷ []) is)
      | inr (is, ended) ↦ omega (arith, told_as es (Invoked c (digest_in s.parameters c) (size_in s.parameters c) false ∷ Failed p ∷ []) is)
    ]

sets_told : (c : ℕ) (list : List Param) → told_number (set_events c list) ≡ 0
sets_told c [] = refl
sets_told c (param ∷ list) = sets_told c list

-- ---- for each selected component

abbrev IsWithin : ℕ → (ℕ → Behaviour) → Type 0
IsWithin work at = (c : ℕ) (s : State) (es : List Event) (e : Ending) → at c s es e → told_number es ≤ 3 * work

pub one_more : (n work : ℕ) → suc n * work ≡ work + n * work
one_more n work = grind arith

each_told : (work : ℕ) (at : ℕ → Behaviour) → IsWithin work at → (cs : List ℕ) (s : State) (es : List Event) (e : Ending) → Each at cs s es e → told_number es ≤ 3 * (length cs * work)
each_told work at few [] s es e (none, done) = omega (arith, told_as es [] none)
each_told work at few (c ∷ cs) s es e run =
    elim run [
      | inl (failed, one) ↦ omega (arith, few c s es e one, one_more (length cs) work)
      | inr (m, b, a, is, one, others) ↦
          omega (arith, told_as es (b ++ a) is, told-append b a, few c s b (Done m) one, each_told work at few cs m a e others, one_more (length cs) work)
    ]

pub by_one : (n : ℕ) → n * 1 ≡ n
by_one n = omega arith

pub length_after : (command : CommandTree) (count : ℕ) (selected : List ℕ) → length (selected_after command count selected) ≡ count_after command count (length selected)
length_after (Test kind report) count selected = refl
length_after (Act kind report) count selected = refl
length_after (Index (One c)) count selected = refl
length_after (Index All) count selected = length-range_with_len 0 count
length_after (Index (Listed cs)) count selected = refl
length_after (Override list) count selected = refl
length_after (TryEach tries) count selected = refl
length_after (RunSequence inner) count selected = refl

-- ---- whole sequences

mutual
  runs_told : (sequence : SequenceTree) (ids : List Identity) (count : ℕ) (s : State) (es : List Event) (e : Ending) → Runs sequence ids count s es e → told_number es ≤ 3 * work_of sequence count (length s.selection)
  runs_told NoSteps ids count s es e (none, done) = omega (arith, told_as es [] none)
  runs_told (StepThen p command rest) ids count s es e run =
      elim run [
        | inl (failed, one) ↦ omega (arith, does_told command ids count p s es e one)
        | inr (m, b, a, is, one, others) ↦
            let now : length m.selection ≡ count_after command count (length s.selection) =
            ap length (selection_kept command ids count p s m b one) ∙ length_after command count s.selection
            in
            let later : told_number a ≤ 3 * work_of rest count (count_after command count (length s.selection)) =
            subst (λ (n : ℕ). told_number a ≤ 3 * work_of rest count n) now (runs_told rest ids count m a e others)
            in
            omega (arith, told_as es (b ++ a) is, told-append b a, does_told command ids count p s b (Done m) one, later)
      ]

  does_told : (command : CommandTree) (ids : List Identity) (count p : ℕ) (s : State) (es : List Event) (e : Ending) → Does command ids count p s es e → told_number es ≤ 3 * command_work command count (length s.selection)
  does_told (Test kind report) ids count p s es e run =
      subst (λ (n : ℕ). told_number es ≤ 3 * n) (by_one (length s.selection)) (each_told 1 (Tests kind ids p) (λ c s es e one. tests_told kind ids p c s es e one) s.selection s es e run)
  does_told (Act kind report) ids count p s es e run =
      subst (λ (n : ℕ). told_number es ≤ 3 * n) (by_one (length s.selection)) (each_told 1 (Acts kind p) (λ c s es e one. acts_told kind p c s es e one) s.selection s es e run)
  does_told (Index selection) ids count p s es e (none, done) = omega (arith, told_as es [] none)
  does_told (Override list) ids count p s es e run =
      subst (λ (n : ℕ). told_number es ≤ 3 * n) (by_one (length s.selection))
      (each_told 1 (Overrides list) (λ c s es e one. omega (arith, told_as es (set_events c list) one.0, sets_told c list)) s.selection s es e run)
  does_told (TryEach branches) ids count p s es e run =
      each_told (1 + branches_work branches count) (Tries branches ids count p) (λ c s es e one. omega (arith, tries_told branches ids count p c s es e one)) s.selection s es e run
  does_told (RunSequence inner) ids count p s es e run =
      each_told (1 + work_of inner count 1) (RunsInner (Runs inner ids count))
      (λ c s es e one. omega (arith, runs_told inner ids count (entry_state s c false) es one.0 one.1)) s.selection s es e run

  tries_told : (branches : BranchesTree) (ids : List Identity) (count p c : ℕ) (s : State) (es : List Event) (e : Ending) → Tries branches ids count p c s es e → told_number es ≤ 3 * branches_work branches count
  tries_told NoBranches ids count p c s es e (none, failed) = omega (arith, told_as es [] none)
  tries_told (NullThen rest) ids count p c s es e (none, done) = omega (arith, told_as es [] none)
  tries_told (BranchThen inner rest) ids count p c s es e run =
      elim run [
        | inl (end, one, stays, is) ↦ omega (arith, runs_told inner ids count (entry_state s c true) es end one)
        | inr (end, b, a, is, one, soft, others) ↦
            omega (arith, told_as es (b ++ a) is, told-append b a, runs_told inner ids count (entry_state s c true) b end one, tries_told rest ids count p c s a e others)
      ]

-- ---- procedures

abbrev IsFew : ℕ → Behaviour → Type 0
IsFew work run = (s : State) (es : List Event) (e : Ending) → run s es e → told_number es ≤ 3 * work

then_few : (one two : ℕ) (first second : Behaviour) → IsFew one first → IsFew two second → IsFew (one + two) (Then first second)
then_few one two first second few more s es e run =
    elim run [
      | inl (failed, alone) ↦ omega (arith, few s es e alone)
      | inr (m, b, a, is, done, others) ↦ omega (arith, told_as es (b ++ a) is, told-append b a, few s b (Done m) done, more m a e others)
    ]

starts_few : (sequence : SequenceTree) (plan : PlanTree) (ids : List Identity) → IsFew (work_of sequence plan.count 1) (Starts sequence plan ids)
starts_few sequence plan ids s es e run = runs_told sequence ids plan.count (start_state s) es e run

plan_few : (plan : PlanTree) (ids : List Identity) (es : List Event) (e : Ending) → RunsPlan plan ids first_state es e → told_number es ≤ 3 * work_number plan
plan_few plan ids es e run =
    let n = plan.count in
    let shared = starts_few plan.shared plan ids in
    let w = work_of plan.shared n 1 in
    let w1 = work_of plan.first n 1 in
    let w2 = work_of plan.second n 1 in
    let w3 = work_of plan.third n 1 in
    let r5 : Behaviour = Then (Starts plan.shared plan ids) (Starts plan.third plan ids) in
    let f5 = then_few w w3 (Starts plan.shared plan ids) (Starts plan.third plan ids) shared (starts_few plan.third plan ids) in
    let r4 : Behaviour = Then (Starts plan.second plan ids) r5 in
    let f4 = then_few w2 (w + w3) (Starts plan.second plan ids) r5 (starts_few plan.second plan ids) f5 in
    let r3 : Behaviour = Then (Starts plan.shared plan ids) r4 in
    let f3 = then_few w (w2 + (w + w3)) (Starts plan.shared plan ids) r4 shared f4 in
    let r2 : Behaviour = Then (Starts plan.first plan ids) r3 in
    let f2 = then_few w1 (w + (w2 + (w + w3))) (Starts plan.first plan ids) r3 (starts_few plan.first plan ids) f3 in
    let f1 = then_few w (w1 + (w + (w2 + (w + w3)))) (Starts plan.shared plan ids) r2 shared f2 in
    let whole : told_number es ≤ 3 * (w + (w1 + (w + (w2 + (w + w3))))) = f1 first_state es e run in
    omega arith

pub paths_bounded : PathsBounded
paths_bounded plan ids es path =
    let whole = plan_few plan ids (es ++ path.rest) path.ending path.run in
    omega (arith, told-append es path.rest)
