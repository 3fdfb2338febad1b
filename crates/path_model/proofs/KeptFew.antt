-- A recalled play keeps at most one outcome for each command that it does, also where it lost its power.
use Rattle.std.proofs.Common.{◌≡◌, ℕ, ◌+◌, ◌*◌, ◌≤◌, Bool, true, false, List, [], ◌∷◌, ◌++◌, length, Option, Some, None, refl, sym, ap, subst, ◌∙◌, inl, inr, arith}
use Rattle.std.proofs.lemmas.List.{length-append}
use Rattle.suit_commands.specs.declared.kinds.TestKind.{TestKind}
use Rattle.suit_commands.specs.declared.kinds.ActKind.{ActKind}
use Rattle.suit_commands.specs.Tree.{CommandTree, Test, Act, Index, Override, TryEach, RunSequence, SequenceTree, NoSteps, StepThen, BranchesTree, NoBranches, BranchThen, NullThen, PlanTree}
use Rattle.suit_commands.specs.Numbers.{count_after, work_of, command_work, branches_work, work_number}
use Rattle.path_model.specs.declared.event.Event.{Event}
use Rattle.path_model.specs.declared.cause.Cause.{Cause}
use Rattle.path_model.specs.Behaviour.{State, Ending, Done, Condition, Directive}
use Rattle.path_model.specs.OneRun.{FreeStep}
use Rattle.path_model.specs.Runs.{entry_state, Does}
use Rattle.path_model.specs.Path.{start_state, first_state}
use Rattle.path_model.specs.Settings.{Setting}
use Rattle.path_model.specs.Plays.{Outcome, Play, going_on, NextIsCut, in_turn, each, each_selected, overriding, running_inner, after_trying, OtherIsCut, trying_branch, sequence_play, command_play, branches_play, starting}
use Rattle.path_model.specs.DevicePlays.{Device, condition_play, directive_play}
use Rattle.path_model.specs.RecalledPlays.{Recalling, recalling, free_test, free_act, recalled_test, recalled_act, kept_after, step_comes, StepIsLost, recalled_condition, recalled_directive, recalled_play}
use Rattle.path_model.specs.ResumeLaws.{LosesPower}
use Rattle.path_model.proofs.EventBounds.{one_more, by_one, length_after}
use Rattle.path_model.proofs.PlaysRun.{command_follows}
use Rattle.path_model.proofs.RecalledRuns.{conditions_run, directives_run}
use Rattle.path_model.proofs.SelectionLaws.{selection_kept}

-- from this state it keeps at most so many
record Few (n : ℕ) (play : Play Recalling) (s : State) : Type 0 where
  whole : (w : Recalling) → length (play.comes s w).world.kept ≤ length w.kept + n
  cut : (w : Recalling) (o : Outcome Recalling) → play.IsCut s w o → length o.world.kept ≤ length w.kept + n

more : (a b : ℕ) (play : Play Recalling) (s : State) → a ≤ b → Few a play s → Few b play s
more a b play s le f = record { whole = λ w. omega (arith, le, f.whole w); cut = λ w o cut. omega (arith, le, f.cut w o cut) }

-- ---- one after another

module _ (first second : Play Recalling) (a b : ℕ) (s : State) (f : Few a first s) (g : (w : Recalling) (t : State) → (first.comes s w).ending ≡ Done t → Few b second t) where
  goes : (w : Recalling) (es : List Event) (c : Option Cause) (v : Recalling) (e : Ending) → length v.kept ≤ length w.kept + a → ((t : State) → e ≡ Done t → Few b second t)
      → length (going_on Recalling second.comes es c v e).world.kept ≤ length w.kept + (a + b)
  goes w es c v (Done t) le next = omega (arith, le, (next t refl).whole v)
  goes w es c v (Condition p soft) le next = omega (arith, le)
  goes w es c v (Directive p) le next = omega (arith, le)

  goes_cut : (w : Recalling) (es : List Event) (v : Recalling) (e : Ending) (o : Outcome Recalling) → length v.kept ≤ length w.kept + a → ((t : State) → e ≡ Done t → Few b second t)
      → NextIsCut Recalling second.IsCut es v e o → length o.world.kept ≤ length w.kept + (a + b)
  goes_cut w es v (Done t) o le next (later, cut, is) = omega (arith, le, (next t refl).cut v later cut, ap (λ (x : Outcome Recalling). length x.world.kept) is)
  goes_cut w es v (Condition p soft) o le next cut = absurd cut
  goes_cut w es v (Directive p) o le next cut = absurd cut

  turn : Few (a + b) (in_turn Recalling first second) s
  turn = record {
    whole = λ w. let o = first.comes s w in goes w o.events o.cause o.world o.ending (f.whole w) (g w);
    cut = λ w o cut. let one = first.comes s w in elim cut [
      | inl now ↦ omega (arith, f.cut w o now)
      | inr later ↦ goes_cut w one.events one.world one.ending o (f.whole w) (g w) later
    ];
  }

each_few : (n : ℕ) (at : ℕ → Play Recalling) → ((c : ℕ) (s : State) → Few n (at c) s) → (cs : List ℕ) (s : State) → Few (length cs * n) (each Recalling at cs) s
each_few n at f [] s = record { whole = λ w. omega arith; cut = λ w o cut. absurd cut }
each_few n at f (c ∷ cs) s =
    subst (λ (k : ℕ). Few k (each Recalling at (c ∷ cs)) s) (sym (one_more (length cs) n)) (turn (at c) (each Recalling at cs) n (length cs * n) s (f c s) (λ w t is. each_few n at f cs t))

selected_few : (n : ℕ) (at : ℕ → Play Recalling) → ((c : ℕ) (s : State) → Few n (at c) s) → (s : State) → Few (length s.selection * n) (each_selected Recalling at) s
selected_few n at f s = let few = each_few n at f s.selection s in record { whole = few.whole; cut = few.cut }

one_each : (at : ℕ → Play Recalling) → ((c : ℕ) (s : State) → Few 1 (at c) s) → (s : State) → Few (length s.selection) (each_selected Recalling at) s
one_each at f s = subst (λ (k : ℕ). Few k (each_selected Recalling at) s) (by_one (length s.selection)) (selected_few 1 at f s)

-- ---- a branch, and then the others

module _ (body others : Play Recalling) (a b c : ℕ) (s : State) (f : Few a body (entry_state s c true)) (g : Few b others s) where
  tries : (w : Recalling) (es : List Event) (k : Option Cause) (v : Recalling) (e : Ending) → length v.kept ≤ length w.kept + a → length (after_trying Recalling s others.comes es k v e).world.kept ≤ length w.kept + (a + b)
  tries w es k v (Condition p true) le = omega (arith, le, g.whole v)
  tries w es k v (Condition p false) le = omega (arith, le)
  tries w es k v (Done t) le = omega (arith, le)
  tries w es k v (Directive p) le = omega (arith, le)

  tries_cut : (w : Recalling) (es : List Event) (v : Recalling) (e : Ending) (o : Outcome Recalling) → length v.kept ≤ length w.kept + a → OtherIsCut Recalling s others.IsCut es v e o → length o.world.kept ≤ length w.kept + (a + b)
  tries_cut w es v (Condition p true) o le (later, cut, is) = omega (arith, le, g.cut v later cut, ap (λ (x : Outcome Recalling). length x.world.kept) is)
  tries_cut w es v (Condition p false) o le cut = absurd cut
  tries_cut w es v (Done t) o le cut = absurd cut
  tries_cut w es v (Directive p) o le cut = absurd cut

  branch : Few (a + b) (trying_branch Recalling body others c) s
  branch = record {
    whole = λ w. let o = body.comes (entry_state s c true) w in tries w o.events o.cause o.world o.ending (f.whole w);
    cut = λ w o cut. let one = body.comes (entry_state s c true) w in elim cut [
      | inl now ↦ omega (arith, f.cut w o now)
      | inr later ↦ tries_cut w one.events one.world one.ending o (f.whole w) later
    ];
  }

-- ---- one step

one_longer : (kept : List Bool) (b : Bool) → length (kept ++ b ∷ []) ≡ length kept + 1
one_longer kept b = length-append kept (b ∷ [])

kept_few : (kept : List Bool) (e : Ending) → length (kept_after kept e) ≤ length kept + 1
kept_few kept (Done t) = omega (arith, one_longer kept true)
kept_few kept (Condition p soft) = omega (arith, one_longer kept false)
kept_few kept (Directive p) = omega arith

test_kept : (p : ℕ) (step : FreeStep) (s : State) (b : Bool) (after : Recalling) → (recalled_test p step s b after).world ≡ after
test_kept p step s true after = refl
test_kept p step s false after = refl

test_few : (p : ℕ) (s : State) (done : Outcome Device) (free : Option FreeStep) (left kept : List Bool) (d : Device) → length (step_comes (λ step. recalled_test p step s) done (recalling left kept d) free).world.kept ≤ length kept + 1
test_few p s done None left kept d = omega arith
test_few p s done (Some step) [] kept d = kept_few kept done.ending
test_few p s done (Some step) (b ∷ left) kept d = omega (arith, ap (λ (w : Recalling). length w.kept) (test_kept p step s b (recalling left (kept ++ b ∷ []) d)), one_longer kept b)

act_few : (p : ℕ) (s : State) (done : Outcome Device) (free : Option FreeStep) (left kept : List Bool) (d : Device) → length (step_comes (λ step. recalled_act p step s) done (recalling left kept d) free).world.kept ≤ length kept + 1
act_few p s done None left kept d = omega arith
act_few p s done (Some step) [] kept d = kept_few kept done.ending
act_few p s done (Some step) (b ∷ left) kept d = omega (arith, one_longer kept b)

lost_few : (w : Recalling) (o : Outcome Recalling) (free : Option FreeStep) → StepIsLost w o free → length o.world.kept ≤ length w.kept + 1
lost_few w o None cut = absurd cut
lost_few w o (Some step) cut = omega (arith, ap length cut.3)

-- ---- whole sequences

module _ (setting : Setting) (count : ℕ) where
  abbrev tests : TestKind → ℕ → ℕ → Play Recalling
  tests = recalled_condition setting

  abbrev acts : ActKind → ℕ → ℕ → Play Recalling
  acts = recalled_directive setting

  test_one : (kind : TestKind) (p c : ℕ) (s : State) → Few 1 (tests kind p c) s
  test_one kind p c s = record {
    whole = λ w. test_few p s ((condition_play setting kind p c).comes s w.device) (free_test kind p c s) w.left w.kept w.device;
    cut = λ w o cut. lost_few w o (free_test kind p c s) cut;
  }

  act_one : (kind : ActKind) (p c : ℕ) (s : State) → Few 1 (acts kind p c) s
  act_one kind p c s = record {
    whole = λ w. act_few p s ((directive_play setting kind p c).comes s w.device) (free_act kind p c s) w.left w.kept w.device;
    cut = λ w o cut. lost_few w o (free_act kind p c s) cut;
  }

  -- how many are selected where a command is done
  now : (command : CommandTree) (p : ℕ) (s t : State) (w : Recalling) → ((command_play Recalling tests acts count command p).comes s w).ending ≡ Done t → length t.selection ≡ count_after command count (length s.selection)
  now command p s t w is =
      let o = (command_play Recalling tests acts count command p).comes s w in
      let does = (command_follows Recalling setting.identities count tests acts (conditions_run setting) (directives_run setting) command p).whole s w in
      ap length (selection_kept command setting.identities count p s t o.events (subst (λ (e : Ending). Does command setting.identities count p s o.events e) is does)) ∙ length_after command count s.selection

  mutual
    sequence_few : (q : SequenceTree) (s : State) → Few (work_of q count (length s.selection)) (sequence_play Recalling tests acts count q) s
    sequence_few NoSteps s = record { whole = λ w. omega arith; cut = λ w o cut. absurd cut }
    sequence_few (StepThen p command rest) s =
        let next : Play Recalling = sequence_play Recalling tests acts count rest in
        turn (command_play Recalling tests acts count command p) next (command_work command count (length s.selection)) (work_of rest count (count_after command count (length s.selection))) s (command_few command p s)
        (λ w t is. subst (λ (n : ℕ). Few (work_of rest count n) next t) (now command p s t w is) (sequence_few rest t))

    command_few : (command : CommandTree) (p : ℕ) (s : State) → Few (command_work command count (length s.selection)) (command_play Recalling tests acts count command p) s
    command_few (Test kind report) p s = one_each (tests kind p) (λ c t. test_one kind p c t) s
    command_few (Act kind report) p s = one_each (acts kind p) (λ c t. act_one kind p c t) s
    command_few (Index selection) p s = record { whole = λ w. omega arith; cut = λ w o cut. absurd cut }
    command_few (Override list) p s = one_each (overriding Recalling list) (λ c t. record { whole = λ w. omega arith; cut = λ w o cut. absurd cut }) s
    command_few (TryEach branches) p s =
        selected_few (1 + branches_work branches count) (branches_play Recalling tests acts count branches p)
        (λ c t. more (branches_work branches count) (1 + branches_work branches count) (branches_play Recalling tests acts count branches p c) t (omega arith) (branches_few branches p c t)) s
    command_few (RunSequence inner) p s =
        let body : Play Recalling = sequence_play Recalling tests acts count inner in
        selected_few (1 + work_of inner count 1) (running_inner Recalling body)
        (λ c t. let few = sequence_few inner (entry_state t c false) in record { whole = λ w. omega (arith, few.whole w); cut = λ w o cut. omega (arith, few.cut w o cut) }) s

    branches_few : (branches : BranchesTree) (p c : ℕ) (s : State) → Few (branches_work branches count) (branches_play Recalling tests acts count branches p c) s
    branches_few NoBranches p c s = record { whole = λ w. omega arith; cut = λ w o cut. absurd cut }
    branches_few (NullThen rest) p c s = record { whole = λ w. omega arith; cut = λ w o cut. absurd cut }
    branches_few (BranchThen inner rest) p c s =
        branch (sequence_play Recalling tests acts count inner) (branches_play Recalling tests acts count rest p c) (work_of inner count 1) (branches_work rest count) c s (sequence_few inner (entry_state s c true)) (branches_few rest p c s)

  starting_few : (q : SequenceTree) (s : State) → Few (work_of q count 1) (starting Recalling tests acts count q) s
  starting_few q s = let few = sequence_few q (start_state s) in record { whole = few.whole; cut = few.cut }

-- ---- procedures

plan_few : (plan : PlanTree) (setting : Setting) (s : State) → Few (work_number plan) (recalled_play plan setting) s
plan_few plan setting s =
    let n = plan.count in
    let play : SequenceTree → Play Recalling = λ q. starting Recalling (recalled_condition setting) (recalled_directive setting) n q in
    let few : (q : SequenceTree) (t : State) → Few (work_of q n 1) (play q) t = starting_few setting n in
    let w = work_of plan.shared n 1 in
    let w1 = work_of plan.first n 1 in
    let w2 = work_of plan.second n 1 in
    let w3 = work_of plan.third n 1 in
    let p5 : Play Recalling = in_turn Recalling (play plan.shared) (play plan.third) in
    let p4 : Play Recalling = in_turn Recalling (play plan.second) p5 in
    let p3 : Play Recalling = in_turn Recalling (play plan.shared) p4 in
    let p2 : Play Recalling = in_turn Recalling (play plan.first) p3 in
    let f5 : (t : State) → Few (w + w3) p5 t = λ t. turn (play plan.shared) (play plan.third) w w3 t (few plan.shared t) (λ x u is. few plan.third u) in
    let f4 : (t : State) → Few (w2 + (w + w3)) p4 t = λ t. turn (play plan.second) p5 w2 (w + w3) t (few plan.second t) (λ x u is. f5 u) in
    let f3 : (t : State) → Few (w + (w2 + (w + w3))) p3 t = λ t. turn (play plan.shared) p4 w (w2 + (w + w3)) t (few plan.shared t) (λ x u is. f4 u) in
    let f2 : (t : State) → Few (w1 + (w + (w2 + (w + w3)))) p2 t = λ t. turn (play plan.first) p3 w1 (w + (w2 + (w + w3))) t (few plan.first t) (λ x u is. f3 u) in
    let f1 : Few (w + (w1 + (w + (w2 + (w + w3))))) (recalled_play plan setting) s = turn (play plan.shared) p2 w (w1 + (w + (w2 + (w + w3)))) s (few plan.shared s) (λ x u is. f2 u) in
    more (w + (w1 + (w + (w2 + (w + w3))))) (work_number plan) (recalled_play plan setting) s (omega arith) f1

pub bounded : (plan : PlanTree) (setting : Setting) (kept : List Bool) (device : Device) (kept_now : List Bool) (device_now : Device) → LosesPower plan setting kept device kept_now device_now → length kept_now ≤ work_number plan
bounded plan setting kept device kept_now device_now (inl (lost, cut, is, same)) = omega (arith, ap length is, (plan_few plan setting first_state).cut (recalling kept [] device) lost cut)
bounded plan setting kept device kept_now device_now (inr (is, same)) = omega (arith, ap length is, (plan_few plan setting first_state).whole (recalling kept [] device))
