-- A step over the trail: it is recalled, or done on the device and its outcome kept.
use Rattle.std.proofs.Common.{◌≡◌, ℕ, Bool, true, false, List, [], ◌∷◌, ◌++◌, Option, Some, None, Result, Ok, Err, refl, sym, ap, subst, ◌∙◌, inl, inr}
use Rattle.std.specs.Prelude.{IsTrue, is_some, option_map}
use Rattle.suit_params.specs.declared.param.ParamKey.TheVariants as keys
use Rattle.suit_params.specs.InForce.{bytes_of, digest_in, in_force, number_of, size_in}
use Rattle.suit_commands.specs.declared.kinds.TestKind.{TestKind}
use Rattle.suit_commands.specs.declared.kinds.TestKind.TheVariants as tests
use Rattle.suit_commands.specs.declared.kinds.ActKind.{ActKind}
use Rattle.suit_commands.specs.declared.kinds.ActKind.TheVariants as acts
use Rattle.path_model.specs.declared.event.Event.{Event}
use Rattle.path_model.specs.declared.event.Event.TheVariants.{Wrote}
use Rattle.path_model.specs.declared.cause.Cause.{Cause}
use Rattle.path_model.specs.declared.cause.Cause.TheVariants as causes
use Rattle.path_model.specs.Behaviour.{State, Ending, Done, Condition, Directive}
use Rattle.path_model.specs.Directives.{Acts, Writes}
use Rattle.path_model.specs.OneRun.{FreeStep, MatchStep, ContentStep, WriteStep, SwapStep, failed_told}
use Rattle.path_model.specs.Plays.{Outcome, Play}
use Rattle.path_model.specs.DevicePlays.{Device, condition_play, directive_play}
use Rattle.path_model.specs.RecalledPlays.{Recalling, recalling, as_recalling, free_act, free_test, kept_after, recalled_act, recalled_test, step_comes}
use Rattle.path_model.specs.KeepingPlays.{CutInStep, IsDone, IsLateAct, IsLateTest, StepIsCut, keeping_condition, keeping_directive, unkept}
use Rattle.path_model.proofs.DeviceLeaves.{acts_follow}
use Rattle.step_machine.specs.declared.stop.Stop.{Stop}
use Rattle.step_machine.specs.declared.stop.Stop.TheVariants as stops
use Rattle.step_machine.specs.Comes.{Comes}
use Rattle.step_machine.specs.Directives.{IsCutSo, Stops}
use Rattle.step_machine.specs.Keeping.{is_free_act, is_free_test}
use Rattle.step_machine.specs.Parts.{act_part, kept_act_part, kept_test_part, test_part}
use Rattle.step_machine.specs.Running.{Part}
use Rattle.step_machine.specs.Stages.{KeptPart, Terms}

-- ---- free steps

abbrev FreeAs : Bool → Option FreeStep → Type 0
FreeAs true free = (step : FreeStep) × (free ≡ Some step)
FreeAs false free = free ≡ None

map_free : {A : Type 0} (o : Option A) (f : A → FreeStep) (b : Bool) → is_some o ≡ b → FreeAs b (option_map f o)
map_free None f true e = absurd cc
map_free None f false e = refl
map_free (Some x) f true e = (f x, refl)
map_free (Some x) f false e = absurd cc

none_free : (b : Bool) → false ≡ b → FreeAs b None
none_free true e = absurd cc
none_free false e = refl

some_free : (step : FreeStep) (b : Bool) → true ≡ b → FreeAs b (Some step)
some_free step true e = (step, refl)
some_free step false e = absurd cc

test_free : (kind : TestKind) (p c : ℕ) (s : State) (b : Bool) → is_free_test kind c s.parameters ≡ b → FreeAs b (free_test kind p c s)
test_free tests.Vendor p c s b e = none_free b e
test_free tests.Class p c s b e = none_free b e
test_free tests.Device p c s b e = none_free b e
test_free tests.Slot p c s b e = none_free b e
test_free tests.ImageMatch p c s b e = map_free (digest_in s.parameters c) (λ digest. MatchStep c p digest (size_in s.parameters c)) b e
test_free tests.CheckContent p c s b e = map_free (bytes_of (in_force s.parameters c keys.Content)) (λ content. ContentStep c p) b e
test_free tests.Abort p c s b e = none_free b e

act_free : (kind : ActKind) (p c : ℕ) (s : State) (b : Bool) → is_free_act kind c s.parameters ≡ b → FreeAs b (free_act kind p c s)
act_free acts.Write p c s b e = map_free (bytes_of (in_force s.parameters c keys.Content)) (λ content. WriteStep c p) b e
act_free acts.Fetch p c s b e = map_free (bytes_of (in_force s.parameters c keys.Uri)) (λ uri. WriteStep c p) b e
act_free acts.Copy p c s b e = map_free (number_of (in_force s.parameters c keys.Source)) (λ source. WriteStep c p) b e
act_free acts.Swap p c s b e = map_free (number_of (in_force s.parameters c keys.Source)) (λ source. SwapStep c source p) b e
act_free acts.Invoke p c s b e = some_free _ b e

-- ---- a play of one step, over the play on the device

module _ (play : Play Device) (kept : Play Recalling) (s : State) (recalled : FreeStep → Bool → Recalling → Outcome Recalling) (IsLate : Recalling → FreeStep → Outcome Recalling → Type 0) (free : Option FreeStep)
    (comes_is : (w : Recalling) → kept.comes s w ≡ step_comes recalled (play.comes s w.device) w free)
    (cut_is : (w : Recalling) (o : Outcome Recalling) → StepIsCut (play.IsCut s w.device) (IsLate w) w o free → kept.IsCut s w o) where
  -- the outcomes are left alone
  module _ (none : free ≡ None) (left k : List Bool) (d : Device) where
    lifted : kept.comes s (recalling left k d) ≡ as_recalling left k (play.comes s d)
    lifted = comes_is (recalling left k d) ∙ ap (step_comes recalled (play.comes s d) (recalling left k d)) none

    lifted_cut : (p : ℕ) (cause : Cause) (e : Device) → IsCutSo play p s d cause e → IsCutSo kept p s (recalling left k d) cause (recalling left k e)
    lifted_cut p cause e h = record {
      outcome = as_recalling left k h.outcome;
      cut = cut_is (recalling left k d) (as_recalling left k h.outcome)
          (subst (λ (f : Option FreeStep). StepIsCut (play.IsCut s d) (IsLate (recalling left k d)) (recalling left k d) (as_recalling left k h.outcome) f) (sym none) (h.outcome, h.cut, refl));
      stops = record { ending = h.stops.ending; named = h.stops.named; world = ap (recalling left k) h.stops.world };
    }

    lifted_stops : (p : ℕ) (cause : Cause) (e : Device) → Stops p cause e (play.comes s d) → Stops p cause (recalling left k e) (kept.comes s (recalling left k d))
    lifted_stops p cause e h = record {
      ending = ap (λ (o : Outcome Recalling). o.ending) lifted ∙ h.ending;
      named = ap (λ (o : Outcome Recalling). o.cause) lifted ∙ h.named;
      world = ap (λ (o : Outcome Recalling). o.world) lifted ∙ ap (recalling left k) h.world;
    }

    lifted_comes : (r : Result (Unit {0}) Stop) (t : State) (e : Device) → Comes play s d r t e → Comes kept s (recalling left k d) r t (recalling left k e)
    lifted_comes (Ok u) t e (ends, is) = (ap (λ (o : Outcome Recalling). o.ending) lifted ∙ ends, ap (λ (o : Outcome Recalling). o.world) lifted ∙ ap (recalling left k) is)
    lifted_comes (Err (stops.Condition p soft)) t e (ends, is) = (ap (λ (o : Outcome Recalling). o.ending) lifted ∙ ends, ap (λ (o : Outcome Recalling). o.world) lifted ∙ ap (recalling left k) is)
    lifted_comes (Err (stops.Directive p causes.HostFault)) t e h = lifted_cut p causes.HostFault e h
    lifted_comes (Err (stops.Directive p causes.FlashFault)) t e h = lifted_cut p causes.FlashFault e h
    lifted_comes (Err (stops.Directive p causes.LaunchFault)) t e h = lifted_cut p causes.LaunchFault e h
    lifted_comes (Err (stops.Directive p cause)) t e h = lifted_stops p cause e h

  -- it is done, with nothing to recall
  module _ (step : FreeStep) (some : free ≡ Some step) (k : List Bool) (d : Device) where
    done : kept.comes s (recalling [] k d) ≡ as_recalling [] (kept_after k (play.comes s d).ending) (play.comes s d)
    done = comes_is (recalling [] k d) ∙ ap (step_comes recalled (play.comes s d) (recalling [] k d)) some

    kept_world : (end : Ending) (e : Device) → (play.comes s d).ending ≡ end → (play.comes s d).world ≡ e → (kept.comes s (recalling [] k d)).world ≡ recalling [] (kept_after k end) e
    kept_world end e ends is =
        ap (λ (o : Outcome Recalling). o.world) done
        ∙ ap (λ (x : Ending). recalling [] (kept_after k x) (play.comes s d).world) ends
        ∙ ap (recalling [] (kept_after k end)) is

    cut_in : (o : Outcome Recalling) → CutInStep (play.IsCut s d) (recalling [] k d) o → kept.IsCut s (recalling [] k d) o
    cut_in o cut =
        cut_is (recalling [] k d) o (subst (λ (f : Option FreeStep). StepIsCut (play.IsCut s d) (IsLate (recalling [] k d)) (recalling [] k d) o f) (sym some) (refl, inl cut))

    done_cut : (p : ℕ) (cause : Cause) (e : Device) → IsCutSo play p s d cause e → IsCutSo kept p s (recalling [] k d) cause (recalling [] k e)
    done_cut p cause e h = record {
      outcome = as_recalling [] k h.outcome;
      cut = cut_in (as_recalling [] k h.outcome) (h.outcome, h.cut, refl);
      stops = record { ending = h.stops.ending; named = h.stops.named; world = ap (recalling [] k) h.stops.world };
    }

    done_stops : (p : ℕ) (cause : Cause) (e : Device) → Stops p cause e (play.comes s d) → Stops p cause (recalling [] k e) (kept.comes s (recalling [] k d))
    done_stops p cause e h = record {
      ending = ap (λ (o : Outcome Recalling). o.ending) done ∙ h.ending;
      named = ap (λ (o : Outcome Recalling). o.cause) done ∙ h.named;
      world = kept_world (Directive p) e h.ending h.world;
    }

    -- a directive that failed is not kept
    stopped_comes : (p : ℕ) (cause : Cause) (t : State) (e : Device) → Comes play s d (Err (stops.Directive p cause)) t e → Comes kept s (recalling [] k d) (Err (stops.Directive p cause)) t (recalling [] k e)
    stopped_comes p causes.HostFault t e h = done_cut p causes.HostFault e h
    stopped_comes p causes.FlashFault t e h = done_cut p causes.FlashFault e h
    stopped_comes p causes.LaunchFault t e h = done_cut p causes.LaunchFault e h
    stopped_comes p cause t e h = done_stops p cause e h

    passed_comes : (t : State) (e : Device) → Comes play s d (Ok tt) t e → Comes kept s (recalling [] k d) (Ok tt) t (recalling [] (k ++ true ∷ []) e)
    passed_comes t e (ends, is) = (ap (λ (o : Outcome Recalling). o.ending) done ∙ ends, kept_world (Done t) e ends is)

    failed_comes : (p : ℕ) (soft : Bool) (t : State) (e : Device) → Comes play s d (Err (stops.Condition p soft)) t e → Comes kept s (recalling [] k d) (Err (stops.Condition p soft)) t (recalling [] (k ++ false ∷ []) e)
    failed_comes p soft t e (ends, is) = (ap (λ (o : Outcome Recalling). o.ending) done ∙ ends, kept_world (Condition p soft) e ends is)

    -- its outcome could not be kept
    late_comes : (p : ℕ) (told : List Event) (t : State) (e : Device) → IsLate (recalling [] k d) step (unkept p told k e) → Comes kept s (recalling [] k d) (Err (stops.Directive p causes.FlashFault)) t (recalling [] k e)
    late_comes p told t e late = record {
      outcome = unkept p told k e;
      cut = cut_is (recalling [] k d) (unkept p told k e)
          (subst (λ (f : Option FreeStep). StepIsCut (play.IsCut s d) (IsLate (recalling [] k d)) (recalling [] k d) (unkept p told k e) f) (sym some) (refl, inr late));
      stops = record { ending = refl; named = refl; world = refl };
    }

  -- it is recalled
  recalled_is : (step : FreeStep) → free ≡ Some step → (b : Bool) (left k : List Bool) (d : Device) → kept.comes s (recalling (b ∷ left) k d) ≡ recalled step b (recalling left (k ++ b ∷ []) d)
  recalled_is step some b left k d = comes_is (recalling (b ∷ left) k d) ∙ ap (step_comes recalled (play.comes s d) (recalling (b ∷ left) k d)) some

-- ---- conditions and directives

-- a step that is not free, one that is done, and one that is recalled, as the play over the trail has them
pub record IsUnfree (part : Part) (kept : KeptPart) (s : State) : Type 0 where
  pub comes : (terms : Terms) (left k : List Bool) (d e : Device) (r : Result (Unit {0}) Stop) (t : State) → Comes (part terms.setting) s d r t e → Comes (kept terms) s (recalling left k d) r t (recalling left k e)

pub record IsFree (place : ℕ) (part : Part) (kept : KeptPart) (s : State) : Type 0 where
  pub passed : (terms : Terms) (k : List Bool) (d e : Device) → Comes (part terms.setting) s d (Ok tt) s e → Comes (kept terms) s (recalling [] k d) (Ok tt) s (recalling [] (k ++ true ∷ []) e)
  pub failed : (terms : Terms) (k : List Bool) (d e : Device) (p : ℕ) (soft : Bool) → Comes (part terms.setting) s d (Err (stops.Condition p soft)) s e
      → Comes (kept terms) s (recalling [] k d) (Err (stops.Condition p soft)) s (recalling [] (k ++ false ∷ []) e)
  pub stopped : (terms : Terms) (k : List Bool) (d e : Device) (p : ℕ) (cause : Cause) → Comes (part terms.setting) s d (Err (stops.Directive p cause)) s e
      → Comes (kept terms) s (recalling [] k d) (Err (stops.Directive p cause)) s (recalling [] k e)
  pub late_passed : (terms : Terms) → IsTrue terms.may_fail → (k : List Bool) (d e : Device) → Comes (part terms.setting) s d (Ok tt) s e
      → Comes (kept terms) s (recalling [] k d) (Err (stops.Directive place causes.FlashFault)) s (recalling [] k e)
  pub late_failed : (terms : Terms) → IsTrue terms.may_fail → (k : List Bool) (d e : Device) (p : ℕ) (soft : Bool) → Comes (part terms.setting) s d (Err (stops.Condition p soft)) s e
      → Comes (kept terms) s (recalling [] k d) (Err (stops.Directive place causes.FlashFault)) s (recalling [] k e)

module _ (kind : TestKind) (p c : ℕ) (s : State) where
  abbrev test_over : Terms → Play Recalling
  test_over terms = keeping_condition terms.may_fail terms.setting kind p c

  abbrev test_late : Terms → Recalling → FreeStep → Outcome Recalling → Type 0
  test_late terms w = IsLateTest terms.may_fail p w ((condition_play terms.setting kind p c).comes s w.device)

  pub test_unfree : is_free_test kind c s.parameters ≡ false → IsUnfree (test_part kind p c) (kept_test_part kind p c) s
  test_unfree none = record {
    comes = λ terms left k d e r t h.
        lifted_comes (condition_play terms.setting kind p c) (test_over terms) s (λ step. recalled_test p step s) (test_late terms) (free_test kind p c s) (λ w. refl) (λ w o cut. cut) (test_free kind p c s false none) left k d r t e h;
  }

  module _ (free : is_free_test kind c s.parameters ≡ true) where
    test_step : FreeAs true (free_test kind p c s)
    test_step = test_free kind p c s true free

    pub test_is_free : IsFree p (test_part kind p c) (kept_test_part kind p c) s
    test_is_free = record {
      passed = λ terms k d e h. passed_comes (condition_play terms.setting kind p c) (test_over terms) s (λ step. recalled_test p step s) (test_late terms) (free_test kind p c s) (λ w. refl) (λ w o cut. cut) test_step.0 test_step.1 k d s e h;
      failed = λ terms k d e q soft h. failed_comes (condition_play terms.setting kind p c) (test_over terms) s (λ step. recalled_test p step s) (test_late terms) (free_test kind p c s) (λ w. refl) (λ w o cut. cut) test_step.0 test_step.1 k d q soft s e h;
      stopped = λ terms k d e q cause h. stopped_comes (condition_play terms.setting kind p c) (test_over terms) s (λ step. recalled_test p step s) (test_late terms) (free_test kind p c s) (λ w. refl) (λ w o cut. cut) test_step.0 test_step.1 k d q cause s e h;
      late_passed = λ terms may k d e h. late_comes (condition_play terms.setting kind p c) (test_over terms) s (λ step. recalled_test p step s) (test_late terms) (free_test kind p c s) (λ w. refl) (λ w o cut. cut) test_step.0 test_step.1 k d p [] s e (may, ap (unkept p [] k) (sym h.1));
      late_failed = λ terms may k d e q soft h. late_comes (condition_play terms.setting kind p c) (test_over terms) s (λ step. recalled_test p step s) (test_late terms) (free_test kind p c s) (λ w. refl) (λ w o cut. cut) test_step.0 test_step.1 k d p [] s e (may, ap (unkept p [] k) (sym h.1));
    }

    test_recalled : (terms : Terms) (b : Bool) (left k : List Bool) (d : Device) → (test_over terms).comes s (recalling (b ∷ left) k d) ≡ recalled_test p test_step.0 s b (recalling left (k ++ b ∷ []) d)
    test_recalled terms b left k d = recalled_is (condition_play terms.setting kind p c) (test_over terms) s (λ step. recalled_test p step s) (test_late terms) (free_test kind p c s) (λ w. refl) (λ w o cut. cut) test_step.0 test_step.1 b left k d

    test_passes : (terms : Terms) (left k : List Bool) (d : Device) → Comes (kept_test_part kind p c terms) s (recalling (true ∷ left) k d) (Ok tt) s (recalling left (k ++ true ∷ []) d)
    test_passes terms left k d = (ap (λ (o : Outcome Recalling). o.ending) (test_recalled terms true left k d), ap (λ (o : Outcome Recalling). o.world) (test_recalled terms true left k d))

    test_fails : (terms : Terms) (left k : List Bool) (d : Device) → Comes (kept_test_part kind p c terms) s (recalling (false ∷ left) k d) (Err (stops.Condition p s.soft_failure)) s (recalling left (k ++ false ∷ []) d)
    test_fails terms left k d = (ap (λ (o : Outcome Recalling). o.ending) (test_recalled terms false left k d), ap (λ (o : Outcome Recalling). o.world) (test_recalled terms false left k d))

    pub test_passes_as : (b : Bool) → b ≡ true → (terms : Terms) (left k : List Bool) (d : Device) → Comes (kept_test_part kind p c terms) s (recalling (b ∷ left) k d) (Ok tt) s (recalling left (k ++ b ∷ []) d)
    test_passes_as b is terms left k d = subst (λ (x : Bool). Comes (kept_test_part kind p c terms) s (recalling (x ∷ left) k d) (Ok tt) s (recalling left (k ++ x ∷ []) d)) (sym is) (test_passes terms left k d)

    pub test_fails_as : (b : Bool) → b ≡ false → (terms : Terms) (left k : List Bool) (d : Device) → Comes (kept_test_part kind p c terms) s (recalling (b ∷ left) k d) (Err (stops.Condition p s.soft_failure)) s (recalling left (k ++ b ∷ []) d)
    test_fails_as b is terms left k d = subst (λ (x : Bool). Comes (kept_test_part kind p c terms) s (recalling (x ∷ left) k d) (Err (stops.Condition p s.soft_failure)) s (recalling left (k ++ x ∷ []) d)) (sym is) (test_fails terms left k d)

-- a directive ends by no condition
writes_end : {A : Type 0} (p : ℕ) (o : Option A) (told : A → List Event) (s : State) (es : List Event) (q : ℕ) (soft : Bool) → Writes p o told s es (Condition q soft) → ⊥
writes_end p None told s es q soft h = let wrong : Condition q soft ≡ Directive p = h.1 in absurd cc
writes_end p (Some x) told s es q soft h = elim h [
  | inl (is, done) ↦ let wrong : Condition q soft ≡ Done s = done in absurd cc
  | inr (is, ended) ↦ let wrong : Condition q soft ≡ Directive p = ended in absurd cc
]

acts_end : (kind : ActKind) (p c : ℕ) (s : State) (es : List Event) (q : ℕ) (soft : Bool) → Acts kind p c s es (Condition q soft) → ⊥
acts_end acts.Write p c s es q soft h = writes_end p (bytes_of (in_force s.parameters c keys.Content)) (λ content. Wrote c ∷ []) s es q soft h
acts_end acts.Fetch p c s es q soft h = writes_end p (bytes_of (in_force s.parameters c keys.Uri)) (λ uri. Wrote c ∷ []) s es q soft h
acts_end acts.Copy p c s es q soft h = writes_end p (number_of (in_force s.parameters c keys.Source)) (λ source. Wrote c ∷ []) s es q soft h
acts_end acts.Swap p c s es q soft h = writes_end p (number_of (in_force s.parameters c keys.Source)) (λ source. Wrote c ∷ Wrote source ∷ []) s es q soft h
acts_end acts.Invoke p c s es q soft h = elim h [
  | inl (is, done) ↦ let wrong : Condition q soft ≡ Done s = done in absurd cc
  | inr (is, ended) ↦ let wrong : Condition q soft ≡ Directive p = ended in absurd cc
]

module _ (kind : ActKind) (p c : ℕ) (s : State) where
  abbrev act_over : Terms → Play Recalling
  act_over terms = keeping_directive terms.may_fail terms.setting kind p c

  abbrev act_late : Terms → Recalling → FreeStep → Outcome Recalling → Type 0
  act_late terms w = IsLateAct terms.may_fail p w ((directive_play terms.setting kind p c).comes s w.device)

  pub act_unfree : is_free_act kind c s.parameters ≡ false → IsUnfree (act_part kind p c) (kept_act_part kind p c) s
  act_unfree none = record {
    comes = λ terms left k d e r t h.
        lifted_comes (directive_play terms.setting kind p c) (act_over terms) s (λ step. recalled_act p step s) (act_late terms) (free_act kind p c s) (λ w. refl) (λ w o cut. cut) (act_free kind p c s false none) left k d r t e h;
  }

  module _ (free : is_free_act kind c s.parameters ≡ true) where
    act_step : FreeAs true (free_act kind p c s)
    act_step = act_free kind p c s true free

    no_condition : (terms : Terms) (d e : Device) (q : ℕ) (soft : Bool) → Comes (act_part kind p c terms.setting) s d (Err (stops.Condition q soft)) s e → ⊥
    no_condition terms d e q soft h =
        let all = (directive_play terms.setting kind p c).comes s d in
        acts_end kind p c s all.events q soft (subst (λ (x : Ending). Acts kind p c s all.events x) h.0 ((acts_follow terms.setting kind p c).whole s d))

    pub act_is_free : IsFree p (act_part kind p c) (kept_act_part kind p c) s
    act_is_free = record {
      passed = λ terms k d e h. passed_comes (directive_play terms.setting kind p c) (act_over terms) s (λ step. recalled_act p step s) (act_late terms) (free_act kind p c s) (λ w. refl) (λ w o cut. cut) act_step.0 act_step.1 k d s e h;
      failed = λ terms k d e q soft h. absurd (no_condition terms d e q soft h);
      stopped = λ terms k d e q cause h. stopped_comes (directive_play terms.setting kind p c) (act_over terms) s (λ step. recalled_act p step s) (act_late terms) (free_act kind p c s) (λ w. refl) (λ w o cut. cut) act_step.0 act_step.1 k d q cause s e h;
      late_passed = λ terms may k d e h. late_comes (directive_play terms.setting kind p c) (act_over terms) s (λ step. recalled_act p step s) (act_late terms) (free_act kind p c s) (λ w. refl) (λ w o cut. cut) act_step.0 act_step.1 k d p (failed_told act_step.0) s e
          (may, subst IsDone (sym h.0) tt, ap (unkept p (failed_told act_step.0) k) (sym h.1));
      late_failed = λ terms may k d e q soft h. absurd (no_condition terms d e q soft h);
    }

    act_recalled : (terms : Terms) (b : Bool) (left k : List Bool) (d : Device) → (act_over terms).comes s (recalling (b ∷ left) k d) ≡ recalled_act p act_step.0 s b (recalling left (k ++ b ∷ []) d)
    act_recalled terms b left k d = recalled_is (directive_play terms.setting kind p c) (act_over terms) s (λ step. recalled_act p step s) (act_late terms) (free_act kind p c s) (λ w. refl) (λ w o cut. cut) act_step.0 act_step.1 b left k d

    pub act_passes : (terms : Terms) (b : Bool) (left k : List Bool) (d : Device) → Comes (kept_act_part kind p c terms) s (recalling (b ∷ left) k d) (Ok tt) s (recalling left (k ++ b ∷ []) d)
    act_passes terms b left k d = (ap (λ (o : Outcome Recalling). o.ending) (act_recalled terms b left k d), ap (λ (o : Outcome Recalling). o.world) (act_recalled terms b left k d))
