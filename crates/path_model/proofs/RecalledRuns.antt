-- A recalled play is a run of its procedure, whatever is recalled, and what one told before a loss is a path.
use Rattle.std.proofs.Common.{◌≡◌, ℕ, Bool, true, false, List, [], ◌∷◌, Option, Some, None, refl, inl, inr}
use Rattle.std.specs.Prelude.{option_map}
use Rattle.suit_params.specs.declared.digest.Digest.{Digest}
use Rattle.suit_params.specs.declared.param.ParamKey.TheVariants as keys
use Rattle.suit_params.specs.InForce.{in_force, number_of, bytes_of, digest_in, size_in}
use Rattle.suit_commands.specs.declared.kinds.TestKind.{TestKind}
use Rattle.suit_commands.specs.declared.kinds.TestKind.TheVariants as tests
use Rattle.suit_commands.specs.declared.kinds.ActKind.{ActKind}
use Rattle.suit_commands.specs.declared.kinds.ActKind.TheVariants as acts
use Rattle.suit_commands.specs.Tree.{PlanTree}
use Rattle.path_model.specs.declared.event.Event.{Event}
use Rattle.path_model.specs.declared.event.Event.TheVariants.{Wrote}
use Rattle.path_model.specs.Behaviour.{State, Ending, Done, Condition}
use Rattle.path_model.specs.Conditions.{Matches, ChecksContent, Tests}
use Rattle.path_model.specs.Directives.{Writes, Acts}
use Rattle.path_model.specs.OneRun.{FreeStep, MatchStep, ContentStep, WriteStep, SwapStep, passed_told, failed_told}
use Rattle.path_model.specs.Path.{RunsPlan}
use Rattle.path_model.specs.Settings.{Setting}
use Rattle.path_model.specs.Plays.{Outcome}
use Rattle.path_model.specs.DevicePlays.{Device, condition_play, directive_play}
use Rattle.path_model.specs.RecalledPlays.{Recalling, recalling, free_test, free_act, recalled_test, recalled_act, step_comes, StepIsLost, recalled_condition, recalled_directive, recalled_play}
use Rattle.path_model.proofs.PlaysRun.{Follows, procedure_follows}
use Rattle.path_model.proofs.DeviceLeaves.{begins_all, tests_follow, acts_follow}

abbrev Ends : Type 1
Ends = List Event → Ending → Type 0

-- ---- a free step may end either way, and a directive may be done

abbrev TestMay : Ends → ℕ → State → Option FreeStep → Type 0
TestMay R p s None = Unit {0}
TestMay R p s (Some step) = R (passed_told step) (Done s) × R (failed_told step) (Condition p s.soft_failure)

abbrev ActMay : Ends → State → Option FreeStep → Type 0
ActMay R s None = Unit {0}
ActMay R s (Some step) = R (passed_told step) (Done s)

match_may : (p c : ℕ) (s : State) (size : Option ℕ) (o : Option Digest) → TestMay (Matches p c o size s) p s (option_map (λ digest. MatchStep c p digest size) o)
match_may p c s size None = tt
match_may p c s size (Some digest) = (inl (refl, refl), inr (refl, refl))

content_may : (p c : ℕ) (s : State) (o : Option (List ℕ)) → TestMay (ChecksContent p c o s) p s (option_map (λ content. ContentStep c p) o)
content_may p c s None = tt
content_may p c s (Some content) = (inl (refl, refl), inr (refl, refl))

test_may : (setting : Setting) (kind : TestKind) (p c : ℕ) (s : State) → TestMay (Tests kind setting.identities p c s) p s (free_test kind p c s)
test_may setting tests.Vendor p c s = tt
test_may setting tests.Class p c s = tt
test_may setting tests.Device p c s = tt
test_may setting tests.Slot p c s = tt
test_may setting tests.ImageMatch p c s = match_may p c s (size_in s.parameters c) (digest_in s.parameters c)
test_may setting tests.CheckContent p c s = content_may p c s (bytes_of (in_force s.parameters c keys.Content))
test_may setting tests.Abort p c s = tt

write_may : (A : Type 0) (p c : ℕ) (s : State) (o : Option A) → ActMay (Writes p o (λ x. Wrote c ∷ []) s) s (option_map (λ x. WriteStep c p) o)
write_may A p c s None = tt
write_may A p c s (Some x) = inl (refl, refl)

swap_may : (p c : ℕ) (s : State) (o : Option ℕ) → ActMay (Writes p o (λ source. Wrote c ∷ Wrote source ∷ []) s) s (option_map (λ source. SwapStep c source p) o)
swap_may p c s None = tt
swap_may p c s (Some source) = inl (refl, refl)

act_may : (kind : ActKind) (p c : ℕ) (s : State) → ActMay (Acts kind p c s) s (free_act kind p c s)
act_may acts.Write p c s = write_may (List ℕ) p c s (bytes_of (in_force s.parameters c keys.Content))
act_may acts.Fetch p c s = write_may (List ℕ) p c s (bytes_of (in_force s.parameters c keys.Uri))
act_may acts.Copy p c s = write_may ℕ p c s (number_of (in_force s.parameters c keys.Source))
act_may acts.Swap p c s = swap_may p c s (number_of (in_force s.parameters c keys.Source))
act_may acts.Invoke p c s = inl (refl, refl)

-- ---- a step, recalled or done

module _ (R : Ends) (p : ℕ) (s : State) (done : Outcome Device) (runs : R done.events done.ending) where
  abbrev RunsAs : Outcome Recalling → Type 0
  RunsAs o = R o.events o.ending

  recalled_runs : (step : FreeStep) (b : Bool) (after : Recalling) → TestMay R p s (Some step) → RunsAs (recalled_test p step s b after)
  recalled_runs step true after may = may.0
  recalled_runs step false after may = may.1

  test_runs : (free : Option FreeStep) → TestMay R p s free → (left kept : List Bool) (d : Device) → RunsAs (step_comes (λ step. recalled_test p step s) done (recalling left kept d) free)
  test_runs None may left kept d = runs
  test_runs (Some step) may [] kept d = runs
  test_runs (Some step) may (b ∷ left) kept d = recalled_runs step b _ may

  act_runs : (free : Option FreeStep) → ActMay R s free → (left kept : List Bool) (d : Device) → RunsAs (step_comes (λ step. recalled_act p step s) done (recalling left kept d) free)
  act_runs None may left kept d = runs
  act_runs (Some step) may [] kept d = runs
  act_runs (Some step) may (b ∷ left) kept d = may

silent : (w : Recalling) (o : Outcome Recalling) (free : Option FreeStep) → StepIsLost w o free → o.events ≡ []
silent w o None cut = absurd cut
silent w o (Some step) cut = cut.1

-- ---- plays

module _ (setting : Setting) where
  pub conditions_run : (kind : TestKind) (p c : ℕ) → Follows Recalling (Tests kind setting.identities p c) (recalled_condition setting kind p c)
  conditions_run kind p c =
      let whole : (s : State) (w : Recalling) → let o = (recalled_condition setting kind p c).comes s w in Tests kind setting.identities p c s o.events o.ending =
      λ s w. test_runs (Tests kind setting.identities p c s) p s ((condition_play setting kind p c).comes s w.device) ((tests_follow setting kind p c).whole s w.device) (free_test kind p c s) (test_may setting kind p c s) w.left w.kept w.device in
      record {
        whole = whole;
        cut = λ s w o cut. let all = (recalled_condition setting kind p c).comes s w in
            begins_all (Tests kind setting.identities p c) s o.events all.events all.ending (whole s w) (silent w o (free_test kind p c s) cut);
      }

  pub directives_run : (kind : ActKind) (p c : ℕ) → Follows Recalling (Acts kind p c) (recalled_directive setting kind p c)
  directives_run kind p c =
      let whole : (s : State) (w : Recalling) → let o = (recalled_directive setting kind p c).comes s w in Acts kind p c s o.events o.ending =
      λ s w. act_runs (Acts kind p c s) p s ((directive_play setting kind p c).comes s w.device) ((acts_follow setting kind p c).whole s w.device) (free_act kind p c s) (act_may kind p c s) w.left w.kept w.device in
      record {
        whole = whole;
        cut = λ s w o cut. let all = (recalled_directive setting kind p c).comes s w in
            begins_all (Acts kind p c) s o.events all.events all.ending (whole s w) (silent w o (free_act kind p c s) cut);
      }

  pub plan_runs : (plan : PlanTree) → Follows Recalling (RunsPlan plan setting.identities) (recalled_play plan setting)
  plan_runs plan = procedure_follows Recalling plan setting.identities (recalled_condition setting) (recalled_directive setting) conditions_run directives_run
