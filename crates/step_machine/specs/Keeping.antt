-- Which steps are free, and how their outcomes are kept.
use Rattle.std.specs.Prelude.{◌≡◌, ◌⊎◌, ℕ, Bool, true, false, not, IsTrue, is_some, [], ◌∷◌, ◌++◌, Option, Some, None, Result, Ok, Err}
use Rattle.suit_params.specs.declared.param.ParamKey.TheVariants as keys
use Rattle.suit_params.specs.InForce.{Parameters, bytes_of, digest_in, in_force, number_of}
use Rattle.suit_commands.specs.declared.kinds.TestKind.{TestKind}
use Rattle.suit_commands.specs.declared.kinds.TestKind.TheVariants as tests
use Rattle.suit_commands.specs.declared.kinds.ActKind.{ActKind}
use Rattle.suit_commands.specs.declared.kinds.ActKind.TheVariants as acts
use Rattle.path_model.specs.declared.cause.Cause.TheVariants as causes
use Rattle.step_machine.specs.declared.machine.Machine.{Machine}
use Rattle.step_machine.specs.declared.stop.Stop.{Stop}
use Rattle.step_machine.specs.declared.stop.Stop.TheVariants as stops
use Rattle.step_machine.specs.Devices.{contents_of}
use Rattle.step_machine.specs.PlanRuns.{CountsFor}
use Rattle.step_machine.specs.Stages.{IsTrailed, Stage, StaysKept, counts_in}

-- ---- free steps

-- a condition is free if it reads the content, since its parameter is in force
abbrev pub is_free_test : TestKind → ℕ → Parameters → Bool
is_free_test tests.ImageMatch component parameters = is_some (digest_in parameters component)
is_free_test tests.CheckContent component parameters =
    is_some (bytes_of (in_force parameters component keys.Content))
is_free_test _ component parameters = false

-- a directive is free if the parameter that it needs is in force; an invoke needs none
abbrev pub is_free_act : ActKind → ℕ → Parameters → Bool
is_free_act acts.Write component parameters =
    is_some (bytes_of (in_force parameters component keys.Content))
is_free_act acts.Fetch component parameters =
    is_some (bytes_of (in_force parameters component keys.Uri))
is_free_act acts.Copy component parameters =
    is_some (number_of (in_force parameters component keys.Source))
is_free_act acts.Swap component parameters =
    is_some (number_of (in_force parameters component keys.Source))
is_free_act acts.Invoke component parameters = true

-- ---- an outcome that is kept, or could not be

-- the outcome to keep for a step that ended like this; none for a directive that failed
abbrev pub outcome_of : Result (Unit {0}) Stop → Option Bool
outcome_of (Ok _) = Some true
outcome_of (Err (stops.Condition place soft_failure)) = Some false
outcome_of (Err (stops.Directive place cause)) = None

-- The step ends as it did, and its outcome is in the list; or keeping it failed, and the step ends in a fault of the
-- flash.
abbrev pub IsOutcomeKept : Machine → ℕ → Result (Unit {0}) Stop → Bool → Stage
    → Result (Unit {0}) Stop → Stage → Type 0
IsOutcomeKept machine place ended passed before result after =
    ((result ≡ ended) × (counts_in after ≡ counts_in before)
    × (IsTrue before.trail.told → after.trail.list ≡ before.trail.list ++ passed ∷ [])
    × IsTrailed machine after)
    ⊎ ((result ≡ Err (stops.Directive place causes.FlashFault))
    × IsTrue (not before.trail.silent)
    × CountsFor causes.FlashFault (counts_in before) (counts_in after)
    × (IsTrue before.trail.told → after.trail.list ≡ before.trail.list))

-- the outcome is kept, unless a directive failed
abbrev pub KeptEnd : Machine → ℕ → Result (Unit {0}) Stop → Option Bool → Stage
    → Result (Unit {0}) Stop → Stage → Type 0
KeptEnd machine place ended (Some passed) before result after =
    IsOutcomeKept machine place ended passed before result after
KeptEnd machine place ended None before result after =
    (result ≡ ended) × (counts_in after ≡ counts_in before)
    × (IsTrue before.trail.told → after.trail.list ≡ before.trail.list)

-- keeping the outcome changes no content, launches nothing and asks for nothing
pub record KeptSo (machine : Machine) (place : ℕ) (ended : Result (Unit {0}) Stop) (before : Stage)
    (result : Result (Unit {0}) Stop) (after : Stage) : Type 0 where
  pub stays : StaysKept machine before after
  pub left : after.trail.left ≡ []
  pub contents : IsTrue before.outside.disk.told
      → contents_of machine.standings.now after.outside.ram after.outside.disk.flash.reads
      ≡ contents_of machine.standings.now before.outside.ram before.outside.disk.flash.reads
  pub launches : after.outside.launcher.launches ≡ before.outside.launcher.launches
  pub asked : after.outside.host.asked.names ≡ before.outside.host.asked.names
  pub end : KeptEnd machine place ended (outcome_of ended) before result after
