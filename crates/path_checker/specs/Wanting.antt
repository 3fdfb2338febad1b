-- The identifiers and slots that conditions ask for, and how an identity decides these conditions.
use Rattle.std.specs.Prelude.{◌⊎◌, ℕ, true, false, Option, Some, None, option_map}
use Rattle.suit_commands.specs.declared.kinds.TestKind.{TestKind}
use Rattle.suit_commands.specs.declared.kinds.TestKind.TheVariants as tests
use Rattle.suit_params.specs.declared.param.ParamKey.TheVariants as keys
use Rattle.suit_params.specs.InForce.{Parameters, in_force, identifier_of, number_of}
use Rattle.path_model.specs.declared.event.Event.TheVariants.{Tried}
use Rattle.path_model.specs.Conditions.{IsMet, IsUnmet}
use Rattle.path_checker.specs.declared.judge_plan.facts.Own.{Own}
use Rattle.path_checker.specs.declared.judge_plan.facts.Own.TheVariants as owns
use Rattle.path_checker.specs.Forking.{Has, HasNo}
use Rattle.path_checker.specs.Exploring.{Course}

abbrev pub wanted_by : TestKind → Parameters → ℕ → Option Own
wanted_by tests.Vendor parameters component =
    option_map owns.Vendor (identifier_of (in_force parameters component keys.Vendor))
wanted_by tests.Class parameters component =
    option_map owns.Class (identifier_of (in_force parameters component keys.Class))
wanted_by tests.Device parameters component =
    option_map owns.Device (identifier_of (in_force parameters component keys.Device))
wanted_by tests.Slot parameters component =
    option_map owns.Slot (number_of (in_force parameters component keys.Slot))
wanted_by _ parameters component = None

abbrev pub TestsOwn : TestKind → ℕ → ℕ → Option Own → Course
TestsOwn kind place component None identities state events ending =
    IsUnmet place (Tried component kind false) state events ending
TestsOwn kind place component (Some own) identities state events ending =
    (Has component own identities × IsMet (Tried component kind true) state events ending)
    ⊎
    (HasNo component own identities
    × IsUnmet place (Tried component kind false) state events ending)
