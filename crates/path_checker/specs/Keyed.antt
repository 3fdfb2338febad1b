-- Each parameter in force stands under its own key, and there is a place for each.
use Rattle.std.specs.Prelude.{◌≡◌, ◌<◌, ℕ, Some, length}
use Rattle.suit_params.specs.declared.param.Param.{Param}
use Rattle.suit_params.specs.declared.param.ParamKey.{ParamKey}
use Rattle.suit_params.specs.ParamKeys.{key_of}
use Rattle.suit_params.specs.InForce.{Parameters, in_force}

pub record IsKeyed (parameters : Parameters) : Type 0 where
  pub keyed : (component : ℕ) (key : ParamKey) (param : Param) → component < 8
      → in_force parameters component key ≡ Some param → key_of param ≡ key
  pub whole : length parameters ≡ 96
