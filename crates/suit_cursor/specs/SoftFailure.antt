-- Soft failure once parameters are overridden.
use Rattle.std.specs.Prelude.{Bool, List, [], ◌∷◌}
use Rattle.suit_params.specs.declared.param.Param.{Param}
use Rattle.suit_params.specs.declared.param.Param.TheVariants as params

-- soft failure after one parameter: its value if it is the one, and otherwise unchanged
abbrev pub soft_by : Bool → Param → Bool
soft_by soft_failure (params.Soft value) = value
soft_by soft_failure _ = soft_failure

-- soft failure after several parameters
abbrev pub soft_behind : Bool → List Param → Bool
soft_behind soft_failure [] = soft_failure
soft_behind soft_failure (param ∷ list) = soft_behind (soft_by soft_failure param) list
