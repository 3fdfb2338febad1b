-- Borrowed parameters as parameters.
use Rattle.std.specs.Prelude.{List, map, Option}
use Rattle.std.specs.Option.{option_copied}
use Rattle.std.specs.Borrow.{Bor}
use Rattle.suit_params.specs.declared.param.Param.{Param}

abbrev pub lent_params : List (Option (Bor Param)) → List (Option Param)
lent_params cells = map option_copied cells
