-- A list of parameters that is written reads back as that list (draft-ietf-suit-manifest-25, section 8.4.8).
use Rattle.std.specs.Prelude.{ℕ, List}
use Rattle.std.specs.List.{AllByRecursion}
use Rattle.det_cbor.specs.DataItem.{spell}
use Rattle.suit_params.specs.declared.param.Param.{Param}
use Rattle.suit_params.specs.Refusing.{SaysWhole}
use Rattle.suit_params.specs.Params.{IsParams}
use Rattle.suit_params.specs.ParamMaking.{params_item, IsBelow}
use Rattle.suit_params.specs.ParamLaws.{AreAscending}

-- wherever it is placed, the spelling of the map says the list, if the list ascends and its sources are below
-- the number of components
abbrev pub IsWritten : List Param → Type 0
IsWritten ps =
    (count place : ℕ) → AllByRecursion (IsBelow count) ps → AreAscending ps
    → SaysWhole (IsParams count) place (spell (params_item ps)) ps
