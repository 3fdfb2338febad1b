-- A borrowed parameter in its cell.
use Rattle.std.proofs.Common.{◌≡◌, ℕ, List, Option, Some}
use Rattle.std.specs.Prelude.{slice_set, option_map}
use Rattle.std.proofs.lemmas.List.{map-set}
use Rattle.suit_params.specs.declared.param_slice.ParamSlice.{ParamSlice}
use Rattle.suit_params.specs.ParamSlices.{param_of}
use Rattle.suit_cursor.specs.Lending.{params_in}

pub set_lent : (cells : List (Option ParamSlice)) (i : ℕ) (p : ParamSlice) → params_in (slice_set cells i (Some p)) ≡ slice_set (params_in cells) i (Some (param_of p))
set_lent cells i p = map-set (option_map param_of) cells i (Some p)
