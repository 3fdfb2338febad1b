-- Parameters in force by rows: one for each component, with a cell for each key.
use Rattle.std.specs.Prelude.{◌≡◌, List, [], ◌∷◌, ◌++◌, Option, Some, length, slice_set, ⊤}
use Rattle.suit_params.specs.declared.param.Param.{Param}
use Rattle.suit_params.specs.ParamKeys.{key_of}
use Rattle.suit_params.specs.InForce.{rank}
use Rattle.path_checker.specs.Keyed.{IsKeyed}

abbrev pub Row : Type 0
Row = List (Option Param)

-- the rows, one after another
abbrev pub together : {A : Type 0} → List (List A) → List A
together [] = []
together (row ∷ rows) = row ++ together rows

-- each row has a cell for each of the twelve keys
abbrev pub AreWide : {A : Type 0} → List (List A) → Type 0
AreWide [] = ⊤
AreWide (row ∷ rows) = (length row ≡ 12) × AreWide rows

-- the row after overrides of several parameters, in order
abbrev pub overridden_row : Row → List Param → Row
overridden_row row [] = row
overridden_row row (param ∷ list) =
    overridden_row (slice_set row (rank (key_of param)) (Some param)) list

-- there are eight rows, and each parameter stands in the cell of its key
pub record AreKeyed (rows : List Row) : Type 0 where
  pub count : length rows ≡ 8
  pub wide : AreWide rows
  pub keyed : IsKeyed (together rows)
