-- The argument of `index`: a number, `true`, or an array of numbers that is not empty.
use Rattle.std.specs.Prelude.{ℕ, Bool, true, false, if◌then◌else◌, unwrap_or, Result, Ok}
use Rattle.det_cbor.specs.HeadReading.{◌>>=◌}
use Rattle.serde_json.specs.Data.{Data, Items, no_items, item}
use Rattle.serde_json.specs.Find.{as_bool}
use Rattle.json_fields.specs.declared.flaw.Flaw.{Flaw}
use Rattle.json_fields.specs.Arrays.{array_of}
use Rattle.suit_commands.specs.declared.selection.Selection.{Selection}
use Rattle.suit_commands.specs.declared.selection.Selection.TheVariants.{One, All, Listed}
use Rattle.author.specs.Elements.{items_in}
use Rattle.author.specs.ParamValues.{index_of}

-- an array of at least one element
abbrev pub is_list : Items → Bool
is_list no_items = false
is_list (item d ds) = true

abbrev pub selection_of : ℕ → Data → Result Selection Flaw
selection_of count d =
    if unwrap_or (as_bool d) false then Ok All
    else if is_list (items_in d) then (array_of (index_of count) d >>= λ is. Ok (Listed is))
    else (index_of count d >>= λ i. Ok (One i))
