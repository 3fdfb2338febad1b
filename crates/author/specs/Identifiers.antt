-- Component identifiers in a description: arrays of byte strings in hexadecimal digits.
use Rattle.std.specs.Prelude.{ℕ, nat_le, if◌then◌else◌, List, length, Result, Ok}
use Rattle.det_cbor.specs.HeadReading.{◌>>=◌}
use Rattle.det_cbor.specs.DataItem.{spell}
use Rattle.serde_json.specs.Data.{Data}
use Rattle.json_fields.specs.declared.flaw.Flaw.{Flaw}
use Rattle.json_fields.specs.declared.flaw.FlawKind.TheVariants.{Field}
use Rattle.json_fields.specs.Flaws.{flawed}
use Rattle.json_fields.specs.Values.{hex_of}
use Rattle.json_fields.specs.Arrays.{array_of}
use Rattle.suit_manifest.specs.Components.{identifier_item}

-- an identifier is spelled in at most 64 bytes
abbrev pub short_identifier : List (List ℕ) → Result (List (List ℕ)) Flaw
short_identifier id =
    if nat_le (length (spell (identifier_item id))) 64 then Ok id else flawed Field

abbrev pub identifier_of : Data → Result (List (List ℕ)) Flaw
identifier_of d = array_of hex_of d >>= λ id. short_identifier id

abbrev pub some_identifiers : List (List (List ℕ)) → Result (List (List (List ℕ))) Flaw
some_identifiers ids = if nat_le 1 (length ids) then Ok ids else flawed Field

abbrev pub identifiers_of : Data → Result (List (List (List ℕ))) Flaw
identifiers_of d = array_of identifier_of d >>= λ ids. some_identifiers ids
