-- How single values are read.
use Rattle.std.specs.Prelude.{ℕ, Bool, nat_le, if◌then◌else◌, List, option_and_then, Result, Ok}
use Rattle.std.specs.Result.{result_ok}
use Rattle.det_cbor.specs.HeadReading.{◌>>=◌}
use Rattle.serde_json.specs.Data.{Data}
use Rattle.serde_json.specs.Find.{as_number, as_u64, as_str, as_bool}
use Rattle.hex.specs.Hex.{decode_of}
use Rattle.uuid.specs.Text.{parsed}
use Rattle.json_fields.specs.declared.flaw.Flaw.{Flaw}
use Rattle.json_fields.specs.declared.flaw.FlawKind.TheVariants.{Field, Hex, Uuid}
use Rattle.json_fields.specs.Flaws.{flawed, found_or}

-- a whole number up to a limit
abbrev pub number_up_to : ℕ → Data → Result ℕ Flaw
number_up_to limit d =
    found_or Field (option_and_then as_u64 (as_number d))
    >>= λ n. if nat_le n limit then Ok n else flawed Field

abbrev pub flag_of : Data → Result Bool Flaw
flag_of d = found_or Field (as_bool d)

-- a text, as the bytes of its UTF-8
abbrev pub text_of : Data → Result (List ℕ) Flaw
text_of d = found_or Field (as_str d)

-- bytes, from two hexadecimal digits each
abbrev pub hex_of : Data → Result (List ℕ) Flaw
hex_of d = text_of d >>= λ text. found_or Hex (result_ok (decode_of text))

-- the sixteen bytes of a UUID (RFC 9562), in any of its text forms
abbrev pub uuid_of : Data → Result (List ℕ) Flaw
uuid_of d = text_of d >>= λ text. found_or Uuid (parsed text)
