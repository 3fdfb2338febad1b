-- Integrated payloads in a description: an object from keys to `{"file": NAME}` or `{"hex": HEX}`. They are in the
-- order of the envelope's map.
use Rattle.std.specs.Prelude.{ℕ, if◌then◌else◌, List, [], codes, Option, Some, None, Result, Ok}
use Rattle.std.specs.Str.{bytes_eq}
use Rattle.det_cbor.specs.HeadReading.{◌>>=◌}
use Rattle.serde_json.specs.Data.{Data}
use Rattle.json_fields.specs.declared.flaw.Flaw.{Flaw}
use Rattle.json_fields.specs.declared.flaw.FlawKind.TheVariants.{Field}
use Rattle.json_fields.specs.Flaws.{flawed}
use Rattle.json_fields.specs.Values.{text_of, hex_of}
use Rattle.json_fields.specs.Objects.{Takes, object_of}
use Rattle.suit_envelope.specs.PayloadOrder.{put_payload}
use Rattle.author.specs.declared.payload_fields.PayloadField.{PayloadField}
use Rattle.author.specs.Files.{bytes_of}

abbrev pub takes_source : Takes PayloadField
takes_source t key d =
    if bytes_eq key (codes "file") then (text_of d >>= λ name. Ok (record t { file = Some name }))
    else if bytes_eq key (codes "hex")
    then (hex_of d >>= λ bytes. Ok (record t { bytes = Some bytes }))
    else flawed Field

-- exactly one of the two fields is there
abbrev pub source_bytes : List (List ℕ × List ℕ) → Option (List ℕ) → Option (List ℕ)
    → Result (List ℕ) Flaw
source_bytes files (Some name) None = Ok (bytes_of files name)
source_bytes files None (Some bytes) = Ok bytes
source_bytes files (Some name) (Some bytes) = flawed Field
source_bytes files None None = flawed Field

abbrev pub payload_of : List (List ℕ × List ℕ) → Data → Result (List ℕ) Flaw
payload_of files d =
    object_of takes_source (record { file = None; bytes = None }) d
    >>= λ t. source_bytes files t.file t.bytes

-- the payloads that have been read
pub record PayloadsSoFar : Type 0 where
  pub files : List (List ℕ × List ℕ)
  pub list : List (List ℕ × List ℕ)

abbrev pub takes_payload : Takes PayloadsSoFar
takes_payload t key d =
    payload_of t.files d >>= λ bytes. Ok (record t { list = put_payload (key, bytes) t.list })

abbrev pub payloads_of : List (List ℕ × List ℕ) → Data → Result (List (List ℕ × List ℕ)) Flaw
payloads_of files d =
    object_of takes_payload (record { files = files; list = [] }) d >>= λ t. Ok t.list
