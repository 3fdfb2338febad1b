-- Values that can be taken from a file: `{"file": NAME}`, and for a digest also with `"algorithm"`.
use Rattle.std.specs.Prelude.{ℕ, ◌^◌, ◌-◌, if◌then◌else◌, List, length, Some, None, is_some, codes, Result, Ok}
use Rattle.std.specs.Str.{bytes_eq}
use Rattle.det_cbor.specs.HeadReading.{◌>>=◌}
use Rattle.serde_json.specs.Data.{Data}
use Rattle.serde_json.specs.Find.{as_object}
use Rattle.json_fields.specs.declared.flaw.Flaw.{Flaw}
use Rattle.json_fields.specs.declared.flaw.FlawKind.TheVariants.{Field}
use Rattle.json_fields.specs.Flaws.{flawed}
use Rattle.json_fields.specs.Values.{number_up_to, text_of, hex_of}
use Rattle.json_fields.specs.Objects.{Takes, object_of, required}
use Rattle.suit_params.specs.declared.digest.Digest.{Digest}
use Rattle.suit_params.specs.declared.digest_kind.DigestKind.{DigestKind}
use Rattle.suit_params.specs.declared.digest_kind.DigestKind.TheVariants.{Sha256}
use Rattle.suit_params.specs.Hashes.{hash}
use Rattle.author.specs.declared.file_value.DigestFile.{DigestFile}
use Rattle.author.specs.declared.file_value.FileField.{FileField}
use Rattle.author.specs.AlgorithmNames.{algorithm_of}
use Rattle.author.specs.DigestValues.{digest_spelled}
use Rattle.author.specs.Files.{bytes_of}

abbrev pub takes_file : Takes FileField
takes_file t key d =
    if bytes_eq key (codes "file") then (text_of d >>= λ name. Ok (record t { name = Some name }))
    else flawed Field

abbrev pub file_named : Data → Result (List ℕ) Flaw
file_named d =
    object_of takes_file (record { name = None }) d >>= λ t. required (codes "file") t.name

-- a file and the hash function for its digest, which is SHA-256 if none is named
abbrev pub takes_digest_file : Takes DigestFile
takes_digest_file t key d =
    if bytes_eq key (codes "file") then (text_of d >>= λ name. Ok (record t { name = Some name }))
    else if bytes_eq key (codes "algorithm")
    then (algorithm_of d >>= λ kind. Ok (record t { algorithm = kind }))
    else flawed Field

abbrev pub digest_file : Data → Result (List ℕ × DigestKind) Flaw
digest_file d =
    object_of takes_digest_file (record { name = None; algorithm = Sha256 }) d
    >>= λ t. required (codes "file") t.name >>= λ name. Ok (name, t.algorithm)

abbrev pub digest_of : List (List ℕ × List ℕ) → Data → Result Digest Flaw
digest_of files d =
    if is_some (as_object d)
    then (digest_file d >>= λ file. Ok (hash file.1 (bytes_of files file.0)))
    else digest_spelled d

abbrev pub size_of : List (List ℕ × List ℕ) → Data → Result ℕ Flaw
size_of files d =
    if is_some (as_object d) then (file_named d >>= λ name. Ok (length (bytes_of files name)))
    else number_up_to (2 ^ 64 - 1) d

abbrev pub content_of : List (List ℕ × List ℕ) → Data → Result (List ℕ) Flaw
content_of files d =
    if is_some (as_object d) then (file_named d >>= λ name. Ok (bytes_of files name)) else hex_of d
