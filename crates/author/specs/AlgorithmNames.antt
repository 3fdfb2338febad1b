-- Hash functions by their names in a description (RFC 9054, section 2).
use Rattle.std.specs.Prelude.{ℕ, if◌then◌else◌, List, codes, Option, Some, None, option_and_then, Result}
use Rattle.std.specs.Str.{bytes_eq}
use Rattle.serde_json.specs.Data.{Data}
use Rattle.serde_json.specs.Find.{as_str}
use Rattle.json_fields.specs.declared.flaw.Flaw.{Flaw}
use Rattle.json_fields.specs.declared.flaw.FlawKind.TheVariants.{Field}
use Rattle.json_fields.specs.Flaws.{found_or}
use Rattle.suit_params.specs.declared.digest_kind.DigestKind.{DigestKind}
use Rattle.suit_params.specs.declared.digest_kind.DigestKind.TheVariants as kinds

abbrev pub algorithm_named : List ℕ → Option DigestKind
algorithm_named name =
    if bytes_eq name (codes "sha256") then Some kinds.Sha256
    else if bytes_eq name (codes "sha384") then Some kinds.Sha384
    else if bytes_eq name (codes "sha512") then Some kinds.Sha512
    else None

abbrev pub algorithm_of : Data → Result DigestKind Flaw
algorithm_of d = found_or Field (option_and_then algorithm_named (as_str d))
