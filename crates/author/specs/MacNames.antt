-- Algorithms of an authentication block by their names in a description (RFC 9053, section 3.1).
use Rattle.std.specs.Prelude.{ℕ, if◌then◌else◌, List, codes, Option, Some, None, option_and_then, Result}
use Rattle.std.specs.Str.{bytes_eq}
use Rattle.hmac_mac0.specs.declared.mac_kind.MacKind.{MacKind}
use Rattle.hmac_mac0.specs.declared.mac_kind.MacKind.TheVariants as macs
use Rattle.serde_json.specs.Data.{Data}
use Rattle.serde_json.specs.Find.{as_str}
use Rattle.json_fields.specs.declared.flaw.Flaw.{Flaw}
use Rattle.json_fields.specs.declared.flaw.FlawKind.TheVariants.{Field}
use Rattle.json_fields.specs.Flaws.{found_or}

-- HMAC 256/256 and HMAC 512/512
abbrev pub mac_named : List ℕ → Option MacKind
mac_named name =
    if bytes_eq name (codes "hmac256") then Some macs.Hmac256
    else if bytes_eq name (codes "hmac512") then Some macs.Hmac512
    else None

abbrev pub mac_kind_of : Data → Result MacKind Flaw
mac_kind_of d = found_or Field (option_and_then mac_named (as_str d))
