-- Digests in hexadecimal digits.
use Rattle.std.specs.Prelude.{Result}
use Rattle.det_cbor.specs.HeadReading.{◌>>=◌}
use Rattle.serde_json.specs.Data.{Data}
use Rattle.json_fields.specs.declared.flaw.Flaw.{Flaw}
use Rattle.json_fields.specs.declared.flaw.FlawKind.TheVariants.{Hex}
use Rattle.json_fields.specs.Flaws.{found_or}
use Rattle.json_fields.specs.Values.{hex_of}
use Rattle.suit_params.specs.declared.digest.Digest.{Digest}
use Rattle.suit_params.specs.DigestBytes.{as_digest}

-- a digest has as many bytes as one of the hash functions gives
abbrev pub digest_spelled : Data → Result Digest Flaw
digest_spelled d = hex_of d >>= λ bytes. found_or Hex (as_digest bytes)
