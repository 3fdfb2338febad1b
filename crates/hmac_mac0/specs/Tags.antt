-- The tags of both algorithms.
use Rattle.std.specs.Prelude.{ℕ, List}
use Rattle.hmac_mac0.specs.declared.mac_tag.MacTag.{MacTag}
use Rattle.hmac_mac0.specs.declared.mac_tag.MacTag.TheVariants as tags

abbrev pub tag_bytes : MacTag → List ℕ
tag_bytes (tags.Hmac256 bytes) = bytes
tag_bytes (tags.Hmac512 bytes) = bytes
