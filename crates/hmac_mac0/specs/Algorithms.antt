-- The algorithms of a COSE_Mac0 (RFC 9053, section 3.1).
use Rattle.std.specs.Prelude.{ℕ, List}
use Rattle.hmac_mac0.specs.Hmac.{hmac_of, hmac512_of}
use Rattle.hmac_mac0.specs.declared.mac_kind.MacKind.{MacKind}
use Rattle.hmac_mac0.specs.declared.mac_kind.MacKind.TheVariants as macs

-- HMAC 256/256 is 5, and HMAC 512/512 is 7
abbrev pub number_of : MacKind → ℕ
number_of macs.Hmac256 = 5
number_of macs.Hmac512 = 7

-- the length of a tag in bytes
abbrev pub size_of : MacKind → ℕ
size_of macs.Hmac256 = 32
size_of macs.Hmac512 = 64

-- the whole MAC of a message, by SHA-256 or by SHA-512
abbrev pub mac_of : MacKind → List ℕ → List ℕ → List ℕ
mac_of macs.Hmac256 key message = hmac_of key message
mac_of macs.Hmac512 key message = hmac512_of key message
