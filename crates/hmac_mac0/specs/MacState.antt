-- The meaning of a MAC that is being computed: it was started under the key, and has taken this much of the
-- message.
use Rattle.std.specs.Prelude.{◌≡◌, ℕ, List, ◌++◌}
use Rattle.sha2.specs.Hashers.{Holds256, Holds512}
use Rattle.sha2.specs.Sha256.{sha256}
use Rattle.sha2.specs.Sha512.{sha512}
use Rattle.hmac_mac0.specs.Hmac.{key_xor}
use Rattle.hmac_mac0.specs.declared.mac.Mac.{Mac}
use Rattle.hmac_mac0.specs.declared.mac512.Mac512.{Mac512}
use Rattle.hmac_mac0.specs.declared.mac_kind.MacKind.{MacKind}
use Rattle.hmac_mac0.specs.declared.mac_kind.MacKind.TheVariants as macs
use Rattle.hmac_mac0.specs.declared.any_mac.AnyMac.{AnyMac}
use Rattle.hmac_mac0.specs.declared.any_mac.AnyMac.TheVariants as any

-- this holds of an HMAC-SHA-256
unfoldable pub HasTaken : Mac → List ℕ → List ℕ → Type 0
HasTaken mac key message =
    Holds256 mac.inner (key_xor sha256 64 key 0x36 ++ message)
    × (mac.outer ≡ key_xor sha256 64 key 0x5c)

-- this holds of an HMAC-SHA-512
unfoldable pub HasTaken512 : Mac512 → List ℕ → List ℕ → Type 0
HasTaken512 mac key message =
    Holds512 mac.inner (key_xor sha512 128 key 0x36 ++ message)
    × (mac.outer ≡ key_xor sha512 128 key 0x5c)

-- this holds of a MAC by this algorithm
abbrev pub HasTakenBy : MacKind → AnyMac → List ℕ → List ℕ → Type 0
HasTakenBy macs.Hmac256 (any.Hmac256 mac) key message = HasTaken mac key message
HasTakenBy macs.Hmac512 (any.Hmac512 mac) key message = HasTaken512 mac key message
HasTakenBy _ _ key message = ⊥
