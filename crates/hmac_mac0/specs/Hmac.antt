-- HMAC (RFC 2104, section 2), over a hash function (FIPS 180-4) and the length of its blocks in bytes.
use Rattle.std.specs.Prelude.{ℕ, ◌-◌, List, ◌++◌, length, map, replicate, nat_le, if◌then◌else◌, bit_xor}
use Rattle.sha2.specs.Sha256.{sha256}
use Rattle.sha2.specs.Sha512.{sha512}

-- a key that is longer than a block is hashed first
abbrev pub short_key : (List ℕ → List ℕ) → ℕ → List ℕ → List ℕ
short_key hash block key = if nat_le (length key) block then key else hash key

-- the key, padded with zeros to a block
abbrev pub padded_key : (List ℕ → List ℕ) → ℕ → List ℕ → List ℕ
padded_key hash block key =
    short_key hash block key ++ replicate (block - length (short_key hash block key)) 0

-- the block of the key, with each byte XORed with this one
abbrev pub key_xor : (List ℕ → List ℕ) → ℕ → List ℕ → ℕ → List ℕ
key_xor hash block key byte = map (λ b. bit_xor b byte) (padded_key hash block key)

-- H(K xor opad, H(K xor ipad, text))
abbrev pub hmac_by : (List ℕ → List ℕ) → ℕ → List ℕ → List ℕ → List ℕ
hmac_by hash block key message =
    hash (key_xor hash block key 0x5c ++ hash (key_xor hash block key 0x36 ++ message))

-- HMAC-SHA-256: SHA-256 takes blocks of 64 bytes
unfoldable pub hmac_of : List ℕ → List ℕ → List ℕ
hmac_of key message = hmac_by sha256 64 key message

-- HMAC-SHA-512: SHA-512 takes blocks of 128 bytes
unfoldable pub hmac512_of : List ℕ → List ℕ → List ℕ
hmac512_of key message = hmac_by sha512 128 key message
