-- Digests of bytes by the hash functions (FIPS 180-4).
use Rattle.std.specs.Prelude.{ℕ, Bool, List}
use Rattle.std.specs.Str.{bytes_eq}
use Rattle.sha2.specs.Sha256.{sha256}
use Rattle.sha2.specs.Sha512.{sha384, sha512}
use Rattle.suit_params.specs.declared.digest.Digest.{Digest}
use Rattle.suit_params.specs.declared.digest.Digest.TheVariants as digests
use Rattle.suit_params.specs.declared.digest_kind.DigestKind.{DigestKind}
use Rattle.suit_params.specs.declared.digest_kind.DigestKind.TheVariants as kinds
use Rattle.suit_params.specs.DigestBytes.{digest_bytes, digest_kind}

-- the digest of bytes by a hash function
abbrev pub hash : DigestKind → List ℕ → Digest
hash kinds.Sha256 bytes = digests.Sha256 (sha256 bytes)
hash kinds.Sha384 bytes = digests.Sha384 (sha384 bytes)
hash kinds.Sha512 bytes = digests.Sha512 (sha512 bytes)

-- the digest of bytes by the hash function of this digest
abbrev pub hash_like : Digest → List ℕ → Digest
hash_like digest bytes = hash (digest_kind digest) bytes

-- whether the bytes have this digest
abbrev pub has_digest : Digest → List ℕ → Bool
has_digest digest bytes = bytes_eq (digest_bytes (hash_like digest bytes)) (digest_bytes digest)
