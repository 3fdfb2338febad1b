-- A digest by its hash function and its bytes.
use Rattle.std.specs.Prelude.{◌≡◌, ℕ, List, length, Option, option_map}
use Rattle.std.specs.List.{AllByRecursion}
use Rattle.det_cbor.specs.DataItem.{IsByte}
use Rattle.suit_params.specs.declared.digest.Digest.{Digest}
use Rattle.suit_params.specs.declared.digest.Digest.TheVariants as digests
use Rattle.suit_params.specs.declared.digest_kind.DigestKind.{DigestKind}
use Rattle.suit_params.specs.declared.digest_kind.DigestKind.TheVariants as kinds
use Rattle.suit_params.specs.DigestKinds.{size_of, kind_of_length}

abbrev pub digest_bytes : Digest → List ℕ
digest_bytes (digests.Sha256 bytes) = bytes
digest_bytes (digests.Sha384 bytes) = bytes
digest_bytes (digests.Sha512 bytes) = bytes

abbrev pub digest_kind : Digest → DigestKind
digest_kind (digests.Sha256 bytes) = kinds.Sha256
digest_kind (digests.Sha384 bytes) = kinds.Sha384
digest_kind (digests.Sha512 bytes) = kinds.Sha512

abbrev pub digest_by : DigestKind → List ℕ → Digest
digest_by kinds.Sha256 bytes = digests.Sha256 bytes
digest_by kinds.Sha384 bytes = digests.Sha384 bytes
digest_by kinds.Sha512 bytes = digests.Sha512 bytes

-- the digest has the length of its hash function
abbrev pub IsLong : Digest → Type 0
IsLong digest = length (digest_bytes digest) ≡ size_of (digest_kind digest)

-- the same, and its elements are bytes
abbrev pub IsDigestBytes : Digest → Type 0
IsDigestBytes digest = IsLong digest × AllByRecursion IsByte (digest_bytes digest)

-- the digest with these bytes, if a hash function has digests of their length
abbrev pub as_digest : List ℕ → Option Digest
as_digest bytes = option_map (λ kind. digest_by kind bytes) (kind_of_length (length bytes))
