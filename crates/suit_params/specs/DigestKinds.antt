-- The hash functions of digests (RFC 9054, section 2): their numbers in COSE, and the lengths of their
-- digests.
use Rattle.std.specs.Prelude.{ℕ, ◌==◌, if◌then◌else◌, Option, Some, None}
use Rattle.det_cbor.specs.DataItem.{DataItem, NegativeInteger}
use Rattle.suit_params.specs.declared.digest_kind.DigestKind.{DigestKind}
use Rattle.suit_params.specs.declared.digest_kind.DigestKind.TheVariants as kinds

-- the length of a digest in bytes
abbrev pub size_of : DigestKind → ℕ
size_of kinds.Sha256 = 32
size_of kinds.Sha384 = 48
size_of kinds.Sha512 = 64

-- the arguments of -16, -43 and -44, which stand for them in COSE
abbrev pub argument_of : DigestKind → ℕ
argument_of kinds.Sha256 = 15
argument_of kinds.Sha384 = 42
argument_of kinds.Sha512 = 43

-- the negative integer that stands for the hash function in COSE
abbrev pub algorithm_item : DigestKind → DataItem
algorithm_item kind = NegativeInteger (argument_of kind)

-- the hash function whose number in COSE has this argument
abbrev pub kind_of : ℕ → Option DigestKind
kind_of n =
    if n == 15 then Some kinds.Sha256
    else if n == 42 then Some kinds.Sha384
    else if n == 43 then Some kinds.Sha512
    else None

-- the hash function whose digests have this length
abbrev pub kind_of_length : ℕ → Option DigestKind
kind_of_length n =
    if n == 32 then Some kinds.Sha256
    else if n == 48 then Some kinds.Sha384
    else if n == 64 then Some kinds.Sha512
    else None

-- the length of the array of the number and the digest
abbrev pub spelled_size : DigestKind → ℕ
spelled_size kinds.Sha256 = 36
spelled_size kinds.Sha384 = 53
spelled_size kinds.Sha512 = 69
