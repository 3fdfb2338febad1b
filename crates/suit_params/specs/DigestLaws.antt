-- Laws of digests by their hash functions.
use Rattle.std.proofs.Common.{◌≡◌, ◌↔◌, ◌≤◌, ℕ, true, List, length, Option, Some, None, option_map, refl, sym, ap, ◌∙◌, arith}
use Rattle.std.proofs.lemmas.Slice.Eq.{bytes_eq-Decides}
use Rattle.sha2.proofs.Facts256.{length-sha256}
use Rattle.sha2.proofs.Facts512.{length-sha384, length-sha512}
use Rattle.suit_params.specs.declared.digest.Digest.{Digest}
use Rattle.suit_params.specs.declared.digest.Digest.TheVariants as digests
use Rattle.suit_params.specs.declared.digest_kind.DigestKind.{DigestKind}
use Rattle.suit_params.specs.declared.digest_kind.DigestKind.TheVariants as kinds
use Rattle.suit_params.specs.DigestBytes.{digest_bytes, digest_kind, digest_by, as_digest, IsLong}
use Rattle.suit_params.specs.DigestKinds.{size_of, kind_of_length}
use Rattle.suit_params.specs.Hashes.{hash, hash_like, has_digest}

-- ---- a digest is its hash function and its bytes

pub bytes_back : (kind : DigestKind) (bytes : List ℕ) → digest_bytes (digest_by kind bytes) ≡ bytes
bytes_back kinds.Sha256 bytes = refl
bytes_back kinds.Sha384 bytes = refl
bytes_back kinds.Sha512 bytes = refl

pub kind_back : (kind : DigestKind) (bytes : List ℕ) → digest_kind (digest_by kind bytes) ≡ kind
kind_back kinds.Sha256 bytes = refl
kind_back kinds.Sha384 bytes = refl
kind_back kinds.Sha512 bytes = refl

pub made_again : (digest : Digest) → digest_by (digest_kind digest) (digest_bytes digest) ≡ digest
made_again (digests.Sha256 bytes) = refl
made_again (digests.Sha384 bytes) = refl
made_again (digests.Sha512 bytes) = refl

pub long_by : (kind : DigestKind) (bytes : List ℕ) → length bytes ≡ size_of kind → IsLong (digest_by kind bytes)
long_by kinds.Sha256 bytes long = long
long_by kinds.Sha384 bytes long = long
long_by kinds.Sha512 bytes long = long

-- digests by the same hash function with the same bytes are equal
pub same_digest : (a b : Digest) → digest_kind a ≡ digest_kind b → digest_bytes a ≡ digest_bytes b → a ≡ b
same_digest a b kind bytes =
    sym (made_again a) ∙ ap (λ (k : DigestKind). digest_by k (digest_bytes a)) kind ∙ ap (digest_by (digest_kind b)) bytes ∙ made_again b

-- ---- hashes

pub hash_long : (kind : DigestKind) (bytes : List ℕ) → IsLong (hash kind bytes)
hash_long kinds.Sha256 bytes = length-sha256 bytes
hash_long kinds.Sha384 bytes = length-sha384 bytes
hash_long kinds.Sha512 bytes = length-sha512 bytes

pub hash_kind : (kind : DigestKind) (bytes : List ℕ) → digest_kind (hash kind bytes) ≡ kind
hash_kind kinds.Sha256 bytes = refl
hash_kind kinds.Sha384 bytes = refl
hash_kind kinds.Sha512 bytes = refl

-- hashing by the hash function of a digest of these bytes gives that digest again
pub hash_again : (kind : DigestKind) (bytes : List ℕ) → hash_like (hash kind bytes) bytes ≡ hash kind bytes
hash_again kind bytes = ap (λ (k : DigestKind). hash k bytes) (hash_kind kind bytes)

-- bytes have a digest if and only if its hash function makes it of them
pub has_decides : (digest : Digest) (bytes : List ℕ) → (has_digest digest bytes ≡ true) ↔ (hash_like digest bytes ≡ digest)
has_decides digest bytes =
    let found = hash_like digest bytes in
    let decides = bytes_eq-Decides (digest_bytes found) (digest_bytes digest) in
    (λ is. same_digest found digest (hash_kind (digest_kind digest) bytes) (decides.0 is), λ same. decides.1 (ap digest_bytes same))

-- ---- a digest found by its length

pub size_few : (kind : DigestKind) → size_of kind ≤ 64
size_few kinds.Sha256 = omega arith
size_few kinds.Sha384 = omega arith
size_few kinds.Sha512 = omega arith

pub kind_told : (kind : DigestKind) → kind_of_length (size_of kind) ≡ Some kind
kind_told kinds.Sha256 = refl
kind_told kinds.Sha384 = refl
kind_told kinds.Sha512 = refl

-- a digest is found from its bytes
pub digest_again : (digest : Digest) → IsLong digest → as_digest (digest_bytes digest) ≡ Some digest
digest_again digest long =
    ap (λ (n : ℕ). option_map (λ kind. digest_by kind (digest_bytes digest)) (kind_of_length n)) long
    ∙ ap (option_map (λ kind. digest_by kind (digest_bytes digest))) (kind_told (digest_kind digest))
    ∙ ap (λ (d : Digest). Some d) (made_again digest)

-- a digest that is found from bytes has those bytes
pub from_is : (bytes : List ℕ) (digest : Digest) → as_digest bytes ≡ Some digest → bytes ≡ digest_bytes digest
from_is bytes digest e = by_kind (kind_of_length (length bytes)) e
  where
    by_kind : (kind : Option DigestKind) → option_map (λ k. digest_by k bytes) kind ≡ Some digest → bytes ≡ digest_bytes digest
    by_kind None f = absurd cc
    by_kind (Some kinds.Sha256) f = let same : digests.Sha256 bytes ≡ digest = cc in ap digest_bytes same
    by_kind (Some kinds.Sha384) f = let same : digests.Sha384 bytes ≡ digest = cc in ap digest_bytes same
    by_kind (Some kinds.Sha512) f = let same : digests.Sha512 bytes ≡ digest = cc in ap digest_bytes same
