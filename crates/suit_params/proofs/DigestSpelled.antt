-- How a digest is spelled: it is a string, and valid.
use Rattle.std.proofs.Common.{◌≡◌, ℕ, ◌<◌, ◌^◌, List, [], ◌∷◌, ◌++◌, length, sym, ap, subst, ◌∙◌, refl, arith, append_assoc}
use Rattle.std.specs.List.{AllByRecursion}
use Rattle.std.proofs.lemmas.List.{append-nil}
use Rattle.det_cbor.specs.Heads.{head_bytes}
use Rattle.det_cbor.specs.DataItem.{ByteString, spell, IsByte, IsString, IsValidWithin}
use Rattle.suit_params.specs.declared.digest_kind.DigestKind.{DigestKind}
use Rattle.suit_params.specs.declared.digest_kind.DigestKind.TheVariants as kinds
use Rattle.suit_params.specs.declared.digest.Digest.{Digest}
use Rattle.suit_params.specs.DigestBytes.{digest_bytes, digest_kind, IsDigestBytes}
use Rattle.suit_params.specs.DigestKinds.{size_of, argument_of, spelled_size}
use Rattle.suit_params.specs.Digests.{array_of, digest_item}

-- the heads of an array, of the number and of a byte string
abbrev front : DigestKind → List ℕ
front kinds.Sha256 = 130 ∷ 47 ∷ 88 ∷ 32 ∷ []
front kinds.Sha384 = 130 ∷ 56 ∷ 42 ∷ 88 ∷ 48 ∷ []
front kinds.Sha512 = 130 ∷ 56 ∷ 43 ∷ 88 ∷ 64 ∷ []

by_spelled : (kind : DigestKind) (d : List ℕ) → length d ≡ size_of kind → spell (array_of kind d) ≡ front kind ++ d
unfolding head_bytes
by_spelled kinds.Sha256 d long = let head : head_bytes 2 (length d) ≡ 88 ∷ 32 ∷ [] = ap (head_bytes 2) long in rw (head, append-nil d) refl
by_spelled kinds.Sha384 d long = let head : head_bytes 2 (length d) ≡ 88 ∷ 48 ∷ [] = ap (head_bytes 2) long in rw (head, append-nil d) refl
by_spelled kinds.Sha512 d long = let head : head_bytes 2 (length d) ≡ 88 ∷ 64 ∷ [] = ap (head_bytes 2) long in rw (head, append-nil d) refl

by_length : (kind : DigestKind) (d : List ℕ) → length d ≡ size_of kind → length (spell (array_of kind d)) ≡ spelled_size kind
by_length kinds.Sha256 d long = ap length (by_spelled kinds.Sha256 d long) ∙ omega (arith, long)
by_length kinds.Sha384 d long = ap length (by_spelled kinds.Sha384 d long) ∙ omega (arith, long)
by_length kinds.Sha512 d long = ap length (by_spelled kinds.Sha512 d long) ∙ omega (arith, long)

front_bytes : (kind : DigestKind) (d : List ℕ) → AllByRecursion IsByte d → AllByRecursion IsByte (front kind ++ d)
front_bytes kinds.Sha256 d all = (omega arith, (omega arith, (omega arith, (omega arith, all))))
front_bytes kinds.Sha384 d all = (omega arith, (omega arith, (omega arith, (omega arith, (omega arith, all)))))
front_bytes kinds.Sha512 d all = (omega arith, (omega arith, (omega arith, (omega arith, (omega arith, all)))))

few : (kind : DigestKind) → spelled_size kind < 2 ^ 64
few kinds.Sha256 = omega arith
few kinds.Sha384 = omega arith
few kinds.Sha512 = omega arith

by_string : (kind : DigestKind) (d : List ℕ) → length d ≡ size_of kind → AllByRecursion IsByte d → IsString (spell (array_of kind d))
by_string kind d long all = (omega (arith, by_length kind d long, few kind), subst (AllByRecursion IsByte) (sym (by_spelled kind d long)) (front_bytes kind d all))

by_valid : (levels : ℕ) (kind : DigestKind) (d : List ℕ) → levels < 16 → length d ≡ size_of kind → AllByRecursion IsByte d → IsValidWithin levels (array_of kind d)
by_valid levels kinds.Sha256 d inside long all = (inside, omega arith, (omega arith, ((omega (arith, long), all), tt)))
by_valid levels kinds.Sha384 d inside long all = (inside, omega arith, (omega arith, ((omega (arith, long), all), tt)))
by_valid levels kinds.Sha512 d inside long all = (inside, omega arith, (omega arith, ((omega (arith, long), all), tt)))

regrouped : (out a b c : List ℕ) → ((out ++ a) ++ b) ++ c ≡ out ++ (a ++ (b ++ c))
regrouped out a b c = simp append_assoc

-- ---- a digest

pub digest_string : (d : Digest) → IsDigestBytes d → IsString (spell (digest_item d))
digest_string d fits = by_string (digest_kind d) (digest_bytes d) fits.0 fits.1

pub digest_valid : (levels : ℕ) (d : Digest) → levels < 16 → IsDigestBytes d → IsValidWithin levels (digest_item d)
digest_valid levels d inside fits = by_valid levels (digest_kind d) (digest_bytes d) inside fits.0 fits.1

-- the pieces of a digest's array
pub array_written : (out : List ℕ) (kind : DigestKind) (bytes : List ℕ)
    → ((out ++ head_bytes 4 2) ++ head_bytes 1 (argument_of kind)) ++ spell (ByteString bytes) ≡ out ++ spell (array_of kind bytes)
array_written out kind bytes =
    let number = head_bytes 1 (argument_of kind) in
    let all : spell (array_of kind bytes) ≡ head_bytes 4 2 ++ (number ++ spell (ByteString bytes)) = ap (λ (r : List ℕ). head_bytes 4 2 ++ (number ++ r)) (append-nil (spell (ByteString bytes))) in
    regrouped out (head_bytes 4 2) number (spell (ByteString bytes)) ∙ sym (ap (λ (r : List ℕ). out ++ r) all)

-- the head of a byte string that holds a digest, and the digest's array
pub held_written : (out : List ℕ) (d : Digest) → IsDigestBytes d
    → (out ++ head_bytes 2 (spelled_size (digest_kind d))) ++ spell (digest_item d) ≡ out ++ spell (ByteString (spell (digest_item d)))
held_written out d fits =
    let size = spelled_size (digest_kind d) in
    let held : spell (ByteString (spell (digest_item d))) ≡ head_bytes 2 size ++ spell (digest_item d) = ap (λ (n : ℕ). head_bytes 2 n ++ spell (digest_item d)) (by_length (digest_kind d) (digest_bytes d) fits.0) in
    append_assoc out (head_bytes 2 size) (spell (digest_item d)) ∙ sym (ap (λ (r : List ℕ). out ++ r) held)
