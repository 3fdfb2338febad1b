-- Reading an item as a digest agrees with judging it, and judging agrees with the grammar and the refusals.
use Rattle.std.proofs.Common.{◌≡◌, ◌≢◌, ℕ, ◌+◌, Bool, true, false, cond, eqb, List, [], ◌++◌, length, Option, Some, None, Result, Ok, Err, refl, sym, ap, subst, ◌∙◌, inl, inr}
use Rattle.std.proofs.lemmas.Bool.{eqb-true, eqb-false, ne_eqb}
use Rattle.std.proofs.lemmas.List.{append-nil}
use Rattle.det_cbor.specs.Heads.{head_bytes}
use Rattle.det_cbor.specs.DataItem.{DataItem, UnsignedInteger, NegativeInteger, ByteString, spell, IsValidWithin}
use Rattle.det_cbor.specs.HeadReading.{◌>>=◌}
use Rattle.det_cbor.specs.ItemOrder.{spell_parts}
use Rattle.det_cbor.specs.Position.{Position}
use Rattle.det_cbor.specs.ResultLaws.{chosen, same_ok, same_err}
use Rattle.suit_params.specs.declared.digest.Digest.{Digest}
use Rattle.suit_params.specs.declared.digest.Digest.TheVariants as digests
use Rattle.suit_params.specs.declared.digest_kind.DigestKind.{DigestKind}
use Rattle.suit_params.specs.declared.digest_kind.DigestKind.TheVariants as kinds
use Rattle.suit_params.specs.declared.refusal.Refusal.{Refusal}
use Rattle.suit_params.specs.declared.refusal.Why.TheVariants.{Shape, Algorithm}
use Rattle.suit_params.specs.Refusing.{refused, IsByteString}
use Rattle.suit_params.specs.Digests.{pair_item, array_of, digest_item, IsDigest, IsPair, IsNumber, first_place, second_place, RefusesDigest, NoPair, NoNumber, OtherAlgorithm, NoByteString, OtherLength}
use Rattle.suit_params.specs.DigestBytes.{digest_by, IsLong}
use Rattle.suit_params.specs.DigestKinds.{size_of, algorithm_item, kind_of}
use Rattle.suit_params.specs.DigestLaws.{long_by}
use Rattle.suit_params.specs.Judging.{judge_value, judge_by, judge_elements, judge_digest}
use Rattle.suit_params.specs.Reading.{array_from}
use Rattle.suit_params.specs.DigestReading.{digest_with, value_at, algorithm_by, algorithm_at, digest_at}
use Rattle.suit_params.specs.HeadLaws.{item_head_read, bytes_again, after}
use Rattle.suit_params.proofs.KindLaws.{number_is, no_kind, no_number, item_by}
use Rattle.suit_params.proofs.DigestCases.{by_pair, by_number, by_bytes}

-- ---- reading

abbrev at_place : List ℕ → ℕ → Position
at_place left place = record { left = left; place = place }

-- a step that depends on a test
by_test : {A B : Type 0} (t : Bool) (r : Result A Refusal) (e : Refusal) (f : A → Result B Refusal) (z : Result B Refusal) → (r >>= f) ≡ z → (cond t r (Err e) >>= f) ≡ cond t z (Err e)
by_test true r e f z is = is
by_test false r e f z is = refl

value_read : (levels array : ℕ) (kind : DigestKind) (p : Position) (b : DataItem) (rest : List ℕ) → IsValidWithin levels b → p.left ≡ spell b ++ rest → (value_at array kind p >>= λ d. Ok d.0) ≡ judge_value array p.place kind b
unfolding value_at
value_read levels array kind p b rest valid is =
    by_bytes (λ (c : DataItem). IsValidWithin levels c → p.left ≡ spell c ++ rest → (value_at array kind p >>= λ d. Ok d.0) ≡ judge_value array p.place kind c)
    (λ bytes v i.
    let q = after p (head_bytes 2 (length bytes)) (bytes ++ rest) in
    let taken = bytes_again q bytes rest refl in
    rw (item_head_read levels p (ByteString bytes) rest v i)
    (by_test (eqb (length bytes) (size_of kind)) (digest_with kind (length bytes) q) (refused array Algorithm) (λ d. Ok d.0) (Ok (digest_by kind bytes)) (rw taken refl)))
    (λ c other v i. rw (item_head_read levels p c rest v i, other.read p.place (after p _ _), other.judged array p.place kind) refl)
    b valid is

elements_read : (levels array : ℕ) (a b : DataItem) (left rest : List ℕ) → IsValidWithin levels a → IsValidWithin levels b → left ≡ spell a ++ (spell b ++ rest)
    → (algorithm_at array (at_place left (first_place array)) >>= λ q. value_at array q.0 q.1 >>= λ d. Ok d.0) ≡ judge_elements array a b
unfolding algorithm_at
elements_read levels array a b left rest valid second is =
    let p = at_place left (first_place array) in
    by_number (λ (c : DataItem). IsValidWithin levels c → left ≡ spell c ++ (spell b ++ rest) → (algorithm_at array p >>= λ q. value_at array q.0 q.1 >>= λ d. Ok d.0) ≡ judge_elements array c b)
    (λ n v i. rw (item_head_read levels p (UnsignedInteger n) (spell b ++ rest) v i) refl)
    (λ n v i. rw (item_head_read levels p (NegativeInteger n) (spell b ++ rest) v i) (by_kind n (kind_of n)))
    (λ c other v i. rw (item_head_read levels p c (spell b ++ rest) v i, other.read array p.place (after p _ _), other.judged array b) refl)
    a valid is
  where
    by_kind : (n : ℕ) (kind : Option DigestKind)
        → (algorithm_by array (after (at_place left (first_place array)) (head_bytes 1 n) (spell b ++ rest)) kind >>= λ q. value_at array q.0 q.1 >>= λ d. Ok d.0) ≡ judge_by array (NegativeInteger n) b kind
    by_kind n None = refl
    by_kind n (Some kind) = value_read levels array kind (after (at_place left (first_place array)) (head_bytes 1 n) (spell b ++ rest)) b rest second refl

pub digest_read : (levels : ℕ) (x : DataItem) (place : ℕ) → IsValidWithin levels x → digest_at (at_place (spell x) place) ≡ judge_digest place x
unfolding digest_at array_from
digest_read levels x place valid =
    by_pair (λ (y : DataItem). IsValidWithin levels y → digest_at (at_place (spell y) place) ≡ judge_digest place y)
    (λ a b v.
    let p = at_place (spell (pair_item a b)) place in
    let left : spell_parts (pair_item a b) ++ [] ≡ spell a ++ (spell b ++ []) = append-nil (spell_parts (pair_item a b)) in
    rw (item_head_read levels p (pair_item a b) [] v (sym (append-nil p.left)))
    (elements_read (levels + 1) place a b (spell_parts (pair_item a b) ++ []) [] v.2.0 v.2.1.0 left))
    (λ y other v. rw (item_head_read levels (at_place (spell y) place) y [] v (sym (append-nil (spell y))), other.read place (after _ _ _), other.judged place) refl)
    x valid

-- ---- judging

-- the parts of a digest that was judged
record Value (b : DataItem) (kind : DigestKind) (d : Digest) : Type 0 where
  bytes : List ℕ
  content : b ≡ ByteString bytes
  long : length bytes ≡ size_of kind
  is : digest_by kind bytes ≡ d

value_ok : (array place : ℕ) (kind : DigestKind) (b : DataItem) (d : Digest) → judge_value array place kind b ≡ Ok d → Value b kind d
value_ok array place kind b d e =
    by_bytes (λ (c : DataItem). judge_value array place kind c ≡ Ok d → Value c kind d)
    (λ bytes f. elim (chosen {A = Result Digest Refusal} (eqb (length bytes) (size_of kind)) (Ok (digest_by kind bytes)) (Err (refused array Algorithm)) (Ok d) f) [
      | inl (is, g) ↦ record { bytes = bytes; content = refl; long = eqb-true _ _ is; is = same_ok (digest_by kind bytes) d g }
      | inr (other, g) ↦ absurd cc
    ])
    (λ c other f. let never = sym (other.judged array place kind) ∙ f in absurd cc)
    b e

record Elements (a b : DataItem) (d : Digest) : Type 0 where
  kind : DigestKind
  first : a ≡ algorithm_item kind
  second : Value b kind d

elements_ok : (array : ℕ) (a b : DataItem) (d : Digest) → judge_elements array a b ≡ Ok d → Elements a b d
elements_ok array a b d e =
    by_number (λ (c : DataItem). judge_elements array c b ≡ Ok d → Elements c b d)
    (λ n f. absurd cc)
    (λ n f. by_kind n (kind_of n) refl f)
    (λ c other f. let never = sym (other.judged array b) ∙ f in absurd cc)
    a e
  where
    by_kind : (n : ℕ) (kind : Option DigestKind) → kind_of n ≡ kind → judge_by array (NegativeInteger n) b kind ≡ Ok d → Elements (NegativeInteger n) b d
    by_kind n None is f = absurd cc
    by_kind n (Some kind) is f = record { kind = kind; first = ap NegativeInteger (number_is n kind is); second = value_ok array (second_place array (NegativeInteger n)) kind b d f }

pub digest_ok : (place : ℕ) (x : DataItem) (d : Digest) → judge_digest place x ≡ Ok d → IsDigest place x d
digest_ok place x d e =
    by_pair (λ (y : DataItem). judge_digest place y ≡ Ok d → IsDigest place y d)
    (λ a b f.
    let parts = elements_ok place a b d f in
    let value = parts.second in
    let array : pair_item a b ≡ array_of parts.kind value.bytes = λ i. pair_item (parts.first i) (value.content i) in
    record {
      is = array ∙ sym (item_by parts.kind value.bytes) ∙ ap digest_item value.is;
      long = subst IsLong value.is (long_by parts.kind value.bytes value.long);
    })
    (λ y other f. let never = sym (other.judged place) ∙ f in absurd cc)
    x e

by_again : (place : ℕ) (d : Digest) → IsLong d → judge_digest place (digest_item d) ≡ Ok d
by_again place (digests.Sha256 bytes) long = let same : eqb (length bytes) 32 ≡ true = rw long refl in rw same refl
by_again place (digests.Sha384 bytes) long = let same : eqb (length bytes) 48 ≡ true = rw long refl in rw same refl
by_again place (digests.Sha512 bytes) long = let same : eqb (length bytes) 64 ≡ true = rw long refl in rw same refl

pub digest_again : (place : ℕ) (x : DataItem) (d : Digest) → IsDigest place x d → judge_digest place x ≡ Ok d
digest_again place x d is = ap (judge_digest place) is.is ∙ by_again place d is.long

value_err : (place : ℕ) (kind : DigestKind) (b : DataItem) (r : Refusal) → judge_value place (second_place place (algorithm_item kind)) kind b ≡ Err r → RefusesDigest place (pair_item (algorithm_item kind) b) r
value_err place kind b r e =
    by_bytes (λ (c : DataItem). judge_value place (second_place place (algorithm_item kind)) kind c ≡ Err r → RefusesDigest place (pair_item (algorithm_item kind) c) r)
    (λ bytes f. elim (chosen {A = Result Digest Refusal} (eqb (length bytes) (size_of kind)) (Ok (digest_by kind bytes)) (Err (refused place Algorithm)) (Err r) f) [
      | inl (is, g) ↦ absurd cc
      | inr (other, g) ↦ subst (RefusesDigest place (array_of kind bytes)) (same_err _ r g) (OtherLength kind bytes (eqb-false _ _ other))
    ])
    (λ c other f. subst (RefusesDigest place (pair_item (algorithm_item kind) c)) (same_err _ r (sym (other.judged place _ kind) ∙ f)) (NoByteString kind c other.other))
    b e

elements_err : (place : ℕ) (a b : DataItem) (r : Refusal) → judge_elements place a b ≡ Err r → RefusesDigest place (pair_item a b) r
elements_err place a b r e =
    by_number (λ (c : DataItem). judge_elements place c b ≡ Err r → RefusesDigest place (pair_item c b) r)
    (λ n f. subst (RefusesDigest place (pair_item (UnsignedInteger n) b)) (same_err _ r f) (OtherAlgorithm (UnsignedInteger n) b tt (λ kind s. absurd cc)))
    (λ n f. by_kind n (kind_of n) refl f)
    (λ c other f. subst (RefusesDigest place (pair_item c b)) (same_err _ r (sym (other.judged place b) ∙ f)) (NoNumber c b other.other))
    a e
  where
    by_kind : (n : ℕ) (kind : Option DigestKind) → kind_of n ≡ kind → judge_by place (NegativeInteger n) b kind ≡ Err r → RefusesDigest place (pair_item (NegativeInteger n) b) r
    by_kind n None is f = subst (RefusesDigest place (pair_item (NegativeInteger n) b)) (same_err _ r f) (OtherAlgorithm (NegativeInteger n) b tt (λ kind. no_number n kind is))
    by_kind n (Some kind) is f =
        subst (λ (k : ℕ). judge_value place (second_place place (NegativeInteger k)) kind b ≡ Err r → RefusesDigest place (pair_item (NegativeInteger k) b) r) (sym (number_is n kind is)) (value_err place kind b r) f

pub digest_err : (place : ℕ) (x : DataItem) (r : Refusal) → judge_digest place x ≡ Err r → RefusesDigest place x r
digest_err place x r e =
    by_pair (λ (y : DataItem). judge_digest place y ≡ Err r → RefusesDigest place y r)
    (λ a b f. elements_err place a b r f)
    (λ y other f. subst (RefusesDigest place y) (same_err _ r (sym (other.judged place) ∙ f)) (NoPair y other.other))
    x e

no_bytes : (place : ℕ) (kind : DigestKind) (b : DataItem) → (IsByteString b → ⊥) → judge_value place (second_place place (algorithm_item kind)) kind b ≡ Err (refused (second_place place (algorithm_item kind)) Shape)
no_bytes place kind b other =
    by_bytes (λ (c : DataItem). (IsByteString c → ⊥) → judge_value place (second_place place (algorithm_item kind)) kind c ≡ Err (refused (second_place place (algorithm_item kind)) Shape)) (λ bytes f. absurd (f tt)) (λ c o f. o.judged place _ kind) b other

pub digest_refused : (place : ℕ) (x : DataItem) (r : Refusal) → RefusesDigest place x r → judge_digest place x ≡ Err r
digest_refused place x r (NoPair y other) = by_pair (λ (z : DataItem). (IsPair z → ⊥) → judge_digest place z ≡ Err (refused place Shape)) (λ a b no_pair. absurd (no_pair tt)) (λ z o no_pair. o.judged place) y other
digest_refused place x r (NoNumber a b other) = by_number (λ (c : DataItem). (IsNumber c → ⊥) → judge_elements place c b ≡ Err (refused (first_place place) Shape)) (λ n f. absurd (f tt)) (λ n f. absurd (f tt)) (λ c o f. o.judged place b) a other
digest_refused place x r (OtherAlgorithm a b number other) =
    by_number (λ (c : DataItem). IsNumber c → ((kind : DigestKind) → c ≢ algorithm_item kind) → judge_elements place c b ≡ Err (refused place Algorithm))
    (λ n i f. refl)
    (λ n i f. rw (no_kind n f) refl)
    (λ c o i f. absurd (o.other i))
    a number other
digest_refused place x r (NoByteString kinds.Sha256 b other) = no_bytes place kinds.Sha256 b other
digest_refused place x r (NoByteString kinds.Sha384 b other) = no_bytes place kinds.Sha384 b other
digest_refused place x r (NoByteString kinds.Sha512 b other) = no_bytes place kinds.Sha512 b other
digest_refused place x r (OtherLength kinds.Sha256 d other) = let no_long : eqb (length d) 32 ≡ false = ne_eqb (length d) 32 other in rw no_long refl
digest_refused place x r (OtherLength kinds.Sha384 d other) = let no_long : eqb (length d) 48 ≡ false = ne_eqb (length d) 48 other in rw no_long refl
digest_refused place x r (OtherLength kinds.Sha512 d other) = let no_long : eqb (length d) 64 ≡ false = ne_eqb (length d) 64 other in rw no_long refl
