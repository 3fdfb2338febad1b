-- The numbers of hash functions, and the arrays of digests.
use Rattle.std.proofs.Common.{◌≡◌, ◌≢◌, ℕ, false, eqb, List, Option, Some, None, refl, sym, ap, ◌∙◌, inl, inr}
use Rattle.std.proofs.lemmas.Bool.{eqb-true, ne_eqb}
use Rattle.det_cbor.specs.DataItem.{NegativeInteger}
use Rattle.det_cbor.specs.ResultLaws.{chosen}
use Rattle.suit_params.specs.declared.digest_kind.DigestKind.{DigestKind}
use Rattle.suit_params.specs.declared.digest_kind.DigestKind.TheVariants as kinds
use Rattle.suit_params.specs.DigestBytes.{digest_by}
use Rattle.suit_params.specs.DigestKinds.{argument_of, algorithm_item, kind_of}
use Rattle.suit_params.specs.Digests.{array_of, digest_item}

pub kind_again : (kind : DigestKind) → kind_of (argument_of kind) ≡ Some kind
kind_again kinds.Sha256 = refl
kind_again kinds.Sha384 = refl
kind_again kinds.Sha512 = refl

same_some : (a b : DigestKind) → ◌≡◌ {A = Option DigestKind} (Some a) (Some b) → a ≡ b
same_some a b e = cc

-- a number that stands for a hash function
pub number_is : (n : ℕ) (kind : DigestKind) → kind_of n ≡ Some kind → n ≡ argument_of kind
number_is n kind e =
    elim (chosen (eqb n 15) (Some kinds.Sha256) _ (Some kind) e) [
      | inl (is, same) ↦ eqb-true _ _ is ∙ ap argument_of (same_some _ _ same)
      | inr (not_256, f) ↦ elim (chosen (eqb n 42) (Some kinds.Sha384) _ (Some kind) f) [
        | inl (is, same) ↦ eqb-true _ _ is ∙ ap argument_of (same_some _ _ same)
        | inr (not_384, g) ↦ elim (chosen (eqb n 43) (Some kinds.Sha512) None (Some kind) g) [
          | inl (is, same) ↦ eqb-true _ _ is ∙ ap argument_of (same_some _ _ same)
          | inr (not_512, h) ↦ absurd cc
        ]
      ]
    ]

pub no_kind : (n : ℕ) → ((kind : DigestKind) → NegativeInteger n ≢ algorithm_item kind) → kind_of n ≡ None
no_kind n other =
    let a : eqb n 15 ≡ false = ne_eqb n 15 (λ e. other kinds.Sha256 (ap NegativeInteger e)) in
    let b : eqb n 42 ≡ false = ne_eqb n 42 (λ e. other kinds.Sha384 (ap NegativeInteger e)) in
    let c : eqb n 43 ≡ false = ne_eqb n 43 (λ e. other kinds.Sha512 (ap NegativeInteger e)) in
    rw (a, b, c) refl

pub no_number : (n : ℕ) (kind : DigestKind) → kind_of n ≡ None → NegativeInteger n ≢ algorithm_item kind
no_number n kind none e =
    let same : n ≡ argument_of kind = cc in
    let never : ◌≡◌ {A = Option DigestKind} (Some kind) None = sym (kind_again kind) ∙ ap kind_of (sym same) ∙ none in
    absurd cc

-- the array of a digest
pub item_by : (kind : DigestKind) (bytes : List ℕ) → digest_item (digest_by kind bytes) ≡ array_of kind bytes
item_by kinds.Sha256 bytes = refl
item_by kinds.Sha384 bytes = refl
item_by kinds.Sha512 bytes = refl
