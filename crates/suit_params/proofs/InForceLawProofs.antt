-- Keys have cells of their own, and parameters in force have their values.
use Rattle.std.proofs.Common.{◌≡◌, ◌≢◌, ◌<◌, ℕ, List, length, Option, Some, None, refl, sym, ap, ◌∙◌, arith, inl, inr, ◌⊎◌}
use Rattle.std.specs.Prelude.{slice_get}
use Rattle.std.proofs.lemmas.List.{get_or-replicate, length-replicate}
use Rattle.std.proofs.lemmas.Option.{same_Some}
use Rattle.suit_params.specs.declared.digest.Digest.{Digest}
use Rattle.suit_params.specs.declared.param.Param.{Param}
use Rattle.suit_params.specs.declared.param.Param.TheVariants as params
use Rattle.suit_params.specs.declared.param.ParamKey.{ParamKey}
use Rattle.suit_params.specs.declared.param.ParamKey.TheVariants as keys
use Rattle.suit_params.specs.InForce.{Parameters, rank, cell, none_in_force, with_param, in_force, identifier_of, number_of, digest_of, bytes_of}
use Rattle.suit_params.specs.InForceLaws.{HasIdentifier, HasNumber, HasDigest, HasBytes, InForceLaws}
use Rattle.suit_params.specs.ParamKeys.{key_of, all_keys}
use Rattle.suit_params.proofs.Overriding.{within, in_force_is, at_same, at_other}

-- ---- cells

-- the keys are in the order of their cells
key_again : (key : ParamKey) → slice_get all_keys (rank key) ≡ Some key
key_again keys.Vendor = refl
key_again _ = refl

own_cell : (j k : ParamKey) → rank j ≡ rank k → j ≡ k
own_cell j k e = same_Some j k (sym (key_again j) ∙ ap (slice_get all_keys) e ∙ key_again k)

at_first : (component : ℕ) (key : ParamKey) → component < 8 → in_force none_in_force component key ≡ None
unfolding none_in_force
at_first component key low =
    in_force_is none_in_force component key (length-replicate {A = Option Param} 96 None) low ∙ get_or-replicate {A = Option Param} 96 (cell component key) None None (within component key low)

put : (ps : Parameters) (component : ℕ) (p : Param) → length ps ≡ 96 → component < 8 → in_force (with_param ps component p) component (key_of p) ≡ Some p
put ps component p full low = at_same ps component p (key_of p) full low refl

others : (ps : Parameters) (component : ℕ) (p : Param) (key : ParamKey) → length ps ≡ 96 → component < 8 → key ≢ key_of p
    → in_force (with_param ps component p) component key ≡ in_force ps component key
others ps component p key full low apart = at_other ps component component p key full low (λ e. apart (own_cell key (key_of p) (omega (arith, e))))

-- ---- values

-- a parameter made in one of three ways has the value that it was made from
made_of : {V : Type 0} (value : Option Param → Option V) (p : Param) (v : V) (first second third : V → Param) → value (Some (first v)) ≡ Some v → value (Some (second v)) ≡ Some v → value (Some (third v)) ≡ Some v
    → (p ≡ first v) ⊎ (p ≡ second v) ⊎ (p ≡ third v) → value (Some p) ≡ Some v
made_of value p v first second third one two three (inl e) = ap (λ (q : Param). value (Some q)) e ∙ one
made_of value p v first second third one two three (inr (inl e)) = ap (λ (q : Param). value (Some q)) e ∙ two
made_of value p v first second third one two three (inr (inr e)) = ap (λ (q : Param). value (Some q)) e ∙ three

identifier_is : (p : Param) (id : List ℕ) → identifier_of (Some p) ≡ Some id → HasIdentifier p id
identifier_is (params.Vendor x) id e = inl (ap params.Vendor (same_Some x id e))
identifier_is (params.Class x) id e = inr (inl (ap params.Class (same_Some x id e)))
identifier_is (params.Device x) id e = inr (inr (ap params.Device (same_Some x id e)))
identifier_is _ id e = absurd cc

identifier_has : (p : Param) (id : List ℕ) → HasIdentifier p id → identifier_of (Some p) ≡ Some id
identifier_has p id has = made_of identifier_of p id (λ v. params.Vendor v) (λ v. params.Class v) (λ v. params.Device v) refl refl refl has

number_has : (p : Param) (n : ℕ) → HasNumber p n → number_of (Some p) ≡ Some n
number_has p n has = made_of number_of p n (λ v. params.Slot v) (λ v. params.Size v) (λ v. params.Source v) refl refl refl has

number_is : (p : Param) (n : ℕ) → number_of (Some p) ≡ Some n → HasNumber p n
number_is (params.Slot x) n e = inl (ap params.Slot (same_Some x n e))
number_is (params.Size x) n e = inr (inl (ap params.Size (same_Some x n e)))
number_is (params.Source x) n e = inr (inr (ap params.Source (same_Some x n e)))
number_is _ n e = absurd cc

digest_has : (p : Param) (digest : Digest) → HasDigest p digest → digest_of (Some p) ≡ Some digest
digest_has p digest e = ap (λ (q : Param). digest_of (Some q)) e

digest_is : (p : Param) (digest : Digest) → digest_of (Some p) ≡ Some digest → HasDigest p digest
digest_is (params.Digest x) digest e = ap params.Digest (same_Some x digest e)
digest_is _ digest e = absurd cc

bytes_has : (p : Param) (bytes : List ℕ) → HasBytes p bytes → bytes_of (Some p) ≡ Some bytes
bytes_has p bytes has = made_of bytes_of p bytes (λ v. params.Content v) (λ v. params.Uri v) (λ v. params.Args v) refl refl refl has

bytes_is : (p : Param) (bytes : List ℕ) → bytes_of (Some p) ≡ Some bytes → HasBytes p bytes
bytes_is (params.Content x) bytes e = inl (ap params.Content (same_Some x bytes e))
bytes_is (params.Uri x) bytes e = inr (inl (ap params.Uri (same_Some x bytes e)))
bytes_is (params.Args x) bytes e = inr (inr (ap params.Args (same_Some x bytes e)))
bytes_is _ bytes e = absurd cc

pub in_force_laws : InForceLaws
in_force_laws = record {
  own_cell = own_cell;
  at_first = at_first;
  put = put;
  others = others;
  identifiers = record { none = refl; is = λ p id. (identifier_is p id, identifier_has p id) };
  numbers = record { none = refl; is = λ p n. (number_is p n, number_has p n) };
  digests = record { none = refl; is = λ p digest. (digest_is p digest, digest_has p digest) };
  bytes = record { none = refl; is = λ p bytes. (bytes_is p bytes, bytes_has p bytes) };
  digest = record { none = λ ps component e. ap digest_of e; is = λ ps component digest e. ap digest_of e };
  size = record { none = λ ps component e. ap number_of e; is = λ ps component size e. ap number_of e };
}
