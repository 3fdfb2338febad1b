-- Keys of parameters and their numbers.
use Rattle.std.proofs.Common.{◌≡◌, ℕ, Option, Some, None, Ok, Err, refl, ap, ◌∙◌}
use Rattle.det_cbor.specs.DataItem.{DataItem, UnsignedInteger}
use Rattle.det_cbor.specs.ResultLaws.{same_ok, same_err}
use Rattle.suit_params.specs.declared.param.ParamKey.{ParamKey}
use Rattle.suit_params.specs.declared.param.ParamKey.TheVariants as keys
use Rattle.suit_params.specs.declared.refusal.Refusal.{Refusal}
use Rattle.suit_params.specs.declared.refusal.Why.TheVariants.{UnknownParam}
use Rattle.suit_params.specs.Refusing.{refused}
use Rattle.suit_params.specs.ParamKeys.{key_number, key_item, all_keys, numbered}
use Rattle.suit_params.specs.ParamJudging.{known_param, judge_key}
use Rattle.suit_params.proofs.Numbered.{numbered_has}

-- each key is found by its number
pub numbered_again : (key : ParamKey) → numbered (key_number key) ≡ Some key
numbered_again keys.Vendor = refl
numbered_again _ = refl

-- a key that was found has the number
pub numbered_ok : (n : ℕ) (key : ParamKey) → numbered n ≡ Some key → n ≡ key_number key
numbered_ok n key e = numbered_has key_number all_keys n key e

pub key_ok : (place : ℕ) (x : DataItem) (key : ParamKey) → judge_key place x ≡ Ok key → x ≡ key_item key
key_ok place (UnsignedInteger n) key e = by_answer (numbered n) refl e
  where
    by_answer : (o : Option ParamKey) → numbered n ≡ o → known_param place o ≡ Ok key → UnsignedInteger n ≡ key_item key
    by_answer (Some k) is f = ap UnsignedInteger (numbered_ok n key (is ∙ ap Some (same_ok k key f)))
    by_answer None is f = absurd cc
key_ok place _ key e = absurd cc

pub key_again : (place : ℕ) (key : ParamKey) → judge_key place (key_item key) ≡ Ok key
key_again place key = ap (known_param place) (numbered_again key)

none_found : (o : Option ParamKey) (place : ℕ) (r : Refusal) → known_param place o ≡ Err r → (o ≡ None) × (refused place UnknownParam ≡ r)
none_found (Some k) place r e = absurd cc
none_found None place r e = (refl, same_err _ r e)

found_or : (o : Option ParamKey) → ((key : ParamKey) → o ≡ Some key → ⊥) → o ≡ None
found_or (Some k) none = absurd (none k refl)
found_or None none = refl

abbrev pub IsOtherKey : DataItem → Type 0
IsOtherKey x = (known : ParamKey) → x ≡ key_item known → ⊥

number_of : DataItem → ℕ
number_of (UnsignedInteger n) = n
number_of _ = 0

unknown_number : (n : ℕ) → numbered n ≡ None → IsOtherKey (UnsignedInteger n)
unfolding number_of
unknown_number n none known is =
    let same : n ≡ key_number known = ap number_of is in
    let found : numbered n ≡ Some known = ap numbered same ∙ numbered_again known in
    absurd cc

pub key_err : (place : ℕ) (x : DataItem) (r : Refusal) → judge_key place x ≡ Err r → IsOtherKey x × (refused place UnknownParam ≡ r)
key_err place (UnsignedInteger n) r e = let none = none_found (numbered n) place r e in (unknown_number n none.0, none.1)
key_err place x r e = (λ known is. absurd cc, same_err _ r e)

pub key_refused : (place : ℕ) (x : DataItem) → IsOtherKey x → judge_key place x ≡ Err (refused place UnknownParam)
key_refused place (UnsignedInteger n) other = let none : numbered n ≡ None = found_or (numbered n) (λ key is. other key (ap UnsignedInteger (numbered_ok n key is))) in rw none refl
key_refused place _ other = refl
