-- Keys are ordered as their numbers are.
use Rattle.std.proofs.Common.{◌≡◌, ℕ, ◌<◌, ◌^◌, true, false, Some, refl, sym, ap, ◌∙◌, arith, inl, inr}
use Rattle.std.specs.Ordering.{is_lt, nat_cmp}
use Rattle.std.specs.Cmp.Lexicographic.{slice_cmp}
use Rattle.std.proofs.lemmas.Bool.{cases_lt}
use Rattle.det_cbor.specs.DataItem.{UnsignedInteger, spell, IsAbove}
use Rattle.det_cbor.specs.ItemOrder.{item_order}
use Rattle.det_cbor.proofs.Cuts.{Cuts-order, cmp_less, cmp_same, cmp_greater}
use Rattle.det_cbor.proofs.ItemCuts.{items_cut_apart}
use Rattle.suit_params.specs.declared.param.ParamKey.{ParamKey}
use Rattle.suit_params.specs.declared.param.ParamKey.TheVariants as keys
use Rattle.suit_params.specs.ParamKeys.{key_number}

-- numbers are ordered as their spellings are
number_order : (m n : ℕ) → m < 2 ^ 64 → n < 2 ^ 64 → slice_cmp nat_cmp (spell (UnsignedInteger m)) (spell (UnsignedInteger n)) ≡ item_order (UnsignedInteger m) (UnsignedInteger n)
number_order m n m-fits n-fits = Cuts-order (item_order (UnsignedInteger m) (UnsignedInteger n)) (spell (UnsignedInteger m)) (spell (UnsignedInteger n)) (items_cut_apart 0 0 (UnsignedInteger m) (UnsignedInteger n) m-fits n-fits)

pub number_above : (m n : ℕ) → m < 2 ^ 64 → n < 2 ^ 64 → IsAbove (Some (spell (UnsignedInteger m))) (spell (UnsignedInteger n)) → m < n
number_above m n m-fits n-fits above =
    let less : is_lt (item_order (UnsignedInteger m) (UnsignedInteger n)) ≡ true = ap is_lt (sym (number_order m n m-fits n-fits)) ∙ above in
    elim (cases_lt m n) [
      | inl lt ↦ lt
      | inr ge ↦ elim (cases_lt n m) [
        | inl gt ↦ let no : is_lt (item_order (UnsignedInteger m) (UnsignedInteger n)) ≡ false = rw (cmp_greater m n gt) refl in absurd cc
        | inr le ↦
            let same : m ≡ n = omega arith in
            let no : is_lt (item_order (UnsignedInteger m) (UnsignedInteger n)) ≡ false = rw (same, cmp_same n) refl in
            absurd cc
      ]
    ]

pub above_number : (m n : ℕ) → m < 2 ^ 64 → n < 2 ^ 64 → m < n → IsAbove (Some (spell (UnsignedInteger m))) (spell (UnsignedInteger n))
above_number m n m-fits n-fits lt = ap is_lt (number_order m n m-fits n-fits) ∙ rw (cmp_less m n lt) refl

pub key_small : (key : ParamKey) → key_number key < 2 ^ 64
key_small keys.Vendor = omega arith
key_small keys.Class = omega arith
key_small keys.Device = omega arith
key_small keys.Digest = omega arith
key_small keys.Slot = omega arith
key_small keys.Strict = omega arith
key_small keys.Soft = omega arith
key_small keys.Size = omega arith
key_small keys.Content = omega arith
key_small keys.Uri = omega arith
key_small keys.Source = omega arith
key_small keys.Args = omega arith
