-- An entry that is found by its number has that number.
use Rattle.std.proofs.Common.{◌≡◌, ℕ, eqb, List, [], ◌∷◌, Some, ap, ◌∙◌, inl, inr}
use Rattle.std.proofs.lemmas.Bool.{eqb-true}
use Rattle.det_cbor.specs.ResultLaws.{chosen}
use Rattle.suit_params.specs.Numbering.{numbered_in}

pub numbered_has : {A : Type 0} (number : A → ℕ) (all : List A) (n : ℕ) (found : A) → numbered_in number all n ≡ Some found → n ≡ number found
numbered_has number [] n found e = absurd cc
numbered_has number (a ∷ others) n found e =
    elim (chosen (eqb n (number a)) (Some a) (numbered_in number others n) (Some found) e) [
      | inl (is, f) ↦ let same : a ≡ found = cc in eqb-true n (number a) is ∙ ap number same
      | inr (other, f) ↦ numbered_has number others n found f
    ]
