-- Identifiers of which two are alike.
use Rattle.std.proofs.Common.{◌≢◌, ℕ, List, [], Option, Some, sym, ap, ◌∙◌, arith}
use Rattle.std.specs.Prelude.{slice_get, unwrap_or}
use Rattle.std.proofs.lemmas.Option.{slice_get-get_or, unwrap_or-slice_get}
use Rattle.suit_params.specs.Alike.{HaveOtherIds, HaveNoneAlike, IsFirstAlike}
use Rattle.suit_manifest.specs.Components.{AreApart, AreAlike}

module _ (ids : List (List (List ℕ))) where
  abbrev itself : List (List ℕ) → List (List ℕ)
  itself id = id

  others : (i j : ℕ) → HaveOtherIds itself ids i j → slice_get ids i ≢ slice_get ids j
  others i j other same = other [] (sym (unwrap_or-slice_get ids i []) ∙ ap (λ (o : Option (List (List ℕ))). unwrap_or o []) same ∙ unwrap_or-slice_get ids j [])

  pub apart : HaveNoneAlike itself ids → AreApart ids
  apart none i j before inside = others i j (none i j before inside)

  pub alike : (i j : ℕ) → IsFirstAlike itself ids i j → AreAlike ids i j
  alike i j a = record {
    below = a.first.below;
    inside = a.inside;
    same = slice_get-get_or ids i [] (omega (arith, a.first.below, a.inside)) ∙ ap (λ (id : List (List ℕ)). Some id) (a.first.same []) ∙ sym (slice_get-get_or ids j [] a.inside);
    least_second = λ k l before inside. others k l (a.least k l before inside);
    least_first = λ k before. others k j (a.first.least k before);
  }
