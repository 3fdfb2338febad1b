-- The words of a command line, one after another.
use Rattle.std.proofs.Common.{◌≡◌, ℕ, zero, suc, ◌+◌, List, [], ◌∷◌, ◌++◌, take, Option, Some, None, refl, sym, ap, subst, ◌∙◌, add-one}
use Rattle.std.specs.Prelude.{slice_get}
use Rattle.suit.specs.CommandLine.{IsHandedOn, IsFound, AreHandedOn}

-- one more word
handed_more : (words texts : List (List ℕ)) (word text : List ℕ) → AreHandedOn words texts → IsHandedOn word text → AreHandedOn (words ++ word ∷ []) (texts ++ text ∷ [])
handed_more [] [] word text all one = (one, tt)
handed_more (w ∷ words) (t ∷ texts) word text all one = (all.0, handed_more words texts word text all.1 one)
handed_more [] (t ∷ texts) word text all one = absurd all
handed_more (w ∷ words) [] word text all one = absurd all

take_one_more : (words : List (List ℕ)) (i : ℕ) (word : List ℕ) → slice_get words i ≡ Some word → take (suc i) words ≡ take i words ++ word ∷ []
take_one_more [] zero word is = absurd cc
take_one_more [] (suc i) word is = absurd cc
take_one_more (w ∷ words) zero word is = let same : w ≡ word = cc in ap (λ (x : List ℕ). x ∷ []) same
take_one_more (w ∷ words) (suc i) word is = ap (λ (ws : List (List ℕ)). w ∷ ws) (take_one_more words i word is)

take_whole : (words : List (List ℕ)) (i : ℕ) → slice_get words i ≡ None → take i words ≡ words
take_whole [] zero is = refl
take_whole [] (suc i) is = refl
take_whole (w ∷ words) zero is = absurd cc
take_whole (w ∷ words) (suc i) is = ap (λ (ws : List (List ℕ)). w ∷ ws) (take_whole words i is)

module _ (words texts : List (List ℕ)) (i : ℕ) (all : AreHandedOn (take i words) texts) where
  pub goes_on : (later : List (List ℕ)) (text : List ℕ) → IsFound (slice_get words i) (Some text) → later ≡ texts ++ text ∷ [] → AreHandedOn (take (i + 1) words) later
  goes_on later text found is = by_found (slice_get words i) refl found where
    by_found : (o : Option (List ℕ)) → slice_get words i ≡ o → IsFound o (Some text) → AreHandedOn (take (i + 1) words) later
    by_found None none one = absurd one
    by_found (Some word) some one =
        let whole : AreHandedOn (take i words ++ word ∷ []) (texts ++ text ∷ []) = handed_more (take i words) texts word text all one in
        let same : take (i + 1) words ≡ take i words ++ word ∷ [] = ap (λ (n : ℕ). take n words) (add-one i) ∙ take_one_more words i word some in
        subst (λ (ws : List (List ℕ)). AreHandedOn ws later) (sym same) (subst (AreHandedOn (take i words ++ word ∷ [])) (sym is) whole)

  pub ends : IsFound (slice_get words i) None → AreHandedOn words texts
  ends found = by_found (slice_get words i) refl found where
    by_found : (o : Option (List ℕ)) → slice_get words i ≡ o → IsFound o None → AreHandedOn words texts
    by_found None none one = subst (λ (ws : List (List ℕ)). AreHandedOn ws texts) (take_whole words i none) all
    by_found (Some word) some one = absurd one
