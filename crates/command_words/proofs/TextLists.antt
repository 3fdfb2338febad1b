-- The words of borrowed texts, part by part.
use Rattle.std.proofs.Common.{◌≡◌, ◌∙◌, ◌≤◌, ◌-◌, zero, suc, ℕ, List, [], ◌∷◌, length, take, drop, slice_index_or, refl, sym, ap, Bor, arith}
use Rattle.std.proofs.Math.Seq.{take-length}
use Rattle.std.proofs.lemmas.List.{length-drop}
use Rattle.command_words.specs.Tasks.{Word, texts}

pub as_many : (words : List (Bor Word)) → length (texts words) ≡ length words
as_many [] = refl
as_many (word ∷ words) = ap (λ n. suc n) (as_many words)

pub first_and_rest : (words : List (Bor Word)) (none : Bor Word) → 1 ≤ length words → texts words ≡ (slice_index_or words 0 none).now ∷ texts (take (length words - 1) (drop 1 words))
first_and_rest [] none some = absurd (omega arith)
first_and_rest (word ∷ words) none some =
    let one : length words ≡ length (word ∷ words) - 1 = omega arith in
    ap (λ (rest : List (Bor Word)). word.now ∷ texts rest) (sym (take-length words)) ∙ ap (λ (n : ℕ). word.now ∷ texts (take n words)) one

pub dropped : (n : ℕ) (words : List (Bor Word)) → texts (drop n words) ≡ drop n (texts words)
dropped zero words = refl
dropped (suc n) [] = refl
dropped (suc n) (word ∷ words) = dropped n words

-- a range up to the end
pub to_the_end : (n : ℕ) (words : List (Bor Word)) → take (length words - n) (drop n words) ≡ drop n words
to_the_end n words = ap (λ (m : ℕ). take m (drop n words)) (sym (length-drop n words)) ∙ take-length (drop n words)

-- the texts after the first one, as a range of the borrowed ones
pub behind_first : (words : List (Bor Word)) → texts (take (length words - 1) (drop 1 words)) ≡ drop 1 (texts words)
behind_first words = ap texts (to_the_end 1 words) ∙ dropped 1 words
