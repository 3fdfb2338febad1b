-- Two lists whose first bytes change places piece by piece.
use Rattle.std.proofs.Common.{◌≡◌, ◌≤◌, ◌+◌, ℕ, List, ◌++◌, length, take, drop, sym, ap, ◌∙◌, arith, length-drop, drop-drop}
use Rattle.std.proofs.Math.Seq.{take-add}
use Rattle.std.proofs.lemmas.List.{take_at, drop_at, length-take-le}
use Rattle.suit_edge.specs.Ranges.{written}

pub mixed_more : (a b one other : List ℕ) (from n : ℕ) → from + n ≤ length a → from + n ≤ length b → one ≡ take from b ++ drop from a → other ≡ take from a ++ drop from b
    → written one from (take n (drop from other)) ≡ take (from + n) b ++ drop (from + n) a
unfolding written
mixed_more a b one other from n fits_a fits_b one_is other_is =
    ap (λ (l : List ℕ). written one from (take n l)) rest
    ∙ ap (λ (l : List ℕ). written l from piece) one_is
    ∙ ap (λ (l : List ℕ). (l ++ piece) ++ drop (from + length piece) mixed) (take_at (take from b) (drop from a) from front_b)
    ∙ ap (λ (k : ℕ). (take from b ++ piece) ++ drop (from + k) mixed) long
    ∙ ap (λ (l : List ℕ). (take from b ++ piece) ++ l) behind
    ∙ ap (λ (l : List ℕ). l ++ drop (from + n) a) (sym (take-add from n b))
  where
    piece : List ℕ
    piece = take n (drop from b)

    mixed : List ℕ
    mixed = take from b ++ drop from a

    front_a : length (take from a) ≡ from
    front_a = length-take-le from a (omega (arith, fits_a))

    front_b : length (take from b) ≡ from
    front_b = length-take-le from b (omega (arith, fits_b))

    rest : drop from other ≡ drop from b
    rest = ap (drop from) other_is ∙ drop_at (take from a) (drop from b) from front_a

    long : length piece ≡ n
    long = length-take-le n (drop from b) (omega (arith, fits_b, length-drop from b))

    behind : drop (from + n) mixed ≡ drop (from + n) a
    behind =
        sym (drop-drop n from mixed) ∙ ap (drop n) (drop_at (take from b) (drop from a) from front_b) ∙ drop-drop n from a

-- all of them did
pub mixed_all : (a b one : List ℕ) (size from : ℕ) → from ≡ size → size ≤ length b → one ≡ take from b ++ drop from a → take size one ≡ take size b
mixed_all a b one size from end fits is =
    ap (take size) is ∙ ap (λ (k : ℕ). take size (take k b ++ drop k a)) end ∙ take_at (take size b) (drop size a) size (length-take-le size b fits)
