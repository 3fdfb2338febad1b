-- Bytes that are written over a part of a list.
use Rattle.std.proofs.Common.{◌≡◌, ◌≤◌, ℕ, ◌+◌, ◌-◌, List, ◌++◌, length, take, drop, sym, ◌∙◌, ap, arith}
use Rattle.std.proofs.Math.Seq.{take-append-add}
use Rattle.std.proofs.lemmas.List.{length-append, length-take-le, take-take, drop-take}
use Rattle.suit_edge.specs.Ranges.{written}

-- the first n bytes, if they contain the part
pub written_within : (l : List ℕ) (n from : ℕ) (piece : List ℕ) → from + length piece ≤ n → n ≤ length l → take n (written l from piece) ≡ written (take n l) from piece
unfolding written
written_within l n from piece inside fits =
    ap (λ (i : ℕ). take i (take from l ++ piece ++ drop m l)) all ∙ take-append-add (take from l ++ piece) (drop m l) k
    ∙ sym (ap (λ (z : List ℕ). z ++ piece ++ drop m (take n l)) (take-take from n l (omega (arith, inside))) ∙ ap (λ (z : List ℕ). take from l ++ piece ++ z) (ap (λ (i : ℕ). drop m (take i l)) behind ∙ drop-take m k l))
  where
    m : ℕ
    m = from + length piece

    k : ℕ
    k = n - (from + length piece)

    all : n ≡ length (take from l ++ piece) + k
    all = omega (arith, inside, length-append (take from l) piece, length-take-le from l (omega (arith, inside, fits)))

    behind : n ≡ m + k
    behind = omega (arith, inside)
