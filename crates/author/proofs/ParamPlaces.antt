-- Parameters in their places.
use Rattle.std.proofs.Common.{◌≡◌, ℕ, zero, suc, ◌<◌, List, [], ◌∷◌, ◌++◌, length, get_or, take, drop, drop-cons, Equal, refl, sym, ap, ◌∙◌, arith}
use Rattle.std.specs.List.{slice_set}
use Rattle.std.specs.Ordering.{match_ordering}
use Rattle.suit_params.specs.declared.param.Param.{Param}
use Rattle.author.specs.ParamValues.{param_order, placed_among}

set_at : (xs : List Param) (i : ℕ) (x : Param) → i < length xs → slice_set xs i x ≡ take i xs ++ x ∷ drop (suc i) xs
set_at [] i x h = absurd (omega arith)
set_at (y ∷ ys) zero x h = refl
set_at (y ∷ ys) (suc i) x h = ap (λ zs. y ∷ zs) (set_at ys i x (omega arith))

-- one that takes the place of another
pub placed_equal : (list : List Param) (i : ℕ) (p q : Param) → i < length list → q ≡ get_or list i q → param_order p q ≡ Equal
    → placed_among p list ≡ take i list ++ placed_among p (drop i list) → slice_set list i p ≡ placed_among p list
placed_equal list i p q h is e so_far =
    let here : placed_among p (q ∷ drop (suc i) list) ≡ p ∷ drop (suc i) list = ap (λ o. match_ordering o (p ∷ q ∷ drop (suc i) list) (p ∷ drop (suc i) list) (q ∷ placed_among p (drop (suc i) list))) e in
    let cut : drop i list ≡ q ∷ drop (suc i) list = drop-cons list i q h ∙ ap (λ r. r ∷ drop (suc i) list) (sym is) in
    set_at list i p h ∙ sym (so_far ∙ ap (λ qs. take i list ++ qs) (ap (placed_among p) cut ∙ here))
