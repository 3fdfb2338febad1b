-- Reading parameters, pair by pair.
use Rattle.std.proofs.Common.{◌≡◌, ℕ, suc, ◌+◌, ◌-◌, ◌<◌, List, [], ◌∷◌, ◌++◌, Result, Ok, Err, refl, sym, ap, ◌∙◌, append_assoc, arith}
use Rattle.det_cbor.specs.HeadReading.{◌>>=◌}
use Rattle.det_cbor.specs.Position.{Position}
use Rattle.suit_params.specs.declared.param.Param.{Param}
use Rattle.suit_params.specs.declared.refusal.Refusal.{Refusal}
use Rattle.suit_params.specs.ParamReading.{param_from, params_from}

-- the parameters read before, in front of those that are read
abbrev pub with_front : List Param → Result (List Param) Refusal → Result (List Param) Refusal
with_front front (Ok ps) = Ok (front ++ ps)
with_front front (Err r) = Err r

one_more : (front : List Param) (p : Param) (r : Result (List Param) Refusal) → with_front front (r >>= λ ps. Ok (p ∷ ps)) ≡ with_front (front ++ p ∷ []) r
one_more front p (Ok ps) = ap (λ (l : List Param). Ok l) (sym (append_assoc front (p ∷ []) ps))
one_more front p (Err r) = refl

pub params_step : (count : ℕ) (front : List Param) (pairs i : ℕ) (at next : Position) (p : Param) (total : Result (List Param) Refusal) → i < pairs → param_from count at ≡ Ok (p, next)
    → with_front front (params_from count (pairs - i) at) ≡ total → with_front (front ++ p ∷ []) (params_from count (pairs - (i + 1)) next) ≡ total
params_step count front pairs i at next p total lt e so_far =
    let one : pairs - i ≡ suc (pairs - (i + 1)) = omega arith in
    let step : with_front front (params_from count (pairs - i) at) ≡ with_front (front ++ p ∷ []) (params_from count (pairs - (i + 1)) next) = rw (one, e) (one_more front p (params_from count (pairs - (i + 1)) next)) in
    sym step ∙ so_far
