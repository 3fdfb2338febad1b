-- Judging parameters, pair by pair.
use Rattle.std.proofs.Common.{◌≡◌, ℕ, suc, ◌+◌, ◌-◌, ◌<◌, List, ◌∷◌, Result, Ok, Err, refl, sym, ◌∙◌, arith}
use Rattle.std.specs.Prelude.{⊤}
use Rattle.det_cbor.specs.HeadReading.{◌>>=◌, map_ok}
use Rattle.det_cbor.specs.Position.{Position}
use Rattle.suit_params.specs.declared.param.Param.{Param}
use Rattle.suit_params.specs.declared.refusal.Refusal.{Refusal}
use Rattle.suit_params.specs.ParamReading.{param_from, params_from}

-- whether a list can be read, without the list
abbrev pub judged : Result (List Param) Refusal → Result ⊤ Refusal
judged r = map_ok (λ _. tt) r

one_more : (p : Param) (r : Result (List Param) Refusal) → judged (r >>= λ ps. Ok (p ∷ ps)) ≡ judged r
one_more p (Ok ps) = refl
one_more p (Err r) = refl

pub judged_step : (count pairs i : ℕ) (at next : Position) (p : Param) (total : Result ⊤ Refusal) → i < pairs → param_from count at ≡ Ok (p, next)
    → judged (params_from count (pairs - i) at) ≡ total → judged (params_from count (pairs - (i + 1)) next) ≡ total
judged_step count pairs i at next p total lt e so_far =
    let one : pairs - i ≡ suc (pairs - (i + 1)) = omega arith in
    let step : judged (params_from count (pairs - i) at) ≡ judged (params_from count (pairs - (i + 1)) next) = rw (one, e) (one_more p (params_from count (pairs - (i + 1)) next)) in
    sym step ∙ so_far
