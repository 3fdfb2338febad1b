-- Reading elements, one by one.
use Rattle.std.proofs.Common.{◌≡◌, ℕ, suc, ◌+◌, ◌-◌, ◌<◌, List, [], ◌∷◌, ◌++◌, Some, None, Result, Ok, Err, refl, sym, ap, ◌∙◌, append_assoc, arith}
use Rattle.det_cbor.specs.HeadReading.{◌>>=◌}
use Rattle.det_cbor.specs.Position.{Position}
use Rattle.suit_params.specs.declared.refusal.Refusal.{Refusal}
use Rattle.suit_params.specs.declared.refusal.Why.TheVariants.{TwoAlike}
use Rattle.suit_params.specs.Refusing.{refused}
use Rattle.suit_params.specs.Reading.{inner_from}
use Rattle.suit_manifest.specs.Elements.{all_from}
use Rattle.suit_manifest.specs.ComponentsJudging.{first_like}
use Rattle.suit_manifest.specs.ComponentsReading.{apart_from}

-- the elements read before, in front of those that are read
abbrev pub with_front : {A : Type 0} → List A → Result (List A) Refusal → Result (List A) Refusal
with_front front r = r >>= λ rest. Ok (front ++ rest)

one_more : {A : Type 0} (front : List A) (a : A) (r : Result (List A) Refusal) → with_front front (r >>= λ rest. Ok (a ∷ rest)) ≡ with_front (front ++ a ∷ []) r
one_more {A} front a (Ok rest) = ap (λ (l : List A). Ok l) (sym (append_assoc front (a ∷ []) rest))
one_more front a (Err r) = refl

pub all_step : {A : Type 0} (read : Position → Result A Refusal) (front : List A) (count done : ℕ) (at next inner : Position) (a : A) (total : Result (List A) Refusal)
    → done < count → Ok (inner, next) ≡ inner_from at → read inner ≡ Ok a
    → with_front front (all_from read (count - done) at) ≡ total → with_front (front ++ a ∷ []) (all_from read (count - (done + 1)) next) ≡ total
all_step read front count done at next inner a total lt item is so_far =
    let one : count - done ≡ suc (count - (done + 1)) = omega arith in
    let step : with_front front (all_from read (count - done) at) ≡ with_front (front ++ a ∷ []) (all_from read (count - (done + 1)) next) =
    rw (one, ← item, is) (one_more front a (all_from read (count - (done + 1)) next)) in
    sym step ∙ so_far

-- ---- equal identifiers

pub apart_step : (ids : List (List (List ℕ))) (count last : ℕ) (at next inner : Position) (total : Result Unit Refusal) → last < count → Ok (inner, next) ≡ inner_from at → None ≡ first_like ids last
    → apart_from ids last (count - last) at ≡ total → apart_from ids (last + 1) (count - (last + 1)) next ≡ total
apart_step ids count last at next inner total lt item none so_far =
    let one : count - last ≡ suc (count - (last + 1)) = omega arith in
    let after : last + 1 ≡ suc last = omega arith in
    let step : apart_from ids last (count - last) at ≡ apart_from ids (last + 1) (count - (last + 1)) next = rw (one, ← item, ← none, after) refl in
    sym step ∙ so_far

pub apart_found : (ids : List (List (List ℕ))) (count last i : ℕ) (at next inner : Position) (total : Result Unit Refusal) → last < count → Ok (inner, next) ≡ inner_from at → Some i ≡ first_like ids last
    → apart_from ids last (count - last) at ≡ total → Err (refused next.place (TwoAlike i last)) ≡ total
apart_found ids count last i at next inner total lt item found so_far =
    let one : count - last ≡ suc (count - (last + 1)) = omega arith in
    let step : apart_from ids last (count - last) at ≡ Err (refused next.place (TwoAlike i last)) = rw (one, ← item, ← found) refl in
    sym step ∙ so_far
