-- Judging a map of parameters agrees with the grammar and the refusals.
use Rattle.std.proofs.Common.{◌≡◌, ℕ, ◌+◌, List, ◌∷◌, Option, Some, Ok, Err, refl, sym, subst, ◌∙◌}
use Rattle.det_cbor.specs.DataItem.{DataItem, MapOf, DataPairs, NoPairs, PairThen, spell, IsValidWithin, ArePairsWithin}
use Rattle.det_cbor.specs.ResultLaws.{bind_ok, bind_err, same_ok, same_err}
use Rattle.suit_params.specs.declared.param.Param.{Param}
use Rattle.suit_params.specs.declared.param.ParamKey.{ParamKey}
use Rattle.suit_params.specs.declared.refusal.Refusal.{Refusal}
use Rattle.suit_params.specs.declared.refusal.Why.TheVariants.{Shape}
use Rattle.suit_params.specs.Refusing.{refused}
use Rattle.suit_params.specs.ParamKeys.{key_item}
use Rattle.suit_params.specs.Params.{SaysValue, RefusesValue, value_place, next_place, SayParams, NoMore, ParamThen, pairs_place, IsParams, ParamMap, RefusesPairs, OtherKey, BadValue, BadLater, IsMap, RefusesParams, NoMap, BadPairs}
use Rattle.suit_params.specs.ParamJudging.{judge_key, judge_value, judge_pairs, judge_params}
use Rattle.suit_params.specs.JudgingLaws.{Judges}
use Rattle.suit_params.proofs.ParamKeyLaws.{key_ok, key_again, key_err, key_refused}
use Rattle.suit_params.proofs.ParamValues.{value_ok, value_again, value_err, value_refused}

pairs_ok : (count levels place : ℕ) (before : Option (List ℕ)) (pairs : DataPairs) (ps : List Param) → ArePairsWithin levels before pairs → judge_pairs count place pairs ≡ Ok ps → SayParams count place pairs ps
pairs_ok count levels place before NoPairs ps valid e = subst (SayParams count place NoPairs) (same_ok _ ps e) (NoMore place)
pairs_ok count levels place before (PairThen key value others) ps valid e =
    bind_ok (judge_key place key) _ ps e (λ k k-is f. bind_ok (judge_value count k (value_place place key) value) _ ps f (λ p p-is g. bind_ok (judge_pairs count (next_place place key value) others) _ ps g (λ qs qs-is h.
    let key-is = key_ok place key k k-is in
    let said = value_ok count k levels (value_place place key) value p valid.2 p-is in
    let rest = pairs_ok count levels (next_place place key value) (Some (spell key)) others qs valid.3 qs-is in
    subst (SayParams count place (PairThen key value others)) (same_ok _ ps h) (with_key key k value others p qs key-is said rest))))
  where
    with_key : (key : DataItem) (k : ParamKey) (value : DataItem) (others : DataPairs) (p : Param) (qs : List Param) → key ≡ key_item k → SaysValue count (value_place place key) k value p → SayParams count (next_place place key value) others qs → SayParams count place (PairThen key value others) (p ∷ qs)
    with_key key k value others p qs is said rest =
        subst (λ (y : DataItem). SaysValue count (value_place place y) k value p → SayParams count (next_place place y value) others qs → SayParams count place (PairThen y value others) (p ∷ qs)) (sym is)
        (λ s t. ParamThen place k value others p qs s t)
        said rest

pairs_again : (count place : ℕ) (pairs : DataPairs) (ps : List Param) → SayParams count place pairs ps → judge_pairs count place pairs ≡ Ok ps
pairs_again count place pairs ps (NoMore at) = refl
pairs_again count place pairs ps (ParamThen at key value others p qs said rest) =
    rw (key_again place key, value_again count key (value_place place (key_item key)) value p said, pairs_again count (next_place place (key_item key) value) others qs rest) refl

pairs_err : (count levels place : ℕ) (before : Option (List ℕ)) (pairs : DataPairs) (r : Refusal) → ArePairsWithin levels before pairs → judge_pairs count place pairs ≡ Err r → RefusesPairs count place pairs r
pairs_err count levels place before NoPairs r valid e = absurd cc
pairs_err count levels place before (PairThen key value others) r valid e =
    bind_err (judge_key place key) _ r e
    (λ f. let found = key_err place key r f in subst (RefusesPairs count place (PairThen key value others)) found.1 (OtherKey place key value others found.0))
    (λ k k-is f. bind_err (judge_value count k (value_place place key) value) _ r f
    (λ g. bad_value (key_ok place key k k-is) (value_err count k levels (value_place place key) value r valid.2 g))
    (λ p p-is g. bind_err (judge_pairs count (next_place place key value) others) _ r g
    (λ h. bad_later (key_ok place key k k-is) (value_ok count k levels (value_place place key) value p valid.2 p-is) (pairs_err count levels (next_place place key value) (Some (spell key)) others r valid.3 h))
    (λ qs qs-is h. absurd cc)))
  where
    bad_value : {k : ParamKey} → key ≡ key_item k → RefusesValue count (value_place place key) k value r → RefusesPairs count place (PairThen key value others) r
    bad_value {k} is bad =
        subst (λ (y : DataItem). RefusesValue count (value_place place y) k value r → RefusesPairs count place (PairThen y value others) r) (sym is) (λ b. BadValue place k value others r b) bad

    bad_later : {k : ParamKey} {p : Param} → key ≡ key_item k → SaysValue count (value_place place key) k value p → RefusesPairs count (next_place place key value) others r → RefusesPairs count place (PairThen key value others) r
    bad_later {k} {p} is said bad =
        subst (λ (y : DataItem). SaysValue count (value_place place y) k value p → RefusesPairs count (next_place place y value) others r → RefusesPairs count place (PairThen y value others) r) (sym is)
        (λ s b. BadLater place k value others p r s b)
        said bad

pairs_refused : (count place : ℕ) (pairs : DataPairs) (r : Refusal) → RefusesPairs count place pairs r → judge_pairs count place pairs ≡ Err r
pairs_refused count place pairs r (OtherKey at key value others other) = rw (key_refused place key other) refl
pairs_refused count place pairs r (BadValue at key value others s bad) = rw (key_again place key, value_refused count key (value_place place (key_item key)) value s bad) refl
pairs_refused count place pairs r (BadLater at key value others p s said bad) =
    rw (key_again place key, value_again count key (value_place place (key_item key)) value p said, pairs_refused count (next_place place (key_item key) value) others s bad) refl

-- ---- maps

pub record OtherThanMap (count : ℕ) (x : DataItem) : Type 0 where
  pub other : IsMap x → ⊥
  pub judged : (place : ℕ) → judge_params count place x ≡ Err (refused place Shape)

pub by_map : (count : ℕ) (P : DataItem → Type 0) → ((pairs : DataPairs) → P (MapOf pairs)) → ((x : DataItem) → OtherThanMap count x → P x) → (x : DataItem) → P x
by_map count P map other (MapOf ps) = map ps
by_map count P map other x = other x (record { other = λ h. h; judged = λ place. refl })

params_ok : (count levels place : ℕ) (x : DataItem) (ps : List Param) → IsValidWithin levels x → judge_params count place x ≡ Ok ps → IsParams count place x ps
params_ok count levels place x ps valid e =
    by_map count (λ (y : DataItem). IsValidWithin levels y → judge_params count place y ≡ Ok ps → IsParams count place y ps)
    (λ pairs v f. ParamMap pairs ps (pairs_ok count (levels + 1) (pairs_place place pairs) _ pairs ps v.2 f))
    (λ y o v f. let never = sym (o.judged place) ∙ f in absurd cc)
    x valid e

params_again : (count place : ℕ) (x : DataItem) (ps : List Param) → IsParams count place x ps → judge_params count place x ≡ Ok ps
params_again count place x ps (ParamMap pairs qs said) = pairs_again count (pairs_place place pairs) pairs ps said

params_err : (count levels place : ℕ) (x : DataItem) (r : Refusal) → IsValidWithin levels x → judge_params count place x ≡ Err r → RefusesParams count place x r
params_err count levels place x r valid e =
    by_map count (λ (y : DataItem). IsValidWithin levels y → judge_params count place y ≡ Err r → RefusesParams count place y r)
    (λ pairs v f. BadPairs pairs r (pairs_err count (levels + 1) (pairs_place place pairs) _ pairs r v.2 f))
    (λ y o v f. subst (RefusesParams count place y) (same_err _ r (sym (o.judged place) ∙ f)) (NoMap y o.other))
    x valid e

params_refused : (count place : ℕ) (x : DataItem) (r : Refusal) → RefusesParams count place x r → judge_params count place x ≡ Err r
params_refused count place x r (NoMap y other) = by_map count (λ (z : DataItem). (IsMap z → ⊥) → judge_params count place z ≡ Err (refused place Shape)) (λ pairs f. absurd (f tt)) (λ z o f. o.judged place) y other
params_refused count place x r (BadPairs pairs s bad) = pairs_refused count (pairs_place place pairs) pairs r bad

pub params_judge : (count : ℕ) → Judges (judge_params count) (IsParams count) (RefusesParams count)
params_judge count = record { ok = params_ok count; again = params_again count; err = params_err count; refuses = params_refused count }
