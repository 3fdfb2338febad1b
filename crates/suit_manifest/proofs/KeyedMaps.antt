-- Maps whose keys are numbers: judging them agrees with the refusals, and reading them agrees with judging
-- them.
use Rattle.std.proofs.Common.{◌≡◌, ℕ, ◌+◌, true, List, [], None, Result, Ok, Err, refl, sym, ap, subst, ◌∙◌}
use Rattle.std.specs.List.{AllByRecursion}
use Rattle.det_cbor.specs.Heads.{head_bytes}
use Rattle.det_cbor.specs.DataItem.{DataItem, MapOf, DataPairs, pair_count, IsValidWithin}
use Rattle.det_cbor.specs.HeadReading.{◌>>=◌}
use Rattle.det_cbor.specs.ResultLaws.{bind_ok, bind_err, same_err}
use Rattle.suit_params.specs.declared.refusal.Refusal.{Refusal}
use Rattle.suit_params.specs.declared.refusal.Why.TheVariants.{Shape}
use Rattle.suit_params.specs.Refusing.{refused, RefusesFirst}
use Rattle.suit_params.specs.Params.{pairs_place, IsMap}
use Rattle.suit_params.specs.Judging.{judge_each}
use Rattle.suit_params.specs.Reading.{map_from}
use Rattle.suit_params.specs.HeldLaws.{ReadsAs}
use Rattle.suit_envelope.specs.Envelopes.{Entry, has_key, RefusesLack}
use Rattle.suit_manifest.specs.declared.pairs.Pairs.{Pairs}
use Rattle.suit_manifest.specs.Maps.{entries_of, IsKeyAmong, RefusesMap, NoMap, BadKey, LacksKey, BadValue}
use Rattle.suit_manifest.specs.Elements.{judge_map}
use Rattle.suit_manifest.specs.MapReading.{judge_entry, judge_keyed}
use Rattle.suit_manifest.proofs.Arrays.{behind, by_map, map_is}
use Rattle.suit_manifest.proofs.MapLaws.{known_ok, known_again, known_err, known_refused, Fits, entries_fit}

pub pairs_fit : (levels place : ℕ) (pairs : DataPairs) → IsValidWithin levels (MapOf pairs) → AllByRecursion (Fits (levels + 1)) (entries_of place pairs)
pairs_fit levels place pairs valid = entries_fit (levels + 1) (pairs_place place pairs) None pairs valid.2

-- ---- what is said

-- the pairs of a map that was judged to say this: their keys are known, and their values were judged
pub record MapSays {A : Type 0} (keys : List ℕ) (judge_values : ℕ → List Entry → Result A Refusal) (levels place : ℕ) (x : DataItem) (said : A) : Type 0 where
  pub pairs : DataPairs
  pub is : x ≡ MapOf pairs
  pub known : AllByRecursion (IsKeyAmong keys) (entries_of place pairs)
  pub fit : AllByRecursion (Fits (levels + 1)) (entries_of place pairs)
  pub values : judge_values place (entries_of place pairs) ≡ Ok said

pub map_ok : {A : Type 0} (keys : List ℕ) (judge_values : ℕ → List Entry → Result A Refusal) (levels place : ℕ) (x : DataItem) (said : A)
    → IsValidWithin levels x → judge_map (judge_keyed keys judge_values) place x ≡ Ok said → MapSays keys judge_values levels place x said
map_ok {A} keys judge_values levels place x said valid e =
    by_map A (λ (y : DataItem). IsValidWithin levels y → judge_map (judge_keyed keys judge_values) place y ≡ Ok said → MapSays keys judge_values levels place y said)
    (λ pairs v f. bind_ok (judge_each (judge_entry keys) (entries_of place pairs)) _ said f (λ done done-is g.
    record { pairs = pairs; is = refl; known = known_ok keys (entries_of place pairs) done-is; fit = pairs_fit levels place pairs v; values = g }))
    (λ y o v f. let never = sym (o.judged (judge_keyed keys judge_values) place) ∙ f in absurd cc)
    x valid e

-- ---- refusals

-- if no key is required, none is missing
pub none_lacks_last : {P : Type 0} (place : ℕ) (es : List Entry) (r : Refusal) → RefusesFirst (RefusesLack place es) (λ n. has_key n es ≡ true) [] r → P
none_lacks_last place es r lacks = elim lacks [ ]

-- among entries whose keys are known, a required one is missing or a value is refused
pub data BadEntries (required : List ℕ) (values : List Entry → Refusal → Type 0) (place : ℕ) (es : List Entry) (r : Refusal) : Type 0 where
  ItLacks : RefusesFirst (RefusesLack place es) (λ n. has_key n es ≡ true) required r → BadEntries required values place es r
  ItRefuses : AllByRecursion (λ n. has_key n es ≡ true) required → values es r → BadEntries required values place es r

pub map_err : {A : Type 0} (keys required : List ℕ) (judge_values : ℕ → List Entry → Result A Refusal) (values : List Entry → Refusal → Type 0)
    → ((levels place : ℕ) (es : List Entry) (r : Refusal) → AllByRecursion (Fits levels) es → judge_values place es ≡ Err r → BadEntries required values place es r)
    → (levels place : ℕ) (x : DataItem) (r : Refusal) → IsValidWithin levels x → judge_map (judge_keyed keys judge_values) place x ≡ Err r → RefusesMap keys required values place x r
map_err {A} keys required judge_values values law levels place x r valid e =
    by_map A (λ (y : DataItem). IsValidWithin levels y → judge_map (judge_keyed keys judge_values) place y ≡ Err r → RefusesMap keys required values place y r)
    (λ pairs v f. let es = entries_of place pairs in bind_err (judge_each (judge_entry keys) es) _ r f
    (λ g. BadKey pairs r (known_err keys es r g))
    (λ done done-is g. by_bad pairs (known_ok keys es done-is) (law (levels + 1) place es r (pairs_fit levels place pairs v) g)))
    (λ y o v f. subst (RefusesMap keys required values place y) (same_err _ r (sym (o.judged (judge_keyed keys judge_values) place) ∙ f)) (NoMap y o.other))
    x valid e
  where
    by_bad : (pairs : DataPairs) → AllByRecursion (IsKeyAmong keys) (entries_of place pairs) → BadEntries required values place (entries_of place pairs) r → RefusesMap keys required values place (MapOf pairs) r
    by_bad pairs known (ItLacks lacks) = LacksKey pairs r known lacks
    by_bad pairs known (ItRefuses has bad) = BadValue pairs r known has bad

pub map_refused : {A : Type 0} (keys required : List ℕ) (judge_values : ℕ → List Entry → Result A Refusal) (values : List Entry → Refusal → Type 0)
    → ((place : ℕ) (es : List Entry) (r : Refusal) → BadEntries required values place es r → judge_values place es ≡ Err r)
    → (place : ℕ) (x : DataItem) (r : Refusal) → RefusesMap keys required values place x r → judge_map (judge_keyed keys judge_values) place x ≡ Err r
map_refused {A} keys required judge_values values law place x r (NoMap y other) =
    by_map A (λ (z : DataItem). (IsMap z → ⊥) → judge_map (judge_keyed keys judge_values) place z ≡ Err (refused place Shape)) (λ pairs f. absurd (f tt)) (λ z o f. o.judged (judge_keyed keys judge_values) place) y other
map_refused keys required judge_values values law place x r (BadKey pairs s bad) = rw (known_refused keys (entries_of place pairs) s bad) refl
map_refused keys required judge_values values law place x r (LacksKey pairs s known lacks) = rw (known_again keys (entries_of place pairs) known) (law place (entries_of place pairs) s (ItLacks lacks))
map_refused keys required judge_values values law place x r (BadValue pairs s known complete bad) = rw (known_again keys (entries_of place pairs) known) (law place (entries_of place pairs) s (ItRefuses complete bad))

-- ---- reading

-- the pairs of a map, before any was taken
abbrev pub all_pairs : ℕ → DataPairs → Pairs
all_pairs place pairs = record { map = behind place (MapOf pairs) (head_bytes 5 (pair_count pairs)); left = pair_count pairs }

regroup : {V A : Type 0} (r : Result Unit Refusal) (v : V) (f : V → Result A Refusal) → ((r >>= λ _. Ok v) >>= f) ≡ (r >>= λ _. f v)
regroup (Ok done) v f = refl
regroup (Err e) v f = refl

-- reading the map agrees with judging it, if the pairs give the values under its numbers and those are read
-- as they are judged
pub keyed_read : {V A : Type 0} (keys : List ℕ) (judge_values : ℕ → List Entry → Result A Refusal) (found : Pairs → Result V Refusal) (looked : List Entry → V) (from : ℕ → V → Result A Refusal)
    → ((levels place : ℕ) (pairs : DataPairs) → IsValidWithin levels (MapOf pairs) → found (all_pairs place pairs) ≡ (judge_each (judge_entry keys) (entries_of place pairs) >>= λ _. Ok (looked (entries_of place pairs))))
    → ((levels place : ℕ) (pairs : DataPairs) → IsValidWithin levels (MapOf pairs) → from place (looked (entries_of place pairs)) ≡ judge_values place (entries_of place pairs))
    → ReadsAs (λ p. map_from p >>= λ h. found (record { map = h.1; left = h.0 }) >>= from p.place) (judge_map (judge_keyed keys judge_values))
keyed_read {V} {A} keys judge_values found looked from found_read values_read =
    map_is (λ p n q. found (record { map = q; left = n }) >>= from p.place) (judge_keyed keys judge_values) (λ levels place pairs valid.
    let es = entries_of place pairs in
    ap (λ (r : Result V Refusal). r >>= from place) (found_read levels place pairs valid)
    ∙ regroup (judge_each (judge_entry keys) es) (looked es) (from place)
    ∙ ap (λ (r : Result A Refusal). judge_each (judge_entry keys) es >>= λ _. r) (values_read levels place pairs valid))
