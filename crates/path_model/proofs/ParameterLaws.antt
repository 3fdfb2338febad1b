-- The laws of the parameters in force.
use Rattle.std.proofs.Common.{◌≡◌, ◌≢◌, ℕ, zero, suc, ◌+◌, ◌*◌, ◌/◌, ◌%◌, ◌<◌, length, get_or, Option, Some, None, refl, sym, ap, ◌∙◌, arith, inl, inr}
use Rattle.std.specs.Prelude.{slice_get}
use Rattle.std.proofs.lemmas.Bool.{cases_lt}
use Rattle.std.proofs.lemmas.List.{get_or-replicate, same_lists}
use Rattle.std.proofs.lemmas.Option.{slice_get-get_or, slice_get_past}
use Rattle.suit_params.specs.declared.param.Param.{Param}
use Rattle.suit_params.specs.declared.param.ParamKey.{ParamKey}
use Rattle.suit_params.specs.declared.param.ParamKey.TheVariants as keys
use Rattle.suit_params.specs.ParamKeys.{key_of}
use Rattle.suit_params.specs.InForce.{Parameters, rank, cell, none_in_force, held_at, in_force}
use Rattle.path_model.specs.ParameterLaws.{IsWhole, StaysWhole, StartsEmpty, OverrideReplaces, OverrideKeeps, IsCanonical}
use Rattle.path_model.proofs.InForce.{slice_get-set_same, slice_get-set_other, length-with_param, length-none_in_force}

-- ---- the place of each key of each component

key_at : ℕ → ParamKey
key_at zero = keys.Vendor
key_at (suc zero) = keys.Class
key_at (suc (suc zero)) = keys.Digest
key_at (suc (suc (suc zero))) = keys.Slot
key_at (suc (suc (suc (suc zero)))) = keys.Strict
key_at (suc (suc (suc (suc (suc zero))))) = keys.Soft
key_at (suc (suc (suc (suc (suc (suc zero)))))) = keys.Size
key_at (suc (suc (suc (suc (suc (suc (suc zero))))))) = keys.Content
key_at (suc (suc (suc (suc (suc (suc (suc (suc zero)))))))) = keys.Uri
key_at (suc (suc (suc (suc (suc (suc (suc (suc (suc zero))))))))) = keys.Source
key_at (suc (suc (suc (suc (suc (suc (suc (suc (suc (suc zero)))))))))) = keys.Args
key_at (suc (suc (suc (suc (suc (suc (suc (suc (suc (suc (suc n))))))))))) = keys.Device

-- a key stands at a place of its own, below twelve
record IsPlaced (key : ParamKey) : Type 0 where
  small : rank key < 12
  back : key_at (rank key) ≡ key

placed : (key : ParamKey) → IsPlaced key
unfolding key_at
placed keys.Vendor = record { small = omega arith; back = refl }
placed _ = record { small = omega arith; back = refl }

rank-key_at : (n : ℕ) → n < 12 → rank (key_at n) ≡ n
unfolding key_at
rank-key_at zero lt = refl
rank-key_at (suc zero) lt = refl
rank-key_at (suc (suc zero)) lt = refl
rank-key_at (suc (suc (suc zero))) lt = refl
rank-key_at (suc (suc (suc (suc zero)))) lt = refl
rank-key_at (suc (suc (suc (suc (suc zero))))) lt = refl
rank-key_at (suc (suc (suc (suc (suc (suc zero)))))) lt = refl
rank-key_at (suc (suc (suc (suc (suc (suc (suc zero))))))) lt = refl
rank-key_at (suc (suc (suc (suc (suc (suc (suc (suc zero)))))))) lt = refl
rank-key_at (suc (suc (suc (suc (suc (suc (suc (suc (suc zero))))))))) lt = refl
rank-key_at (suc (suc (suc (suc (suc (suc (suc (suc (suc (suc zero)))))))))) lt = refl
rank-key_at (suc (suc (suc (suc (suc (suc (suc (suc (suc (suc (suc n))))))))))) lt = omega arith

pub same_rank : (a b : ParamKey) → rank a ≡ rank b → a ≡ b
same_rank a b same = sym (placed a).back ∙ ap key_at same ∙ (placed b).back

within : (component : ℕ) (key : ParamKey) → component < 8 → cell component key < 96
within component key lt = let small = (placed key).small in omega arith

apart : (c d : ℕ) (key other : ParamKey) → ((d ≡ c) × (other ≡ key) → ⊥) → cell d other ≢ cell c key
apart c d key other not_both same =
    let small = (placed key).small in
    let low = (placed other).small in
    let ranks : rank other ≡ rank key = omega arith in
    let components : d ≡ c = omega arith in
    not_both (components, same_rank other key ranks)

-- ---- the laws

pub stays_whole : StaysWhole
stays_whole = record {
  first = length-none_in_force;
  next = λ parameters component param whole. length-with_param parameters component param ∙ whole;
}

pub starts_empty : StartsEmpty
unfolding none_in_force
starts_empty component key =
    let none : Option Param = None in
    elim (cases_lt (cell component key) 96) [
      | inl lt ↦ ap held_at (slice_get-get_or none_in_force (cell component key) none (omega (arith, length-none_in_force)))
          ∙ get_or-replicate 96 (cell component key) none none lt
      | inr le ↦ ap held_at (slice_get_past none_in_force (cell component key) (omega (arith, length-none_in_force)))
    ]

pub override_replaces : OverrideReplaces
override_replaces parameters component param whole lt =
    ap held_at (slice_get-set_same parameters (cell component (key_of param)) (Some param) (omega (arith, within component (key_of param) lt)))

pub override_keeps : OverrideKeeps
override_keeps parameters component other param key whole lt lt' not_both =
    let none : Option Param = None in
    let at = cell other key in
    let inside : at < length parameters = omega (arith, within other key lt') in
    let there = slice_get-get_or parameters at none inside in
    ap held_at (slice_get-set_other parameters (cell component (key_of param)) at (Some param) (get_or parameters at none)
    (apart component other (key_of param) key not_both) inside there ∙ sym there)

-- the parameter in force at a place
at_place : (parameters : Parameters) (n : ℕ) (d : Option Param) → IsWhole parameters → n < 96 → in_force parameters (n / 12) (key_at (n % 12)) ≡ get_or parameters n d
at_place parameters n d whole lt =
    let low : n % 12 < 12 = omega arith in
    let parts : 12 * (n / 12) + n % 12 ≡ n = omega arith in
    let same : cell (n / 12) (key_at (n % 12)) ≡ n = ap (λ (k : ℕ). 12 * (n / 12) + k) (rank-key_at (n % 12) low) ∙ parts in
    ap (λ (k : ℕ). held_at (slice_get parameters k)) same ∙ ap held_at (slice_get-get_or parameters n d (omega arith))

pub is_canonical : IsCanonical
is_canonical a b whole_a whole_b same =
    same_lists a b (whole_a ∙ sym whole_b) (λ n d lt.
    let small : n < 96 = omega arith in
    let component : n / 12 < 8 = omega arith in
    sym (at_place a n d whole_a small) ∙ same (n / 12) (key_at (n % 12)) component ∙ at_place b n d whole_b small)
