-- The parameters in force after an override.
use Rattle.std.proofs.Common.{◌≡◌, ℕ, ◌<◌, List, length, Option, Some, None, arith, length-set, get_or-set_same, get_or-set_other, ◌≢◌, ◌∙◌, ap}
use Rattle.std.specs.Prelude.{slice_get, slice_set}
use Rattle.suit_params.specs.declared.param.Param.{Param}
use Rattle.suit_params.specs.declared.param.Param.TheVariants as params
use Rattle.suit_params.specs.ParamKeys.{key_of}
use Rattle.suit_params.specs.InForce.{Parameters, cell, none_in_force, with_param}
use Rattle.std.proofs.lemmas.List.{length-replicate}
use Rattle.std.proofs.lemmas.Option.{slice_get-get_or, get_or_from_slice_get}

pub slice_get-set_same : {A : Type 0} (xs : List A) (i : ℕ) (x : A) → i < length xs → slice_get (slice_set xs i x) i ≡ Some x
slice_get-set_same xs i x within =
    let inside : i < length (slice_set xs i x) = omega (arith, length-set xs i x) in
    slice_get-get_or (slice_set xs i x) i x inside ∙ ap Some (get_or-set_same xs i x x within)

pub slice_get-set_other : {A : Type 0} (xs : List A) (i j : ℕ) (x y : A) → j ≢ i → j < length xs → slice_get xs j ≡ Some y → slice_get (slice_set xs i x) j ≡ Some y
slice_get-set_other xs i j x y other within is =
    let inside : j < length (slice_set xs i x) = omega (arith, length-set xs i x) in
    slice_get-get_or (slice_set xs i x) j y inside
    ∙ ap Some (get_or-set_other xs i j x y other ∙ get_or_from_slice_get xs j y y is)

-- ---- a digest and a size that an override sets

pub length-with_param : (parameters : Parameters) (component : ℕ) (param : Param) → length (with_param parameters component param) ≡ length parameters
length-with_param parameters component param = length-set parameters (cell component (key_of param)) (Some param)

pub length-none_in_force : length none_in_force ≡ 96
unfolding none_in_force
length-none_in_force = let none : Option Param = None in length-replicate 96 none
