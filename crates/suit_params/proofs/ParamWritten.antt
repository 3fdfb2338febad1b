-- A written map of parameters is valid, and says what was written.
use Rattle.std.proofs.Common.{◌≡◌, ℕ, ◌<◌, ◌^◌, List, [], ◌∷◌, length, Some, None, refl, arith}
use Rattle.std.specs.List.{AllByRecursion}
use Rattle.det_cbor.specs.DataItem.{pair_count, spell, IsByte, IsString, IsValid, IsValidWithin, ArePairsWithin}
use Rattle.suit_params.specs.declared.param.Param.{Param}
use Rattle.suit_params.specs.declared.param.Param.TheVariants as params
use Rattle.suit_params.specs.declared.param.ParamKey.{ParamKey}
use Rattle.suit_params.specs.Digests.{digest_item}
use Rattle.suit_params.specs.ParamKeys.{key_of, key_number, key_item}
use Rattle.suit_params.specs.Params.{SaysValue, SaysVendor, SaysClass, SaysDevice, SaysDigest, SaysSlot, SaysStrict, SaysSoft, SaysSize, SaysContent, SaysUri, SaysSource, SaysArgs, next_place, SayParams, NoMore, ParamThen, IsParams, ParamMap}
use Rattle.suit_params.specs.ParamLaws.{AreAbove, AreAscending}
use Rattle.suit_params.specs.ParamMaking.{value_item, param_pairs, params_item, IsParam, IsBelow}
use Rattle.suit_params.proofs.DigestSpelled.{digest_string, digest_valid}
use Rattle.suit_params.proofs.ParamOrder.{above_number, key_small}

-- ---- meanings

value_says : (count place : ℕ) (p : Param) → IsParam p → IsBelow count p → SaysValue count place (key_of p) (value_item p) p
value_says count place (params.Vendor id) fits below = SaysVendor id fits.0
value_says count place (params.Class id) fits below = SaysClass id fits.0
value_says count place (params.Device id) fits below = SaysDevice id fits.0
value_says count place (params.Digest digest) fits below =
    SaysDigest (spell (digest_item digest)) digest (record { item = digest_item digest; spells = record { valid = digest_valid 0 digest (omega arith) fits; is = refl }; says_so = record { is = refl; long = fits.0 } })
value_says count place (params.Slot n) fits below = SaysSlot n
value_says count place (params.Strict b) fits below = SaysStrict b
value_says count place (params.Soft b) fits below = SaysSoft b
value_says count place (params.Size n) fits below = SaysSize n
value_says count place (params.Content bytes) fits below = SaysContent bytes
value_says count place (params.Uri text) fits below = SaysUri text
value_says count place (params.Source i) fits below = SaysSource i below
value_says count place (params.Args bytes) fits below = SaysArgs bytes

pairs_say : (count place : ℕ) (ps : List Param) → AllByRecursion IsParam ps → AllByRecursion (IsBelow count) ps → SayParams count place (param_pairs ps) ps
pairs_say count place [] fits below = NoMore place
pairs_say count place (p ∷ ps) fits below = ParamThen place (key_of p) (value_item p) (param_pairs ps) p ps (value_says count _ p fits.0 below.0) (pairs_say count (next_place place (key_item (key_of p)) (value_item p)) ps fits.1 below.1)

pub written_says : (count place : ℕ) (ps : List Param) → AllByRecursion IsParam ps → AllByRecursion (IsBelow count) ps → IsParams count place (params_item ps) ps
written_says count place ps fits below = ParamMap (param_pairs ps) ps (pairs_say count _ ps fits below)

-- ---- validity

short : (bytes : List ℕ) (n : ℕ) → length bytes ≡ n → n < 2 ^ 64 → AllByRecursion IsByte bytes → IsString bytes
short bytes n long small all = (omega (arith, long), all)

value_valid : (levels : ℕ) (p : Param) → IsParam p → IsValidWithin levels (value_item p)
value_valid levels (params.Vendor id) fits = short id 16 fits.0 (omega arith) fits.1
value_valid levels (params.Class id) fits = short id 16 fits.0 (omega arith) fits.1
value_valid levels (params.Device id) fits = short id 16 fits.0 (omega arith) fits.1
value_valid levels (params.Digest digest) fits = digest_string digest fits
value_valid levels (params.Slot n) fits = fits
value_valid levels (params.Strict b) fits = tt
value_valid levels (params.Soft b) fits = tt
value_valid levels (params.Size n) fits = fits
value_valid levels (params.Content bytes) fits = fits
value_valid levels (params.Uri text) fits = fits
value_valid levels (params.Source i) fits = fits
value_valid levels (params.Args bytes) fits = fits

pairs_valid : (low : ParamKey) (ps : List Param) → AllByRecursion IsParam ps → AreAbove (key_number low) ps → ArePairsWithin 1 (Some (spell (key_item low))) (param_pairs ps)
pairs_valid low [] fits above = tt
pairs_valid low (p ∷ ps) fits above =
    (key_small (key_of p), above_number (key_number low) (key_number (key_of p)) (key_small low) (key_small (key_of p)) above.0, value_valid 1 p fits.0, pairs_valid (key_of p) ps fits.1 above.1)

all_valid : (ps : List Param) → AllByRecursion IsParam ps → AreAscending ps → ArePairsWithin 1 None (param_pairs ps)
all_valid [] fits above = tt
all_valid (p ∷ ps) fits above = (key_small (key_of p), tt, value_valid 1 p fits.0, pairs_valid (key_of p) ps fits.1 above.1)

pub params_counted : (ps : List Param) → length ps ≡ pair_count (param_pairs ps)
params_counted [] = refl
params_counted (p ∷ ps) = omega (arith, params_counted ps)

pub written_valid : (ps : List Param) → length ps < 2 ^ 64 → AllByRecursion IsParam ps → AreAscending ps → IsValid (params_item ps)
written_valid ps small fits above = (omega arith, omega (arith, params_counted ps), all_valid ps fits above)
