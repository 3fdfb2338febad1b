-- The item that says a list of parameters is the map made from the list.
use Rattle.std.proofs.Common.{◌≡◌, ℕ, List, refl, sym, ap, ◌∙◌}
use Rattle.det_cbor.specs.DataItem.{DataItem, DataPairs, ByteString, MapOf, PairThen, spell}
use Rattle.suit_params.specs.declared.param.Param.{Param}
use Rattle.suit_params.specs.declared.param.ParamKey.{ParamKey}
use Rattle.suit_params.specs.ParamKeys.{key_of, key_item}
use Rattle.suit_params.specs.Params.{SaysValue, SaysVendor, SaysDigest, SayParams, NoMore, ParamThen, IsParams, ParamMap}
use Rattle.suit_params.specs.ParamMaking.{value_item, param_pairs, params_item}

-- a value under a key says a parameter with that key
pub said_key : (count place : ℕ) (key : ParamKey) (x : DataItem) (p : Param) → SaysValue count place key x p → key_of p ≡ key
said_key count place key x p (SaysVendor id long) = refl
said_key count place key x p _ = refl

-- ---- the item that is made

value_made : (count place : ℕ) (key : ParamKey) (x : DataItem) (p : Param) → SaysValue count place key x p → x ≡ value_item p
value_made count place key x p (SaysDigest content digest whole) = ap ByteString (whole.spells.is ∙ ap spell whole.says_so.is)
value_made count place key x p _ = refl

pairs_made : (count place : ℕ) (pairs : DataPairs) (ps : List Param) → SayParams count place pairs ps → pairs ≡ param_pairs ps
pairs_made count place pairs ps (NoMore at) = refl
pairs_made count place pairs ps (ParamThen at key value others p qs said rest) =
    λ i. PairThen (key_item (sym (said_key count _ key value p said) i)) (value_made count _ key value p said i) (pairs_made count _ others qs rest i)

pub made : (count place : ℕ) (x : DataItem) (ps : List Param) → IsParams count place x ps → x ≡ params_item ps
made count place x ps (ParamMap pairs qs said) = ap MapOf (pairs_made count _ pairs ps said)
