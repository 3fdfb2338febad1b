-- A map says the same parameters at each place.
use Rattle.std.proofs.Common.{ℕ, List}
use Rattle.det_cbor.specs.DataItem.{DataItem, DataPairs}
use Rattle.suit_params.specs.declared.digest.Digest.{Digest}
use Rattle.suit_params.specs.declared.param.Param.{Param}
use Rattle.suit_params.specs.declared.param.ParamKey.{ParamKey}
use Rattle.suit_params.specs.Digests.{IsDigest}
use Rattle.suit_params.specs.Params.{SaysValue, SaysVendor, SaysClass, SaysDevice, SaysDigest, SaysSlot, SaysStrict, SaysSoft, SaysSize, SaysContent, SaysUri, SaysSource, SaysArgs, SayParams, NoMore, ParamThen, IsParams, ParamMap}

pub digest_moved : (p q : ℕ) (x : DataItem) (digest : Digest) → IsDigest p x digest → IsDigest q x digest
digest_moved p q x digest said = record { is = said.is; long = said.long }

value_moved : (count p q : ℕ) (key : ParamKey) (x : DataItem) (a : Param) → SaysValue count p key x a → SaysValue count q key x a
value_moved count p q key x a (SaysVendor id long) = SaysVendor id long
value_moved count p q key x a (SaysClass id long) = SaysClass id long
value_moved count p q key x a (SaysDevice id long) = SaysDevice id long
value_moved count p q key x a (SaysDigest content digest said) =
    SaysDigest content digest (record { item = said.item; spells = said.spells; says_so = digest_moved _ _ said.item digest said.says_so })
value_moved count p q key x a (SaysSlot n) = SaysSlot n
value_moved count p q key x a (SaysStrict b) = SaysStrict b
value_moved count p q key x a (SaysSoft b) = SaysSoft b
value_moved count p q key x a (SaysSize n) = SaysSize n
value_moved count p q key x a (SaysContent bytes) = SaysContent bytes
value_moved count p q key x a (SaysUri text) = SaysUri text
value_moved count p q key x a (SaysSource i lt) = SaysSource i lt
value_moved count p q key x a (SaysArgs bytes) = SaysArgs bytes

pairs_moved : (count p q : ℕ) (pairs : DataPairs) (list : List Param) → SayParams count p pairs list → SayParams count q pairs list
pairs_moved count p q pairs list (NoMore at) = NoMore q
pairs_moved count p q pairs list (ParamThen at key value others a rest said more) =
    ParamThen q key value others a rest (value_moved count _ _ key value a said) (pairs_moved count _ _ others rest more)

pub params_moved : (count p q : ℕ) (x : DataItem) (list : List Param) → IsParams count p x list → IsParams count q x list
params_moved count p q x list (ParamMap pairs rest said) = ParamMap pairs list (pairs_moved count _ _ pairs list said)
