-- The parameters that a valid item says are those of the grammar.
use Rattle.std.proofs.Common.{ℕ, ◌+◌, Option, Some, None, List, subst}
use Rattle.std.specs.List.{AllByRecursion}
use Rattle.det_cbor.specs.DataItem.{DataItem, DataPairs, spell, IsByte, IsValid, IsValidWithin, ArePairsWithin}
use Rattle.det_cbor.specs.LevelLaws.{valid_alone}
use Rattle.suit_params.specs.declared.param.Param.{Param}
use Rattle.suit_params.specs.declared.param.ParamKey.{ParamKey}
use Rattle.suit_params.specs.declared.digest.Digest.{Digest}
use Rattle.suit_params.specs.DigestBytes.{digest_bytes}
use Rattle.suit_params.specs.Digests.{IsDigest}
use Rattle.suit_params.specs.Params.{SaysValue, SaysVendor, SaysClass, SaysDevice, SaysDigest, SaysSlot, SaysStrict, SaysSoft, SaysSize, SaysContent, SaysUri, SaysSource, SaysArgs, SayParams, NoMore, ParamThen, IsParams, ParamMap}
use Rattle.suit_params.specs.ParamKeys.{key_item}
use Rattle.suit_params.specs.ParamLaws.{AreAscending}
use Rattle.suit_params.specs.ParamMaking.{IsParam, IsBelow}
use Rattle.suit_params.proofs.ParamLawProofs.{param_laws}

-- the bytes of a digest that a valid item says
digest_valid : (place : ℕ) (x : DataItem) (digest : Digest) → IsValid x → IsDigest place x digest → AllByRecursion IsByte (digest_bytes digest)
digest_valid place x digest valid is = (subst IsValid is.is valid).2.1.0.1

value_param : (count deep place : ℕ) (key : ParamKey) (x : DataItem) (p : Param) → IsValidWithin deep x → SaysValue count place key x p → IsParam p × IsBelow count p
value_param count deep place key x p valid (SaysVendor id long) = ((long, valid.1), tt)
value_param count deep place key x p valid (SaysClass id long) = ((long, valid.1), tt)
value_param count deep place key x p valid (SaysDevice id long) = ((long, valid.1), tt)
value_param count deep place key x p valid (SaysDigest content digest whole) = ((whole.says_so.long, digest_valid _ whole.item digest whole.spells.valid whole.says_so), tt)
value_param count deep place key x p valid (SaysSlot n) = (valid, tt)
value_param count deep place key x p valid (SaysStrict b) = (tt, tt)
value_param count deep place key x p valid (SaysSoft b) = (tt, tt)
value_param count deep place key x p valid (SaysSize n) = (valid, tt)
value_param count deep place key x p valid (SaysContent bytes) = (valid, tt)
value_param count deep place key x p valid (SaysUri text) = (valid, tt)
value_param count deep place key x p valid (SaysSource i lt) = (valid, lt)
value_param count deep place key x p valid (SaysArgs bytes) = (valid, tt)

pairs_params : (count deep place : ℕ) (before : Option (List ℕ)) (pairs : DataPairs) (ps : List Param) → ArePairsWithin deep before pairs → SayParams count place pairs ps → AllByRecursion IsParam ps × AllByRecursion (IsBelow count) ps
pairs_params count deep place before pairs ps valid (NoMore at) = (tt, tt)
pairs_params count deep place before pairs ps valid (ParamThen at key value others p qs said rest) =
    let first = value_param count deep _ key value p valid.2 said in
    let more = pairs_params count deep _ (Some (spell (key_item key))) others qs valid.3 rest in
    ((first.0, more.0), (first.1, more.1))

pub said_params : (count deep place : ℕ) (x : DataItem) (ps : List Param) → IsValidWithin deep x → IsParams count place x ps → AllByRecursion IsParam ps × AllByRecursion (IsBelow count) ps × AreAscending ps
said_params count deep place x ps valid said = by_map x ps valid said (param_laws.ascending count place x ps (valid_alone deep x valid) said)
  where
    by_map : (x : DataItem) (ps : List Param) → IsValidWithin deep x → IsParams count place x ps → AreAscending ps → AllByRecursion IsParam ps × AllByRecursion (IsBelow count) ps × AreAscending ps
    by_map x ps valid (ParamMap pairs qs pairs_said) ascending = let all = pairs_params count (deep + 1) _ None pairs ps valid.2 pairs_said in (all.0, all.1, ascending)
