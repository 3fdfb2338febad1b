-- Laws of all maps of parameters.
use Rattle.std.specs.Prelude.{◌≡◌, ◌<◌, ◌^◌, ◌⊎◌, ℕ, List, [], ◌∷◌, length}
use Rattle.std.specs.List.{AllByRecursion}
use Rattle.det_cbor.specs.DataItem.{DataItem, IsValid}
use Rattle.suit_params.specs.declared.param.Param.{Param}
use Rattle.suit_params.specs.declared.refusal.Refusal.{Refusal}
use Rattle.suit_params.specs.Digests.{IsDigest, RefusesDigest}
use Rattle.suit_params.specs.OneWhole.{HasOneAnswer}
use Rattle.suit_params.specs.ParamKeys.{key_of, key_number}
use Rattle.suit_params.specs.Params.{IsParams, RefusesParams}
use Rattle.suit_params.specs.ParamMaking.{params_item, IsParam, IsBelow}

-- the item says exactly one list, and has no refusal
pub record HasOneList (count place : ℕ) (x : DataItem) : Type 0 where
  pub list : List Param
  pub says : IsParams count place x list
  pub only : (ps : List Param) → IsParams count place x ps → ps ≡ list
  pub sound : (r : Refusal) → RefusesParams count place x r → ⊥

-- the item has exactly one refusal, and says no list
pub record HasOneRefusal (count place : ℕ) (x : DataItem) : Type 0 where
  pub refusal : Refusal
  pub refuses : RefusesParams count place x refusal
  pub only : (r : Refusal) → RefusesParams count place x r → r ≡ refusal
  pub empty : (ps : List Param) → IsParams count place x ps → ⊥

-- the numbers of the keys ascend, and are above this one
abbrev pub AreAbove : ℕ → List Param → Type 0
AreAbove low [] = Unit {0}
AreAbove low (p ∷ ps) = (low < key_number (key_of p)) × AreAbove (key_number (key_of p)) ps

abbrev pub AreAscending : List Param → Type 0
AreAscending ps = AreAbove 0 ps

-- Each item says exactly one list or has exactly one refusal, and never both. Lists ascend. The map made from
-- a list says that list, and is valid if the list ascends; an item that says a list is the one made from it.
-- So any bytes are exactly one digest or have exactly one refusal, and say exactly one list or have exactly
-- one refusal.
pub record ParamLaws : Type 0 where
  pub one_reading : (count place : ℕ) (x : DataItem) → IsValid x
      → HasOneList count place x ⊎ HasOneRefusal count place x
  pub ascending : (count place : ℕ) (x : DataItem) (ps : List Param) → IsValid x
      → IsParams count place x ps → AreAscending ps
  pub written : (count place : ℕ) (ps : List Param) → AllByRecursion IsParam ps
      → AllByRecursion (IsBelow count) ps → IsParams count place (params_item ps) ps
  pub valid : (ps : List Param) → length ps < 2 ^ 64 → AllByRecursion IsParam ps → AreAscending ps
      → IsValid (params_item ps)
  pub made : (count place : ℕ) (x : DataItem) (ps : List Param) → IsParams count place x ps
      → x ≡ params_item ps
  pub digests : HasOneAnswer IsDigest RefusesDigest
  pub maps : (count : ℕ) → HasOneAnswer (IsParams count) (RefusesParams count)
