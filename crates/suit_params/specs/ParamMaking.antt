-- The map that a list of parameters is written as (draft-ietf-suit-manifest-25, section 8.4.8).
use Rattle.std.specs.Prelude.{◌≡◌, ◌<◌, ◌^◌, ℕ, List, [], ◌∷◌, length}
use Rattle.std.specs.List.{AllByRecursion}
use Rattle.std.specs.Str.{IsUtf8}
use Rattle.det_cbor.specs.DataItem.{DataItem, UnsignedInteger, ByteString, TextString, MapOf, Boolean, DataPairs, NoPairs, PairThen, spell, IsByte, IsString}
use Rattle.suit_params.specs.declared.param.Param.{Param}
use Rattle.suit_params.specs.declared.param.Param.TheVariants as params
use Rattle.suit_params.specs.DigestBytes.{IsDigestBytes}
use Rattle.suit_params.specs.Digests.{digest_item}
use Rattle.suit_params.specs.ParamKeys.{key_of, key_item}

abbrev pub value_item : Param → DataItem
value_item (params.Vendor id) = ByteString id
value_item (params.Class id) = ByteString id
value_item (params.Device id) = ByteString id
value_item (params.Digest digest) = ByteString (spell (digest_item digest))
value_item (params.Slot n) = UnsignedInteger n
value_item (params.Strict b) = Boolean b
value_item (params.Soft b) = Boolean b
value_item (params.Size n) = UnsignedInteger n
value_item (params.Content bytes) = ByteString bytes
value_item (params.Uri text) = TextString text
value_item (params.Source i) = UnsignedInteger i
value_item (params.Args bytes) = ByteString bytes

abbrev pub param_pairs : List Param → DataPairs
param_pairs [] = NoPairs
param_pairs (p ∷ ps) = PairThen (key_item (key_of p)) (value_item p) (param_pairs ps)

abbrev pub params_item : List Param → DataItem
params_item ps = MapOf (param_pairs ps)

-- ---- the bounds that the types of the code set a parameter

-- a vendor, class or device identifier has 16 bytes
abbrev pub IsId : List ℕ → Type 0
IsId id = (length id ≡ 16) × AllByRecursion IsByte id

abbrev pub IsParam : Param → Type 0
IsParam (params.Vendor id) = IsId id
IsParam (params.Class id) = IsId id
IsParam (params.Device id) = IsId id
IsParam (params.Digest digest) = IsDigestBytes digest
IsParam (params.Slot n) = n < 2 ^ 64
IsParam (params.Strict b) = Unit {0}
IsParam (params.Soft b) = Unit {0}
IsParam (params.Size n) = n < 2 ^ 64
IsParam (params.Content bytes) = IsString bytes
IsParam (params.Uri text) = IsString text × IsUtf8 text
IsParam (params.Source i) = i < 2 ^ 64
IsParam (params.Args bytes) = IsString bytes

-- the index of a source is below the number of components
abbrev pub IsBelow : ℕ → Param → Type 0
IsBelow count (params.Source i) = i < count
IsBelow count _ = Unit {0}
