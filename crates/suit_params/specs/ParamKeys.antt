-- Keys of parameters (draft-ietf-suit-manifest-25, section 8.4.8).
use Rattle.std.specs.Prelude.{ℕ, List, [], ◌∷◌, Option}
use Rattle.det_cbor.specs.DataItem.{DataItem, UnsignedInteger}
use Rattle.suit_params.specs.declared.param.Param.{Param}
use Rattle.suit_params.specs.declared.param.Param.TheVariants as params
use Rattle.suit_params.specs.declared.param.ParamKey.{ParamKey}
use Rattle.suit_params.specs.declared.param.ParamKey.TheVariants as keys
use Rattle.suit_params.specs.Numbering.{numbered_in}

-- the key of a parameter
abbrev pub key_of : Param → ParamKey
key_of (params.Vendor id) = keys.Vendor
key_of (params.Class id) = keys.Class
key_of (params.Device id) = keys.Device
key_of (params.Digest digest) = keys.Digest
key_of (params.Slot number) = keys.Slot
key_of (params.Strict value) = keys.Strict
key_of (params.Soft value) = keys.Soft
key_of (params.Size size) = keys.Size
key_of (params.Content bytes) = keys.Content
key_of (params.Uri text) = keys.Uri
key_of (params.Source component) = keys.Source
key_of (params.Args bytes) = keys.Args

-- the number of the key in a map of parameters
abbrev pub key_number : ParamKey → ℕ
key_number keys.Vendor = 1
key_number keys.Class = 2
key_number keys.Device = 24
key_number keys.Digest = 3
key_number keys.Slot = 5
key_number keys.Strict = 12
key_number keys.Soft = 13
key_number keys.Size = 14
key_number keys.Content = 18
key_number keys.Uri = 21
key_number keys.Source = 22
key_number keys.Args = 23

-- the key as an item in a map of parameters
abbrev pub key_item : ParamKey → DataItem
key_item key = UnsignedInteger (key_number key)

-- all keys, in the order of their numbers
abbrev pub all_keys : List ParamKey
all_keys =
    keys.Vendor ∷ keys.Class ∷ keys.Digest ∷ keys.Slot ∷ keys.Strict ∷ keys.Soft ∷ keys.Size
    ∷ keys.Content ∷ keys.Uri ∷ keys.Source ∷ keys.Args ∷ keys.Device ∷ []

-- the key with this number, if there is one
abbrev pub numbered : ℕ → Option ParamKey
numbered n = numbered_in key_number all_keys n
