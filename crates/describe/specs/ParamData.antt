-- Parameters in a description: an object from their names to their values.
use Rattle.std.specs.Prelude.{ℕ, List, [], ◌∷◌, codes}
use Rattle.serde_json.specs.Data.{Data, boolean, string, object, Members, no_members, put}
use Rattle.suit_params.specs.DigestBytes.{digest_bytes}
use Rattle.suit_params.specs.declared.param.Param.{Param}
use Rattle.suit_params.specs.declared.param.Param.TheVariants as params
use Rattle.describe.specs.ValueData.{hex_data, uuid_data, number_data}

-- the name and the value of a parameter
abbrev pub param_member : Param → List ℕ × Data
param_member (params.Vendor id) = (codes "vendor", uuid_data id)
param_member (params.Class id) = (codes "class", uuid_data id)
param_member (params.Device id) = (codes "device", uuid_data id)
param_member (params.Digest digest) = (codes "digest", hex_data (digest_bytes digest))
param_member (params.Slot n) = (codes "slot", number_data n)
param_member (params.Strict b) = (codes "strict", boolean b)
param_member (params.Soft b) = (codes "soft", boolean b)
param_member (params.Size n) = (codes "size", number_data n)
param_member (params.Content bytes) = (codes "content", hex_data bytes)
param_member (params.Uri text) = (codes "uri", string text)
param_member (params.Source i) = (codes "source", number_data i)
param_member (params.Args bytes) = (codes "args", hex_data bytes)

abbrev pub param_name : Param → List ℕ
param_name p = (param_member p).0

abbrev pub value_data : Param → Data
value_data p = (param_member p).1

-- the parameters are added, each under its name, to the members that are there
abbrev pub with_params : List Param → Members → Members
with_params [] ms = ms
with_params (p ∷ ps) ms = with_params ps (put (param_name p) (value_data p) ms)

abbrev pub params_data : List Param → Data
params_data ps = object (with_params ps no_members)
