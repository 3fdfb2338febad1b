-- The parameters in force (draft-ietf-suit-manifest-25, sections 6.4.1 and 8.4.8) as one list: at most one
-- parameter for each of eight components and twelve keys. If the same parameters are in force, the lists are
-- equal.
use Rattle.std.specs.Prelude.{◌≡◌, ◌<◌, ℕ, ◌+◌, ◌*◌, ◌==◌, if◌then◌else◌, List, [], ◌∷◌, Option, Some, None, slice_get, slice_set}
use Rattle.std.proofs.Math.ListN.{replicate}
use Rattle.suit_params.specs.declared.digest.Digest.{Digest}
use Rattle.suit_params.specs.declared.param.Param.{Param}
use Rattle.suit_params.specs.declared.param.Param.TheVariants as params
use Rattle.suit_params.specs.declared.param.ParamKey.{ParamKey}
use Rattle.suit_params.specs.declared.param.ParamKey.TheVariants as keys
use Rattle.suit_params.specs.ParamKeys.{key_of}

abbrev pub Parameters : Type 0
Parameters = List (Option Param)

-- the position of a key among the twelve, in the order of their numbers
abbrev pub rank : ParamKey → ℕ
rank keys.Vendor = 0
rank keys.Class = 1
rank keys.Digest = 2
rank keys.Slot = 3
rank keys.Strict = 4
rank keys.Soft = 5
rank keys.Size = 6
rank keys.Content = 7
rank keys.Uri = 8
rank keys.Source = 9
rank keys.Args = 10
rank keys.Device = 11

-- the index in the list for a component and a key
abbrev pub cell : ℕ → ParamKey → ℕ
cell component key = 12 * component + rank key

unfoldable pub none_in_force : Parameters
none_in_force = replicate 96 None

-- the parameters after an override, which replaces the one with its key
abbrev pub with_param : Parameters → ℕ → Param → Parameters
with_param parameters component param =
    slice_set parameters (cell component (key_of param)) (Some param)

abbrev pub held_at : Option (Option Param) → Option Param
held_at None = None
held_at (Some held) = held

-- the component's parameter with this key, if one is in force
abbrev pub in_force : Parameters → ℕ → ParamKey → Option Param
in_force parameters component key = held_at (slice_get parameters (cell component key))

-- ---- their values

abbrev pub identifier_of : Option Param → Option (List ℕ)
identifier_of (Some (params.Vendor id)) = Some id
identifier_of (Some (params.Class id)) = Some id
identifier_of (Some (params.Device id)) = Some id
identifier_of _ = None

abbrev pub number_of : Option Param → Option ℕ
number_of (Some (params.Slot number)) = Some number
number_of (Some (params.Size size)) = Some size
number_of (Some (params.Source component)) = Some component
number_of _ = None

abbrev pub digest_of : Option Param → Option Digest
digest_of (Some (params.Digest digest)) = Some digest
digest_of _ = None

abbrev pub bytes_of : Option Param → Option (List ℕ)
bytes_of (Some (params.Content bytes)) = Some bytes
bytes_of (Some (params.Uri text)) = Some text
bytes_of (Some (params.Args bytes)) = Some bytes
bytes_of _ = None

-- the image digest in force for the component
abbrev pub digest_in : Parameters → ℕ → Option Digest
digest_in parameters component = digest_of (in_force parameters component keys.Digest)

-- the image size in force for the component
abbrev pub size_in : Parameters → ℕ → Option ℕ
size_in parameters component = number_of (in_force parameters component keys.Size)

-- ---- overriding several parameters, in their order

abbrev pub overridden : Parameters → ℕ → List Param → Parameters
overridden parameters component [] = parameters
overridden parameters component (param ∷ list) =
    overridden (with_param parameters component param) component list

-- the last parameter of the list with this key, or else the one before
abbrev pub last_of : List Param → ParamKey → Option Param → Option Param
last_of [] key before = before
last_of (param ∷ list) key before =
    last_of list key (if rank (key_of param) == rank key then Some param else before)

-- the component has the last parameter of the list for each key, and the other components keep theirs
abbrev pub IsOverridden : Parameters → Parameters → ℕ → List Param → Type 0
IsOverridden before after component list =
    (other : ℕ) (key : ParamKey) → other < 8
    → in_force after other key
    ≡
    (if other == component then last_of list key (in_force before component key)
    else in_force before other key)
