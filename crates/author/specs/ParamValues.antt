-- Parameters in a description: an object from names to values.
use Rattle.std.specs.Prelude.{◌≡◌, ◌<◌, ◌≤◌, ℕ, ◌^◌, ◌-◌, nat_lt, if◌then◌else◌, List, [], ◌∷◌, length, Option, Some, None, Result, Ok, Err}
use Rattle.std.specs.List.{insert, slice_set}
use Rattle.std.specs.declared.cmp.Ordering.{Ordering}
use Rattle.std.specs.Ordering.{nat_cmp, match_ordering}
use Rattle.det_cbor.specs.HeadReading.{◌>>=◌}
use Rattle.serde_json.specs.Data.{Data}
use Rattle.json_fields.specs.declared.flaw.Flaw.{Flaw}
use Rattle.json_fields.specs.declared.flaw.FlawKind.TheVariants.{Field}
use Rattle.json_fields.specs.Flaws.{flawed}
use Rattle.json_fields.specs.Values.{number_up_to, flag_of, text_of, hex_of, uuid_of}
use Rattle.json_fields.specs.Objects.{Takes, object_of}
use Rattle.suit_params.specs.declared.param.Param.{Param}
use Rattle.suit_params.specs.declared.param.Param.TheVariants as params
use Rattle.suit_params.specs.declared.param.ParamKey.{ParamKey}
use Rattle.suit_params.specs.declared.param.ParamKey.TheVariants as keys
use Rattle.suit_params.specs.ParamKeys.{key_of, key_number}
use Rattle.author.specs.Scope.{Scope}
use Rattle.author.specs.FileValues.{digest_of, size_of, content_of}
use Rattle.author.specs.ParamNames.{param_named}

abbrev pub number_of : Data → Result ℕ Flaw
number_of d = number_up_to (2 ^ 64 - 1) d

-- the index of a component, out of so many
abbrev pub index_of : ℕ → Data → Result ℕ Flaw
index_of count d = number_of d >>= λ i. if nat_lt i count then Ok i else flawed Field

abbrev pub param_value : Scope → ParamKey → Data → Result Param Flaw
param_value scope keys.Vendor d = uuid_of d >>= λ id. Ok (params.Vendor id)
param_value scope keys.Class d = uuid_of d >>= λ id. Ok (params.Class id)
param_value scope keys.Device d = uuid_of d >>= λ id. Ok (params.Device id)
param_value scope keys.Digest d =
    digest_of scope.files d >>= λ digest. Ok (params.Digest digest)
param_value scope keys.Slot d = number_of d >>= λ n. Ok (params.Slot n)
param_value scope keys.Strict d = flag_of d >>= λ b. Ok (params.Strict b)
param_value scope keys.Soft d = flag_of d >>= λ b. Ok (params.Soft b)
param_value scope keys.Size d = size_of scope.files d >>= λ n. Ok (params.Size n)
param_value scope keys.Content d = content_of scope.files d >>= λ bytes. Ok (params.Content bytes)
param_value scope keys.Uri d = text_of d >>= λ text. Ok (params.Uri text)
param_value scope keys.Source d = index_of scope.count d >>= λ i. Ok (params.Source i)
param_value scope keys.Args d = hex_of d >>= λ bytes. Ok (params.Args bytes)

abbrev pub param_order : Param → Param → Ordering
param_order p q = nat_cmp (key_number (key_of p)) (key_number (key_of q))

-- a parameter is put in its place in a list that ascends by number, and replaces one with the same key
abbrev pub placed_among : Param → List Param → List Param
placed_among p [] = p ∷ []
placed_among p (q ∷ qs) =
    match_ordering (param_order p q) (p ∷ q ∷ qs) (p ∷ qs) (q ∷ placed_among p qs)

-- the index is that of a parameter with the same key, or else the one where this parameter belongs
abbrev pub IsPlaceOf : List Param → Param → Result ℕ ℕ → Type 0
IsPlaceOf list p (Ok i) = (i < length list) × (slice_set list i p ≡ placed_among p list)
IsPlaceOf list p (Err i) = (i ≤ length list) × (insert list i p ≡ placed_among p list)

-- the parameters that have been read
pub record ParamsSoFar : Type 0 where
  pub scope : Scope
  pub list : List Param

abbrev pub takes_named : ParamsSoFar → Option ParamKey → Data → Result ParamsSoFar Flaw
takes_named t None d = flawed Field
takes_named t (Some key) d =
    param_value t.scope key d >>= λ p. Ok (record t { list = placed_among p t.list })

abbrev pub takes_param : Takes ParamsSoFar
takes_param t name d = takes_named t (param_named name) d

abbrev pub params_of : Scope → Data → Result (List Param) Flaw
params_of scope d = object_of takes_param (record { scope = scope; list = [] }) d >>= λ t. Ok t.list
