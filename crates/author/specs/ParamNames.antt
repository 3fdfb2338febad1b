-- Names of parameters in a description.
use Rattle.std.specs.Prelude.{ℕ, if◌then◌else◌, List, codes, Option, Some, None}
use Rattle.std.specs.Str.{bytes_eq}
use Rattle.suit_params.specs.declared.param.ParamKey.{ParamKey}
use Rattle.suit_params.specs.declared.param.ParamKey.TheVariants as keys

abbrev pub param_named : List ℕ → Option ParamKey
param_named name =
    if bytes_eq name (codes "vendor") then Some keys.Vendor
    else if bytes_eq name (codes "class") then Some keys.Class
    else if bytes_eq name (codes "device") then Some keys.Device
    else if bytes_eq name (codes "digest") then Some keys.Digest
    else if bytes_eq name (codes "slot") then Some keys.Slot
    else if bytes_eq name (codes "size") then Some keys.Size
    else if bytes_eq name (codes "strict") then Some keys.Strict
    else if bytes_eq name (codes "soft") then Some keys.Soft
    else if bytes_eq name (codes "content") then Some keys.Content
    else if bytes_eq name (codes "uri") then Some keys.Uri
    else if bytes_eq name (codes "source") then Some keys.Source
    else if bytes_eq name (codes "args") then Some keys.Args
    else None
