-- A device's description: an object with an array of components and, for layout version 2, a base.
use Rattle.std.specs.Prelude.{ℕ, ◌^◌, ◌-◌, nat_le, if◌then◌else◌, List, length, codes, Option, Some, None, Result, Ok}
use Rattle.std.specs.Str.{bytes_eq}
use Rattle.det_cbor.specs.HeadReading.{◌>>=◌}
use Rattle.serde_json.specs.Data.{Data}
use Rattle.json_fields.specs.declared.flaw.Flaw.{Flaw}
use Rattle.json_fields.specs.declared.flaw.FlawKind.TheVariants.{Field}
use Rattle.json_fields.specs.Flaws.{flawed}
use Rattle.json_fields.specs.Values.{number_up_to}
use Rattle.json_fields.specs.Arrays.{array_of}
use Rattle.json_fields.specs.Objects.{Takes, object_of, required}
use Rattle.flash_layout.specs.declared.frame.Frame.{Frame}
use Rattle.flash_layout.specs.declared.frame.TheConstants.{VERSION_1}
use Rattle.flash_layout.specs.declared.layout.Entry.{Entry}
use Rattle.flash_layout.specs.declared.device_fields.DeviceFields.{DeviceFields}
use Rattle.flash_layout.specs.ComponentFields.{component_of}
use Rattle.flash_layout.specs.Roots.{second_frame}

-- there must be at least one component
abbrev pub some_components : List Entry → Result (List Entry) Flaw
some_components entries = if nat_le 1 (length entries) then Ok entries else flawed Field

abbrev pub components_of : Data → Result (List Entry) Flaw
components_of d = array_of component_of d >>= λ entries. some_components entries

-- takes a member, by its key
abbrev pub takes_device : Takes DeviceFields
takes_device t key d =
    if bytes_eq key (codes "base")
    then (number_up_to (2 ^ 64 - 1) d >>= λ base. Ok (record t { base = Some base }))
    else if bytes_eq key (codes "components")
    then (components_of d >>= λ entries. Ok (record t { components = Some entries }))
    else flawed Field

-- a base selects version 2
abbrev pub frame_with : Option ℕ → Frame
frame_with None = VERSION_1
frame_with (Some base) = second_frame base

abbrev pub no_device : DeviceFields
no_device = record { base = None; components = None }

-- the components and the frame that a JSON value describes, or the first flaw of its fields
abbrev pub described_layout : Data → Result (List Entry × Frame) Flaw
described_layout d =
    object_of takes_device no_device d
    >>= λ t. required (codes "components") t.components
    >>= λ entries. Ok (entries, frame_with t.base)
