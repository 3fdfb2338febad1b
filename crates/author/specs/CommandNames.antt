-- Names of commands in a description.
use Rattle.std.specs.Prelude.{ℕ, Bool, if◌then◌else◌, List, codes, Option, Some, None, option_and_then, Result, Ok}
use Rattle.std.specs.Str.{bytes_eq}
use Rattle.det_cbor.specs.HeadReading.{◌>>=◌}
use Rattle.serde_json.specs.Data.{Data}
use Rattle.serde_json.specs.Find.{as_str}
use Rattle.json_fields.specs.declared.flaw.Flaw.{Flaw}
use Rattle.json_fields.specs.declared.flaw.FlawKind.TheVariants.{Field}
use Rattle.json_fields.specs.Flaws.{flawed, found_or}
use Rattle.suit_commands.specs.declared.kinds.TestKind.TheVariants as tests
use Rattle.suit_commands.specs.declared.kinds.ActKind.TheVariants as acts
use Rattle.author.specs.declared.command_name.CommandName.{CommandName}
use Rattle.author.specs.declared.command_name.CommandName.TheVariants as names

abbrev pub command_named : List ℕ → Option CommandName
command_named name =
    if bytes_eq name (codes "vendor") then Some (names.Test tests.Vendor)
    else if bytes_eq name (codes "class") then Some (names.Test tests.Class)
    else if bytes_eq name (codes "match") then Some (names.Test tests.ImageMatch)
    else if bytes_eq name (codes "slot") then Some (names.Test tests.Slot)
    else if bytes_eq name (codes "content") then Some (names.Test tests.CheckContent)
    else if bytes_eq name (codes "abort") then Some (names.Test tests.Abort)
    else if bytes_eq name (codes "device") then Some (names.Test tests.Device)
    else if bytes_eq name (codes "write") then Some (names.Act acts.Write)
    else if bytes_eq name (codes "fetch") then Some (names.Act acts.Fetch)
    else if bytes_eq name (codes "copy") then Some (names.Act acts.Copy)
    else if bytes_eq name (codes "invoke") then Some (names.Act acts.Invoke)
    else if bytes_eq name (codes "swap") then Some (names.Act acts.Swap)
    else if bytes_eq name (codes "index") then Some names.Index
    else if bytes_eq name (codes "set") then Some names.Set
    else if bytes_eq name (codes "try") then Some names.Try
    else if bytes_eq name (codes "run") then Some names.Run
    else None

-- directives that act on contents are not allowed in the shared sequence
abbrev pub allowed : Bool → CommandName → Result CommandName Flaw
allowed shared (names.Act kind) = if shared then flawed Field else Ok (names.Act kind)
allowed shared name = Ok name

abbrev pub name_of : Bool → Data → Result CommandName Flaw
name_of shared d =
    found_or Field (option_and_then command_named (as_str d)) >>= λ name. allowed shared name
