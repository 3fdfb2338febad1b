-- The commands of a sequence in a description, by the names in its array, in order.
use Rattle.std.specs.Prelude.{◌≡◌, ℕ, if◌then◌else◌, List, [], ◌∷◌, map, codes, Option, Some, None, option_and_then}
use Rattle.std.specs.Str.{bytes_eq}
use Rattle.serde_json.specs.Data.{Items, no_items, item}
use Rattle.serde_json.specs.Find.{at, as_str}
use Rattle.suit_commands.specs.SequenceMaking.{code_of}
use Rattle.suit_commands.specs.Tree.{SequenceTree, NoSteps, StepThen}

-- the code of the command with this name (draft-ietf-suit-manifest-25, sections 8.4.9 and 8.4.10)
abbrev pub code_named : List ℕ → Option ℕ
code_named name =
    if bytes_eq name (codes "vendor") then Some 1
    else if bytes_eq name (codes "class") then Some 2
    else if bytes_eq name (codes "match") then Some 3
    else if bytes_eq name (codes "slot") then Some 5
    else if bytes_eq name (codes "content") then Some 6
    else if bytes_eq name (codes "abort") then Some 14
    else if bytes_eq name (codes "device") then Some 24
    else if bytes_eq name (codes "write") then Some 18
    else if bytes_eq name (codes "fetch") then Some 21
    else if bytes_eq name (codes "copy") then Some 22
    else if bytes_eq name (codes "invoke") then Some 23
    else if bytes_eq name (codes "swap") then Some 31
    else if bytes_eq name (codes "index") then Some 12
    else if bytes_eq name (codes "set") then Some 20
    else if bytes_eq name (codes "try") then Some 15
    else if bytes_eq name (codes "run") then Some 32
    else None

-- the code of the name in each element
abbrev pub codes_listed : Items → List (Option ℕ)
codes_listed no_items = []
codes_listed (item d ds) =
    option_and_then code_named (option_and_then as_str (at 0 d)) ∷ codes_listed ds

-- the code of each command
abbrev pub codes_in : SequenceTree → List ℕ
codes_in NoSteps = []
codes_in (StepThen place command rest) = code_of command ∷ codes_in rest

abbrev pub HasCommandsOf : Items → SequenceTree → Type 0
HasCommandsOf ds s = codes_listed ds ≡ map Some (codes_in s)
