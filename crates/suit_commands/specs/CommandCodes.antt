-- Codes of commands (draft-ietf-suit-manifest-25, sections 8.4.9 and 8.4.10).
use Rattle.std.specs.Prelude.{ℕ, List, [], ◌∷◌, Option}
use Rattle.suit_params.specs.Numbering.{numbered_in}
use Rattle.suit_commands.specs.declared.kinds.TestKind.TheVariants as tests
use Rattle.suit_commands.specs.declared.kinds.ActKind.TheVariants as acts
use Rattle.suit_commands.specs.declared.command_code.CommandCode.{CommandCode}
use Rattle.suit_commands.specs.declared.command_code.CommandCode.TheVariants as codes
use Rattle.suit_commands.specs.Kinds.{test_code, act_code}

-- the number of a command in a command sequence
abbrev pub code_number : CommandCode → ℕ
code_number (codes.Test kind) = test_code kind
code_number (codes.Act kind) = act_code kind
code_number codes.Index = 12
code_number codes.TryEach = 15
code_number codes.Override = 20
code_number codes.Run = 32

-- all commands, in the order of their numbers
abbrev pub all_codes : List CommandCode
all_codes =
    codes.Test tests.Vendor ∷ codes.Test tests.Class ∷ codes.Test tests.ImageMatch
    ∷ codes.Test tests.Slot ∷ codes.Test tests.CheckContent ∷ codes.Index ∷ codes.Test tests.Abort
    ∷ codes.TryEach ∷ codes.Act acts.Write ∷ codes.Override ∷ codes.Act acts.Fetch
    ∷ codes.Act acts.Copy ∷ codes.Act acts.Invoke ∷ codes.Test tests.Device ∷ codes.Act acts.Swap
    ∷ codes.Run ∷ []

-- the command with this number, if there is one
abbrev pub numbered : ℕ → Option CommandCode
numbered n = numbered_in code_number all_codes n
