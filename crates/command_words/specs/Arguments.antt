-- The commands as `clap` knows them, which hands out their arguments.
use Rattle.std.specs.Prelude.{true, Some, codes}
use Rattle.clap.specs.Lexer.{usize_max}
use Rattle.clap.specs.Walk.{Rule}
use Rattle.clap.specs.Simple.{App, new_app, new_rule, on_top, with_rule}
use Rattle.command_words.specs.Tasks.{Word}
use Rattle.command_words.specs.declared.arguments.Values.{Values}
use Rattle.command_words.specs.declared.arguments.Values.TheVariants as has
use Rattle.command_words.specs.declared.arguments.Row.{Row}
use Rattle.command_words.specs.declared.arguments.Row.TheVariants as row

-- an argument with one value, or with any number of values
abbrev pub rule_for : Values → Word → Rule
rule_for has.One id = new_rule id
rule_for has.AnyNumber id =
    record (new_rule id)
    { range = Some (record { start_inclusive = 0; end_inclusive = usize_max }) }

-- a command with this name and without arguments; its words do not include its name, and it has no help flag
abbrev pub bare_app : Word → App
bare_app name =
    on_top (λ s. record s { no_binary_name = true; disable_help_flag = true }) (new_app name)

-- the command of each row: its name, and its arguments in order
abbrev pub app_for : Row → App
app_for row.Check = with_rule (bare_app (codes "check")) (rule_for has.One (codes "FILE"))
app_for row.Diagnose = with_rule (bare_app (codes "diag")) (rule_for has.One (codes "FILE"))
app_for row.Drill = with_rule (bare_app (codes "drill")) (rule_for has.One (codes "NUMBER"))
app_for row.Init =
    with_rule (with_rule (bare_app (codes "init")) (rule_for has.One (codes "DEVICE")))
    (rule_for has.One (codes "KEY"))
app_for row.Make =
    with_rule
    (with_rule (with_rule (bare_app (codes "make")) (rule_for has.One (codes "DESCRIPTION")))
    (rule_for has.One (codes "KEY")))
    (rule_for has.One (codes "OUT"))
app_for row.Migrate = with_rule (bare_app (codes "migrate")) (rule_for has.One (codes "BASE"))
app_for row.Show =
    with_rule (with_rule (bare_app (codes "show")) (rule_for has.One (codes "FILE")))
    (rule_for has.One (codes "KEY"))
app_for row.Update =
    with_rule (with_rule (bare_app (codes "update")) (rule_for has.One (codes "FILE")))
    (rule_for has.AnyNumber (codes "URI=NAME"))
