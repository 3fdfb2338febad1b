-- The table of commands.
use Rattle.std.specs.Prelude.{[], ◌∷◌, Option, Some, None, option_map, codes, if◌then◌else◌}
use Rattle.std.specs.List.{list_all}
use Rattle.std.specs.Str.{bytes_eq}
use Rattle.command_words.specs.Tasks.{Word, Words, Task, Make, Describe, Show, Check, Init, Update, Boot, Status, Migrate, Drill, Diagnose}
use Rattle.command_words.specs.Words.{is_plain}
use Rattle.command_words.specs.Numbers.{number_of}
use Rattle.command_words.specs.UriWords.{uris_of}

-- ---- each command, read from its words, the first of which is its name

abbrev pub make_of : Words → Option Task
make_of (name ∷ description ∷ key ∷ out ∷ []) = Some (Make description key out)
make_of _ = None

abbrev pub show_of : Words → Option Task
show_of (name ∷ file ∷ []) = Some (Describe file)
show_of (name ∷ file ∷ key ∷ []) = Some (Show file key)
show_of _ = None

abbrev pub check_of : Words → Option Task
check_of (name ∷ file ∷ []) = Some (Check file)
check_of _ = None

abbrev pub init_of : Words → Option Task
init_of (name ∷ device ∷ key ∷ []) = Some (Init device key)
init_of _ = None

abbrev pub update_of : Words → Option Task
update_of (name ∷ file ∷ words) = option_map (Update file) (uris_of words)
update_of _ = None

-- a command without arguments: its name alone
abbrev pub alone_of : Task → Words → Option Task
alone_of task (name ∷ []) = Some task
alone_of task _ = None

abbrev pub migrate_of : Words → Option Task
migrate_of (name ∷ base ∷ []) = option_map Migrate (number_of base)
migrate_of _ = None

abbrev pub drill_of : Words → Option Task
drill_of (name ∷ number ∷ []) = option_map Drill (number_of number)
drill_of _ = None

abbrev pub diag_of : Words → Option Task
diag_of (name ∷ file ∷ []) = Some (Diagnose file)
diag_of _ = None

-- ---- all commands

abbrev pub run_named : Word → Words → Option Task
run_named name words =
    if bytes_eq name (codes "init") then init_of words
    else if bytes_eq name (codes "update") then update_of words
    else if bytes_eq name (codes "boot") then alone_of Boot words
    else if bytes_eq name (codes "status") then alone_of Status words
    else if bytes_eq name (codes "migrate") then migrate_of words
    else None

abbrev pub run_of : Words → Option Task
run_of (run ∷ name ∷ words) = run_named name (name ∷ words)
run_of _ = None

abbrev pub named : Word → Words → Option Task
named name words =
    if bytes_eq name (codes "make") then make_of words
    else if bytes_eq name (codes "show") then show_of words
    else if bytes_eq name (codes "check") then check_of words
    else if bytes_eq name (codes "run") then run_of words
    else if bytes_eq name (codes "drill") then drill_of words
    else if bytes_eq name (codes "diag") then diag_of words
    else None

abbrev pub task_in : Words → Option Task
task_in [] = None
task_in (name ∷ words) = named name (name ∷ words)

-- the task that the words ask for, if any; none of them may begin with a dash
abbrev pub task_of : Words → Option Task
task_of words = if list_all is_plain words then task_in words else None
