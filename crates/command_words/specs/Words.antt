-- Which words can be in a command line.
use Rattle.std.specs.Prelude.{Bool, false, ◌==◌, not, [], ◌∷◌}
use Rattle.command_words.specs.Tasks.{Word}

abbrev pub begins_with_dash : Word → Bool
begins_with_dash [] = false
begins_with_dash (byte ∷ bytes) = byte == 45

abbrev pub is_plain : Word → Bool
is_plain word = not (begins_with_dash word)
