-- Numbers as words.
use Rattle.std.specs.Prelude.{ℕ, Bool, ◌^◌, ◌&&◌, ◌||◌, ◌==◌, not, length, nat_lt, slice_index, Option, Some, None, if◌then◌else◌}
use Rattle.std.specs.Str.{all_ascii_digits}
use Rattle.std.specs.Str.Parse.{digits_value}
use Rattle.command_words.specs.Tasks.{Word}

-- there is no leading zero; a single character is none
abbrev pub is_short : Word → Bool
is_short word = length word == 1 || not (slice_index word 0 == 48)

-- the word has decimal digits only, and spells a number below 2^64
abbrev pub is_number : Word → Bool
is_number word =
    all_ascii_digits word
    && (nat_lt 0 (length word) && (is_short word && nat_lt (digits_value 10 word) (2 ^ 64)))

-- the number that a word spells
abbrev pub number_of : Word → Option ℕ
number_of word = if is_number word then Some (digits_value 10 word) else None
