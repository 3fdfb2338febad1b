-- The words that name the files for URIs.
use Rattle.std.specs.Prelude.{ℕ, Bool, true, false, ◌&&◌, ◌==◌, not, List, [], ◌∷◌, length, nat_le, Option, Some, None, filter_map, if◌then◌else◌}
use Rattle.std.specs.List.{list_any}
use Rattle.std.specs.Option.{option_map_or}
use Rattle.std.specs.Str.{bytes_eq}
use Rattle.command_words.specs.Tasks.{Word, Words, Answer}
use Rattle.command_words.specs.declared.uri_word.UriWord.{UriWord}

-- how many of them a command may have
abbrev pub most_uris : ℕ
most_uris = 64

-- the cut of a byte and the rest, given that of the rest: at the same `=`, or else at the byte if it is one
abbrev pub cut_before : ℕ → Word → Option Answer → Option Answer
cut_before byte rest (Some answer) = Some (record answer { uri = byte ∷ answer.uri })
cut_before byte rest None = if byte == 61 then Some (record { uri = []; name = rest }) else None

-- a word, cut at its last `=`
unfoldable pub cut : Word → Option Answer
cut [] = None
cut (byte ∷ rest) = cut_before byte rest (cut rest)

-- the word names the file for this URI
abbrev pub names : Word → Word → Bool
names uri word = option_map_or (λ (answer : Answer). bytes_eq answer.uri uri) (cut word) false

-- the word names the file for a URI, and no later word does so for the same URI
abbrev pub is_last : Word → Words → Bool
is_last word later =
    option_map_or (λ (answer : Answer). not (list_any (names answer.uri) later)) (cut word) false

-- each word names the file for a URI, and no two words do so for the same one
unfoldable pub are_answers : Words → Bool
are_answers [] = true
are_answers (word ∷ words) = is_last word words && are_answers words

-- the URIs and the files that the words name, if there are at most 64 words and each is in order
abbrev pub uris_of : Words → Option (List Answer)
uris_of words =
    if nat_le (length words) most_uris && are_answers words then Some (filter_map cut words)
    else None

abbrev pub answer_said : UriWord → Answer
answer_said word = record { uri = word.uri.now; name = word.name.now }
