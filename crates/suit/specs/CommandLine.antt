-- The words of the command line, and how they are handed on.
use Rattle.std.specs.Prelude.{◌≡◌, ◌⊎◌, ◌≤◌, ◌<◌, ℕ, List, [], ◌∷◌, length, take, Option, Some, None, codes}
use Rattle.std.specs.Str.{IsUtf8}
use Rattle.suit.specs.declared.source.Found.{Found}
use Rattle.suit.specs.declared.source.Found.TheVariants as found

-- ---- the result of looking for a word, with so much room

abbrev pub FitsRoom : Found → List ℕ → Type 0
FitsRoom (found.Word n) room = n ≤ length room
FitsRoom found.End room = Unit {0}
FitsRoom found.TooLong room = Unit {0}

abbrev pub Finds : Found → Option (List ℕ) → List ℕ → Type 0
Finds (found.Word n) (Some word) room = take n room ≡ word
Finds found.End None room = Unit {0}
Finds found.TooLong (Some word) room = length room < length word
Finds _ _ room = ⊥

-- ---- how words are handed on

-- as it is, or as a dash, which no command takes, where it is no UTF-8
abbrev pub IsHandedOn : List ℕ → List ℕ → Type 0
IsHandedOn word text = (IsUtf8 word × (text ≡ word)) ⊎ ((IsUtf8 word → ⊥) × (text ≡ codes "-"))

-- the word at an index, or none past the last
abbrev pub IsFound : Option (List ℕ) → Option (List ℕ) → Type 0
IsFound None None = Unit {0}
IsFound (Some word) (Some text) = IsHandedOn word text
IsFound _ _ = ⊥

-- all of them in their order
abbrev pub AreHandedOn : List (List ℕ) → List (List ℕ) → Type 0
AreHandedOn [] [] = Unit {0}
AreHandedOn (word ∷ words) (text ∷ texts) = IsHandedOn word text × AreHandedOn words texts
AreHandedOn _ _ = ⊥
