-- The words of a command. These definitions are this project's own.
use Rattle.std.specs.List.{slice_split}
use Rattle.std.specs.Prelude.{◌≡◌, ◌==◌, ◌∷◌, ℕ, List, [], codes}
use Rattle.std.specs.Str.{IsUtf8}

-- the words are the parts between zeros, or only a dash, which no command takes, if the bytes are not UTF-8
pub data AreWords (bytes : List ℕ) (words : List (List ℕ)) : Type 0 where
  Parted : IsUtf8 bytes → words ≡ slice_split (λ b. b == 0) bytes → AreWords bytes words
  NoText : (IsUtf8 bytes → ⊥) → words ≡ codes "-" ∷ [] → AreWords bytes words
