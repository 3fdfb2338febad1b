-- Files, each with its name and its bytes.
use Rattle.std.specs.Prelude.{ℕ, Bool, true, false, ◌&&◌, ◌||◌, if◌then◌else◌, List, [], ◌∷◌}
use Rattle.std.specs.Str.{bytes_eq}

-- the bytes of the first file with a name, or no bytes if there is none
abbrev pub bytes_of : List (List ℕ × List ℕ) → List ℕ → List ℕ
bytes_of [] name = []
bytes_of (file ∷ files) name = if bytes_eq file.0 name then file.1 else bytes_of files name

-- there is a file with this name
abbrev pub has_file : List (List ℕ × List ℕ) → List ℕ → Bool
has_file [] name = false
has_file (file ∷ files) name = bytes_eq file.0 name || has_file files name

-- there is a file for each name
abbrev pub has_files : List (List ℕ × List ℕ) → List (List ℕ) → Bool
has_files files [] = true
has_files files (name ∷ names) = has_file files name && has_files files names
