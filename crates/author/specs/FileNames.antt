-- The names of the files in a description: each text under the key `file`, in the order of reading, and once.
use Rattle.std.specs.Prelude.{ℕ, Bool, false, ◌||◌, if◌then◌else◌, List, [], ◌∷◌, ◌++◌, codes, Option, Some, None}
use Rattle.std.specs.Str.{bytes_eq}
use Rattle.serde_json.specs.Data.{Data, null, boolean, number, string, array, object, Items, no_items, item, Members, no_members, member}
use Rattle.serde_json.specs.Find.{as_str}

abbrev pub one_or : Option (List ℕ) → List (List ℕ) → List (List ℕ)
one_or (Some name) inside = name ∷ []
one_or None inside = inside

-- the file name that a member gives
abbrev pub name_under : List ℕ → Data → Option (List ℕ)
name_under key d = if bytes_eq key (codes "file") then as_str d else None

-- that name, or else the names inside the value
abbrev pub name_at : List ℕ → Data → List (List ℕ) → List (List ℕ)
name_at key d inside = one_or (name_under key d) inside

abbrev mutual
  pub names_in : Data → List (List ℕ)
  names_in null = []
  names_in (boolean b) = []
  names_in (number n) = []
  names_in (string s) = []
  names_in (array ds) = names_in_items ds
  names_in (object ms) = names_in_members ms

  pub names_in_items : Items → List (List ℕ)
  names_in_items no_items = []
  names_in_items (item d ds) = names_in d ++ names_in_items ds

  pub names_in_members : Members → List (List ℕ)
  names_in_members no_members = []
  names_in_members (member key d ms) = name_at key d (names_in d) ++ names_in_members ms

abbrev pub has_name : List (List ℕ) → List ℕ → Bool
has_name [] name = false
has_name (other ∷ names) name = bytes_eq other name || has_name names name

-- the names added to those that are kept, each once
abbrev pub with_name : List (List ℕ) → List ℕ → List (List ℕ)
with_name kept name = if has_name kept name then kept else kept ++ name ∷ []

abbrev pub once : List (List ℕ) → List (List ℕ) → List (List ℕ)
once kept [] = kept
once kept (name ∷ names) = once (with_name kept name) names

abbrev pub file_names : Data → List (List ℕ)
file_names d = once [] (names_in d)
