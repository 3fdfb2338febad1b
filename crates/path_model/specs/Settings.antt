-- The setting of a procedure: what it finds on a device and around it.
use Rattle.std.specs.Prelude.{◌≡◌, ◌≢◌, ℕ, ◌==◌, if◌then◌else◌, List, [], ◌∷◌, Option, Some, None, get_or, option_to_list}
use Rattle.std.specs.Option.{option_and_then}
use Rattle.std.specs.Str.{bytes_eq}
use Rattle.path_model.specs.declared.identity.Identity.{Identity}

pub record Setting : Type 0 where
  -- the identity of each component, and how many bytes it has room for
  pub identities : List Identity
  pub capacities : List ℕ
  -- the payloads of the envelope, each with its key
  pub payloads : List (List ℕ × List ℕ)
  -- the URIs that name a file, each with the name
  pub words : List (List ℕ × List ℕ)
  -- what the request with this number, counted from 0, is given for a file's name, if there is such a file
  pub files : ℕ → List ℕ → Option (List ℕ)

-- the same files at each request
abbrev pub steady : (List ℕ → Option (List ℕ)) → ℕ → List ℕ → Option (List ℕ)
steady files request = files

-- how many bytes the component has room for
abbrev pub capacity_of : Setting → ℕ → ℕ
capacity_of setting component = get_or setting.capacities component 0

-- the value of the first pair with this key
abbrev pub found_under : List (List ℕ × List ℕ) → List ℕ → Option (List ℕ)
found_under [] key = None
found_under (pair ∷ pairs) key = if bytes_eq pair.0 key then Some pair.1 else found_under pairs key

-- what a URI gives to the request with this number: a payload if it begins with '#', and otherwise the file that it
-- names
abbrev pub payload_of : Setting → ℕ → List ℕ → Option (List ℕ)
payload_of setting request uri =
    if get_or uri 0 0 == 35 then found_under setting.payloads uri
    else option_and_then (setting.files request) (found_under setting.words uri)

-- the names that a fetch of this URI asks for: that of its file, if it names one
abbrev pub asked_by : List (List ℕ × List ℕ) → List ℕ → List (List ℕ)
asked_by words uri =
    if get_or uri 0 0 == 35 then [] else option_to_list (found_under words uri)

-- the URI is not the key of a payload, and names some file
abbrev pub NamesFile : List (List ℕ × List ℕ) → List ℕ → Type 0
NamesFile words uri = (get_or uri 0 0 ≢ 35) × (name : List ℕ) × (found_under words uri ≡ Some name)
