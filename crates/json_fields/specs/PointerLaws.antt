-- The place of a flaw, given what a JSON Pointer finds in a value (RFC 6901, as `serde_json` reads it).
use Rattle.std.specs.Prelude.{◌≡◌, ◌≢◌, ◌^◌, ◌<◌, ℕ, List, [], ◌∷◌, Option, Some, None, option_and_then, Result, Ok, Err}
use Rattle.serde_json.specs.Data.{Data, array, object, Items, Members, put}
use Rattle.serde_json.specs.Find.{pointer, get_item, get_member}
use Rattle.json_fields.specs.declared.flaw.Flaw.{Flaw}
use Rattle.json_fields.specs.declared.flaw.FlawKind.{FlawKind}
use Rattle.json_fields.specs.Flaws.{flawed, under}
use Rattle.json_fields.specs.Pointers.{escaped, key_token, index_token}
use Rattle.json_fields.specs.Objects.{required}

-- the part of the value at which a flaw is reported
abbrev pub told_at : Data → Result (Unit {0}) Flaw → Option Data
told_at d (Ok x) = None
told_at d (Err f) = pointer f.pointer d

-- a pointer is empty, or begins with a slash
abbrev pub IsPointer : List ℕ → Type 0
IsPointer [] = Unit {0}
IsPointer (c ∷ rest) = c ≡ 47

-- the flaw, if there is one, is reported by a pointer
abbrev pub IsTold : Result (Unit {0}) Flaw → Type 0
IsTold (Ok x) = Unit {0}
IsTold (Err f) = IsPointer f.pointer

-- the characters of a name that are escaped in a token (RFC 6901, section 3)
pub record Escapes : Type 0 where
  pub tilde : escaped 126 ≡ 126 ∷ 48 ∷ []
  pub slash : escaped 47 ≡ 126 ∷ 49 ∷ []
  pub others : (c : ℕ) → c ≢ 126 → c ≢ 47 → escaped c ≡ c ∷ []

-- a missing field is reported where it would be
abbrev pub MissingPlaces : Type 0
MissingPlaces = (key : List ℕ) (d : Data) (ms : Members)
    → told_at (object (put key d ms)) (required key None) ≡ Some d

pub record PointerLaws : Type 0 where
  -- a flaw of the value itself is reported at the value
  pub itself : (kind : FlawKind) (d : Data) → told_at d (flawed kind) ≡ Some d
  -- that of a member is reported at the part of its value, whatever characters its name has
  pub member : (key : List ℕ) (f : Flaw) (ms : Members) → IsPointer f.pointer
      → told_at (object ms) (under (key_token key) (Err f))
      ≡ option_and_then (pointer f.pointer) (get_member key ms)
  -- that of an element is reported at the part of the element
  pub element : (i : ℕ) (f : Flaw) (ds : Items) → i < 2 ^ 64 → IsPointer f.pointer
      → told_at (array ds) (under (index_token i) (Err f))
      ≡ option_and_then (pointer f.pointer) (get_item i ds)
  pub missing : MissingPlaces
  -- each is reported by a pointer
  pub members_pointer : (key : List ℕ) (f : Flaw) → IsTold (under (key_token key) (Err f))
  pub elements_pointer : (i : ℕ) (f : Flaw) → IsTold (under (index_token i) (Err f))
