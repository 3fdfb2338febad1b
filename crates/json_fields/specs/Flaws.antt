-- The first flaw of a JSON value in the order of reading, and its place.
use Rattle.std.specs.Prelude.{ℕ, List, [], ◌++◌, Option, Some, None, Result, Ok, Err}
use Rattle.json_fields.specs.declared.flaw.Flaw.{Flaw}
use Rattle.json_fields.specs.declared.flaw.FlawKind.{FlawKind}

-- the value itself is flawed
abbrev pub flawed : {A : Type 0} → FlawKind → Result A Flaw
flawed kind = Err (record { kind = kind; pointer = [] })

-- the result for a part, as a result for the whole, in which the part is found under this token of a pointer
abbrev pub under : {A : Type 0} → List ℕ → Result A Flaw → Result A Flaw
under token (Ok x) = Ok x
under token (Err f) = Err (record { kind = f.kind; pointer = token ++ f.pointer })

-- what was found, or a flaw of the value itself
abbrev pub found_or : {A : Type 0} → FlawKind → Option A → Result A Flaw
found_or kind (Some x) = Ok x
found_or kind None = flawed kind
