-- JSON Pointer (RFC 6901, section 3): a token for each step, where a name has `~0` for `~` and `~1` for `/`.
use Rattle.std.specs.Prelude.{ℕ, ◌==◌, if◌then◌else◌, List, [], ◌∷◌, ◌++◌, decimal}
use Rattle.json_fields.specs.declared.pointer.Step.{Step}
use Rattle.json_fields.specs.declared.pointer.Step.TheVariants as steps

-- the escape of one byte
abbrev pub escaped : ℕ → List ℕ
escaped c = if c == 126 then 126 ∷ 48 ∷ [] else (if c == 47 then 126 ∷ 49 ∷ [] else c ∷ [])

abbrev pub escape : List ℕ → List ℕ
escape [] = []
escape (c ∷ cs) = escaped c ++ escape cs

-- the token of a member's name: a slash, and the escaped name
abbrev pub key_token : List ℕ → List ℕ
key_token key = 47 ∷ escape key

-- the token of an element's index: a slash, and the index in decimal digits
abbrev pub index_token : ℕ → List ℕ
index_token i = 47 ∷ decimal i

abbrev pub step_token : Step → List ℕ
step_token (steps.Key key) = key_token key.now
step_token (steps.Index i) = index_token i
