-- What is left after the next identifier or byte string was borrowed.
use Rattle.std.specs.Prelude.{◌≡◌, ℕ, List, [], ◌∷◌, Option, Some, None}
use Rattle.std.specs.Borrow.{Bor}

-- the identifier that is borrowed, and those that are left
abbrev pub LendsIdentifier : List (List (List ℕ)) → List (List (List ℕ)) → Option (List (List ℕ)) → Type 0
LendsIdentifier before after None = (before ≡ []) × (after ≡ [])
LendsIdentifier before after (Some id) = before ≡ id ∷ after

-- the byte string that is borrowed, and those that are left
abbrev pub LendsPart : List (List ℕ) → List (List ℕ) → Option (Bor (List ℕ)) → Type 0
LendsPart before after None = (before ≡ []) × (after ≡ [])
LendsPart before after (Some part) = before ≡ part.now ∷ after
