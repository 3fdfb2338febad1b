-- Finding an element by its number.
use Rattle.std.specs.Prelude.{ℕ, ◌==◌, if◌then◌else◌, List, [], ◌∷◌, Option, Some, None}

-- the first element of a list with this number
abbrev pub numbered_in : {A : Type 0} → (A → ℕ) → List A → ℕ → Option A
numbered_in number [] n = None
numbered_in number (a ∷ others) n = if n == number a then Some a else numbered_in number others n
