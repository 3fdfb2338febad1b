-- Prefixes of lists.
use Rattle.std.specs.Prelude.{◌≡◌, ℕ, List, ◌++◌}

-- the whole begins with the front
pub record IsPrefix (front whole : List ℕ) : Type 0 where
  pub rest : List ℕ
  pub parts : whole ≡ front ++ rest
