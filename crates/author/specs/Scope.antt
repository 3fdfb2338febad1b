-- What is known when a description is read.
use Rattle.std.specs.Prelude.{ℕ, Bool, List}

pub record Scope : Type 0 where
  pub files : List (List ℕ × List ℕ)
  -- whether the sequence is the shared one
  pub shared : Bool
  -- the number of components
  pub count : ℕ
