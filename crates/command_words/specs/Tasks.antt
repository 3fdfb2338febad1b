-- What a command line asks for.
use Rattle.std.specs.Prelude.{ℕ, List, map}
use Rattle.std.specs.Borrow.{Bor}

abbrev pub Word : Type 0
Word = List ℕ

abbrev pub Words : Type 0
Words = List Word

-- a URI, and the name of the file that answers it
pub record Answer : Type 0 where
  pub uri : Word
  pub name : Word

pub data Task : Type 0 where
  Make : (description key out : Word) → Task
  Describe : (file : Word) → Task
  Show : (file key : Word) → Task
  Check : (file : Word) → Task
  Init : (device key : Word) → Task
  Update : (file : Word) (uris : List Answer) → Task
  Boot : Task
  Status : Task
  Migrate : ℕ → Task
  Drill : ℕ → Task
  Diagnose : (file : Word) → Task

-- the words that borrowed texts are
abbrev pub texts : List (Bor Word) → Words
texts words = map (λ (word : Bor Word). word.now) words
