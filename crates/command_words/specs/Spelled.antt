-- How each command is spelled, and which commands there are. The table of commands reads just these.
use Rattle.std.specs.Prelude.{◌≡◌, ◌≢◌, ◌↔◌, ◌<◌, ◌≤◌, ◌^◌, ℕ, false, List, [], ◌∷◌, ◌++◌, map, length, Option, Some, None, codes, decimal}
use Rattle.std.specs.List.{AllByRecursion}
use Rattle.command_words.specs.Tasks.{Word, Words, Answer, Task, Make, Describe, Show, Check, Init, Update, Boot, Status, Migrate, Drill, Diagnose}
use Rattle.command_words.specs.Words.{begins_with_dash}
use Rattle.command_words.specs.UriWords.{most_uris}
use Rattle.command_words.specs.Table.{task_of}

abbrev pub equals_sign : ℕ
equals_sign = 61

-- the URI, an equals sign, and the name of the file
abbrev pub spelled_answer : Answer → Word
spelled_answer answer = answer.uri ++ equals_sign ∷ answer.name

-- the words of a command
abbrev pub spelled : Task → Words
spelled (Make description key out) = codes "make" ∷ description ∷ key ∷ out ∷ []
spelled (Describe file) = codes "show" ∷ file ∷ []
spelled (Show file key) = codes "show" ∷ file ∷ key ∷ []
spelled (Check file) = codes "check" ∷ file ∷ []
spelled (Init device key) = codes "run" ∷ codes "init" ∷ device ∷ key ∷ []
spelled (Update file answers) = codes "run" ∷ codes "update" ∷ file ∷ map spelled_answer answers
spelled Boot = codes "run" ∷ codes "boot" ∷ []
spelled Status = codes "run" ∷ codes "status" ∷ []
spelled (Migrate base) = codes "run" ∷ codes "migrate" ∷ decimal base ∷ []
spelled (Drill number) = codes "drill" ∷ decimal number ∷ []
spelled (Diagnose file) = codes "diag" ∷ file ∷ []

-- the word does not begin with a dash
abbrev pub IsPlain : Word → Type 0
IsPlain word = begins_with_dash word ≡ false

-- the name contains no `=`, since a word is cut at its last one
abbrev pub IsAfterLast : Answer → Type 0
IsAfterLast answer = AllByRecursion (λ byte. byte ≢ equals_sign) answer.name

-- no two of them answer the same URI
abbrev pub AreDistinct : List Answer → Type 0
AreDistinct [] = Unit {0}
AreDistinct (answer ∷ later) =
    AllByRecursion (λ (other : Answer). other.uri ≢ answer.uri) later × AreDistinct later

-- the bounds on a command's arguments
abbrev pub IsWithin : Task → Type 0
IsWithin (Update file answers) =
    (length answers ≤ most_uris) × AllByRecursion IsAfterLast answers × AreDistinct answers
IsWithin (Migrate base) = base < 2 ^ 64
IsWithin (Drill number) = number < 2 ^ 64
IsWithin _ = Unit {0}

-- the words spell this command, and none of them begins with a dash
pub record Asks (words : Words) (task : Task) : Type 0 where
  pub are : words ≡ spelled task
  pub plain : AllByRecursion IsPlain words
  pub within : IsWithin task

-- the words ask for this task, or, if there is none, for no task at all
abbrev pub AskFor : Words → Option Task → Type 0
AskFor words (Some task) = Asks words task
AskFor words None = (task : Task) → Asks words task → ⊥

-- the laws of the table of commands
pub record WordLaws : Type 0 where
  -- the table reads what is spelled, and nothing else
  pub reads : (words : Words) (task : Task) → (task_of words ≡ Some task) ↔ Asks words task
  pub usage : (words : Words) → (task_of words ≡ None) ↔ ((task : Task) → Asks words task → ⊥)
  -- so words ask for at most one task
  pub one : (words : Words) (first second : Task) → Asks words first → Asks words second
      → first ≡ second
