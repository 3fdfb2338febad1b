-- The words of the command line.
use Rattle.std.specs.Prelude.{ℕ, List, map}
pub use Rattle.command_words.specs.Tasks.{Answer as Named, Task, Make, Describe, Show, Check, Init as RunInit, Update as RunUpdate, Boot as RunBoot, Status as RunStatus, Migrate as RunMigrate, Drill, Diagnose}
pub use Rattle.command_words.specs.Table.{task_of}

-- the names of files, by the URIs that they answer
abbrev pub pairs_of : List Named → List (List ℕ × List ℕ)
pairs_of uris = map (λ (named : Named). (named.uri, named.name)) uris
