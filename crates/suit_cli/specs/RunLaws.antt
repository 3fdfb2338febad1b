-- Consequences of the answer to the words and its put, whatever the objects are.
use Rattle.std.specs.Prelude.{◌≡◌, ℕ, IsTrue, List, Some, None}
use Rattle.suit_commands.specs.Tree.{PlanTree}
use Rattle.suit_cli.specs.Words.{Named, RunBoot, RunUpdate, pairs_of, task_of}
use Rattle.suit_cli.specs.Outside.{Sunk}
use Rattle.suit_cli.specs.Judgement.{AreSafe}
use Rattle.suit_cli.specs.Surroundings.{Seen}
use Rattle.suit_cli.specs.Program.{Performs, IsStatus, EndsIn, IsCheck, ChecksProcedures, ChecksSafe, ChecksUnsafe, LeavesBy, AsksForUpdate, AreCounted, IsUsage, IsCutOff, KeepsLauncher, AsFound}

-- of one run
pub record HoldsOfRun (words : List (List ℕ)) (before after : Seen) (sunk_before sunk_after : Sunk)
    (result : ℕ) : Type 0 where
  -- `check` says yes only where both procedures are safe,
  pub yes : IsTrue before.outside.told → IsCheck words → result ≡ 0
      → ChecksSafe words before.outside
  -- and wherever they are, unless the host or the sink failed or memory ran out first
  pub safe_is_yes : (update invocation : PlanTree)
      → ChecksProcedures words before.outside update invocation
      → AreSafe update invocation → EndsIn 0 result
  -- no comes with a path that shows it, of `run update` too,
  pub no : IsTrue before.outside.told → result ≡ 1 → ChecksUnsafe words before.outside sunk_before
      sunk_after
  -- and `check` says it wherever they are not safe
  pub unsafe_is_no : (update invocation : PlanTree)
      → ChecksProcedures words before.outside update invocation
      → (AreSafe update invocation → ⊥) → EndsIn 1 result
  -- No file changes but the one that `make` stores, and there is a limit to what is read.
  pub stays : LeavesBy (task_of words) before.outside after.outside
  -- `run update` asks for its file, and then only for files that its words name
  pub asks : (name : List ℕ) (uris : List Named)
      → task_of words ≡ Some (RunUpdate name uris) → IsTrue before.outside.told
      → AsksForUpdate name (pairs_of uris) before.outside after.outside
  -- statuses 7 to 10 come of faults, and the counts stand otherwise
  pub counts : AreCounted words before after sunk_before sunk_after result
  -- usage, only where the words are no command,
  pub usage : result ≡ 2 → IsUsage words sunk_before sunk_after
  -- and wherever they are none
  pub no_command_is_usage : task_of words ≡ None → EndsIn 2 result
  -- the status is one of those that there are, 0 to 22
  pub status : IsStatus result
  -- of output that failed, the beginning of the answer's lines
  pub cut_off : result ≡ 9 → IsCutOff words before after sunk_before sunk_after
  -- status 11: no file changed, the flash reads as it did, and nothing was launched
  pub starved : result ≡ 11 → AsFound before after
  -- status 7 does not come of `run boot`, where flash and launcher tell
  pub no_host : IsTrue before.outside.flash.told → IsTrue before.launcher.told
      → task_of words ≡ Some RunBoot → result ≡ 7 → ⊥
  -- only `run boot` and `run update` launch
  pub only_launching : KeepsLauncher words before.launcher after.launcher

abbrev pub RunLaws : Type 0
RunLaws = (words : List (List ℕ)) (before after : Seen) (sunk_before sunk_after : Sunk) (result : ℕ)
    → Performs words before after sunk_before sunk_after result
    → HoldsOfRun words before after sunk_before sunk_after result
