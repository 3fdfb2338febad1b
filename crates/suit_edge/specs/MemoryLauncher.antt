-- A launcher in memory, and what its calls do.
use Rattle.std.specs.Prelude.{◌≡◌, ℕ, List}
use Rattle.suit_edge.specs.declared.launch.Launch.{Launch}
use Rattle.suit_edge.specs.declared.launcher.Launched.{Launched}
use Rattle.suit_edge.specs.declared.launcher.Launched.TheVariants as launched
use Rattle.suit_edge.specs.Calls.{CallCounts, Succeeds, CallFails}

-- the launches so far, and the counts of calls
pub record LauncherState : Type 0 where
  pub launches : List Launch
  pub calls : CallCounts

-- A launch fails because of its number or because memory ran out, and then leaves the disk's count. If the
-- disk fails, the launcher counts the call as one that is done.
abbrev pub LaunchesExactly : Launched → LauncherState → LauncherState → ℕ → ℕ → Type 0
LaunchesExactly launched.Done before now disk_before disk_now = Succeeds before.calls now.calls
LaunchesExactly launched.DiskFailed before now disk_before disk_now =
    Succeeds before.calls now.calls
LaunchesExactly launched.Failed before now disk_before disk_now =
    CallFails before.calls now.calls × (disk_now ≡ disk_before)
