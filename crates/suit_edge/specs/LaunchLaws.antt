-- Laws of launches.
use Rattle.std.specs.Prelude.{◌≡◌, ◌<◌, ◌≤◌, ◌-◌, ◌^◌, ℕ}
use Rattle.suit_edge.specs.declared.launcher.Launched.{Launched}
use Rattle.suit_edge.specs.declared.launcher.Launched.TheVariants as launched
use Rattle.suit_edge.specs.Launch.{LaunchCounts}

pub record LaunchLaws : Type 0 where
  -- no count falls
  pub grows : (answer : Launched) (before now disk_before disk_now : ℕ)
      → LaunchCounts answer before now disk_before disk_now
      → (before ≤ now) × (disk_before ≤ disk_now)
  -- a launch that is done leaves both counts
  pub done : (before now disk_before disk_now : ℕ)
      → LaunchCounts launched.Done before now disk_before disk_now
      → (now ≡ before) × (disk_now ≡ disk_before)
  -- Failed raises the launcher's count, and DiskFailed the disk's
  pub failed : (before disk_before disk_now : ℕ) → before < 2 ^ 64 - 1
      → LaunchCounts launched.Failed before before disk_before disk_now → ⊥
  pub disk_failed : (before now disk_before : ℕ) → disk_before < 2 ^ 64 - 1
      → LaunchCounts launched.DiskFailed before now disk_before disk_before → ⊥
