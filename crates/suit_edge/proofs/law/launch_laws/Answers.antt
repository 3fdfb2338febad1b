use Rattle.std.proofs.Common.{◌≤◌, ℕ, arith}
use Rattle.suit_edge.specs.declared.launcher.Launched.{Launched}
use Rattle.suit_edge.specs.declared.launcher.Launched.TheVariants.{Done, DiskFailed, Failed}
use Rattle.suit_edge.specs.Launch.{LaunchCounts}
use Rattle.suit_edge.proofs.law.launch_laws.Goals as goal

grows : (answer : Launched) (before now disk_before disk_now : ℕ) → LaunchCounts answer before now disk_before disk_now → (before ≤ now) × (disk_before ≤ disk_now)
grows Done before now disk_before disk_now is = (omega (arith, is.0), omega (arith, is.1))
grows DiskFailed before now disk_before disk_now is = (is.0, is.1.later)
grows Failed before now disk_before disk_now is = (is.0.later, is.1)

pub returns : goal.returns
returns c = record {
  grows = grows;
  done = λ before now disk_before disk_now is. is;
  failed = λ before disk_before disk_now low is. omega (arith, is.0.rose low);
  disk_failed = λ before now disk_before low is. omega (arith, is.1.rose low);
}
