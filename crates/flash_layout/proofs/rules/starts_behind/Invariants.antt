use Rattle.std.proofs.Common.{ℕ, ◌+◌, ◌<◌, get_or}
use Rattle.flash_layout.specs.Layouts.{IsBehindHead}
use Rattle.flash_layout.proofs.rules.starts_behind.Given as goal

abbrev pub invariant-loop-p : goal.invariant-loop-p
invariant-loop-p l = (k : ℕ) → k < l.p-index → IsBehindHead l.frame l.size (get_or l.starts k 0) (8 + l.capacity)
