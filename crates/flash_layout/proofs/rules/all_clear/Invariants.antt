use Rattle.std.proofs.Common.{ℕ, ◌+◌, ◌<◌, get_or}
use Rattle.flash_layout.specs.Layouts.{IsClearOf}
use Rattle.flash_layout.proofs.rules.all_clear.Given as goal

abbrev pub invariant-loop-p : goal.invariant-loop-p
invariant-loop-p l = (k : ℕ) → k < l.p-index → IsClearOf (get_or l.ps k 0) (8 + l.m) l.qs (8 + l.n)
