use Rattle.std.proofs.Common.{ℕ, ◌+◌, ◌<◌, get_or}
use Rattle.flash_layout.specs.Layouts.{AreClear}
use Rattle.flash_layout.proofs.rules.clear_of.Given as goal

abbrev pub invariant-loop-q : goal.invariant-loop-q
invariant-loop-q l = (k : ℕ) → k < l.q-index → AreClear l.p (8 + l.m) (get_or l.starts k 0) (8 + l.n)
