use Rattle.std.proofs.Common.{ℕ, ◌<◌, get_or}
use Rattle.flash_layout.specs.declared.layout.Entry.{Entry}
use Rattle.flash_layout.specs.Layouts.{AreApart}
use Rattle.flash_layout.proofs.rules.all_apart.Given as goal

abbrev pub invariant-loop-j : goal.invariant-loop-j
invariant-loop-j l = (k m : ℕ) (d : Entry) → k < m → m < l.j → AreApart (get_or l.entries k d) (get_or l.entries m d)
