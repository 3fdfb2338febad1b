use Rattle.std.proofs.Common.{ℕ, ◌<◌, get_or}
use Rattle.flash_layout.specs.declared.layout.Entry.{Entry}
use Rattle.flash_layout.specs.Layouts.{AreApart}
use Rattle.flash_layout.proofs.rules.apart_before.Given as goal

abbrev pub invariant-loop-i : goal.invariant-loop-i
invariant-loop-i l = (k : ℕ) (d : Entry) → k < l.i → AreApart (get_or l.entries k d) (get_or l.entries l.last d)
