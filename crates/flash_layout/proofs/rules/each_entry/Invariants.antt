use Rattle.std.proofs.Common.{ℕ, ◌<◌, get_or}
use Rattle.flash_layout.specs.declared.layout.Entry.{Entry}
use Rattle.flash_layout.specs.Layouts.{IsEntry}
use Rattle.flash_layout.proofs.rules.each_entry.Given as goal

abbrev pub invariant-loop-entry : goal.invariant-loop-entry
invariant-loop-entry l = (k : ℕ) (d : Entry) → k < l.entry-index → IsEntry l.frame l.size (get_or l.entries k d)
