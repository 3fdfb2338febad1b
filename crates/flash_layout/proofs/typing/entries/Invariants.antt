use Rattle.std.proofs.Common.{ℕ, ◌<◌, get_or}
use Rattle.flash_layout.specs.declared.layout.Entry.{Entry}
use Rattle.flash_layout.specs.Layouts.{IsTypedEntry}
use Rattle.flash_layout.proofs.typing.entries.Given as goal

abbrev pub invariant-loop-each : goal.invariant-loop-each
invariant-loop-each l = (k : ℕ) (d : Entry) → k < l.each-index → IsTypedEntry (get_or l.each-items k d)
