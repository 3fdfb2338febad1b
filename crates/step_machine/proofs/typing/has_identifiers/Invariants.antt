use Rattle.std.proofs.Common.{ℕ, ◌<◌, get_or}
use Rattle.flash_layout.specs.declared.layout.Entry.{Entry}
use Rattle.step_machine.specs.Typing.{HasIdentifiers}
use Rattle.step_machine.proofs.typing.has_identifiers.Given as goal

abbrev pub invariant-loop-each : goal.invariant-loop-each
invariant-loop-each l = (k : ℕ) (d : Entry) → k < l.each-index → HasIdentifiers (get_or l.each-items k d)
