use Rattle.std.proofs.Common.{◌≡◌, ◌-◌, ◌*◌, drop}
use Rattle.flash_layout.specs.PageReading.{entries_at}
use Rattle.flash_layout.proofs.Steps.{with_front}
use Rattle.flash_layout.proofs.page_reading.read_entries.Given as goal

-- what is still to be read decides the answer
abbrev pub invariant-loop-i : goal.invariant-loop-i
invariant-loop-i l = with_front l.layout (entries_at (l.count - l.i) (drop (142 * l.i) l.bytes)) ≡ entries_at l.count l.bytes
