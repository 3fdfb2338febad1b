use Rattle.std.proofs.Common.{◌≡◌, ◌+◌, ◌*◌, ◌++◌, length, drop}
use Rattle.flash_layout.specs.ConfigPage.{entries_bytes}
use Rattle.flash_layout.proofs.page_writing.put_entries.Given as goal

-- the bytes so far and the rest make the whole
abbrev pub invariant-loop-entry : goal.invariant-loop-entry
invariant-loop-entry l =
    record { whole : l.page ++ entries_bytes (drop l.entry-index l.entries) ≡ l.fn.page ++ entries_bytes l.fn.entries; long : length l.page ≡ length l.fn.page + 142 * l.entry-index }
