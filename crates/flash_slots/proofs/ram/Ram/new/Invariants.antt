use Rattle.std.proofs.Common.{◌≡◌, map, take}
use Rattle.flash_slots.specs.RamContents.{empty, ram_capacity}
use Rattle.flash_slots.proofs.ram.Ram.new.Given as goal

abbrev pub invariant-loop-entry : goal.invariant-loop-entry
invariant-loop-entry l = l.areas.items ≡ map (λ e. empty (ram_capacity e)) (take l.entry-index l.entry-items)
