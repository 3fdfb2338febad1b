use Rattle.std.proofs.Common.{ℕ, ◌<◌}
use Rattle.suit_params.specs.Alike.{HaveOtherIds}
use Rattle.flash_layout.specs.Overlaps.{identifier_of}
use Rattle.flash_layout.proofs.first_faults.first_alike.Given as goal

abbrev pub invariant-loop-last : goal.invariant-loop-last
invariant-loop-last l = (i j : ℕ) → i < j → j < l.last → HaveOtherIds identifier_of l.entries i j
