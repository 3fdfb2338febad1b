use Rattle.std.proofs.Common.{ℕ, ◌+◌, ◌<◌, get_or}
use Rattle.flash_layout.specs.Frames.{frame_size}
use Rattle.flash_layout.specs.Layouts.{AreClear}
use Rattle.flash_layout.proofs.rules.starts_clear.Given as goal

abbrev pub invariant-loop-p : goal.invariant-loop-p
invariant-loop-p l = (k : ℕ) → k < l.p-index → AreClear l.frame.base (frame_size l.frame) (get_or l.starts k 0) (8 + l.capacity)
