use Rattle.std.proofs.Common.{◌≡◌}
use Rattle.conformance.specs.Draws.{state_after}
use Rattle.conformance.specs.Drawing.{bytes_drawn}
use Rattle.conformance.proofs.drawing.draw_bytes.Given as goal

abbrev pub invariant-loop : goal.invariant-loop
invariant-loop l =
    (l.bytes ≡ bytes_drawn l.counter l.fn.draw) × (l.draw ≡ state_after l.counter l.fn.draw)
