use Rattle.std.proofs.Common.{refl}
use Rattle.conformance.specs.Draws.{state_after}
use Rattle.conformance.proofs.States.{drawn, one_more, upper_half}
use Rattle.conformance.proofs.drawing.draw_long.Goals as goal

pub returns : goal.returns
unfolding state_after
returns c =
    let start = c.args.draw.now in
    let first = one_more 0 1 start refl refl c.next-high.ensures.state in
    let second = one_more 1 2 start refl first c.next-low.ensures.state in
    let high = drawn 0 1 start refl first c.next-high.ensures.drawn in
    let low = drawn 1 2 start refl second c.next-low.ensures.drawn in
    record { drawn = rw (high, low, upper_half start) refl; state = second }
