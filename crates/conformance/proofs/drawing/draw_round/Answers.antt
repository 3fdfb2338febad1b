use Rattle.std.proofs.Common.{◌≡◌, ◌+◌, ◌%◌, refl, ap, ◌∙◌, arith}
use Rattle.conformance.specs.Draws.{state_after}
use Rattle.conformance.specs.Drawing.{bytes_drawn, length_drawn}
use Rattle.conformance.specs.Shapes.{shape_of}
use Rattle.conformance.proofs.States.{behind, drawn, later, one_more}
use Rattle.conformance.proofs.drawing.draw_round.Goals as goal

pub returns : goal.returns
unfolding state_after
returns c =
    let start = c.args.draw.now in
    let n = length_drawn start in
    let first = one_more 0 1 start refl refl c.next.ensures.state in
    let second = one_more 1 2 start refl first c.next-2.ensures.state in
    let shape = c.of-shape.ensures ∙ ap shape_of (drawn 0 1 start refl first c.next.ensures.drawn) in
    let count : c.next-2.result % 60001 ≡ n =
    ap (λ number. number % 60001) (drawn 1 2 start refl second c.next-2.ensures.drawn) in
    let filled =
    c.in_ok-payload.ensures.state
    ∙ ap (λ k. state_after k c.next-2.new.self) count
    ∙ ap (state_after n) second
    ∙ behind n 2 (n + 2) start refl in
    let payload =
    c.in_ok-payload.ensures.bytes
    ∙ ap (λ k. bytes_drawn k c.next-2.new.self) count
    ∙ ap (bytes_drawn n) second in
    let judged = one_more (n + 2) (n + 3) start (omega arith) filled c.next-3.ensures.state in
    let wanted = one_more (n + 3) (n + 4) start (omega arith) judged c.next-4.ensures.state in
    let passed = one_more (n + 4) (n + 5) start (omega arith) wanted c.next-passes.ensures.state in
    let wrong = drawn (n + 2) (n + 3) start (omega arith) judged c.next-3.ensures.drawn in
    let cut = drawn (n + 3) (n + 4) start (omega arith) wanted c.next-4.ensures.drawn in
    let passes = drawn (n + 4) (n + 5) start (omega arith) passed c.next-passes.ensures.drawn in
    let high = later 0 (n + 5) (n + 5) start (omega arith) passed in
    let low = later 1 (n + 5) (n + 6) start (omega arith) passed in
    record {
      drawn = rw (shape, payload, wrong, cut, passes, c.draw_long-choice.ensures.drawn, high, low) refl;
      state =
          c.draw_long-choice.ensures.state
          ∙ ap (state_after 2) passed
          ∙ behind 2 (n + 5) (n + 7) start (omega arith);
    }
