use Rattle.std.proofs.Common.{◌+◌, ◌%◌, [], ◌∷◌, ◌++◌, refl, sym, ap, ◌∙◌}
use Rattle.conformance.specs.Draws.{state_after}
use Rattle.conformance.specs.Drawing.{bytes_drawn}
use Rattle.conformance.proofs.States.{drawn, one_byte_more, one_more}
use Rattle.conformance.proofs.drawing.draw_bytes.Goals as goal

pub loop-init : goal.loop-init
unfolding bytes_drawn state_after
loop-init c = (c.new-bytes.ensures, refl)

pub loop-preserved : goal.loop-preserved
loop-preserved c =
    let start = c.args.draw.now in
    let n = c.loop.counter in
    let state = one_more n (n + 1) start refl c.loop.invariant.1 c.next.ensures.state in
    let number = drawn n (n + 1) start refl state c.next.ensures.drawn in (
      c.in_ok-push.ensures.ok
          ∙ ap (λ bytes. bytes ++ (c.next.result % 256) ∷ []) c.loop.invariant.0
          ∙ ap (λ number. bytes_drawn n start ++ (number % 256) ∷ []) number
          ∙ sym (one_byte_more n start),
      state,
    )
