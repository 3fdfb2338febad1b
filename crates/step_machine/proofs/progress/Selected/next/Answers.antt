use Rattle.std.proofs.Common.{◌≡◌, ◌+◌, ◌-◌, ◌∙◌, suc, refl, ap, arith}
use Rattle.step_machine.specs.Running.{selected_list}
use Rattle.step_machine.proofs.progress.Selected.next.Goals as goal

pub returns-then-first-end : goal.returns-then-first-end
returns-then-first-end c =
    let more : c.in-Range.end - c.in-Range.first ≡ suc (c.in-Range.end - (c.in-Range.first + 1)) = omega (arith, c.if-first-end.true) in
    ap selected_list c.in-Range.is ∙ rw more refl
