use Rattle.std.proofs.Common.{◌≤◌, ◌+◌, ◌∙◌, length, refl, sym, arith}
use Rattle.step_machine.proofs.Image.{content_range}
use Rattle.step_machine.proofs.invoking.image_in.Goals as goal

pub returns-clause-image : goal.returns-clause-image
returns-clause-image g c t bytes is =
    let reads = (g.D.Disk.flash c.args.disk.now).reads in
    let inside : c.args.slot.start + (8 + c.args.slot.capacity) ≤ length reads = omega (arith, (g.met.D.Disk.obeys c.args.disk.now t).fits, c.requires.slot) in
    is.1 refl ∙ sym (content_range c.args.slot reads c.in_ok-length.length (c.in_ok-length.ensures.exact t) inside)

pub returns-clause-within : goal.returns-clause-within
returns-clause-within g c = omega (arith, c.in_ok-length.ensures.few, c.requires.slot, c.length.ensures.size)
