use Rattle.std.proofs.Common.{◌∙◌, IfOk, sym, ap, subst}
use Rattle.step_machine.specs.declared.spot.Spot.{Spot}
use Rattle.step_machine.specs.Invoking.{IsImageOf}
use Rattle.step_machine.specs.Spots.{content_of}
use Rattle.step_machine.proofs.invoking.image_at.Goals as goal

pub returns-in-Flash-clause-image : goal.returns-in-Flash-clause-image
returns-in-Flash-clause-image g c t =
    let reads = (g.D.Disk.flash c.args.disk.now).reads in
    subst (λ (x : Spot). IfOk c.image_in.result (IsImageOf reads (content_of x c.args.ram.now reads))) (sym c.in-Flash.is) (c.image_in.ensures.image t)

pub returns-in-Ram-clause-image : goal.returns-in-Ram-clause-image
returns-in-Ram-clause-image g c t bytes is =
    is ∙ c.content.ensures.content ∙ ap (λ (x : Spot). content_of x c.args.ram.now (g.D.Disk.flash c.args.disk.now).reads) (sym c.in-Ram.is)
