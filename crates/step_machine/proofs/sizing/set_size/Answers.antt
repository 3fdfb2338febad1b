use Rattle.std.proofs.Common.{sym, subst}
use Rattle.suit_edge.specs.Flash.{Keeps}
use Rattle.step_machine.specs.declared.spot.Spot.{Spot}
use Rattle.step_machine.specs.Areas.{OutsideLength}
use Rattle.step_machine.proofs.sizing.set_size.Goals as goal

pub returns-in-Flash-clause-keeps : goal.returns-in-Flash-clause-keeps
returns-in-Flash-clause-keeps g c t =
    subst (λ (x : Spot). Keeps (OutsideLength x) (g.D.Disk.flash c.args.disk.now) (g.D.Disk.flash c.put_length.new.disk)) (sym c.in-Flash.is) (c.put_length.ensures.keeps t)
