use Rattle.std.proofs.Common.{◌≡◌, Some, IsTrue, refl, subst, sym}
use Rattle.step_machine.specs.declared.spot.Spot.{Spot}
use Rattle.step_machine.specs.Replacing.{IsReplaced}
use Rattle.step_machine.proofs.Fetched.{left_alone}
use Rattle.step_machine.proofs.Short.{spot_kept}
use Rattle.step_machine.proofs.taking.take_into.Goals as goal

pub returns-in-Flash-clause-keeps : goal.returns-in-Flash-clause-keeps
returns-in-Flash-clause-keeps g c t = spot_kept _ _ c.in-Flash.is _ _ (c.take_into_slot.ensures.keeps t)

pub returns-in-Flash-clause-replaced : goal.returns-in-Flash-clause-replaced
returns-in-Flash-clause-replaced g c t =
    subst (λ (x : Spot). IsReplaced x (λ file. IsTrue g.H.Host.told → file ≡ Some (g.H.Host.rest c.args.host.now)) (g.D.Disk.flash c.args.disk.now) (g.D.Disk.flash c.take_into_slot.new.disk)) (sym c.in-Flash.is) (c.take_into_slot.ensures.replaced t)

pub returns-in-Ram-clause-replaced : goal.returns-in-Ram-clause-replaced
returns-in-Ram-clause-replaced g c t =
    left_alone c.args.standing.now.spot (λ file. IsTrue g.H.Host.told → file ≡ Some (g.H.Host.rest c.args.host.now)) (Some (g.H.Host.rest c.args.host.now)) (g.D.Disk.flash c.args.disk.now) (λ u. refl)
