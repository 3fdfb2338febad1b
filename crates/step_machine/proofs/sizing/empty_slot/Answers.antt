use Rattle.std.proofs.Common.{◌∙◌, OnOk, sym, subst}
use Rattle.suit_edge.specs.Flash.{Keeps}
use Rattle.flash_slots.proofs.Whole.{no_pieces}
use Rattle.step_machine.specs.declared.spot.Spot.{Spot}
use Rattle.step_machine.specs.Areas.{OutsideLength}
use Rattle.step_machine.specs.Replacing.{IsEmptyAt}
use Rattle.step_machine.proofs.Outcomes.{on_ok}
use Rattle.step_machine.proofs.sizing.empty_slot.Goals as goal

pub returns-in-Flash-clause-empty : goal.returns-in-Flash-clause-empty
returns-in-Flash-clause-empty g c t =
    subst (λ (x : Spot). OnOk c.put_length.result (IsEmptyAt x (g.D.Disk.flash c.put_length.new.disk).reads)) (sym c.in-Flash.is)
    (on_ok c.put_length.result (c.put_length.ensures.content t) (λ is. is ∙ no_pieces c.in-Flash.slot (g.D.Disk.flash c.args.disk.now).reads))

pub returns-in-Flash-clause-keeps : goal.returns-in-Flash-clause-keeps
returns-in-Flash-clause-keeps g c t =
    subst (λ (x : Spot). Keeps (OutsideLength x) (g.D.Disk.flash c.args.disk.now) (g.D.Disk.flash c.put_length.new.disk)) (sym c.in-Flash.is) (c.put_length.ensures.keeps t)
