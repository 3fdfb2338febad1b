use Rattle.std.proofs.Common.{◌≡◌, ℕ, List, refl, subst}
use Rattle.flash_layout.specs.declared.slot.Slot.{Slot}
use Rattle.flash_layout.specs.Slots.{LiesWithin}
use Rattle.flash_slots.specs.RamContents.{Held}
use Rattle.step_machine.specs.declared.spot.Spot.{Spot}
use Rattle.step_machine.specs.declared.spot.Spot.TheVariants as spots
use Rattle.step_machine.specs.Spots.{IsSpot}
use Rattle.step_machine.proofs.Outcomes.{on_any_err}
use Rattle.step_machine.proofs.Ranging.{length_put}
use Rattle.step_machine.proofs.Replaced.{begun_slot, replaced_as, untouched}
use Rattle.step_machine.proofs.Short.{spot_kept, spot_short}
use Rattle.step_machine.proofs.filling.empty.Goals as goal

in_flash : (spot : Spot) (slot : Slot) → spot ≡ spots.Flash slot → (size : ℕ) (ram : List Held) → IsSpot size ram spot → LiesWithin size slot
in_flash spot slot is size ram there = subst (IsSpot size ram) is there

pub returns-in_err-begin-in-Flash-clause-short : goal.returns-in_err-begin-in-Flash-clause-short
returns-in_err-begin-in-Flash-clause-short g c t = on_any_err c.from_residual.result (spot_short _ _ c.in-Flash.is c.args.ram.now (g.D.Disk.flash c.begin.new.disk).reads)

pub returns-in_err-begin-in-Flash-clause-keeps : goal.returns-in_err-begin-in-Flash-clause-keeps
returns-in_err-begin-in-Flash-clause-keeps g c t = spot_kept _ _ c.in-Flash.is _ _ (length_put c.in-Flash.slot _ _ (c.begin.ensures.keeps t))

pub returns-in_ok-begin-in-Flash-clause-keeps : goal.returns-in_ok-begin-in-Flash-clause-keeps
returns-in_ok-begin-in-Flash-clause-keeps g c t = spot_kept _ _ c.in-Flash.is _ _ (length_put c.in-Flash.slot _ _ (c.begin.ensures.keeps t))

pub returns-in_err-begin-in-Flash-clause-any_moment : goal.returns-in_err-begin-in-Flash-clause-any_moment
returns-in_err-begin-in-Flash-clause-any_moment g c t bytes =
    replaced_as c.args.spot c.in-Flash.slot c.in-Flash.is bytes _ _
    (begun_slot c.in-Flash.slot c.in-Flash.slot bytes refl _ _ (g.D.Disk.extent c.args.disk.now) (g.met.D.Disk.obeys c.args.disk.now t) (in_flash c.args.spot c.in-Flash.slot c.in-Flash.is _ c.args.ram.now c.requires.spot) (c.begin.ensures.keeps t))

pub returns-in_ok-begin-in-Flash-clause-any_moment : goal.returns-in_ok-begin-in-Flash-clause-any_moment
returns-in_ok-begin-in-Flash-clause-any_moment g c t bytes =
    replaced_as c.args.spot c.in-Flash.slot c.in-Flash.is bytes _ _
    (begun_slot c.in-Flash.slot c.in-Flash.slot bytes refl _ _ (g.D.Disk.extent c.args.disk.now) (g.met.D.Disk.obeys c.args.disk.now t) (in_flash c.args.spot c.in-Flash.slot c.in-Flash.is _ c.args.ram.now c.requires.spot) (c.begin.ensures.keeps t))

pub returns-in-Ram-clause-any_moment : goal.returns-in-Ram-clause-any_moment
returns-in-Ram-clause-any_moment g c t bytes = untouched c.args.spot bytes (g.D.Disk.flash c.args.disk.now)
