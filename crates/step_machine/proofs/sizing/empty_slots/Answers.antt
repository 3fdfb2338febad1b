use Rattle.std.proofs.Common.{◌∙◌, length}
use Rattle.suit_edge.specs.FlashLaws.{keeps_same, keeps_then}
use Rattle.step_machine.specs.Areas.{IsSlotWithin, OutsideLength}
use Rattle.step_machine.specs.Copying.{OutsideLengths}
use Rattle.step_machine.proofs.Both.{clear_back}
use Rattle.step_machine.proofs.Outcomes.{on_ok}
use Rattle.step_machine.proofs.Reading.{second_written}
use Rattle.step_machine.proofs.Replaced.{empty_behind, empty_now, first_length, slot_there}
use Rattle.step_machine.proofs.sizing.empty_slots.Goals as goal

pub returns-in_err-empty_slot-clause-keeps : goal.returns-in_err-empty_slot-clause-keeps
returns-in_err-empty_slot-clause-keeps g c t = first_length c.args.one c.args.other _ _ (c.empty_slot.ensures.keeps t)

pub returns-in_err-empty_slot-2-clause-keeps : goal.returns-in_err-empty_slot-2-clause-keeps
returns-in_err-empty_slot-2-clause-keeps g c t =
    second_written (OutsideLength c.args.one) (OutsideLength c.args.other) _ _ _ _ (g.met.D.Disk.obeys c.empty_slot.new.disk t) (first_length c.args.one c.args.other _ _ (c.empty_slot.ensures.keeps t)) (c.empty_slot-2.ensures.keeps t)

pub returns-clause-keeps : goal.returns-clause-keeps
returns-clause-keeps g c t =
    keeps_then (OutsideLengths c.args.one c.args.other) _ _ _ _ (g.met.D.Disk.obeys c.empty_slot-2.new.disk t)
    (second_written (OutsideLength c.args.one) (OutsideLength c.args.other) _ _ _ _ (g.met.D.Disk.obeys c.empty_slot.new.disk t) (first_length c.args.one c.args.other _ _ (c.empty_slot.ensures.keeps t)) (c.empty_slot-2.ensures.keeps t))
    (keeps_same (OutsideLengths c.args.one c.args.other) _ _ (c.sync_slots.ensures.read.same t))

pub returns-clause-empty : goal.returns-clause-empty
returns-clause-empty g c t =
    let f = g.D.Disk.flash c.empty_slot.new.disk in
    let inside : IsSlotWithin (length f.reads) c.args.one = slot_there c.args.one _ _ ((g.met.D.Disk.obeys c.empty_slot.new.disk t).fits ∙ c.empty_slot.ensures.goes.size) c.requires.one in
    let empty = empty_behind c.args.one c.args.other f (g.D.Disk.flash c.empty_slot-2.new.disk) (clear_back c.args.one c.args.other c.requires.clear) inside (c.empty_slot-2.ensures.keeps t) (c.in_ok-empty_slot.ensures.empty t) in
    on_ok c.sync_slots.result (c.sync_slots.ensures.settled t) (λ settled. empty_now c.args.one (g.D.Disk.flash c.empty_slot-2.new.disk) (g.D.Disk.flash c.sync_slots.new.disk) empty (c.sync_slots.ensures.read.same t).reads settled)

pub returns-clause-other_empty : goal.returns-clause-other_empty
returns-clause-other_empty g c t =
    on_ok c.sync_slots.result (c.sync_slots.ensures.other_settled t) (λ settled. empty_now c.args.other (g.D.Disk.flash c.empty_slot-2.new.disk) (g.D.Disk.flash c.sync_slots.new.disk) (c.in_ok-empty_slot-2.ensures.empty t) (c.sync_slots.ensures.read.same t).reads settled)
