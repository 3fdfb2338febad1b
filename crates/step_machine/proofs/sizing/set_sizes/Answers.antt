use Rattle.std.proofs.Common.{◌≡◌, ◌∙◌, ℕ, length, take, sym, ap, subst}
use Rattle.suit_edge.specs.FlashLaws.{keeps_same, keeps_then}
use Rattle.step_machine.specs.Areas.{OutsideLength}
use Rattle.step_machine.specs.Copying.{OutsideLengths}
use Rattle.step_machine.specs.Spots.{IsSpot, content_of}
use Rattle.step_machine.proofs.Both.{clear_back, first_changed, spot_stays}
use Rattle.step_machine.proofs.Lifting.{kept_content}
use Rattle.step_machine.proofs.Outcomes.{on_ok}
use Rattle.step_machine.proofs.Reading.{second_written}
use Rattle.step_machine.proofs.Replaced.{first_length, keeps_length}
use Rattle.step_machine.proofs.Rooms.{kept_area}
use Rattle.step_machine.proofs.sizing.set_sizes.Goals as goal

pub returns-in_err-set_size-clause-ram : goal.returns-in_err-set_size-clause-ram
returns-in_err-set_size-clause-ram g c = first_changed c.args.one c.args.other c.args.ram.now c.set_size.new.ram c.set_size.ensures.ram

pub returns-in_err-set_size-clause-keeps : goal.returns-in_err-set_size-clause-keeps
returns-in_err-set_size-clause-keeps g c t = first_length c.args.one c.args.other _ _ (c.set_size.ensures.keeps t)

pub returns-in_err-set_size-2-clause-keeps : goal.returns-in_err-set_size-2-clause-keeps
returns-in_err-set_size-2-clause-keeps g c t =
    second_written (OutsideLength c.args.one) (OutsideLength c.args.other) _ _ _ _ (g.met.D.Disk.obeys c.set_size.new.disk t) (first_length c.args.one c.args.other _ _ (c.set_size.ensures.keeps t)) (c.set_size-2.ensures.keeps t)

pub returns-clause-keeps : goal.returns-clause-keeps
returns-clause-keeps g c t =
    keeps_then (OutsideLengths c.args.one c.args.other) _ _ _ _ (g.met.D.Disk.obeys c.set_size-2.new.disk t)
    (second_written (OutsideLength c.args.one) (OutsideLength c.args.other) _ _ _ _ (g.met.D.Disk.obeys c.set_size.new.disk t) (first_length c.args.one c.args.other _ _ (c.set_size.ensures.keeps t)) (c.set_size-2.ensures.keeps t))
    (keeps_same (OutsideLengths c.args.one c.args.other) _ _ (c.sync_slots.ensures.read.same t))

pub returns-clause-one : goal.returns-clause-one
returns-clause-one g c t =
    let f1 = g.D.Disk.flash c.set_size.new.disk in
    let f2 = g.D.Disk.flash c.set_size-2.new.disk in
    let size : length f1.reads ≡ g.D.Disk.extent c.args.disk.now = (g.met.D.Disk.obeys c.set_size.new.disk t).fits ∙ c.set_size.ensures.goes.size in
    let inside : IsSpot (length f1.reads) c.set_size.new.ram c.args.one = spot_stays c.args.one c.args.one (g.D.Disk.extent c.args.disk.now) (length f1.reads) c.args.ram.now c.set_size.new.ram size c.set_size.ensures.ram c.requires.pair.one in
    on_ok c.sync_slots.result (c.sync_slots.ensures.settled t) (λ _.
    ap (content_of c.args.one c.set_size-2.new.ram) (c.sync_slots.ensures.read.same t).reads
    ∙ kept_content c.args.other c.args.one c.set_size.new.ram c.set_size-2.new.ram f1 f2 (clear_back c.args.one c.args.other c.requires.pair.clear) inside c.set_size-2.ensures.ram (keeps_length c.args.other f1 f2 (c.set_size-2.ensures.keeps t))
    ∙ c.in_ok-set_size.ensures.content t)

pub returns-clause-other : goal.returns-clause-other
returns-clause-other g c t =
    let f0 = g.D.Disk.flash c.args.disk.now in
    let f1 = g.D.Disk.flash c.set_size.new.disk in
    let size : length f0.reads ≡ g.D.Disk.extent c.args.disk.now = (g.met.D.Disk.obeys c.args.disk.now t).fits in
    let inside : IsSpot (length f0.reads) c.args.ram.now c.args.other = subst (λ (i : ℕ). IsSpot i c.args.ram.now c.args.other) (sym size) c.requires.pair.other in
    on_ok c.sync_slots.result (c.sync_slots.ensures.settled t) (λ _.
    ap (content_of c.args.other c.set_size-2.new.ram) (c.sync_slots.ensures.read.same t).reads
    ∙ c.in_ok-set_size-2.ensures.content t
    ∙ ap (take c.args.sizes.1) (kept_area c.args.one c.args.other c.args.ram.now c.set_size.new.ram f0 f1 c.requires.pair.clear inside c.set_size.ensures.ram (keeps_length c.args.one f0 f1 (c.set_size.ensures.keeps t))))
