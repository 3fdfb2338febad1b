use Rattle.std.proofs.Common.{◌≡◌, ◌∙◌, ℕ, length, take, refl, sym, ap, subst, arith}
use Rattle.std.proofs.lemmas.List.{length-take-le}
use Rattle.flash_layout.specs.declared.slot.Slot.{Slot}
use Rattle.flash_layout.specs.Slots.{slot_content}
use Rattle.flash_slots.specs.Contents.{IsEmptyInEach, pieces_of}
use Rattle.flash_slots.specs.WritingLaws.{appended, emptied}
use Rattle.step_machine.specs.declared.spot.Spot.TheVariants as spots
use Rattle.step_machine.specs.Areas.{area_at, size_at}
use Rattle.step_machine.specs.Spots.{IsSpot}
use Rattle.step_machine.proofs.Outcomes.{on_ok}
use Rattle.step_machine.proofs.Ranging.{length_put, pieces_put, slot_put}
use Rattle.step_machine.proofs.Replaced.{begun_slot, finished_slot, put_slot}
use Rattle.step_machine.proofs.Rooms.{area_long, kept_area}
use Rattle.step_machine.proofs.copying.copy_to_slot.Goals as goal

pub returns-in_err-writing-clause-keeps : goal.returns-in_err-writing-clause-keeps
returns-in_err-writing-clause-keeps g c t = length_put c.args.slot _ _ (c.begin.ensures.keeps t)

pub returns-in_err-put_pieces-clause-keeps : goal.returns-in_err-put_pieces-clause-keeps
returns-in_err-put_pieces-clause-keeps g c t =
    pieces_put c.args.slot c.in_ok-writing.writing.slot _ _ _ _ c.in_ok-writing.ensures.slot (g.met.D.Disk.obeys c.begin.new.disk t) (c.begin.ensures.keeps t) (c.put_pieces.ensures.keeps t)

pub returns-clause-content : goal.returns-clause-content
returns-clause-content g c t =
    let slot = c.args.slot in
    let writing = c.put_pieces.new.writing in
    let first = g.D.Disk.flash c.args.disk.now in
    let begun = g.D.Disk.flash c.begin.new.disk in
    let put = g.D.Disk.flash c.put_pieces.new.disk in
    let same_slot : writing.slot ≡ slot = c.put_pieces.ensures.slot ∙ c.in_ok-writing.ensures.slot in
    let inside : IsSpot (length first.reads) c.args.ram.now c.args.source = subst (λ (n : ℕ). IsSpot n c.args.ram.now c.args.source) (sym (g.met.D.Disk.obeys c.args.disk.now t).fits) c.requires.source in
    let same = kept_area (spots.Flash slot) c.args.source c.args.ram.now c.args.ram.now first begun c.requires.clear inside refl
    (length_put slot first begun (c.begin.ensures.keeps t)) in
    on_ok c.finish.result (c.finish.ensures.content t) (λ is.
    ap (λ (x : Slot). slot_content x (g.D.Disk.flash c.finish.new.disk).reads) (sym same_slot)
    ∙ is ∙ ap (λ (n : ℕ). pieces_of writing.slot n put.reads) c.in_ok-put_pieces.ensures.written
    ∙ c.in_ok-put_pieces.ensures.pieces t ∙ ap (take c.args.size) same)

pub returns-clause-keeps : goal.returns-clause-keeps
returns-clause-keeps g c t =
    slot_put c.args.slot c.in_ok-writing.writing.slot c.put_pieces.new.writing.slot _ _ _ _ _ _ c.in_ok-writing.ensures.slot (c.put_pieces.ensures.slot ∙ c.in_ok-writing.ensures.slot) (g.met.D.Disk.obeys c.begin.new.disk t) (g.met.D.Disk.obeys c.put_pieces.new.disk t)
    (c.begin.ensures.keeps t) (c.put_pieces.ensures.keeps t) (c.finish.ensures.keeps t)

pub returns-in_err-writing-clause-any_moment : goal.returns-in_err-writing-clause-any_moment
returns-in_err-writing-clause-any_moment g c t =
    begun_slot c.args.slot c.args.slot _ refl _ _ (g.D.Disk.extent c.args.disk.now) (g.met.D.Disk.obeys c.args.disk.now t) c.requires.slot (c.begin.ensures.keeps t)

pub returns-in_err-put_pieces-clause-any_moment : goal.returns-in_err-put_pieces-clause-any_moment
returns-in_err-put_pieces-clause-any_moment g c t =
    let f1 = g.D.Disk.flash c.begin.new.disk in
    let slot = c.in_ok-writing.writing.slot in
    let is = c.in_ok-writing.ensures.slot in
    let empty : IsEmptyInEach slot f1 = subst (λ (x : Slot). IsEmptyInEach x f1) (sym is) (emptied c.args.slot f1 (c.in_ok-writing.ensures.settled t) (c.in_ok-writing.ensures.empty t)) in
    put_slot c.args.slot slot _ is _ _ (g.D.Disk.extent c.args.disk.now) (g.met.D.Disk.obeys c.args.disk.now t) c.requires.slot (c.begin.ensures.keeps t) _ (c.put_pieces.ensures.still_empty t empty)

pub returns-clause-any_moment : goal.returns-clause-any_moment
returns-clause-any_moment g c t =
    let first = g.D.Disk.flash c.args.disk.now in
    let f1 = g.D.Disk.flash c.begin.new.disk in
    let f2 = g.D.Disk.flash c.put_pieces.new.disk in
    let slot = c.in_ok-writing.writing.slot in
    let put = c.put_pieces.new.writing in
    let is = c.in_ok-writing.ensures.slot in
    let empty : IsEmptyInEach slot f1 = subst (λ (x : Slot). IsEmptyInEach x f1) (sym is) (emptied c.args.slot f1 (c.in_ok-writing.ensures.settled t) (c.in_ok-writing.ensures.empty t)) in
    let still = c.put_pieces.ensures.still_empty t empty in
    let each : IsEmptyInEach put.slot f2 = subst (λ (x : Slot). IsEmptyInEach x f2) (sym c.put_pieces.ensures.slot) (appended slot f1 f2 _ (g.met.D.Disk.obeys c.put_pieces.new.disk t) still) in
    let inside : IsSpot (length first.reads) c.args.ram.now c.args.source = subst (λ (n : ℕ). IsSpot n c.args.ram.now c.args.source) (sym (g.met.D.Disk.obeys c.args.disk.now t).fits) c.requires.source in
    let same = kept_area (spots.Flash c.args.slot) c.args.source c.args.ram.now c.args.ram.now first f1 c.requires.clear inside refl (length_put c.args.slot first f1 (c.begin.ensures.keeps t)) in
    let bytes = take c.args.size (area_at c.args.source c.args.ram.now first.reads) in
    let room : length (area_at c.args.source c.args.ram.now first.reads) ≡ size_at c.args.source c.args.ram.now = area_long c.args.source c.args.ram.now first.reads inside in
    let long : length bytes ≡ c.args.size = length-take-le c.args.size (area_at c.args.source c.args.ram.now first.reads) (omega (arith, room, c.requires.area)) in
    let stands : pieces_of put.slot put.written f2.reads ≡ bytes =
    ap (λ (n : ℕ). pieces_of put.slot n f2.reads) c.in_ok-put_pieces.ensures.written ∙ c.in_ok-put_pieces.ensures.pieces t ∙ ap (take c.args.size) same in
    finished_slot c.args.slot slot bytes is _ _ (g.D.Disk.extent c.args.disk.now) (g.met.D.Disk.obeys c.args.disk.now t) c.requires.slot (c.begin.ensures.keeps t) _ still
    put.slot put.written _ (c.put_pieces.ensures.slot ∙ is) (c.in_ok-put_pieces.ensures.written ∙ sym long) stands (c.finish.ensures.any_moment t each)
