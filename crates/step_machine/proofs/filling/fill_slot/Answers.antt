use Rattle.std.proofs.Common.{◌≡◌, ◌≤◌, ◌+◌, ◌∙◌, ◌++◌, ℕ, List, length, refl, sym, ap, subst, arith}
use Rattle.flash_layout.specs.declared.slot.Slot.{Slot}
use Rattle.flash_slots.specs.Contents.{IsEmptyInEach, pieces_of}
use Rattle.flash_slots.specs.WritingLaws.{appended, emptied}
use Rattle.flash_slots.proofs.Whole.{no_pieces}
use Rattle.step_machine.proofs.Ranging.{length_put, more_put_there, whole_put}
use Rattle.step_machine.proofs.Replaced.{begun_slot, finished_slot, put_slot}
use Rattle.step_machine.proofs.filling.fill_slot.Goals as goal

pub returns-in_err-writing-clause-keeps : goal.returns-in_err-writing-clause-keeps
returns-in_err-writing-clause-keeps g c t = length_put c.args.slot _ _ (c.begin.ensures.keeps t)

pub returns-in-Err-clause-keeps : goal.returns-in-Err-clause-keeps
returns-in-Err-clause-keeps g c t =
    let fits : c.in_ok-writing.writing.written + length c.args.bytes.now ≤ c.args.slot.capacity = omega (arith, c.in_ok-writing.ensures.none, c.requires.fits) in
    more_put_there c.args.slot c.in_ok-writing.writing.slot _ _ _ _ _ _ c.in_ok-writing.ensures.slot fits (g.met.D.Disk.obeys c.begin.new.disk t) (length_put c.args.slot _ _ (c.begin.ensures.keeps t)) (c.append.ensures.keeps t)

pub returns-clause-keeps : goal.returns-clause-keeps
returns-clause-keeps g c t =
    let fits : c.in_ok-writing.writing.written + length c.args.bytes.now ≤ c.args.slot.capacity = omega (arith, c.in_ok-writing.ensures.none, c.requires.fits) in
    let put = more_put_there c.args.slot c.in_ok-writing.writing.slot (g.D.Disk.flash c.args.disk.now) _ _ _ _ _ c.in_ok-writing.ensures.slot fits (g.met.D.Disk.obeys c.begin.new.disk t) (length_put c.args.slot _ _ (c.begin.ensures.keeps t)) (c.append.ensures.keeps t) in
    whole_put c.args.slot c.append.new.self.slot _ _ _ _ (c.append.ensures.slot ∙ c.in_ok-writing.ensures.slot) (g.met.D.Disk.obeys c.append.new.disk t) put (c.finish.ensures.keeps t)

pub returns-in_err-writing-clause-any_moment : goal.returns-in_err-writing-clause-any_moment
returns-in_err-writing-clause-any_moment g c t =
    begun_slot c.args.slot c.args.slot c.args.bytes.now refl _ _ (g.D.Disk.extent c.args.disk.now) (g.met.D.Disk.obeys c.args.disk.now t) c.requires.slot (c.begin.ensures.keeps t)

pub returns-in-Err-clause-any_moment : goal.returns-in-Err-clause-any_moment
returns-in-Err-clause-any_moment g c t =
    let f1 = g.D.Disk.flash c.begin.new.disk in
    let slot = c.in_ok-writing.writing.slot in
    let is = c.in_ok-writing.ensures.slot in
    let empty : IsEmptyInEach slot f1 = subst (λ (x : Slot). IsEmptyInEach x f1) (sym is) (emptied c.args.slot f1 (c.in_ok-writing.ensures.settled t) (c.in_ok-writing.ensures.empty t)) in
    put_slot c.args.slot slot c.args.bytes.now is _ _ (g.D.Disk.extent c.args.disk.now) (g.met.D.Disk.obeys c.args.disk.now t) c.requires.slot (c.begin.ensures.keeps t) _ (c.append.ensures.still_empty t empty)

pub returns-clause-any_moment : goal.returns-clause-any_moment
returns-clause-any_moment g c t =
    let f1 = g.D.Disk.flash c.begin.new.disk in
    let f2 = g.D.Disk.flash c.append.new.disk in
    let slot = c.in_ok-writing.writing.slot in
    let put = c.append.new.self.slot in
    let is = c.in_ok-writing.ensures.slot in
    let empty : IsEmptyInEach slot f1 = subst (λ (x : Slot). IsEmptyInEach x f1) (sym is) (emptied c.args.slot f1 (c.in_ok-writing.ensures.settled t) (c.in_ok-writing.ensures.empty t)) in
    let still = c.append.ensures.still_empty t empty in
    let each : IsEmptyInEach put f2 = subst (λ (x : Slot). IsEmptyInEach x f2) (sym c.append.ensures.slot) (appended slot f1 f2 _ (g.met.D.Disk.obeys c.append.new.disk t) still) in
    let n : c.append.new.self.written ≡ length c.args.bytes.now = omega (arith, c.in-Ok.ensures.written, c.in_ok-writing.ensures.none) in
    let stands : pieces_of put c.append.new.self.written f2.reads ≡ c.args.bytes.now =
    c.in-Ok.ensures.pieces t
    ∙ ap (λ (k : ℕ). pieces_of slot k f1.reads ++ c.args.bytes.now) c.in_ok-writing.ensures.none
    ∙ ap (λ (l : List ℕ). l ++ c.args.bytes.now) (no_pieces slot f1.reads) in
    finished_slot c.args.slot slot c.args.bytes.now is _ _ (g.D.Disk.extent c.args.disk.now) (g.met.D.Disk.obeys c.args.disk.now t) c.requires.slot (c.begin.ensures.keeps t) _ still
    put c.append.new.self.written _ (c.append.ensures.slot ∙ is) n stands (c.finish.ensures.any_moment t each)
