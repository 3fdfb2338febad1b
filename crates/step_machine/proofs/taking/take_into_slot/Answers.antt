use Rattle.std.proofs.Common.{◌≡◌, ◌∙◌, [], Some, IsTrue, length, refl, sym, ap, subst, arith}
use Rattle.std.proofs.lemmas.Result.{err_from_is_err_and}
use Rattle.flash_layout.specs.declared.slot.Slot.{Slot}
use Rattle.flash_layout.specs.Slots.{LiesWithin, slot_content}
use Rattle.flash_slots.specs.Contents.{IsEmptyInEach, pieces_of}
use Rattle.flash_slots.specs.WritingLaws.{appended, emptied}
use Rattle.step_machine.specs.declared.spot.Spot.TheVariants as spots
use Rattle.step_machine.proofs.Fetched.{by_file, pieces_long}
use Rattle.step_machine.proofs.Ranging.{length_put, pieces_put, slot_put}
use Rattle.step_machine.proofs.Replaced.{begun_slot, finished_slot, put_slot}
use Rattle.step_machine.proofs.Short.{slot_short}
use Rattle.step_machine.proofs.TakenFiles.{some_cut, some_done, some_stopped}
use Rattle.step_machine.proofs.taking.take_into_slot.Goals as goal

pub returns-in-Err-clause-takes : goal.returns-in-Err-clause-takes
returns-in-Err-clause-takes g c t = some_cut g.H.Host.told c.args.slot.capacity _ _ (slot_short c.args.slot (g.D.Disk.flash c.begin.new.disk).reads)

pub returns-in-Err-finish-clause-takes : goal.returns-in-Err-finish-clause-takes
returns-in-Err-finish-clause-takes g c t = some_cut g.H.Host.told c.args.slot.capacity _ _ (slot_short c.args.slot (g.D.Disk.flash c.finish.new.disk).reads)

pub returns-in_err-append_file-clause-takes : goal.returns-in_err-append_file-clause-takes
returns-in_err-append_file-clause-takes g c t =
    let reads = (g.D.Disk.flash c.append_file.new.disk).reads in
    let is = c.in-Ok.ensures.slot in
    let empty : slot_content c.args.slot reads ≡ [] =
    subst (λ (x : Slot). slot_content x reads ≡ []) is (c.append_file.ensures.empty t (subst (λ (x : Slot). slot_content x (g.D.Disk.flash c.begin.new.disk).reads ≡ []) (sym is) (c.in-Ok.ensures.empty t))) in
    let p = err_from_is_err_and c.from_residual.result c.from_residual.ensures.1 in
    rw (p.1, p.2) (some_stopped g.H.Host.told c.in_err-append_file.field-0.0 c.args.slot.capacity _ _ _ c.in_err-append_file.ensures.stops (c.in_err-append_file.ensures.puts t) empty)

pub returns-in-Ok-finish-clause-takes : goal.returns-in-Ok-finish-clause-takes
returns-in-Ok-finish-clause-takes g c t =
    let put = c.append_file.new.writing in
    let before = (g.D.Disk.flash c.append_file.new.disk).reads in
    let after = (g.D.Disk.flash c.finish.new.disk).reads in
    let same : put.slot ≡ c.args.slot = c.append_file.ensures.slot ∙ c.in-Ok.ensures.slot in
    some_done g.H.Host.told _ c.args.slot.capacity _ (slot_content c.args.slot after)
    (λ u. ap (λ (x : Slot). slot_content x after) (sym same) ∙ c.in-Ok-finish.ensures.content t ∙ ap (λ (x : Slot). pieces_of x put.written before) c.append_file.ensures.slot ∙ (c.in_ok-append_file.ensures.puts t u).1)
    (slot_short c.args.slot after)

pub returns-in-Err-clause-keeps : goal.returns-in-Err-clause-keeps
returns-in-Err-clause-keeps g c t =
    length_put c.args.slot (g.D.Disk.flash c.args.disk.now) (g.D.Disk.flash c.begin.new.disk) (c.begin.ensures.keeps t)

pub returns-in_err-append_file-clause-keeps : goal.returns-in_err-append_file-clause-keeps
returns-in_err-append_file-clause-keeps g c t =
    pieces_put c.args.slot c.in-Ok.writing.slot _ _ _ _ c.in-Ok.ensures.slot (g.met.D.Disk.obeys c.begin.new.disk t) (c.begin.ensures.keeps t) (c.append_file.ensures.keeps t)

pub returns-in-Ok-finish-clause-keeps : goal.returns-in-Ok-finish-clause-keeps
returns-in-Ok-finish-clause-keeps g c t = slot_put c.args.slot c.in-Ok.writing.slot c.append_file.new.writing.slot _ _ _ _ _ _ c.in-Ok.ensures.slot (c.append_file.ensures.slot ∙ c.in-Ok.ensures.slot) (g.met.D.Disk.obeys c.begin.new.disk t) (g.met.D.Disk.obeys c.append_file.new.disk t) (c.begin.ensures.keeps t) (c.append_file.ensures.keeps t) (c.finish.ensures.keeps t)

pub returns-in-Err-finish-clause-keeps : goal.returns-in-Err-finish-clause-keeps
returns-in-Err-finish-clause-keeps g c t = slot_put c.args.slot c.in-Ok.writing.slot c.append_file.new.writing.slot _ _ _ _ _ _ c.in-Ok.ensures.slot (c.append_file.ensures.slot ∙ c.in-Ok.ensures.slot) (g.met.D.Disk.obeys c.begin.new.disk t) (g.met.D.Disk.obeys c.append_file.new.disk t) (c.begin.ensures.keeps t) (c.append_file.ensures.keeps t) (c.finish.ensures.keeps t)

pub returns-in-Err-clause-replaced : goal.returns-in-Err-clause-replaced
returns-in-Err-clause-replaced g c t =
    by_file (spots.Flash c.args.slot) (λ file. IsTrue g.H.Host.told → file ≡ Some (g.H.Host.rest c.args.host.now)) (g.H.Host.rest c.args.host.now) _ _ (λ u. refl)
    (begun_slot c.args.slot c.args.slot _ refl _ _ (g.D.Disk.extent c.args.disk.now) (g.met.D.Disk.obeys c.args.disk.now t) c.requires.slot (c.begin.ensures.keeps t))

pub returns-in_err-append_file-clause-replaced : goal.returns-in_err-append_file-clause-replaced
returns-in_err-append_file-clause-replaced g c t =
    let f1 = g.D.Disk.flash c.begin.new.disk in
    let slot = c.in-Ok.writing.slot in
    let is = c.in-Ok.ensures.slot in
    let empty : IsEmptyInEach slot f1 = subst (λ (x : Slot). IsEmptyInEach x f1) (sym is) (emptied c.args.slot f1 (c.in-Ok.ensures.settled t) (c.in-Ok.ensures.empty t)) in
    by_file (spots.Flash c.args.slot) (λ file. IsTrue g.H.Host.told → file ≡ Some (g.H.Host.rest c.args.host.now)) (g.H.Host.rest c.args.host.now) _ _ (λ u. refl)
    (put_slot c.args.slot slot _ is _ _ (g.D.Disk.extent c.args.disk.now) (g.met.D.Disk.obeys c.args.disk.now t) c.requires.slot (c.begin.ensures.keeps t) _ (c.append_file.ensures.still_empty t empty))

pub returns-in-Ok-finish-clause-replaced : goal.returns-in-Ok-finish-clause-replaced
returns-in-Ok-finish-clause-replaced g c t =
    let f1 = g.D.Disk.flash c.begin.new.disk in
    let f2 = g.D.Disk.flash c.append_file.new.disk in
    let slot = c.in-Ok.writing.slot in
    let put = c.append_file.new.writing in
    let is = c.in-Ok.ensures.slot in
    let same : put.slot ≡ c.args.slot = c.append_file.ensures.slot ∙ is in
    let empty : IsEmptyInEach slot f1 = subst (λ (x : Slot). IsEmptyInEach x f1) (sym is) (emptied c.args.slot f1 (c.in-Ok.ensures.settled t) (c.in-Ok.ensures.empty t)) in
    let still = c.append_file.ensures.still_empty t empty in
    let each : IsEmptyInEach put.slot f2 = subst (λ (x : Slot). IsEmptyInEach x f2) (sym c.append_file.ensures.slot) (appended slot f1 f2 _ (g.met.D.Disk.obeys c.append_file.new.disk t) still) in
    let size : length f2.reads ≡ g.D.Disk.extent c.args.disk.now = (g.met.D.Disk.obeys c.append_file.new.disk t).fits ∙ c.append_file.ensures.goes.size ∙ c.begin.ensures.size in
    let inside : LiesWithin (length f2.reads) put.slot = subst (λ (x : Slot). LiesWithin (length f2.reads) x) (sym same) (omega (arith, size, c.requires.slot)) in
    let room : put.slot.capacity ≡ c.args.slot.capacity = ap (λ (x : Slot). x.capacity) same in
    let bytes = pieces_of put.slot put.written f2.reads in
    let long = pieces_long put.slot put.written f2.reads (omega (arith, room, c.append_file.ensures.within)) inside in
    by_file (spots.Flash c.args.slot) (λ file. IsTrue g.H.Host.told → file ≡ Some (g.H.Host.rest c.args.host.now)) bytes _ _
    (λ u. ap Some (ap (λ (x : Slot). pieces_of x put.written f2.reads) c.append_file.ensures.slot ∙ (c.in_ok-append_file.ensures.puts t u).1))
    (finished_slot c.args.slot slot bytes is _ _ (g.D.Disk.extent c.args.disk.now) (g.met.D.Disk.obeys c.args.disk.now t) c.requires.slot (c.begin.ensures.keeps t) _ still
    put.slot put.written _ same long refl (c.finish.ensures.any_moment t each))

pub returns-in-Err-finish-clause-replaced : goal.returns-in-Err-finish-clause-replaced
returns-in-Err-finish-clause-replaced g c t =
    let f1 = g.D.Disk.flash c.begin.new.disk in
    let f2 = g.D.Disk.flash c.append_file.new.disk in
    let slot = c.in-Ok.writing.slot in
    let put = c.append_file.new.writing in
    let is = c.in-Ok.ensures.slot in
    let same : put.slot ≡ c.args.slot = c.append_file.ensures.slot ∙ is in
    let empty : IsEmptyInEach slot f1 = subst (λ (x : Slot). IsEmptyInEach x f1) (sym is) (emptied c.args.slot f1 (c.in-Ok.ensures.settled t) (c.in-Ok.ensures.empty t)) in
    let still = c.append_file.ensures.still_empty t empty in
    let each : IsEmptyInEach put.slot f2 = subst (λ (x : Slot). IsEmptyInEach x f2) (sym c.append_file.ensures.slot) (appended slot f1 f2 _ (g.met.D.Disk.obeys c.append_file.new.disk t) still) in
    let size : length f2.reads ≡ g.D.Disk.extent c.args.disk.now = (g.met.D.Disk.obeys c.append_file.new.disk t).fits ∙ c.append_file.ensures.goes.size ∙ c.begin.ensures.size in
    let inside : LiesWithin (length f2.reads) put.slot = subst (λ (x : Slot). LiesWithin (length f2.reads) x) (sym same) (omega (arith, size, c.requires.slot)) in
    let room : put.slot.capacity ≡ c.args.slot.capacity = ap (λ (x : Slot). x.capacity) same in
    let bytes = pieces_of put.slot put.written f2.reads in
    let long = pieces_long put.slot put.written f2.reads (omega (arith, room, c.append_file.ensures.within)) inside in
    by_file (spots.Flash c.args.slot) (λ file. IsTrue g.H.Host.told → file ≡ Some (g.H.Host.rest c.args.host.now)) bytes _ _
    (λ u. ap Some (ap (λ (x : Slot). pieces_of x put.written f2.reads) c.append_file.ensures.slot ∙ (c.in_ok-append_file.ensures.puts t u).1))
    (finished_slot c.args.slot slot bytes is _ _ (g.D.Disk.extent c.args.disk.now) (g.met.D.Disk.obeys c.args.disk.now t) c.requires.slot (c.begin.ensures.keeps t) _ still
    put.slot put.written _ same long refl (c.finish.ensures.any_moment t each))
