use Rattle.std.proofs.Common.{◌≡◌, ◌≤◌, ◌+◌, ◌∙◌, List, ℕ, length, take, drop, refl, sym, ap, subst, arith, rules}
use Rattle.std.proofs.lemmas.List.{length-take-le}
use Rattle.suit_edge.specs.FlashLaws.{grows_then, keeps_same, keeps_then, then_same}
use Rattle.suit_edge.specs.Ranges.{Outside}
use Rattle.flash_layout.specs.declared.slot.Slot.{Slot}
use Rattle.flash_layout.specs.Slots.{extent_of}
use Rattle.flash_slots.specs.Contents.{IsEmptySlot, pieces_of}
use Rattle.step_machine.specs.declared.spot.Spot.TheVariants as spots
use Rattle.step_machine.specs.Areas.{area_at}
use Rattle.step_machine.specs.Spots.{IsSpot}
use Rattle.step_machine.proofs.Ranging.{read_and_put}
use Rattle.step_machine.proofs.Replaced.{moment_more}
use Rattle.step_machine.proofs.Rooms.{kept_area, more_put}
use Rattle.step_machine.proofs.copying.put_pieces.Goals as goal

pub returns-in_err-count-clause-keeps : goal.returns-in_err-count-clause-keeps
returns-in_err-count-clause-keeps g c t =
    let outside : ℕ → Type 0 = Outside c.args.writing.now.slot.start (extent_of c.args.writing.now.slot) in
    keeps_then outside _ _ _ _ (g.met.D.Disk.obeys c.loop-from.disk t) (c.loop-from.invariant.keeps t) (keeps_same outside _ _ (c.read_piece.ensures.read.same t))

pub returns-in-Err-clause-keeps : goal.returns-in-Err-clause-keeps
returns-in-Err-clause-keeps g c t =
    let slot = c.args.writing.now.slot in
    let written = c.loop-from.invariant.written in
    let few : c.in_ok-count.count ≤ length c.read_piece.new.room = omega (arith, c.in_ok-count.ensures.count, c.read_piece.auto.room) in
    let count : length (take c.in_ok-count.count c.read_piece.new.room) ≡ c.in_ok-count.count = length-take-le c.in_ok-count.count c.read_piece.new.room few in
    let within : c.loop-from.from + c.in_ok-count.count ≤ slot.capacity = omega (arith, c.in_ok-count.ensures.count, c.loop-from-test.true, c.requires.fits) in
    read_and_put slot c.loop-from.writing.slot _ _ _ _ _ _ _ _ c.loop-from.invariant.slot (omega (arith, written, count, within)) (g.met.D.Disk.obeys c.loop-from.disk t) (g.met.D.Disk.obeys c.read_piece.new.disk t) (c.loop-from.invariant.keeps t) (c.read_piece.ensures.read.same t) (c.append.ensures.keeps t)

pub loop-from-preserved : goal.loop-from-preserved
loop-from-preserved g c =
    let slot = c.args.writing.now.slot in
    let few : c.in_ok-count.count ≤ length c.read_piece.new.room = omega (arith, c.in_ok-count.ensures.count, c.read_piece.auto.room) in
    let count : length (take c.in_ok-count.count c.read_piece.new.room) ≡ c.in_ok-count.count = length-take-le c.in_ok-count.count c.read_piece.new.room few in
    let within : c.loop-from.from + c.in_ok-count.count ≤ slot.capacity = omega (arith, c.in_ok-count.ensures.count, c.loop-from-test.true, c.requires.fits) in
    let written = c.loop-from.invariant.written in
    let now : c.append.new.self.written ≡ c.loop-from.from + c.in_ok-count.count = omega (arith, c.in-Ok.ensures.written, count, written) in
    let kept : c.append.new.self.slot ≡ slot = c.append.ensures.slot ∙ c.loop-from.invariant.slot in
    record {
      within = omega (arith, c.in_ok-count.ensures.count, c.loop-from-test.true);
      room = search rules;
      slot = kept;
      written = now;
      size = search rules;
      faults = search rules;
      pieces = λ t.
          let first = g.D.Disk.flash c.args.disk.now in
          let f = g.D.Disk.flash c.loop-from.disk in
          let piece = take c.in_ok-count.count c.read_piece.new.room in
          let last = (g.D.Disk.flash c.append.new.disk).reads in
          let inside : IsSpot (length first.reads) c.args.ram.now c.args.source = subst (λ (n : ℕ). IsSpot n c.args.ram.now c.args.source) (sym (g.met.D.Disk.obeys c.args.disk.now t).fits) c.requires.source in
          let same = kept_area (spots.Flash slot) c.args.source c.args.ram.now c.args.ram.now first f c.requires.clear inside refl (c.loop-from.invariant.keeps t) in
          let was : pieces_of c.loop-from.writing.slot c.loop-from.writing.written (g.D.Disk.flash c.read_piece.new.disk).reads ≡ take c.loop-from.from (area_at c.args.source c.args.ram.now first.reads) =
          ap (λ (x : Slot). pieces_of x c.loop-from.writing.written (g.D.Disk.flash c.read_piece.new.disk).reads) c.loop-from.invariant.slot
          ∙ ap (λ (n : ℕ). pieces_of slot n (g.D.Disk.flash c.read_piece.new.disk).reads) written
          ∙ ap (pieces_of slot c.loop-from.from) (c.read_piece.ensures.read.same t).reads ∙ c.loop-from.invariant.pieces t in
          ap (λ (n : ℕ). pieces_of slot n last) (sym now) ∙ ap (λ (x : Slot). pieces_of x c.append.new.self.written last) (sym kept)
          ∙ more_put (area_at c.args.source c.args.ram.now first.reads) _ _ piece c.loop-from.from c.in_ok-count.count was
          (c.in_ok-count.ensures.bytes t ∙ ap (λ (l : List ℕ). take c.in_ok-count.count (drop c.loop-from.from l)) same) (c.in-Ok.ensures.pieces t);
      keeps = λ t. read_and_put slot c.loop-from.writing.slot _ _ _ _ _ _ _ _ c.loop-from.invariant.slot (omega (arith, written, count, within)) (g.met.D.Disk.obeys c.loop-from.disk t) (g.met.D.Disk.obeys c.read_piece.new.disk t) (c.loop-from.invariant.keeps t) (c.read_piece.ensures.read.same t) (c.append.ensures.keeps t);
      still_empty = λ t empty. moment_more slot c.loop-from.writing.slot c.loop-from.invariant.slot (g.D.Disk.flash c.args.disk.now) (g.D.Disk.flash c.loop-from.disk) (g.D.Disk.flash c.read_piece.new.disk) (g.D.Disk.flash c.append.new.disk) _ _ (g.met.D.Disk.obeys c.loop-from.disk t) (g.met.D.Disk.obeys c.read_piece.new.disk t)
          (c.loop-from.invariant.still_empty t empty) (c.read_piece.ensures.read.same t) (c.append.ensures.still_empty t);
      grows = λ t.
          let first = g.D.Disk.flash c.args.disk.now in
          let f = g.D.Disk.flash c.loop-from.disk in
          let h = g.D.Disk.flash c.read_piece.new.disk in
          let one = (c.loop-from.invariant.keeps t).images.later in
          let two = (c.read_piece.ensures.read.same t).images.later in
          grows_then first h (g.D.Disk.flash c.append.new.disk) (omega (arith, one, two))
          (grows_then first f h one (c.loop-from.invariant.grows t) (c.read_piece.ensures.read.grows t)) (c.append.ensures.grows t);
    }

pub returns-in_err-count-clause-still_empty : goal.returns-in_err-count-clause-still_empty
returns-in_err-count-clause-still_empty g c t empty =
    then_same _ _ _ _ (IsEmptySlot c.args.writing.now.slot) (g.met.D.Disk.obeys c.loop-from.disk t) (c.loop-from.invariant.still_empty t empty) (c.read_piece.ensures.read.same t)

pub returns-in-Err-clause-still_empty : goal.returns-in-Err-clause-still_empty
returns-in-Err-clause-still_empty g c t empty =
    moment_more c.args.writing.now.slot c.loop-from.writing.slot c.loop-from.invariant.slot (g.D.Disk.flash c.args.disk.now) (g.D.Disk.flash c.loop-from.disk) (g.D.Disk.flash c.read_piece.new.disk) (g.D.Disk.flash c.append.new.disk) _ _ (g.met.D.Disk.obeys c.loop-from.disk t) (g.met.D.Disk.obeys c.read_piece.new.disk t)
    (c.loop-from.invariant.still_empty t empty) (c.read_piece.ensures.read.same t) (c.append.ensures.still_empty t)
