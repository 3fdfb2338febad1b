use Rattle.std.proofs.Common.{◌≡◌, ◌≤◌, ◌+◌, length, take, drop, sym, subst, arith}
use Rattle.step_machine.specs.declared.spot.Spot.{Spot}
use Rattle.step_machine.specs.Areas.{area_at, size_at}
use Rattle.step_machine.specs.Spots.{IsSpot}
use Rattle.step_machine.proofs.Outcomes.{if_ok_both}
use Rattle.step_machine.proofs.Rooms.{area_part}
use Rattle.step_machine.proofs.areas.read_piece.Goals as goal

pub returns-in-Flash-clause-bytes : goal.returns-in-Flash-clause-bytes
returns-in-Flash-clause-bytes g c t =
    let slot = c.in-Flash.slot in
    let reads = (g.D.Disk.flash c.args.disk.now).reads in
    let law = g.met.D.Disk.obeys c.args.disk.now t in
    let lies : slot.start + (8 + slot.capacity) ≤ g.D.Disk.extent c.args.disk.now = subst (λ (x : Spot). IsSpot (g.D.Disk.extent c.args.disk.now) c.args.ram.now x) c.in-Flash.is c.requires.spot in
    let inside : slot.start + (8 + slot.capacity) ≤ length reads = omega (arith, law.fits, lies) in
    let few : c.args.size ≤ slot.capacity = subst (λ (x : Spot). c.args.size ≤ size_at x c.args.ram.now) c.in-Flash.is c.requires.area in
    if_ok_both c.read_some.result c.read_some.ensures.count (c.read_some.ensures.bytes t) (λ count count_is bytes.
    let within : c.args.from + count ≤ c.args.size = omega (arith, count_is, c.requires.within) in
    subst (λ (x : Spot). take count c.read_some.new.room ≡ take count (drop c.args.from (area_at x c.args.ram.now reads))) (sym c.in-Flash.is)
    (area_part slot reads c.args.room.now c.read_some.new.room c.args.size c.args.from count inside few within bytes))
