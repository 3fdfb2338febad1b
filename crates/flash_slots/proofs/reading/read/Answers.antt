use Rattle.std.proofs.Common.{◌≤◌, ◌<◌, ◌+◌, length, arith}
use Rattle.flash_slots.proofs.Outcomes.{if_ok_both}
use Rattle.flash_slots.proofs.Stored.{read_part}
use Rattle.flash_slots.proofs.reading.read.Goals as goal

pub returns-clause-exact : goal.returns-clause-exact
returns-clause-exact g c t =
    let reads = (g.D.Disk.flash c.args.disk.now).reads in
    let law = g.met.D.Disk.obeys c.args.disk.now t in
    let inside : c.args.slot.start + (8 + c.args.slot.capacity) ≤ length reads = omega (arith, law.fits, c.requires) in
    let some : c.args.from < c.in_ok-size.size = omega (arith, c.if-size-from.false) in
    if_ok_both c.read_some.result c.read_some.ensures.count (c.read_some.ensures.bytes t) (λ count count_is bytes.
    read_part c.args.slot reads (g.D.Disk.flash c.length.new.disk).reads c.args.room.now _ c.in_ok-size.size c.args.from count (c.length.ensures.same t).reads (c.in_ok-size.ensures.exact t) c.in_ok-size.ensures.few some inside count_is bytes)
