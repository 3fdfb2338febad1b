use Rattle.std.proofs.Common.{◌≤◌, ◌+◌, length, refl, arith}
use Rattle.flash_slots.proofs.Stored.{length_fits, length_none}
use Rattle.flash_slots.proofs.reading.length.Goals as goal

pub returns-then-slot-stored-clause-exact : goal.returns-then-slot-stored-clause-exact
returns-then-slot-stored-clause-exact g c t =
    length_none c.args.slot (g.D.Disk.flash c.args.disk.now).reads c.read_at.new.room c.from_be_bytes-stored.result _ refl (c.in-Done.ensures.bytes t) c.from_be_bytes-stored.ensures c.if-slot-stored.true

pub returns-else-slot-stored-clause-exact : goal.returns-else-slot-stored-clause-exact
returns-else-slot-stored-clause-exact g c t =
    let law = g.met.D.Disk.obeys c.args.disk.now t in
    let inside : c.args.slot.start + (8 + c.args.slot.capacity) ≤ length (g.D.Disk.flash c.args.disk.now).reads = omega (arith, law.fits, c.requires) in
    length_fits c.args.slot (g.D.Disk.flash c.args.disk.now).reads c.read_at.new.room c.from_be_bytes-stored.result _ refl inside (c.in-Done.ensures.bytes t) c.from_be_bytes-stored.ensures (omega (arith, c.if-slot-stored.false))
