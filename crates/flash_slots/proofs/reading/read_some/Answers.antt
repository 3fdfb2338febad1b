use Rattle.std.proofs.Common.{◌≤◌, length, arith}
use Rattle.std.proofs.lemmas.List.{length-take-le}
use Rattle.flash_slots.proofs.Stored.{some_read}
use Rattle.flash_slots.proofs.reading.read_some.Goals as goal
use Rattle.flash_slots.proofs.reading.read_some.Goals.{then-room-rest, else-room-rest}

pub returns-in-Done-clause-bytes : goal.returns-in-Done-clause-bytes
returns-in-Done-clause-bytes g c t =
    let few : c.if-room-rest.count ≤ length c.args.room.now = elim c.if-room-rest.branch [ then-room-rest w ↦ omega (arith, w.if-room-rest, w.count-is) | else-room-rest w ↦ omega (arith, w.if-room-rest, w.count-is) ] in
    some_read c.args.slot (g.D.Disk.flash c.args.disk.now).reads c.args.room.now c.read_at.new.room c.args.from c.if-room-rest.count _ (length-take-le c.if-room-rest.count c.args.room.now few) (c.in-Done.ensures.bytes t)
