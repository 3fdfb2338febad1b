use Rattle.std.proofs.Common.{◌≤◌, ◌+◌, length, arith}
use Rattle.flash_slots.proofs.Room.{area_written}
use Rattle.flash_slots.proofs.overwriting.overwrite.Goals as goal

pub returns-in-Done-clause-area : goal.returns-in-Done-clause-area
returns-in-Done-clause-area g c t =
    let law = g.met.D.Disk.obeys c.args.disk.now t in
    let inside : c.args.slot.start + (8 + c.args.slot.capacity) ≤ length (g.D.Disk.flash c.args.disk.now).reads = omega (arith, law.fits, c.requires.slot) in
    area_written c.args.slot c.args.from c.args.piece.now (g.D.Disk.flash c.args.disk.now).reads _ inside c.requires.within (c.in-Done.ensures.written t)
