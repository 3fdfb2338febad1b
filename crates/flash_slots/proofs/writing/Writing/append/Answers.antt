use Rattle.std.proofs.Common.{◌≤◌, ◌+◌, length, arith}
use Rattle.flash_slots.proofs.Since.{empty_since}
use Rattle.flash_slots.proofs.Stored.{put_piece, still_empty}
use Rattle.flash_slots.proofs.writing.Writing.append.Goals as goal

pub returns-in-Failed-clause-empty : goal.returns-in-Failed-clause-empty
returns-in-Failed-clause-empty g c t empty =
    let law = g.met.D.Disk.obeys c.args.disk.now t in
    let inside : c.args.self.now.slot.start + (8 + c.args.self.now.slot.capacity) ≤ length (g.D.Disk.flash c.args.disk.now).reads = omega (arith, law.fits, c.requires.slot) in
    still_empty c.args.self.now.slot (g.D.Disk.flash c.args.disk.now).reads _ _ _ inside (c.write_at.ensures.keeps t).reads empty

pub returns-in-Done-clause-empty : goal.returns-in-Done-clause-empty
returns-in-Done-clause-empty g c t empty =
    let law = g.met.D.Disk.obeys c.args.disk.now t in
    let inside : c.args.self.now.slot.start + (8 + c.args.self.now.slot.capacity) ≤ length (g.D.Disk.flash c.args.disk.now).reads = omega (arith, law.fits, c.requires.slot) in
    still_empty c.args.self.now.slot (g.D.Disk.flash c.args.disk.now).reads _ _ _ inside (c.write_at.ensures.keeps t).reads empty

pub returns-in-Done-clause-pieces : goal.returns-in-Done-clause-pieces
returns-in-Done-clause-pieces g c t =
    let law = g.met.D.Disk.obeys c.args.disk.now t in
    let inside : c.args.self.now.slot.start + 8 + c.args.self.now.written + length c.args.piece.now ≤ length (g.D.Disk.flash c.args.disk.now).reads = omega (arith, law.fits, c.requires.slot, c.requires.within, c.if-rest-piece.false) in
    put_piece c.args.self.now.slot c.args.self.now.written c.args.piece.now (g.D.Disk.flash c.args.disk.now).reads _ inside (c.in-Done.ensures.written t)

pub returns-in-Failed-clause-still_empty : goal.returns-in-Failed-clause-still_empty
returns-in-Failed-clause-still_empty g c t empty =
    empty_since c.args.self.now.slot c.args.self.now.written (length c.args.piece.now) (g.D.Disk.extent c.args.disk.now) (g.D.Disk.flash c.args.disk.now) (g.D.Disk.flash c.write_at.new.self) (g.met.D.Disk.obeys c.args.disk.now t) c.requires.slot (c.write_at.ensures.keeps t) empty

pub returns-in-Done-clause-still_empty : goal.returns-in-Done-clause-still_empty
returns-in-Done-clause-still_empty g c t empty =
    empty_since c.args.self.now.slot c.args.self.now.written (length c.args.piece.now) (g.D.Disk.extent c.args.disk.now) (g.D.Disk.flash c.args.disk.now) (g.D.Disk.flash c.write_at.new.self) (g.met.D.Disk.obeys c.args.disk.now t) c.requires.slot (c.write_at.ensures.keeps t) empty
