use Rattle.std.proofs.Common.{length, refl, arith}
use Rattle.suit_edge.specs.FlashLaws.{keeps_fewer}
use Rattle.suit_edge.specs.Ranges.{Outside}
use Rattle.flash_layout.specs.FrameFacts.{facts}
use Rattle.flash_layout.specs.Frames.{bank_place, bank_size}
use Rattle.rollback_record.specs.Moved.{OutsideBank}
use Rattle.rollback_record.proofs.Filling.{fewer, put_keeps, put_there}
use Rattle.rollback_record.proofs.moved.put_envelope.Goals as goal

pub returns-in-Done-clause-envelope : goal.returns-in-Done-clause-envelope
returns-in-Done-clause-envelope g c t =
    let place = facts (g.D.Disk.extent c.args.disk.now) c.args.frame c.requires.frame in
    put_there (g.D.Disk.flash c.args.disk.now).reads (g.D.Disk.flash c.write_at.new.self).reads c.args.envelope.now c.bank.result (bank_place c.args.frame 0) (length c.args.envelope.now) c.bank.ensures refl
    (omega (arith, c.requires.room, place.inside, place.head, place.first_bank, (g.met.D.Disk.obeys c.args.disk.now t).fits)) (c.in-Done.ensures.written t)

pub returns-in-Done-clause-keeps : goal.returns-in-Done-clause-keeps
returns-in-Done-clause-keeps g c t =
    let a = g.D.Disk.flash c.args.disk.now in
    let b = g.D.Disk.flash c.write_at.new.self in
    keeps_fewer (OutsideBank c.args.frame) (Outside (bank_place c.args.frame 0) (length c.args.envelope.now)) (fewer (bank_place c.args.frame 0) (length c.args.envelope.now) (bank_size c.args.frame) c.requires.room) a b
    (put_keeps a b c.bank.result (bank_place c.args.frame 0) (length c.args.envelope.now) (length c.args.envelope.now) c.bank.ensures refl (c.write_at.ensures.keeps t))

pub returns-in-Failed-clause-keeps : goal.returns-in-Failed-clause-keeps
returns-in-Failed-clause-keeps g c t =
    let a = g.D.Disk.flash c.args.disk.now in
    let b = g.D.Disk.flash c.write_at.new.self in
    keeps_fewer (OutsideBank c.args.frame) (Outside (bank_place c.args.frame 0) (length c.args.envelope.now)) (fewer (bank_place c.args.frame 0) (length c.args.envelope.now) (bank_size c.args.frame) c.requires.room) a b
    (put_keeps a b c.bank.result (bank_place c.args.frame 0) (length c.args.envelope.now) (length c.args.envelope.now) c.bank.ensures refl (c.write_at.ensures.keeps t))
