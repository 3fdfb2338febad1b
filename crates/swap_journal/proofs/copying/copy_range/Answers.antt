use Rattle.std.proofs.Common.{◌∙◌, ℕ, List, ap, subst, arith, length}
use Rattle.suit_edge.specs.EdgeLaws.{if_done_then}
use Rattle.suit_edge.specs.Flash.{Keeps}
use Rattle.suit_edge.specs.FlashLaws.{keeps_then, keeps_same}
use Rattle.suit_edge.specs.Ranges.{Outside, written}
use Rattle.swap_journal.proofs.Making.{copied}
use Rattle.swap_journal.proofs.copying.copy_range.Goals as goal

pub returns-clause-copied : goal.returns-clause-copied
returns-clause-copied g c t =
    let law = g.met.D.Disk.obeys c.args.disk.now t in
    if_done_then c.write_and_sync.result _ _ (c.write_and_sync.ensures.written t)
    (λ wrote. copied c.args.from c.args.to (length c.args.room.now) _ _ c.read_at.new.room (omega (arith, law.fits, c.requires.from)) (omega (arith, law.fits, c.requires.to)) (c.in-Done.ensures.bytes t)
    (wrote ∙ ap (λ (l : List ℕ). written l c.args.to c.read_at.new.room) (c.in-Done.ensures.same t).reads))

pub returns-clause-keeps : goal.returns-clause-keeps
returns-clause-keeps g c t =
    let same = c.in-Done.ensures.same t in
    keeps_then (Outside c.args.to (length c.args.room.now)) _ _ _ _ (g.met.D.Disk.obeys c.read_at.new.self t) (keeps_same (Outside c.args.to (length c.args.room.now)) _ _ same)
    (subst (λ (k : ℕ). Keeps (Outside c.args.to k) (g.D.Disk.flash c.read_at.new.self) (g.D.Disk.flash c.write_and_sync.new.disk)) c.read_at.auto.room (c.write_and_sync.ensures.keeps t))
