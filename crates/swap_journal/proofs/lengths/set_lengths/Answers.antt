use Rattle.std.proofs.Common.{length, ap, arith}
use Rattle.suit_edge.specs.EdgeLaws.{if_done_then}
use Rattle.suit_edge.specs.FlashLaws.{keeps_then}
use Rattle.swap_journal.proofs.Swapping.{first_kept, first_stored, second_kept, second_stored}
use Rattle.swap_journal.proofs.lengths.set_lengths.Goals as goal

pub returns-in-Failed-clause-keeps : goal.returns-in-Failed-clause-keeps
returns-in-Failed-clause-keeps g c t = first_kept c.args.first c.args.second _ _ _ (ap length c.to_be_bytes.ensures) (c.write_at.ensures.keeps t)

pub returns-clause-keeps : goal.returns-clause-keeps
returns-clause-keeps g c t =
    keeps_then _ _ _ _ _ (g.met.D.Disk.obeys c.write_at.new.self t)
    (first_kept c.args.first c.args.second _ _ _ (ap length c.to_be_bytes.ensures) (c.write_at.ensures.keeps t))
    (second_kept c.args.first c.args.second _ _ _ (ap length c.to_be_bytes-2.ensures) (c.write_and_sync.ensures.keeps t))

pub returns-clause-first : goal.returns-clause-first
returns-clause-first g c t =
    let law = g.met.D.Disk.obeys c.args.disk.now t in
    if_done_then c.write_and_sync.result _ _ (c.write_and_sync.ensures.written t)
    (λ wrote. first_stored c.args.first c.args.second c.args.first_length c.args.second_length _ _ _ c.to_be_bytes.result c.to_be_bytes-2.result c.to_be_bytes.ensures c.to_be_bytes-2.ensures
    c.ranges.first_length.fits (omega (arith, law.fits, c.requires.first)) (omega (arith, law.fits, c.requires.second)) c.requires.apart (c.in-Done.ensures.written t) wrote)

pub returns-clause-second : goal.returns-clause-second
returns-clause-second g c t =
    let law = g.met.D.Disk.obeys c.write_at.new.self t in
    if_done_then c.write_and_sync.result _ _ (c.write_and_sync.ensures.written t)
    (λ wrote. second_stored c.args.second c.args.second_length _ _ c.to_be_bytes-2.result c.to_be_bytes-2.ensures c.ranges.second_length.fits (omega (arith, law.fits, c.write_at.ensures.size, c.requires.second)) wrote)
