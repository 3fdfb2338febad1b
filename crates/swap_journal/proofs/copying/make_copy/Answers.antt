use Rattle.std.proofs.Common.{◌≡◌, ◌∙◌, IsTrue, arith, length, take}
use Rattle.suit_edge.specs.EdgeLaws.{if_done_then}
use Rattle.suit_edge.specs.Flash.{Keeps}
use Rattle.suit_edge.specs.Ranges.{Outside}
use Rattle.swap_journal.specs.Exchanges.{copy_size, copy_to}
use Rattle.swap_journal.proofs.Copies.{made}
use Rattle.swap_journal.proofs.Making.{as_copy, as_kept, kept_areas, part_long, short_copy, torn_images}
use Rattle.swap_journal.proofs.copying.make_copy.Given as given
use Rattle.swap_journal.proofs.copying.make_copy.Goals as goal
use Rattle.swap_journal.proofs.copying.make_copy.Goals.{After-copy_range}

-- the part of the room that is used
used : (g : given.Over) (c : After-copy_range g) → length (take c.copy_size-size.result c.args.room.now) ≡ copy_size c.args.exchange.now c.args.copy
used g c =
    part_long c.args.room.now c.copy_size-size.result (omega (arith, c.told-room, c.copy_size-size.ensures, short_copy c.args.exchange.now c.args.copy)) ∙ c.copy_size-size.ensures

kept : (g : given.Over) (c : After-copy_range g) → IsTrue g.D.Disk.told
    → Keeps (Outside (copy_to c.args.exchange.now c.args.copy) (copy_size c.args.exchange.now c.args.copy)) (g.D.Disk.flash c.args.disk.now) (g.D.Disk.flash c.copy_range.new.disk)
kept g c t = as_kept c.args.exchange.now c.args.copy c.copy_to.result _ _ _ c.copy_to.ensures (used g c) (c.copy_range.ensures.keeps t)

pub returns-clause-copied : goal.returns-clause-copied
returns-clause-copied g c t =
    if_done_then c.copy_range.result _ _ (c.copy_range.ensures.copied t)
    (λ copy. made c.args.exchange.now c.args.copy _ _ c.requires.apart c.requires.copy
    (as_copy c.args.exchange.now c.args.copy c.copy_from.result c.copy_to.result _ _ _ c.copy_from.ensures c.copy_to.ensures (used g c) copy))

pub returns-clause-any_moment : goal.returns-clause-any_moment
returns-clause-any_moment g c t = torn_images c.args.exchange.now c.args.copy _ _ c.requires.apart c.requires.copy (c.requires.settled t) (kept g c t)

pub returns-clause-keeps : goal.returns-clause-keeps
returns-clause-keeps g c t = kept_areas c.args.exchange.now c.args.copy _ _ c.requires.copy (kept g c t)
