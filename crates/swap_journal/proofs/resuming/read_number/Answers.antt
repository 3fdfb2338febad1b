use Rattle.suit_edge.specs.FlashLaws.{same_flash_then}
use Rattle.swap_journal.proofs.resuming.read_number.Goals as goal

pub returns-in-Done-read_at-clause-same : goal.returns-in-Done-read_at-clause-same
returns-in-Done-read_at-clause-same g c t = same_flash_then _ _ _ _ (g.met.D.Disk.obeys c.read_at.new.self t) (c.read_at.ensures.same t) (c.read_at-2.ensures.same t)
