use Rattle.std.proofs.Common.{◌++◌, IsTrue}
use Rattle.suit_edge.specs.Flash.{IsSame, Keeps, Passes}
use Rattle.suit_edge.specs.FlashLaws.{keeps_same, keeps_then, same_flash_then}
use Rattle.suit_edge.specs.Ranges.{OutsideEach}
use Rattle.swap_journal.specs.Exchanges.{areas}
use Rattle.swap_journal.specs.Progress.{StillRecovers, entries}
use Rattle.swap_journal.proofs.Turns.{resumed}
use Rattle.swap_journal.proofs.resuming.resume.Given as given
use Rattle.swap_journal.proofs.resuming.resume.Goals as goal
use Rattle.swap_journal.proofs.resuming.resume.Goals.{After-finish}

-- the sync and the reads change nothing
same : (g : given.Over) (c : After-finish g) → IsTrue g.D.Disk.told → IsSame (g.D.Disk.flash c.args.disk.now) (g.D.Disk.flash c.read_progress.new.disk)
same g c t = same_flash_then _ _ _ _ (g.met.D.Disk.obeys c.sync.new.self t) (c.sync.ensures.same t) (c.read_progress.ensures.same t)

moments : (g : given.Over) (c : After-finish g) → IsTrue g.D.Disk.told
    → Passes (g.D.Disk.flash c.args.disk.now) (g.D.Disk.flash c.finish.new.disk) (StillRecovers c.args.exchange.now c.args.page (g.D.Disk.flash c.args.disk.now))
moments g c t = resumed c.args.exchange.now c.args.page _ _ _ (same g c t) (c.finish.ensures.any_moment t)

kept : (g : given.Over) (c : After-finish g) → IsTrue g.D.Disk.told
    → Keeps (OutsideEach (areas c.args.exchange.now ++ entries c.args.page)) (g.D.Disk.flash c.args.disk.now) (g.D.Disk.flash c.finish.new.disk)
kept g c t = keeps_then _ _ _ _ _ (g.met.D.Disk.obeys c.read_progress.new.disk t) (keeps_same _ _ _ (same g c t)) (c.finish.ensures.keeps t)

pub returns-in-Failed-finish-clause-any_moment : goal.returns-in-Failed-finish-clause-any_moment
returns-in-Failed-finish-clause-any_moment g c = moments g (goal.at.returns-in-Failed-finish-clause-any_moment g c).After-finish

pub returns-in-Failed-finish-clause-keeps : goal.returns-in-Failed-finish-clause-keeps
returns-in-Failed-finish-clause-keeps g c = kept g (goal.at.returns-in-Failed-finish-clause-keeps g c).After-finish

pub returns-in-Done-finish-clause-any_moment : goal.returns-in-Done-finish-clause-any_moment
returns-in-Done-finish-clause-any_moment g c = moments g (goal.at.returns-in-Done-finish-clause-any_moment g c).After-finish

pub returns-in-Done-finish-clause-keeps : goal.returns-in-Done-finish-clause-keeps
returns-in-Done-finish-clause-keeps g c = kept g (goal.at.returns-in-Done-finish-clause-keeps g c).After-finish
