use Rattle.std.proofs.Common.{◌∙◌, IsTrue}
use Rattle.suit_edge.specs.Flash.{Keeps, Passes}
use Rattle.suit_edge.specs.FlashLaws.{each_read, keeps_then}
use Rattle.suit_edge.specs.Ranges.{OutsideEach}
use Rattle.swap_journal.specs.Swaps.{GoesOn, IsUntouchedOrExchanged, touched}
use Rattle.swap_journal.proofs.Swapping.{concluding}
use Rattle.swap_journal.proofs.exchanging.exchange.Given as given
use Rattle.swap_journal.proofs.exchanging.exchange.Goals as goal
use Rattle.swap_journal.proofs.exchanging.exchange.Goals.{After-conclude}

moments : (g : given.Over) (c : After-conclude g) → IsTrue g.D.Disk.told → Passes (g.D.Disk.flash c.args.disk.now) (g.D.Disk.flash c.conclude.new.disk) (IsUntouchedOrExchanged c.args.journal.now c.args.swap.now (g.D.Disk.flash c.args.disk.now).reads)
moments g c t =
    concluding c.args.journal.now (g.D.Disk.extent c.args.disk.now) c.args.swap.now c.requires.journal c.requires.slots c.requires.room _ _ _ (c.in-Done.ensures.exchanged t) (c.begin.ensures.any_moment t) (c.conclude.ensures.any_moment t)

kept : (g : given.Over) (c : After-conclude g) → IsTrue g.D.Disk.told → Keeps (OutsideEach (touched c.args.journal.now c.args.swap.now.first c.args.swap.now.second)) (g.D.Disk.flash c.args.disk.now) (g.D.Disk.flash c.conclude.new.disk)
kept g c t = keeps_then _ _ _ _ _ (g.met.D.Disk.obeys c.begin.new.disk t) (c.begin.ensures.keeps t) (c.conclude.ensures.keeps t)

pub returns-in-Failed-conclude-clause-any_moment : goal.returns-in-Failed-conclude-clause-any_moment
returns-in-Failed-conclude-clause-any_moment g c = moments g (goal.at.returns-in-Failed-conclude-clause-any_moment g c).After-conclude

pub returns-in-Failed-conclude-clause-keeps : goal.returns-in-Failed-conclude-clause-keeps
returns-in-Failed-conclude-clause-keeps g c = kept g (goal.at.returns-in-Failed-conclude-clause-keeps g c).After-conclude

pub returns-in-Done-conclude-clause-any_moment : goal.returns-in-Done-conclude-clause-any_moment
returns-in-Done-conclude-clause-any_moment g c = moments g (goal.at.returns-in-Done-conclude-clause-any_moment g c).After-conclude

pub returns-in-Done-conclude-clause-keeps : goal.returns-in-Done-conclude-clause-keeps
returns-in-Done-conclude-clause-keeps g c = kept g (goal.at.returns-in-Done-conclude-clause-keeps g c).After-conclude

pub returns-in-Done-conclude-clause-first : goal.returns-in-Done-conclude-clause-first
returns-in-Done-conclude-clause-first g c t = (c.in-Done-conclude.ensures.completed t).first ∙ (c.in-Done.ensures.exchanged t).first

pub returns-in-Done-conclude-clause-second : goal.returns-in-Done-conclude-clause-second
returns-in-Done-conclude-clause-second g c t = (c.in-Done-conclude.ensures.completed t).second ∙ (c.in-Done.ensures.exchanged t).second

pub returns-in-Done-conclude-clause-noted : goal.returns-in-Done-conclude-clause-noted
returns-in-Done-conclude-clause-noted g c t =
    (each_read _ _ _ (GoesOn c.args.journal.now c.args.swap.now (g.D.Disk.flash c.begin.new.disk).reads) (g.met.D.Disk.obeys c.conclude.new.disk t) (c.conclude.ensures.any_moment t)).noted

pub conclude-requires-clause-noted : goal.conclude-requires-clause-noted
conclude-requires-clause-noted g c t = (c.in-Done.ensures.exchanged t).noted
