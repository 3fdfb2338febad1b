use Rattle.std.proofs.Common.{◌∙◌, ◌++◌, ℕ, IsTrue, subst}
use Rattle.suit_edge.specs.Flash.{IsFlash, Keeps, Passes}
use Rattle.suit_edge.specs.FlashLaws.{keeps_then}
use Rattle.suit_edge.specs.Ranges.{OutsideEach}
use Rattle.swap_journal.specs.declared.contents.Exchange.{Exchange}
use Rattle.swap_journal.specs.Exchanges.{areas}
use Rattle.swap_journal.specs.Progress.{RecoversNow, Stands, entries}
use Rattle.swap_journal.specs.Swaps.{GoesOn, exchange_of, touched}
use Rattle.swap_journal.proofs.Swapping.{completed, copies_kept, copying, lengths_kept, storing}
use Rattle.swap_journal.proofs.concluding.conclude.Given as given
use Rattle.swap_journal.proofs.concluding.conclude.Goals as goal
use Rattle.swap_journal.proofs.concluding.conclude.Goals.{After-finish, After-set_lengths}

copies_law : (g : given.Over) (c : After-finish g) → IsTrue g.D.Disk.told → IsFlash (g.D.Disk.flash c.finish.new.disk) (g.D.Disk.extent c.args.disk.now)
copies_law g c t = subst (λ (n : ℕ). IsFlash (g.D.Disk.flash c.finish.new.disk) n) c.finish.ensures.size (g.met.D.Disk.obeys c.finish.new.disk t)

copied : (g : given.Over) (c : After-finish g) → IsTrue g.D.Disk.told → Keeps (OutsideEach (areas (exchange_of c.args.journal.now c.args.swap.now) ++ entries c.args.journal.now.page)) (g.D.Disk.flash c.args.disk.now) (g.D.Disk.flash c.finish.new.disk)
copied g c t = subst (λ (x : Exchange). Keeps (OutsideEach (areas x ++ entries c.args.journal.now.page)) (g.D.Disk.flash c.args.disk.now) (g.D.Disk.flash c.finish.new.disk)) c.exchange-exchange.ensures (c.finish.ensures.keeps t)

goes : (g : given.Over) (c : After-finish g) → IsTrue g.D.Disk.told → Passes (g.D.Disk.flash c.args.disk.now) (g.D.Disk.flash c.finish.new.disk) (GoesOn c.args.journal.now c.args.swap.now (g.D.Disk.flash c.args.disk.now).reads)
goes g c t =
    copying c.args.journal.now (g.D.Disk.extent c.args.disk.now) c.args.swap.now c.requires.journal c.requires.slots c.requires.room _ _ (g.met.D.Disk.obeys c.args.disk.now t) (c.requires.settled t) (c.requires.noted t)
    (subst (λ (x : Exchange). Passes (g.D.Disk.flash c.args.disk.now) (g.D.Disk.flash c.finish.new.disk) (RecoversNow x c.args.journal.now.page (g.D.Disk.flash c.args.disk.now).reads)) c.exchange-exchange.ensures (c.finish.ensures.any_moment t))
    (copied g c t)

kept : (g : given.Over) (c : After-finish g) → IsTrue g.D.Disk.told → Keeps (OutsideEach (touched c.args.journal.now c.args.swap.now.first c.args.swap.now.second)) (g.D.Disk.flash c.args.disk.now) (g.D.Disk.flash c.finish.new.disk)
kept g c t = copies_kept c.args.journal.now (g.D.Disk.extent c.args.disk.now) c.args.swap.now c.requires.journal c.requires.slots c.requires.room _ _ (copied g c t)

stores : (g : given.Over) (c : After-set_lengths g) → IsTrue g.D.Disk.told → IsFlash (g.D.Disk.flash c.finish.new.disk) (g.D.Disk.extent c.args.disk.now) → Passes (g.D.Disk.flash c.args.disk.now) (g.D.Disk.flash c.finish.new.disk) (GoesOn c.args.journal.now c.args.swap.now (g.D.Disk.flash c.args.disk.now).reads)
    → Passes (g.D.Disk.flash c.args.disk.now) (g.D.Disk.flash c.set_lengths.new.disk) (GoesOn c.args.journal.now c.args.swap.now (g.D.Disk.flash c.args.disk.now).reads)
stores g c t law goes_on =
    storing c.args.journal.now (g.D.Disk.extent c.args.disk.now) c.args.swap.now c.requires.journal c.requires.slots c.requires.room _ _ _ law (c.in-Done.ensures.settled t) goes_on (c.set_lengths.ensures.keeps t)

all_kept : (g : given.Over) (c : After-set_lengths g) → IsTrue g.D.Disk.told → Keeps (OutsideEach (touched c.args.journal.now c.args.swap.now.first c.args.swap.now.second)) (g.D.Disk.flash c.args.disk.now) (g.D.Disk.flash c.finish.new.disk)
    → Keeps (OutsideEach (touched c.args.journal.now c.args.swap.now.first c.args.swap.now.second)) (g.D.Disk.flash c.args.disk.now) (g.D.Disk.flash c.set_lengths.new.disk)
all_kept g c t copies =
    keeps_then _ _ _ _ _ (g.met.D.Disk.obeys c.finish.new.disk t) copies
    (lengths_kept c.args.journal.now (g.D.Disk.extent c.args.disk.now) c.args.swap.now c.requires.journal c.requires.slots c.requires.room _ _ (c.set_lengths.ensures.keeps t))

pub returns-in-Failed-clause-any_moment : goal.returns-in-Failed-clause-any_moment
returns-in-Failed-clause-any_moment g c = goes g (goal.at.returns-in-Failed-clause-any_moment g c).After-finish

pub returns-in-Failed-clause-keeps : goal.returns-in-Failed-clause-keeps
returns-in-Failed-clause-keeps g c = kept g (goal.at.returns-in-Failed-clause-keeps g c).After-finish

pub returns-in-Failed-set_lengths-clause-any_moment : goal.returns-in-Failed-set_lengths-clause-any_moment
returns-in-Failed-set_lengths-clause-any_moment g c t =
    let at = goal.at.returns-in-Failed-set_lengths-clause-any_moment g c in
    stores g at.After-set_lengths t (copies_law g at.After-finish t) (goes g at.After-finish t)

pub returns-in-Failed-set_lengths-clause-keeps : goal.returns-in-Failed-set_lengths-clause-keeps
returns-in-Failed-set_lengths-clause-keeps g c t =
    let at = goal.at.returns-in-Failed-set_lengths-clause-keeps g c in
    all_kept g at.After-set_lengths t (kept g at.After-finish t)

pub returns-in-Done-set_lengths-clause-any_moment : goal.returns-in-Done-set_lengths-clause-any_moment
returns-in-Done-set_lengths-clause-any_moment g c t =
    let at = goal.at.returns-in-Done-set_lengths-clause-any_moment g c in
    stores g at.After-set_lengths t (copies_law g at.After-finish t) (goes g at.After-finish t)

pub returns-in-Done-set_lengths-clause-keeps : goal.returns-in-Done-set_lengths-clause-keeps
returns-in-Done-set_lengths-clause-keeps g c t =
    let at = goal.at.returns-in-Done-set_lengths-clause-keeps g c in
    all_kept g at.After-set_lengths t (kept g at.After-finish t)

pub returns-in-Done-set_lengths-clause-completed : goal.returns-in-Done-set_lengths-clause-completed
returns-in-Done-set_lengths-clause-completed g c t =
    let law = g.met.D.Disk.obeys c.set_lengths.new.disk t in
    completed c.args.journal.now (g.D.Disk.extent c.args.disk.now) c.args.swap.now c.requires.journal c.requires.slots c.requires.room _ (g.D.Disk.flash c.finish.new.disk).reads _
    (law.fits ∙ c.set_lengths.ensures.size ∙ c.finish.ensures.size)
    (subst (λ (x : Exchange). Stands x c.args.journal.now.page (g.D.Disk.flash c.args.disk.now).reads (g.D.Disk.flash c.finish.new.disk).reads) c.exchange-exchange.ensures (c.in-Done.ensures.stands t))
    (c.set_lengths.ensures.keeps t).reads (c.in-Done-set_lengths.ensures.first t) (c.in-Done-set_lengths.ensures.second t)
