use Rattle.std.proofs.Common.{◌≡◌, ◌∙◌, ℕ, IsTrue, length, ap, subst, arith}
use Rattle.suit_edge.specs.Flash.{IsFlash, Keeps, Passes}
use Rattle.suit_edge.specs.FlashLaws.{keeps_then}
use Rattle.suit_edge.specs.Ranges.{OutsideEach}
use Rattle.swap_journal.specs.Swaps.{IsExchanged, IsUntouchedOrExchanged, swap_body, touched}
use Rattle.swap_journal.proofs.Swapping.{emptied_read, emptying, lengths_kept, new_page_gives, opened_page, opening, page_kept, still_none}
use Rattle.swap_journal.proofs.exchanging.begin.Given as given
use Rattle.swap_journal.proofs.exchanging.begin.Goals as goal
use Rattle.swap_journal.proofs.exchanging.begin.Goals.{After-open_written, After-set_lengths}

body_is : (g : given.Over) (c : After-open_written g) → c.as_slice.result.now ≡ swap_body c.args.swap.now
body_is g c = c.as_slice.ensures ∙ c.spell-page.ensures.bytes

body_long : (g : given.Over) (c : After-open_written g) → length c.as_slice.result.now ≡ 88
body_long g c = ap length c.as_slice.ensures ∙ c.spell-page.ensures.long

page_law : (g : given.Over) (c : After-open_written g) → IsTrue g.D.Disk.told → IsFlash (g.D.Disk.flash c.open_written.new.disk) (g.D.Disk.extent c.args.disk.now)
page_law g c t = subst (λ (n : ℕ). IsFlash (g.D.Disk.flash c.open_written.new.disk) n) c.open_written.ensures.size (g.met.D.Disk.obeys c.open_written.new.disk t)

opens : (g : given.Over) (c : After-open_written g) → IsTrue g.D.Disk.told → Passes (g.D.Disk.flash c.args.disk.now) (g.D.Disk.flash c.open_written.new.disk) (IsUntouchedOrExchanged c.args.journal.now c.args.swap.now (g.D.Disk.flash c.args.disk.now).reads)
opens g c t =
    opening c.args.journal.now (g.D.Disk.extent c.args.disk.now) c.args.swap.now c.requires.journal c.requires.slots c.requires.room (g.D.Disk.flash c.args.disk.now) (g.met.D.Disk.obeys c.args.disk.now t) (c.requires.contents t)
    c.spell-page.ensures.typed _ c.as_slice.result.now (body_is g c) (body_long g c) (c.requires.shut t) (c.open_written.ensures.any_moment t)

kept : (g : given.Over) (c : After-open_written g) → IsTrue g.D.Disk.told → Keeps (OutsideEach (touched c.args.journal.now c.args.swap.now.first c.args.swap.now.second)) (g.D.Disk.flash c.args.disk.now) (g.D.Disk.flash c.open_written.new.disk)
kept g c t =
    page_kept c.args.journal.now (g.D.Disk.extent c.args.disk.now) c.args.swap.now c.requires.journal c.requires.slots c.requires.room (length c.as_slice.result.now) (omega (arith, body_long g c)) _ _ (c.open_written.ensures.keeps t)

-- the page is open, and records the swap
now : (g : given.Over) (c : After-set_lengths g) → IsTrue g.D.Disk.told → c.as_slice.result.now ≡ swap_body c.args.swap.now → length c.as_slice.result.now ≡ 88 → IsExchanged c.args.journal.now c.args.swap.now (g.D.Disk.flash c.args.disk.now).reads (g.D.Disk.flash c.open_written.new.disk).reads
now g c t is long =
    opened_page c.args.journal.now (g.D.Disk.extent c.args.disk.now) c.args.swap.now c.requires.journal c.requires.slots c.requires.room (g.D.Disk.flash c.args.disk.now) (g.met.D.Disk.obeys c.args.disk.now t) (c.requires.contents t)
    c.spell-page.ensures.typed c.as_slice.result.now _ is long (c.in-Done.ensures.opened t) (c.in-Done.ensures.page t)

empties : (g : given.Over) (c : After-set_lengths g) → IsTrue g.D.Disk.told → IsFlash (g.D.Disk.flash c.open_written.new.disk) (g.D.Disk.extent c.args.disk.now) → IsExchanged c.args.journal.now c.args.swap.now (g.D.Disk.flash c.args.disk.now).reads (g.D.Disk.flash c.open_written.new.disk).reads → Passes (g.D.Disk.flash c.args.disk.now) (g.D.Disk.flash c.open_written.new.disk) (IsUntouchedOrExchanged c.args.journal.now c.args.swap.now (g.D.Disk.flash c.args.disk.now).reads)
    → Passes (g.D.Disk.flash c.args.disk.now) (g.D.Disk.flash c.set_lengths.new.disk) (IsUntouchedOrExchanged c.args.journal.now c.args.swap.now (g.D.Disk.flash c.args.disk.now).reads)
empties g c t law exchanged opened =
    emptying c.args.journal.now (g.D.Disk.extent c.args.disk.now) c.args.swap.now c.requires.journal c.requires.slots c.requires.room _ _ _ law (c.in-Done.ensures.settled t) exchanged opened (c.set_lengths.ensures.keeps t)

all_kept : (g : given.Over) (c : After-set_lengths g) → IsTrue g.D.Disk.told → Keeps (OutsideEach (touched c.args.journal.now c.args.swap.now.first c.args.swap.now.second)) (g.D.Disk.flash c.args.disk.now) (g.D.Disk.flash c.open_written.new.disk)
    → Keeps (OutsideEach (touched c.args.journal.now c.args.swap.now.first c.args.swap.now.second)) (g.D.Disk.flash c.args.disk.now) (g.D.Disk.flash c.set_lengths.new.disk)
all_kept g c t page =
    keeps_then _ _ _ _ _ (g.met.D.Disk.obeys c.open_written.new.disk t) page
    (lengths_kept c.args.journal.now (g.D.Disk.extent c.args.disk.now) c.args.swap.now c.requires.journal c.requires.slots c.requires.room _ _ (c.set_lengths.ensures.keeps t))

pub overflow_add-journal : goal.overflow_add-journal
overflow_add-journal g c = omega (arith, c.requires.journal.page, c.size-size.ensures)

pub returns-in-Failed-clause-any_moment : goal.returns-in-Failed-clause-any_moment
returns-in-Failed-clause-any_moment g c = opens g (goal.at.returns-in-Failed-clause-any_moment g c).After-open_written

pub returns-in-Failed-clause-keeps : goal.returns-in-Failed-clause-keeps
returns-in-Failed-clause-keeps g c = kept g (goal.at.returns-in-Failed-clause-keeps g c).After-open_written

pub returns-in-Failed-set_lengths-clause-any_moment : goal.returns-in-Failed-set_lengths-clause-any_moment
returns-in-Failed-set_lengths-clause-any_moment g c t =
    let at = goal.at.returns-in-Failed-set_lengths-clause-any_moment g c in
    let page = at.After-open_written in
    empties g at.After-set_lengths t (page_law g page t) (now g at.After-set_lengths t (body_is g page) (body_long g page)) (opens g page t)

pub returns-in-Failed-set_lengths-clause-keeps : goal.returns-in-Failed-set_lengths-clause-keeps
returns-in-Failed-set_lengths-clause-keeps g c t =
    let at = goal.at.returns-in-Failed-set_lengths-clause-keeps g c in
    all_kept g at.After-set_lengths t (kept g at.After-open_written t)

pub returns-in-Done-set_lengths-clause-any_moment : goal.returns-in-Done-set_lengths-clause-any_moment
returns-in-Done-set_lengths-clause-any_moment g c t =
    let at = goal.at.returns-in-Done-set_lengths-clause-any_moment g c in
    let page = at.After-open_written in
    empties g at.After-set_lengths t (page_law g page t) (now g at.After-set_lengths t (body_is g page) (body_long g page)) (opens g page t)

pub returns-in-Done-set_lengths-clause-keeps : goal.returns-in-Done-set_lengths-clause-keeps
returns-in-Done-set_lengths-clause-keeps g c t =
    let at = goal.at.returns-in-Done-set_lengths-clause-keeps g c in
    all_kept g at.After-set_lengths t (kept g at.After-open_written t)

pub returns-in-Done-set_lengths-clause-exchanged : goal.returns-in-Done-set_lengths-clause-exchanged
returns-in-Done-set_lengths-clause-exchanged g c t =
    let at = goal.at.returns-in-Done-set_lengths-clause-exchanged g c in
    let page = at.After-open_written in
    emptied_read c.args.journal.now (g.D.Disk.extent c.args.disk.now) c.args.swap.now c.requires.journal c.requires.slots c.requires.room (g.D.Disk.flash c.args.disk.now) _ _ (page_law g page t)
    (now g at.After-set_lengths t (body_is g page) (body_long g page)) (c.set_lengths.ensures.keeps t)

pub returns-in-Done-set_lengths-clause-gives : goal.returns-in-Done-set_lengths-clause-gives
returns-in-Done-set_lengths-clause-gives g c t =
    let page = (goal.at.returns-in-Done-set_lengths-clause-gives g c).After-open_written in
    still_none c.args.journal.now (g.D.Disk.extent c.args.disk.now) c.args.swap.now c.requires.journal c.requires.slots c.requires.room _ _ (page_law g page t) (c.set_lengths.ensures.keeps t)
    (new_page_gives c.args.journal.now c.args.swap.now c.spell-page.ensures.typed c.as_slice.result.now _ _ (body_is g page) (body_long g page) (c.in-Done.ensures.page t))
