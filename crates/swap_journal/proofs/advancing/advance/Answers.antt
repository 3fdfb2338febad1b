use Rattle.std.proofs.Common.{◌<◌, ◌+◌, ◌++◌, ◌^◌, IsTrue, ℕ, length, ap, subst, arith}
use Rattle.suit_edge.specs.Flash.{IsSettled, Keeps, Passes}
use Rattle.suit_edge.specs.FlashLaws.{each_read}
use Rattle.suit_edge.specs.Gate.{IsGated, IsNewPage, IsOpen, page_at}
use Rattle.suit_edge.specs.Ranges.{OutsideEach}
use Rattle.swap_journal.specs.Exchanges.{RecoversSame, areas}
use Rattle.swap_journal.specs.Progress.{GivesProgress, RecoversNow, entries}
use Rattle.swap_journal.proofs.Turns.{areas_kept, both_kept, copying, next_fits, now_gives, progress_given, still_gives, writing}
use Rattle.swap_journal.proofs.advancing.advance.Given as given
use Rattle.swap_journal.proofs.advancing.advance.Goals as goal
use Rattle.swap_journal.proofs.advancing.advance.Goals.{After-make_copy, After-write_gated}

-- while the copy is made
made : (g : given.Over) (c : After-make_copy g) → IsTrue g.D.Disk.told
    → Passes (g.D.Disk.flash c.args.disk.now) (g.D.Disk.flash c.make_copy.new.disk) (RecoversNow c.args.exchange.now c.args.page (g.D.Disk.flash c.args.disk.now).reads)
made g c t =
    copying c.args.exchange.now c.args.page c.args.spare c.args.copy _ _ (g.met.D.Disk.obeys c.args.disk.now t) c.requires.page c.requires.page_fits (c.requires.settled t) (c.requires.gives t) _
    (c.make_copy.ensures.any_moment t) (c.make_copy.ensures.keeps t)

-- and then the entry is written
made_then : (g : given.Over) (c : After-write_gated g) → IsTrue g.D.Disk.told
    → Passes (g.D.Disk.flash c.args.disk.now) (g.D.Disk.flash c.make_copy.new.disk) (RecoversNow c.args.exchange.now c.args.page (g.D.Disk.flash c.args.disk.now).reads)
made_then g c t =
    copying c.args.exchange.now c.args.page c.args.spare c.args.copy _ _ (g.met.D.Disk.obeys c.args.disk.now t) c.requires.page c.requires.page_fits (c.requires.settled t) (c.requires.gives t) _
    (c.make_copy.ensures.any_moment t) (c.make_copy.ensures.keeps t)

gives : (g : given.Over) (c : After-write_gated g) → IsTrue g.D.Disk.told → GivesProgress (g.D.Disk.flash c.make_copy.new.disk).reads c.args.page c.args.spare c.args.copy
gives g c t =
    still_gives c.args.exchange.now c.args.page c.args.spare c.args.copy _ _ (g.met.D.Disk.obeys c.args.disk.now t) c.requires.page c.requires.page_fits (c.requires.settled t) (c.requires.gives t) _
    (c.make_copy.ensures.keeps t)

small : (g : given.Over) (c : After-write_gated g) → c.args.copy + 1 < 2 ^ 64
small g c = next_fits c.args.exchange.now c.args.copy _ c.requires.copy c.requires.fits (omega (arith, c.size-size.ensures, c.size-size.type_inv))

-- while the entry is written
wrote : (g : given.Over) (c : After-write_gated g) → IsTrue g.D.Disk.told
    → IsSettled (g.D.Disk.flash c.make_copy.new.disk)
    → RecoversSame c.args.exchange.now c.args.copy (g.D.Disk.flash c.args.disk.now).reads (c.args.copy + 1) (g.D.Disk.flash c.make_copy.new.disk).reads
    → Passes (g.D.Disk.flash c.args.disk.now) (g.D.Disk.flash c.write_gated.new.disk) (RecoversNow c.args.exchange.now c.args.page (g.D.Disk.flash c.args.disk.now).reads)
wrote g c t settled copied =
    let law = g.met.D.Disk.obeys c.make_copy.new.disk t in
    writing c.args.exchange.now c.args.page c.args.spare c.args.copy _ _ _ law c.requires.page (omega (arith, c.make_copy.ensures.size, c.requires.page_fits))
    (progress_given _ c.args.page c.args.spare c.args.copy (c.requires.gives t)) settled (gives g c t)
    (each_read _ _ _ _ law (c.make_copy.ensures.any_moment t)) copied c.to_be_bytes-number.result c.to_be_bytes-number.ensures (small g c) _
    (made_then g c t)
    (subst (λ (q : ℕ). Passes (g.D.Disk.flash c.make_copy.new.disk) (g.D.Disk.flash c.write_gated.new.disk) (IsGated q (q + 1) c.to_be_bytes-number.result (g.D.Disk.flash c.make_copy.new.disk))) c.gate-gate.ensures (c.write_gated.ensures.any_moment t))

kept : (g : given.Over) (c : After-write_gated g) → IsTrue g.D.Disk.told
    → Keeps (OutsideEach (areas c.args.exchange.now ++ entries c.args.page)) (g.D.Disk.flash c.args.disk.now) (g.D.Disk.flash c.write_gated.new.disk)
kept g c t =
    both_kept c.args.exchange.now c.args.page c.args.spare (length c.to_be_bytes-number.result) _ _ _ _ (g.met.D.Disk.obeys c.make_copy.new.disk t) (ap length c.to_be_bytes-number.ensures)
    (c.make_copy.ensures.keeps t)
    (subst (λ (q : ℕ). Keeps (OutsideEach (page_at q (q + 1) (length c.to_be_bytes-number.result))) (g.D.Disk.flash c.make_copy.new.disk) (g.D.Disk.flash c.write_gated.new.disk)) c.gate-gate.ensures (c.write_gated.ensures.keeps t))

pub returns-in-Failed-clause-any_moment : goal.returns-in-Failed-clause-any_moment
returns-in-Failed-clause-any_moment g c = made g (goal.at.returns-in-Failed-clause-any_moment g c).After-make_copy

pub returns-in-Failed-clause-keeps : goal.returns-in-Failed-clause-keeps
returns-in-Failed-clause-keeps g c t = areas_kept c.args.exchange.now c.args.page _ _ (c.make_copy.ensures.keeps t)

pub returns-in-Failed-write_gated-clause-any_moment :
    goal.returns-in-Failed-write_gated-clause-any_moment
returns-in-Failed-write_gated-clause-any_moment g c t = wrote g (goal.at.returns-in-Failed-write_gated-clause-any_moment g c).After-write_gated t (c.in-Done.ensures.settled t) (c.in-Done.ensures.copied t)

pub returns-in-Failed-write_gated-clause-keeps : goal.returns-in-Failed-write_gated-clause-keeps
returns-in-Failed-write_gated-clause-keeps g c = kept g (goal.at.returns-in-Failed-write_gated-clause-keeps g c).After-write_gated

pub returns-in-Done-write_gated-clause-any_moment :
    goal.returns-in-Done-write_gated-clause-any_moment
returns-in-Done-write_gated-clause-any_moment g c t = wrote g (goal.at.returns-in-Done-write_gated-clause-any_moment g c).After-write_gated t (c.in-Done.ensures.settled t) (c.in-Done.ensures.copied t)

pub returns-in-Done-write_gated-clause-keeps : goal.returns-in-Done-write_gated-clause-keeps
returns-in-Done-write_gated-clause-keeps g c = kept g (goal.at.returns-in-Done-write_gated-clause-keeps g c).After-write_gated

pub returns-in-Done-write_gated-clause-gives : goal.returns-in-Done-write_gated-clause-gives
returns-in-Done-write_gated-clause-gives g c t =
    let entry = (goal.at.returns-in-Done-write_gated-clause-gives g c).After-write_gated in
    let law = g.met.D.Disk.obeys c.make_copy.new.disk t in
    now_gives c.args.exchange.now c.args.page c.args.spare c.args.copy (g.D.Disk.flash c.args.disk.now) _ _ law c.requires.page (omega (arith, c.make_copy.ensures.size, c.requires.page_fits))
    (progress_given _ c.args.page c.args.spare c.args.copy (c.requires.gives t)) (c.in-Done.ensures.settled t) (gives g entry t)
    (each_read _ _ _ _ law (c.make_copy.ensures.any_moment t)) (c.in-Done.ensures.copied t) c.to_be_bytes-number.result c.to_be_bytes-number.ensures (small g entry) _
    (subst (λ (q : ℕ). IsOpen (g.D.Disk.flash c.write_gated.new.disk).reads q) c.gate-gate.ensures (c.in-Done-write_gated.ensures.opened t))
    (subst (λ (q : ℕ). IsNewPage q (q + 1) c.to_be_bytes-number.result (g.D.Disk.flash c.make_copy.new.disk).reads (g.D.Disk.flash c.write_gated.new.disk).reads) c.gate-gate.ensures (c.in-Done-write_gated.ensures.page t))
