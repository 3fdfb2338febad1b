use Rattle.std.proofs.Common.{◌+◌, ◌≤◌, ◌∙◌, ℕ, sym, subst, arith}
use Rattle.suit_edge.specs.FlashLaws.{grows_then, keeps_then}
use Rattle.swap_journal.specs.declared.progress.Entry.{Entry}
use Rattle.swap_journal.specs.Exchanges.{FitsDisk, copies}
use Rattle.swap_journal.specs.Progress.{GivesProgress}
use Rattle.swap_journal.proofs.Turns.{one_turn, stands}
use Rattle.swap_journal.proofs.finishing.finish.Goals as goal

pub returns-in-Failed-clause-any_moment : goal.returns-in-Failed-clause-any_moment
returns-in-Failed-clause-any_moment g c t =
    one_turn c.args.exchange.now c.args.page _ _ _ _ (g.met.D.Disk.obeys c.loop-copy.disk t) (c.loop-copy.invariant.moments t) (c.advance.ensures.any_moment t)

pub returns-in-Failed-clause-keeps : goal.returns-in-Failed-clause-keeps
returns-in-Failed-clause-keeps g c t = keeps_then _ _ _ _ _ (g.met.D.Disk.obeys c.loop-copy.disk t) (c.loop-copy.invariant.keeps t) (c.advance.ensures.keeps t)

pub loop-copy-preserved : goal.loop-copy-preserved
loop-copy-preserved g c = record {
  size = c.in-Done.ensures.size ∙ c.loop-copy.invariant.size;
  faults = c.in-Done.ensures.counts ∙ c.loop-copy.invariant.faults;
  settled = λ t. c.in-Done.ensures.settled t;
  gives = λ t. subst (λ (e : Entry). GivesProgress (g.D.Disk.flash c.advance.new.disk).reads c.args.page e (c.loop-copy.copy + 1)) (sym c.other-spare.ensures) (c.in-Done.ensures.gives t);
  moments = λ t. one_turn c.args.exchange.now c.args.page _ _ _ _ (g.met.D.Disk.obeys c.loop-copy.disk t) (c.loop-copy.invariant.moments t) (c.advance.ensures.any_moment t);
  keeps = λ t. keeps_then _ _ _ _ _ (g.met.D.Disk.obeys c.loop-copy.disk t) (c.loop-copy.invariant.keeps t) (c.advance.ensures.keeps t);
  grows = λ t. grows_then (g.D.Disk.flash c.args.disk.now) (g.D.Disk.flash c.loop-copy.disk) (g.D.Disk.flash c.advance.new.disk) (c.loop-copy.invariant.moments t).later (c.loop-copy.invariant.grows t) (c.advance.ensures.grows t);
}

pub returns-clause-stands : goal.returns-clause-stands
returns-clause-stands g c t =
    let done : copies c.args.exchange.now ≤ c.loop-copy.copy = omega (arith, c.copies-copy-end.ensures, c.loop-copy-test.false) in
    stands c.args.exchange.now c.args.page c.loop-copy.spare c.loop-copy.copy _ _ _ (g.met.D.Disk.obeys c.loop-copy.disk t)
    (subst (λ (n : ℕ). FitsDisk c.args.exchange.now n) (sym c.loop-copy.invariant.size) c.requires.fits) done (c.loop-copy.invariant.gives t) (c.loop-copy.invariant.moments t)
