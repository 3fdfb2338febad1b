use Rattle.std.proofs.Common.{◌≡◌, ◌∙◌, ℕ, IsTrue, List, sym, subst}
use Rattle.suit_edge.specs.Flash.{IsSame}
use Rattle.suit_edge.specs.FlashLaws.{keeps_same, same_flash_then, settled_then}
use Rattle.swap_journal.specs.Swaps.{ArePlaced, swap_at}
use Rattle.swap_journal.proofs.Completion.{going_on, still, swap_kept}
use Rattle.swap_journal.proofs.completing.complete.Given as given
use Rattle.swap_journal.proofs.completing.complete.Goals as goal
use Rattle.swap_journal.proofs.completing.complete.Goals.{After-conclude, After-read_progress}

-- the sync and the reads change nothing
same : (g : given.Over) (c : After-read_progress g) → IsTrue g.D.Disk.told → IsSame (g.D.Disk.flash c.args.disk.now) (g.D.Disk.flash c.read_progress.new.disk)
same g c t =
    same_flash_then _ _ _ _ (g.met.D.Disk.obeys c.read_open.new.disk t) (same_flash_then _ _ _ _ (g.met.D.Disk.obeys c.sync.new.self t) (c.sync.ensures.same t) (c.read_open.ensures.same t)) (c.read_progress.ensures.same t)

-- what the page records
tells : (g : given.Over) (c : After-conclude g) → IsTrue g.D.Disk.told → swap_at (g.D.Disk.flash c.args.disk.now).reads c.args.journal.now.page ≡ c.in-Some.swap
tells g c t =
    subst (λ (l : List ℕ). swap_at l c.args.journal.now.page ≡ c.in-Some.swap) (c.sync.ensures.same t).reads
    (rw c.in-Some.is at (c.in_ok-swap.ensures.tells t)).1

pub conclude-requires-clause-slots : goal.conclude-requires-clause-slots
conclude-requires-clause-slots g c =
    let among = c.is_among.ensures.0 c.if-not-is_among.false in
    subst (λ (n : ℕ). ArePlaced c.args.journal.now n c.in-Some.swap.first c.in-Some.swap.second) (sym (c.read_progress.ensures.size ∙ c.read_open.ensures.size ∙ c.sync.ensures.size))
    (record {
      first = c.requires.slots.each c.in-Some.swap.first among.first;
      second = c.requires.slots.each c.in-Some.swap.second among.second;
      slots = c.requires.slots.apart c.in-Some.swap.first c.in-Some.swap.second among.first among.second among.distinct;
    })

pub conclude-requires-clause-settled : goal.conclude-requires-clause-settled
conclude-requires-clause-settled g c t =
    settled_then _ _ _ (g.met.D.Disk.obeys c.read_progress.new.disk t)
    (settled_then _ _ _ (g.met.D.Disk.obeys c.read_open.new.disk t) (c.in-Done.ensures.settled t) (c.read_open.ensures.same t)) (c.read_progress.ensures.same t)

pub returns-in_default-read_progress-clause-any_moment :
    goal.returns-in_default-read_progress-clause-any_moment
returns-in_default-read_progress-clause-any_moment g c t = still c.args.journal.now _ _ (same g (goal.at.returns-in_default-read_progress-clause-any_moment g c).After-read_progress t)

pub returns-in_default-read_progress-clause-keeps :
    goal.returns-in_default-read_progress-clause-keeps
returns-in_default-read_progress-clause-keeps g c t stands = keeps_same _ _ _ (same g (goal.at.returns-in_default-read_progress-clause-keeps g c).After-read_progress t)

pub returns-in-Failed-conclude-clause-any_moment : goal.returns-in-Failed-conclude-clause-any_moment
returns-in-Failed-conclude-clause-any_moment g c t =
    let at = goal.at.returns-in-Failed-conclude-clause-any_moment g c in
    going_on c.args.journal.now c.in-Some.swap _ _ _ (same g at.After-read_progress t) (tells g at.After-conclude t) (c.conclude.ensures.any_moment t)

pub returns-in-Failed-conclude-clause-keeps : goal.returns-in-Failed-conclude-clause-keeps
returns-in-Failed-conclude-clause-keeps g c t stands =
    let at = goal.at.returns-in-Failed-conclude-clause-keeps g c in
    swap_kept c.args.journal.now c.in-Some.swap _ _ _ _ (g.met.D.Disk.obeys c.read_progress.new.disk t) (same g at.After-read_progress t) (tells g at.After-conclude t) (c.conclude.ensures.keeps t)

pub returns-in-Done-conclude-clause-any_moment : goal.returns-in-Done-conclude-clause-any_moment
returns-in-Done-conclude-clause-any_moment g c t =
    let at = goal.at.returns-in-Done-conclude-clause-any_moment g c in
    going_on c.args.journal.now c.in-Some.swap _ _ _ (same g at.After-read_progress t) (tells g at.After-conclude t) (c.conclude.ensures.any_moment t)

pub returns-in-Done-conclude-clause-keeps : goal.returns-in-Done-conclude-clause-keeps
returns-in-Done-conclude-clause-keeps g c t stands =
    let at = goal.at.returns-in-Done-conclude-clause-keeps g c in
    swap_kept c.args.journal.now c.in-Some.swap _ _ _ _ (g.met.D.Disk.obeys c.read_progress.new.disk t) (same g at.After-read_progress t) (tells g at.After-conclude t) (c.conclude.ensures.keeps t)
