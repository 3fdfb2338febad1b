use Rattle.std.proofs.Common.{IsTrue, subst}
use Rattle.suit_edge.specs.Flash.{IsFlash, Keeps, Passes}
use Rattle.suit_edge.specs.FlashLaws.{keeps_fewer, keeps_then}
use Rattle.rollback_record.specs.Moved.{IsFilled, IsMoving, IsRootShut, OutsideFrame, OutsideMoved, OutsideRoot}
use Rattle.rollback_record.proofs.MovingFlash.{filled_there, filling, moving, shut_then}
use Rattle.rollback_record.proofs.migrating.move_to.Given as given
use Rattle.rollback_record.proofs.migrating.move_to.Goals as goal
use Rattle.rollback_record.proofs.migrating.move_to.Goals.{After-fill, After-open_root}

law_of : (g : given.Over) (c : After-fill g) → IsTrue g.D.Disk.told → IsFlash (g.D.Disk.flash c.fill.new.disk) (g.D.Disk.extent c.args.disk.now)
law_of g c t = subst (IsFlash (g.D.Disk.flash c.fill.new.disk)) c.fill.ensures.size (g.met.D.Disk.obeys c.fill.new.disk t)

pub returns-in-Failed-clause-any_moment : goal.returns-in-Failed-clause-any_moment
returns-in-Failed-clause-any_moment g c t shut =
    let b = g.D.Disk.flash c.fill.new.disk in
    filling (g.D.Disk.extent c.args.disk.now) c.args.frame c.requires.frame c.requires.version c.args.layout.now c.args.key.now c.args.installed.now c.requires.room (g.D.Disk.flash c.args.disk.now) b b (g.met.D.Disk.obeys c.args.disk.now t)
    (law_of g (goal.at.returns-in-Failed-clause-any_moment g c).After-fill t) (c.fill.ensures.keeps t) shut

pub returns-in-Failed-clause-keeps : goal.returns-in-Failed-clause-keeps
returns-in-Failed-clause-keeps g c t =
    keeps_fewer (OutsideMoved c.args.frame) (OutsideFrame c.args.frame) (λ i o. o.0) (g.D.Disk.flash c.args.disk.now) (g.D.Disk.flash c.fill.new.disk) (c.fill.ensures.keeps t)

left_alone : (g : given.Over) (c : After-open_root g) → IsTrue g.D.Disk.told → IsFlash (g.D.Disk.flash c.fill.new.disk) (g.D.Disk.extent c.args.disk.now) → Keeps (OutsideMoved c.args.frame) (g.D.Disk.flash c.args.disk.now) (g.D.Disk.flash c.open_root.new.disk)
left_alone g c t law =
    let K = OutsideMoved c.args.frame in
    let a = g.D.Disk.flash c.args.disk.now in
    let b = g.D.Disk.flash c.fill.new.disk in
    let d = g.D.Disk.flash c.open_root.new.disk in
    keeps_then K a b d (g.D.Disk.extent c.args.disk.now) law (keeps_fewer K (OutsideFrame c.args.frame) (λ i o. o.0) a b (c.fill.ensures.keeps t)) (keeps_fewer K OutsideRoot (λ i o. o.1) b d (c.open_root.ensures.keeps t))

at_any_moment : (g : given.Over) (c : After-open_root g) → IsTrue g.D.Disk.told → IsFlash (g.D.Disk.flash c.fill.new.disk) (g.D.Disk.extent c.args.disk.now)
    → IsFilled c.args.frame c.args.layout.now c.args.key.now c.args.installed.now (g.D.Disk.flash c.fill.new.disk).reads → IsRootShut (g.D.Disk.flash c.args.disk.now)
    → Passes (g.D.Disk.flash c.args.disk.now) (g.D.Disk.flash c.open_root.new.disk) (IsMoving c.args.frame c.args.layout.now c.args.key.now c.args.installed.now (g.D.Disk.flash c.args.disk.now))
at_any_moment g c t law filled shut =
    let size = g.D.Disk.extent c.args.disk.now in
    let a = g.D.Disk.flash c.args.disk.now in
    let b = g.D.Disk.flash c.fill.new.disk in
    let d = g.D.Disk.flash c.open_root.new.disk in
    let law_a = g.met.D.Disk.obeys c.args.disk.now t in
    moving size c.args.frame c.requires.frame c.requires.version c.args.layout.now c.args.key.now c.args.installed.now c.requires.room a b d law_a law (c.fill.ensures.keeps t) shut filled
    (c.open_root.ensures.any_moment t (shut_then size c.args.frame c.requires.frame c.requires.version c.args.layout.now c.args.key.now c.args.installed.now c.requires.room a b d law_a law (c.fill.ensures.keeps t) shut))

pub returns-in-Failed-open_root-clause-any_moment :
    goal.returns-in-Failed-open_root-clause-any_moment
returns-in-Failed-open_root-clause-any_moment g c t =
    let at = goal.at.returns-in-Failed-open_root-clause-any_moment g c in
    at_any_moment g at.After-open_root t (law_of g at.After-fill t) (c.in-Done.ensures.filled t)

pub returns-in-Done-open_root-clause-any_moment : goal.returns-in-Done-open_root-clause-any_moment
returns-in-Done-open_root-clause-any_moment g c t =
    let at = goal.at.returns-in-Done-open_root-clause-any_moment g c in
    at_any_moment g at.After-open_root t (law_of g at.After-fill t) (c.in-Done.ensures.filled t)

pub returns-in-Failed-open_root-clause-keeps : goal.returns-in-Failed-open_root-clause-keeps
returns-in-Failed-open_root-clause-keeps g c t =
    let at = goal.at.returns-in-Failed-open_root-clause-keeps g c in
    left_alone g at.After-open_root t (law_of g at.After-fill t)

pub returns-in-Done-open_root-clause-keeps : goal.returns-in-Done-open_root-clause-keeps
returns-in-Done-open_root-clause-keeps g c t =
    let at = goal.at.returns-in-Done-open_root-clause-keeps g c in
    left_alone g at.After-open_root t (law_of g at.After-fill t)

pub returns-in-Done-open_root-clause-moved : goal.returns-in-Done-open_root-clause-moved
returns-in-Done-open_root-clause-moved g c t =
    let at = goal.at.returns-in-Done-open_root-clause-moved g c in
    let rooted = c.in-Done-open_root.ensures.rooted t in
    record {
      told = rooted.told;
      filled = filled_there (g.D.Disk.extent c.args.disk.now) c.args.frame c.requires.frame c.requires.version c.args.layout.now c.args.key.now c.args.installed.now c.requires.room (g.D.Disk.flash c.fill.new.disk).reads
          (g.D.Disk.flash c.open_root.new.disk).reads (law_of g at.After-fill t).fits rooted.rest (c.in-Done.ensures.filled t);
    }
