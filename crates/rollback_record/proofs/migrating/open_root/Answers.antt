use Rattle.std.proofs.Common.{◌≡◌, ◌≤◌, ◌+◌, List, ℕ, IsTrue, length, get_or, Some, ◌∙◌, ap, subst, arith}
use Rattle.suit_edge.specs.Flash.{IsFlash, Keeps, Passes}
use Rattle.suit_edge.specs.FlashLaws.{keeps_fewer, keeps_same, keeps_then}
use Rattle.suit_edge.specs.Gate.{page_at}
use Rattle.suit_edge.specs.Ranges.{OutsideEach}
use Rattle.flash_layout.specs.declared.frame.TheConstants.{ROOT_GATE}
use Rattle.flash_layout.specs.FirstFrame.{has_room}
use Rattle.flash_layout.specs.FrameFacts.{facts}
use Rattle.flash_layout.specs.RootLaws.{told_frame}
use Rattle.flash_layout.specs.Roots.{frame_by}
use Rattle.rollback_record.specs.Moved.{IsRootShut, IsRooted, IsRooting, OutsideRoot}
use Rattle.rollback_record.proofs.Rooting.{body_short, root_fewer, rooted, rooting, waiting}
use Rattle.rollback_record.proofs.migrating.open_root.Given as given
use Rattle.rollback_record.proofs.migrating.open_root.Goals as goal
use Rattle.rollback_record.proofs.migrating.open_root.Goals.{After-open_written}

pub returns-in-Failed-clause-any_moment : goal.returns-in-Failed-clause-any_moment
returns-in-Failed-clause-any_moment g c t shut = waiting c.args.frame (g.D.Disk.flash c.args.disk.now) (g.D.Disk.flash c.sync.new.self) (c.sync.ensures.same t) shut

pub returns-in-Failed-clause-keeps : goal.returns-in-Failed-clause-keeps
returns-in-Failed-clause-keeps g c t = keeps_same OutsideRoot (g.D.Disk.flash c.args.disk.now) (g.D.Disk.flash c.sync.new.self) (c.sync.ensures.same t)

-- the bytes of the root
module _ (g : given.Over) (c : After-open_written g) where
  large : 49152 ≤ g.D.Disk.extent c.args.disk.now
  large = has_room (g.D.Disk.extent c.args.disk.now) c.args.frame c.requires.frame

  root_told : frame_by c.root_page-root.result ≡ Some c.args.frame
  root_told =
      ap frame_by c.root_page-root.ensures.bytes
      ∙ told_frame c.args.frame c.requires.version (omega (arith, (facts (g.D.Disk.extent c.args.disk.now) c.args.frame c.requires.frame).numbers))

  root_opened : get_or c.root_page-root.result 0 0 ≡ 0xA5
  root_opened = ap (λ (l : List ℕ). get_or l 0 0) c.root_page-root.ensures.bytes

  short : length c.behind_gate.result.now + 1 ≡ 10
  short = body_short (g.D.Disk.extent c.args.disk.now) c.args.frame large c.root_page-root.result c.behind_gate.result.now root_told c.root_page-root.ensures.long root_opened c.behind_gate.ensures

  law : IsTrue g.D.Disk.told → IsFlash (g.D.Disk.flash c.sync.new.self) (g.D.Disk.extent c.args.disk.now)
  law t = subst (IsFlash (g.D.Disk.flash c.sync.new.self)) c.sync.ensures.size (g.met.D.Disk.obeys c.sync.new.self t)

  left_alone : IsTrue g.D.Disk.told → Keeps OutsideRoot (g.D.Disk.flash c.args.disk.now) (g.D.Disk.flash c.open_written.new.disk)
  left_alone t =
      let a = g.D.Disk.flash c.args.disk.now in
      let b = g.D.Disk.flash c.sync.new.self in
      let d = g.D.Disk.flash c.open_written.new.disk in
      keeps_then OutsideRoot a b d (g.D.Disk.extent c.args.disk.now) (law t) (keeps_same OutsideRoot a b (c.sync.ensures.same t))
      (keeps_fewer OutsideRoot (OutsideEach (page_at ROOT_GATE (ROOT_GATE + 1) (length c.behind_gate.result.now))) (root_fewer c.behind_gate.result.now short) b d (c.open_written.ensures.keeps t))

  at_any_moment : IsTrue g.D.Disk.told → IsRootShut (g.D.Disk.flash c.args.disk.now) → Passes (g.D.Disk.flash c.args.disk.now) (g.D.Disk.flash c.open_written.new.disk) (IsRooting c.args.frame (g.D.Disk.flash c.args.disk.now))
  at_any_moment t shut =
      rooting (g.D.Disk.extent c.args.disk.now) c.args.frame large c.root_page-root.result c.behind_gate.result.now root_told c.root_page-root.ensures.long root_opened c.behind_gate.ensures
      (g.D.Disk.flash c.args.disk.now) (g.D.Disk.flash c.sync.new.self) (g.D.Disk.flash c.open_written.new.disk) (g.met.D.Disk.obeys c.args.disk.now t) (law t) (c.sync.ensures.same t) shut (c.open_written.ensures.any_moment t)

pub returns-in-Failed-open_written-clause-keeps : goal.returns-in-Failed-open_written-clause-keeps
returns-in-Failed-open_written-clause-keeps g c = left_alone g (goal.at.returns-in-Failed-open_written-clause-keeps g c).After-open_written

pub returns-in-Done-open_written-clause-keeps : goal.returns-in-Done-open_written-clause-keeps
returns-in-Done-open_written-clause-keeps g c = left_alone g (goal.at.returns-in-Done-open_written-clause-keeps g c).After-open_written

pub returns-in-Failed-open_written-clause-any_moment :
    goal.returns-in-Failed-open_written-clause-any_moment
returns-in-Failed-open_written-clause-any_moment g c = at_any_moment g (goal.at.returns-in-Failed-open_written-clause-any_moment g c).After-open_written

pub returns-in-Done-open_written-clause-any_moment :
    goal.returns-in-Done-open_written-clause-any_moment
returns-in-Done-open_written-clause-any_moment g c = at_any_moment g (goal.at.returns-in-Done-open_written-clause-any_moment g c).After-open_written

pub returns-in-Done-open_written-clause-rooted : goal.returns-in-Done-open_written-clause-rooted
returns-in-Done-open_written-clause-rooted g c t =
    let at = (goal.at.returns-in-Done-open_written-clause-rooted g c).After-open_written in
    let d = (g.D.Disk.flash c.open_written.new.disk).reads in
    let fits = (g.met.D.Disk.obeys c.open_written.new.disk t).fits ∙ c.open_written.ensures.size ∙ c.sync.ensures.size in
    subst (λ (l : List ℕ). IsRooted c.args.frame l d) (c.sync.ensures.same t).reads
    (rooted (g.D.Disk.extent c.args.disk.now) c.args.frame (large g at) c.root_page-root.result c.behind_gate.result.now (root_told g at) c.root_page-root.ensures.long (root_opened g at) c.behind_gate.ensures (g.D.Disk.flash c.sync.new.self).reads d fits
    (c.in-Done-open_written.ensures.page t) (c.in-Done-open_written.ensures.opened t))
