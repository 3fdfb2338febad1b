use Rattle.std.proofs.Common.{◌≡◌, ◌≤◌, ◌+◌, List, ℕ, IsTrue, length, length-drop, get_or, Some, ◌∙◌, ap, subst, arith}
use Rattle.std.specs.List.{slice_range}
use Rattle.suit_edge.specs.Flash.{IsFlash, Keeps, Passes}
use Rattle.suit_edge.specs.Gate.{page_at}
use Rattle.suit_edge.specs.Ranges.{Outside, OutsideEach, written}
use Rattle.suit_edge.specs.RangeLaws.{written_range}
use Rattle.suit_edge.specs.FlashLaws.{keeps_fewer, keeps_then}
use Rattle.flash_layout.specs.declared.frame.TheConstants.{ROOT_GATE}
use Rattle.flash_layout.specs.ConfigPage.{config_page}
use Rattle.flash_layout.specs.Formats.{IsBlankOrFormatted, IsPrepared, OutsideOpened}
use Rattle.flash_layout.specs.FrameFacts.{facts}
use Rattle.flash_layout.specs.Frames.{page_bytes}
use Rattle.flash_layout.specs.RootLaws.{told_frame}
use Rattle.flash_layout.specs.Roots.{frame_by}
use Rattle.flash_layout.proofs.FormatFrames.{page_fits, page_opening, root_fewer, second_formed, second_opening}
use Rattle.flash_layout.proofs.formatting.open_second.Given as given
use Rattle.flash_layout.proofs.formatting.open_second.Goals as goal
use Rattle.flash_layout.proofs.formatting.open_second.Goals.{After-write_at, After-open_written}

page_long : (g : given.Over) (c : After-write_at g) → length c.as_slice.result.now ≡ page_bytes c.args.frame
page_long g c = ap length c.as_slice.ensures ∙ c.write_page-page.ensures.long

-- while the page is written
page_kept : (g : given.Over) (c : After-write_at g) → IsTrue g.D.Disk.told → Keeps (Outside c.args.frame.base (page_bytes c.args.frame)) (g.D.Disk.flash c.args.disk.now) (g.D.Disk.flash c.write_at.new.self)
page_kept g c t = subst (λ (n : ℕ). Keeps (Outside c.args.frame.base n) (g.D.Disk.flash c.args.disk.now) (g.D.Disk.flash c.write_at.new.self)) (page_long g c) (c.write_at.ensures.keeps t)

page_there : (g : given.Over) (c : After-write_at g) → IsTrue g.D.Disk.told → (g.D.Disk.flash c.write_at.new.self).reads ≡ written (g.D.Disk.flash c.args.disk.now).reads c.args.frame.base c.as_slice.result.now
    → slice_range (g.D.Disk.flash c.write_at.new.self).reads c.args.frame.base (c.args.frame.base + page_bytes c.args.frame) ≡ config_page c.args.frame c.args.layout.now c.args.key.now
page_there g c t wrote =
    let base = c.args.frame.base in
    let bytes = c.as_slice.result.now in
    let a = (g.D.Disk.flash c.args.disk.now).reads in
    let room = page_fits (g.D.Disk.extent c.args.disk.now) c.args.frame c.requires.frame c.args.layout.now c.args.key.now c.requires.layout c.requires.key c.typed.ensures in
    let fits : base + length bytes ≤ length a = omega (arith, room, page_long g c, (g.met.D.Disk.obeys c.args.disk.now t).fits) in
    ap (λ (l : List ℕ). slice_range l base (base + page_bytes c.args.frame)) wrote ∙ subst (λ (n : ℕ). slice_range (written a base bytes) base (base + n) ≡ bytes) (page_long g c) (written_range a base bytes fits)
    ∙ c.as_slice.ensures ∙ c.write_page-page.ensures.bytes

pub returns-in-Failed-clause-any_moment : goal.returns-in-Failed-clause-any_moment
returns-in-Failed-clause-any_moment g c t ready =
    page_opening (g.D.Disk.extent c.args.disk.now) c.args.frame c.requires.frame c.args.layout.now c.args.key.now c.requires.layout c.requires.key c.typed.ensures c.requires.version _ _ (g.met.D.Disk.obeys c.args.disk.now t)
    (page_kept g (goal.at.returns-in-Failed-clause-any_moment g c).After-write_at t)

pub returns-in-Failed-clause-keeps : goal.returns-in-Failed-clause-keeps
returns-in-Failed-clause-keeps g c t =
    keeps_fewer (OutsideOpened c.args.frame) (Outside c.args.frame.base (page_bytes c.args.frame)) (λ i o. o.0) _ _ (page_kept g (goal.at.returns-in-Failed-clause-keeps g c).After-write_at t)

-- and then the root
root_told : (g : given.Over) (c : After-open_written g) → frame_by c.root_page-root.result ≡ Some c.args.frame
root_told g c =
    ap frame_by c.root_page-root.ensures.bytes
    ∙ told_frame c.args.frame c.requires.version (omega (arith, (facts (g.D.Disk.extent c.args.disk.now) c.args.frame c.requires.frame).numbers))

left_alone : (g : given.Over) (c : After-open_written g) → IsTrue g.D.Disk.told → Keeps (Outside c.args.frame.base (page_bytes c.args.frame)) (g.D.Disk.flash c.args.disk.now) (g.D.Disk.flash c.write_at.new.self)
    → Keeps (OutsideOpened c.args.frame) (g.D.Disk.flash c.args.disk.now) (g.D.Disk.flash c.open_written.new.disk)
left_alone g c t kept =
    let K = OutsideOpened c.args.frame in
    let body = c.behind_gate.result.now in
    let long : length body + 1 ≡ 10 = omega (arith, ap length c.behind_gate.ensures, length-drop 1 c.root_page-root.result, c.root_page-root.ensures.long) in
    let b = g.D.Disk.flash c.write_at.new.self in
    keeps_then K _ b _ _ (g.met.D.Disk.obeys c.write_at.new.self t) (keeps_fewer K (Outside c.args.frame.base (page_bytes c.args.frame)) (λ i o. o.0) _ b kept)
    (keeps_fewer K (OutsideEach (page_at ROOT_GATE (ROOT_GATE + 1) (length body))) (λ i o. root_fewer body long i (o.1 c.requires.version)) b _ (c.open_written.ensures.keeps t))

pub returns-in-Failed-open_written-clause-keeps : goal.returns-in-Failed-open_written-clause-keeps
returns-in-Failed-open_written-clause-keeps g c t =
    let at = goal.at.returns-in-Failed-open_written-clause-keeps g c in
    left_alone g at.After-open_written t (page_kept g at.After-write_at t)

pub returns-in-Done-open_written-clause-keeps : goal.returns-in-Done-open_written-clause-keeps
returns-in-Done-open_written-clause-keeps g c t =
    let at = goal.at.returns-in-Done-open_written-clause-keeps g c in
    left_alone g at.After-open_written t (page_kept g at.After-write_at t)

at_any_moment : (g : given.Over) (c : After-open_written g) → IsTrue g.D.Disk.told → IsPrepared c.args.frame c.args.layout.now (g.D.Disk.flash c.args.disk.now).reads
    → Keeps (Outside c.args.frame.base (page_bytes c.args.frame)) (g.D.Disk.flash c.args.disk.now) (g.D.Disk.flash c.write_at.new.self)
    → slice_range (g.D.Disk.flash c.write_at.new.self).reads c.args.frame.base (c.args.frame.base + page_bytes c.args.frame) ≡ config_page c.args.frame c.args.layout.now c.args.key.now
    → Passes (g.D.Disk.flash c.args.disk.now) (g.D.Disk.flash c.open_written.new.disk) (IsBlankOrFormatted c.args.frame (g.D.Disk.extent c.args.disk.now) c.args.layout.now c.args.key.now (g.D.Disk.flash c.args.disk.now))
at_any_moment g c t ready kept page =
    let b = g.D.Disk.flash c.write_at.new.self in
    second_opening (g.D.Disk.extent c.args.disk.now) c.args.frame c.requires.frame c.args.layout.now c.args.key.now c.requires.layout c.requires.key c.typed.ensures c.requires.version c.root_page-root.result c.behind_gate.result.now
    (root_told g c) c.root_page-root.ensures.long (ap (λ (l : List ℕ). get_or l 0 0) c.root_page-root.ensures.bytes) c.behind_gate.ensures (g.D.Disk.flash c.args.disk.now) b _
    (g.met.D.Disk.obeys c.args.disk.now t) (subst (IsFlash b) c.write_at.ensures.size (g.met.D.Disk.obeys c.write_at.new.self t)) ready kept page (c.open_written.ensures.any_moment t)

pub returns-in-Failed-open_written-clause-any_moment :
    goal.returns-in-Failed-open_written-clause-any_moment
returns-in-Failed-open_written-clause-any_moment g c t ready =
    let at = goal.at.returns-in-Failed-open_written-clause-any_moment g c in
    at_any_moment g at.After-open_written t ready (page_kept g at.After-write_at t) (page_there g at.After-write_at t (c.in-Done.ensures.written t))

pub returns-in-Done-open_written-clause-any_moment :
    goal.returns-in-Done-open_written-clause-any_moment
returns-in-Done-open_written-clause-any_moment g c t ready =
    let at = goal.at.returns-in-Done-open_written-clause-any_moment g c in
    at_any_moment g at.After-open_written t ready (page_kept g at.After-write_at t) (page_there g at.After-write_at t (c.in-Done.ensures.written t))

pub returns-in-Done-open_written-clause-formatted :
    goal.returns-in-Done-open_written-clause-formatted
returns-in-Done-open_written-clause-formatted g c t ready =
    let at = goal.at.returns-in-Done-open_written-clause-formatted g c in
    let a = g.D.Disk.flash c.args.disk.now in
    let b = g.D.Disk.flash c.write_at.new.self in
    let d = g.D.Disk.flash c.open_written.new.disk in
    let once_long = (g.met.D.Disk.obeys c.write_at.new.self t).fits ∙ c.write_at.ensures.size in
    let long = (g.met.D.Disk.obeys c.open_written.new.disk t).fits ∙ c.open_written.ensures.size ∙ c.write_at.ensures.size in
    second_formed (g.D.Disk.extent c.args.disk.now) c.args.frame c.requires.frame c.args.layout.now c.args.key.now c.requires.layout c.requires.key c.typed.ensures c.requires.version c.root_page-root.result c.behind_gate.result.now
    (root_told g at.After-open_written) c.root_page-root.ensures.long (ap (λ (l : List ℕ). get_or l 0 0) c.root_page-root.ensures.bytes) c.behind_gate.ensures a.reads b.reads once_long (page_kept g at.After-write_at t).reads
    (page_there g at.After-write_at t (c.in-Done.ensures.written t)) ready d.reads long (c.in-Done-open_written.ensures.page t) (c.in-Done-open_written.ensures.opened t)
