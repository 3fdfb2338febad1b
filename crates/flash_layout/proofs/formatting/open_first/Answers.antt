use Rattle.std.proofs.Common.{◌≡◌, ◌+◌, IsTrue, length, drop, length-drop, ◌∙◌, sym, ap, arith}
use Rattle.suit_edge.specs.Flash.{Keeps, Passes}
use Rattle.suit_edge.specs.Gate.{page_at}
use Rattle.suit_edge.specs.Ranges.{OutsideEach}
use Rattle.suit_edge.specs.FlashLaws.{keeps_fewer}
use Rattle.flash_layout.specs.ConfigPage.{config_page}
use Rattle.flash_layout.specs.Formats.{IsBlankOrFormatted, IsPrepared, OutsideOpened}
use Rattle.flash_layout.specs.Frames.{page_bytes}
use Rattle.flash_layout.proofs.FormatFrames.{first_formed, first_opening, page_fewer, root_apart}
use Rattle.flash_layout.proofs.formatting.open_first.Given as given
use Rattle.flash_layout.proofs.formatting.open_first.Goals as goal
use Rattle.flash_layout.proofs.formatting.open_first.Goals.{After-open_written}

-- the bytes after the gate
body_is : (g : given.Over) (c : After-open_written g) → c.behind_gate.result.now ≡ drop 1 (config_page c.args.frame c.args.layout.now c.args.key.now)
body_is g c = c.behind_gate.ensures ∙ ap (drop 1) c.write_page-page.ensures.bytes

left_alone : (g : given.Over) (c : After-open_written g) → IsTrue g.D.Disk.told → Keeps (OutsideOpened c.args.frame) (g.D.Disk.flash c.args.disk.now) (g.D.Disk.flash c.open_written.new.disk)
left_alone g c t =
    let body = c.behind_gate.result.now in
    let long : length body + 1 ≡ page_bytes c.args.frame = omega (arith, ap length c.behind_gate.ensures, length-drop 1 c.write_page-page.result, c.write_page-page.ensures.long) in
    keeps_fewer (OutsideOpened c.args.frame) (OutsideEach (page_at c.args.frame.base (c.args.frame.base + 1) (length body))) (λ i o. page_fewer c.args.frame body long i o.0) _ _ (c.open_written.ensures.keeps t)

at_any_moment : (g : given.Over) (c : After-open_written g) → IsTrue g.D.Disk.told → IsPrepared c.args.frame c.args.layout.now (g.D.Disk.flash c.args.disk.now).reads
    → Passes (g.D.Disk.flash c.args.disk.now) (g.D.Disk.flash c.open_written.new.disk) (IsBlankOrFormatted c.args.frame (g.D.Disk.extent c.args.disk.now) c.args.layout.now c.args.key.now (g.D.Disk.flash c.args.disk.now))
at_any_moment g c t ready =
    first_opening (g.D.Disk.extent c.args.disk.now) c.args.frame c.requires.frame c.args.layout.now c.args.key.now c.requires.layout c.requires.key c.typed.ensures c.requires.version c.behind_gate.result.now (body_is g c) _ _
    (g.met.D.Disk.obeys c.args.disk.now t) ready (c.open_written.ensures.any_moment t)

pub returns-in-Failed-clause-any_moment : goal.returns-in-Failed-clause-any_moment
returns-in-Failed-clause-any_moment g c = at_any_moment g (goal.at.returns-in-Failed-clause-any_moment g c).After-open_written

pub returns-in-Done-clause-any_moment : goal.returns-in-Done-clause-any_moment
returns-in-Done-clause-any_moment g c = at_any_moment g (goal.at.returns-in-Done-clause-any_moment g c).After-open_written

pub returns-in-Failed-clause-keeps : goal.returns-in-Failed-clause-keeps
returns-in-Failed-clause-keeps g c = left_alone g (goal.at.returns-in-Failed-clause-keeps g c).After-open_written

pub returns-in-Done-clause-keeps : goal.returns-in-Done-clause-keeps
returns-in-Done-clause-keeps g c = left_alone g (goal.at.returns-in-Done-clause-keeps g c).After-open_written

pub returns-in-Done-clause-formatted : goal.returns-in-Done-clause-formatted
returns-in-Done-clause-formatted g c t ready closed =
    let at = (goal.at.returns-in-Done-clause-formatted g c).After-open_written in
    let a = g.D.Disk.flash c.args.disk.now in
    let d = g.D.Disk.flash c.open_written.new.disk in
    let size = g.D.Disk.extent c.args.disk.now in
    let body = c.behind_gate.result.now in
    let long = (g.met.D.Disk.obeys c.open_written.new.disk t).fits ∙ c.open_written.ensures.size in
    let page = c.in-Done.ensures.page t in
    let root = page.rest.same 45056 (root_apart size c.args.frame c.requires.frame c.args.layout.now c.args.key.now c.requires.layout c.requires.key c.typed.ensures c.requires.version body (body_is g at)) in
    first_formed size c.args.frame c.requires.frame c.args.layout.now c.args.key.now c.requires.layout c.requires.key c.typed.ensures c.requires.version body (body_is g at) a.reads d.reads long ready
    (λ opened. closed (sym root ∙ opened)) page (c.in-Done.ensures.opened t)
