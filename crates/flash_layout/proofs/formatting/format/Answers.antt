use Rattle.std.proofs.Common.{◌≡◌, false, rules, arith, inr, ℕ, IsTrue, sym, subst, ◌∙◌}
use Rattle.std.proofs.lemmas.Bool.{iff_false}
use Rattle.suit_edge.specs.Flash.{IsFlash, Keeps, Passes}
use Rattle.suit_edge.specs.FlashLaws.{keeps_fewer, keeps_same, keeps_then}
use Rattle.flash_layout.specs.Formats.{HasNoRoot, IsBlankOrFormatted, IsFormatted, IsPrepared, OutsideFormat, OutsideOpened, OutsidePrepared}
use Rattle.flash_layout.specs.FirstFrame.{has_room}
use Rattle.flash_layout.proofs.BlankKept.{reading}
use Rattle.flash_layout.proofs.FormatFrames.{onward, prepared, root_gate}
use Rattle.flash_layout.proofs.formatting.format.Given as given
use Rattle.flash_layout.proofs.formatting.format.Goals as goal
use Rattle.flash_layout.proofs.formatting.format.Goals.{After-open_config, After-prepare}

pub has_open_gate-requires : goal.has_open_gate-requires
has_open_gate-requires g c = has_room (g.D.Disk.extent c.args.disk.now) c.args.frame c.requires.frame

pub returns-in-Err-clause-any_moment : goal.returns-in-Err-clause-any_moment
returns-in-Err-clause-any_moment g c t =
    reading (g.D.Disk.extent c.args.disk.now) c.args.frame c.requires.frame c.args.layout.now c.args.key.now c.requires.layout c.requires.key c.typed.ensures _ (g.met.D.Disk.obeys c.args.disk.now t) _ (c.has_open_gate.ensures.same t)

pub returns-in-Ok-true-clause-any_moment : goal.returns-in-Ok-true-clause-any_moment
returns-in-Ok-true-clause-any_moment g c t =
    reading (g.D.Disk.extent c.args.disk.now) c.args.frame c.requires.frame c.args.layout.now c.args.key.now c.requires.layout c.requires.key c.typed.ensures _ (g.met.D.Disk.obeys c.args.disk.now t) _ (c.has_open_gate.ensures.same t)

-- reads, and then the preparation
kept : (g : given.Over) (c : After-prepare g) → IsTrue g.D.Disk.told → Keeps (OutsidePrepared c.args.frame c.args.layout.now) (g.D.Disk.flash c.args.disk.now) (g.D.Disk.flash c.prepare.new.disk)
kept g c t =
    let K = OutsidePrepared c.args.frame c.args.layout.now in
    keeps_then K _ (g.D.Disk.flash c.has_open_gate.new.disk) _ _ (g.met.D.Disk.obeys c.has_open_gate.new.disk t) (keeps_same K _ _ (c.has_open_gate.ensures.same t)) (c.prepare.ensures.keeps t)

law_of : (g : given.Over) (c : After-prepare g) → IsTrue g.D.Disk.told → IsFlash (g.D.Disk.flash c.prepare.new.disk) (g.D.Disk.extent c.args.disk.now)
law_of g c t = subst (IsFlash (g.D.Disk.flash c.prepare.new.disk)) (c.prepare.ensures.size ∙ c.has_open_gate.ensures.size) (g.met.D.Disk.obeys c.prepare.new.disk t)

pub returns-in-Failed-clause-any_moment : goal.returns-in-Failed-clause-any_moment
returns-in-Failed-clause-any_moment g c t =
    let at = (goal.at.returns-in-Failed-clause-any_moment g c).After-prepare in
    prepared (g.D.Disk.extent c.args.disk.now) c.args.frame c.requires.frame c.args.layout.now c.args.key.now c.requires.layout c.requires.key c.typed.ensures _ (g.D.Disk.flash c.prepare.new.disk) (g.D.Disk.flash c.prepare.new.disk)
    (g.met.D.Disk.obeys c.args.disk.now t) (law_of g at t) (kept g at t)

pub returns-in-Failed-clause-keeps : goal.returns-in-Failed-clause-keeps
returns-in-Failed-clause-keeps g c t =
    keeps_fewer (OutsideFormat c.args.frame c.args.layout.now) (OutsidePrepared c.args.frame c.args.layout.now) (λ i o. o.1) _ _ (kept g (goal.at.returns-in-Failed-clause-keeps g c).After-prepare t)

-- and then the page
module _ (g : given.Over) (c : After-open_config g) (t : IsTrue g.D.Disk.told) (before : Keeps (OutsidePrepared c.args.frame c.args.layout.now) (g.D.Disk.flash c.args.disk.now) (g.D.Disk.flash c.prepare.new.disk))
    (law : IsFlash (g.D.Disk.flash c.prepare.new.disk) (g.D.Disk.extent c.args.disk.now)) (ready : IsPrepared c.args.frame c.args.layout.now (g.D.Disk.flash c.prepare.new.disk).reads) where
  at_any_moment : Passes (g.D.Disk.flash c.args.disk.now) (g.D.Disk.flash c.open_config.new.disk) (IsBlankOrFormatted c.args.frame (g.D.Disk.extent c.args.disk.now) c.args.layout.now c.args.key.now (g.D.Disk.flash c.args.disk.now))
  at_any_moment =
      let b = g.D.Disk.flash c.prepare.new.disk in
      let d = g.D.Disk.flash c.open_config.new.disk in
      onward (g.D.Disk.extent c.args.disk.now) c.args.frame c.requires.frame c.args.layout.now c.args.key.now c.requires.layout c.requires.key c.typed.ensures _ b d (g.met.D.Disk.obeys c.args.disk.now t) law before
      (subst (λ (n : ℕ). Passes b d (IsBlankOrFormatted c.args.frame n c.args.layout.now c.args.key.now b)) (c.prepare.ensures.size ∙ c.has_open_gate.ensures.size) (c.open_config.ensures.any_moment t ready))

  left_alone : Keeps (OutsideFormat c.args.frame c.args.layout.now) (g.D.Disk.flash c.args.disk.now) (g.D.Disk.flash c.open_config.new.disk)
  left_alone =
      let K = OutsideFormat c.args.frame c.args.layout.now in
      keeps_then K _ (g.D.Disk.flash c.prepare.new.disk) _ _ law (keeps_fewer K (OutsidePrepared c.args.frame c.args.layout.now) (λ i o. o.1) _ _ before)
      (keeps_fewer K (OutsideOpened c.args.frame) (λ i o. o.0) _ _ (c.open_config.ensures.keeps t))

pub returns-in-Failed-open_config-clause-any_moment :
    goal.returns-in-Failed-open_config-clause-any_moment
returns-in-Failed-open_config-clause-any_moment g c t =
    let at = goal.at.returns-in-Failed-open_config-clause-any_moment g c in
    at_any_moment g at.After-open_config t (kept g at.After-prepare t) (law_of g at.After-prepare t) (c.in-Done.ensures.prepared t)

pub returns-in-Done-open_config-clause-any_moment :
    goal.returns-in-Done-open_config-clause-any_moment
returns-in-Done-open_config-clause-any_moment g c t =
    let at = goal.at.returns-in-Done-open_config-clause-any_moment g c in
    at_any_moment g at.After-open_config t (kept g at.After-prepare t) (law_of g at.After-prepare t) (c.in-Done.ensures.prepared t)

pub returns-in-Failed-open_config-clause-keeps : goal.returns-in-Failed-open_config-clause-keeps
returns-in-Failed-open_config-clause-keeps g c t =
    let at = goal.at.returns-in-Failed-open_config-clause-keeps g c in
    left_alone g at.After-open_config t (kept g at.After-prepare t) (law_of g at.After-prepare t) (c.in-Done.ensures.prepared t)

pub returns-in-Done-open_config-clause-keeps : goal.returns-in-Done-open_config-clause-keeps
returns-in-Done-open_config-clause-keeps g c t =
    let at = goal.at.returns-in-Done-open_config-clause-keeps g c in
    left_alone g at.After-open_config t (kept g at.After-prepare t) (law_of g at.After-prepare t) (c.in-Done.ensures.prepared t)

pub returns-in-Done-open_config-clause-formatted : goal.returns-in-Done-open_config-clause-formatted
returns-in-Done-open_config-clause-formatted g c t =
    let at = goal.at.returns-in-Done-open_config-clause-formatted g c in
    let size = g.D.Disk.extent c.args.disk.now in
    let root = root_gate size c.args.frame c.requires.frame c.args.layout.now c.args.key.now c.requires.layout c.requires.key c.typed.ensures in
    let same = (kept g at.After-prepare t).reads.same 45056 root in
    let is_false : c.in-Ok-false.field-0 ≡ false = first_of (cc, search rules, grind arith) in
    let shut : HasNoRoot (g.D.Disk.flash c.prepare.new.disk).reads = λ opened. iff_false (c.in-Ok-false.ensures.told t) is_false (inr (sym same ∙ opened)) in
    subst (λ (n : ℕ). IsFormatted c.args.frame n c.args.layout.now c.args.key.now (g.D.Disk.flash c.open_config.new.disk).reads) (c.prepare.ensures.size ∙ c.has_open_gate.ensures.size)
    (c.in-Done-open_config.ensures.formatted t (c.in-Done.ensures.prepared t) shut)
