use Rattle.std.proofs.Common.{List, ℕ, sym, subst, arith}
use Rattle.suit_edge.specs.FlashLaws.{same_flash_then}
use Rattle.flash_layout.specs.Frames.{IsFrame, config_page_of, head_of}
use Rattle.rollback_record.specs.HeadRecord.{RecordOf}
use Rattle.rollback_record.specs.RecordPage.{CountSlots}
use Rattle.rollback_record.proofs.FrameLoads.{small_none}
use Rattle.rollback_record.proofs.load.load_record.Goals as goal

pub returns-then-size-least-clause-exact : goal.returns-then-size-least-clause-exact
returns-then-size-least-clause-exact g c t =
    small_none c.args.frame (g.D.Disk.flash c.args.disk.now).reads (omega (arith, (g.met.D.Disk.obeys c.args.disk.now t).fits, c.size-size.ensures, c.head_size-least.ensures, c.if-size-least.true))

pub read_counts-requires : goal.read_counts-requires
read_counts-requires g c = c.requires (omega (arith, c.size-size.ensures, c.head_size-least.ensures, c.if-size-least.false))

pub load_beside-requires : goal.load_beside-requires
load_beside-requires g c =
    subst (λ (n : ℕ). IsFrame n c.args.frame) (sym c.read_counts.ensures.size) (c.requires (omega (arith, c.size-size.ensures, c.head_size-least.ensures, c.if-size-least.false)))

pub returns-clause-exact : goal.returns-clause-exact
returns-clause-exact g c t =
    let same = (c.read_counts.ensures.same t).reads in
    let counts = subst (λ (l : List ℕ). CountSlots c.args.frame (config_page_of c.args.frame (head_of c.args.frame l)) c.in_ok-slots.slots) (sym same) (c.in_ok-slots.ensures.slots t) in
    subst (λ (l : List ℕ). RecordOf c.args.frame (head_of c.args.frame l) c.in_ok-pages.pages.held) same (c.in_ok-pages.ensures.exact t counts).held

pub returns-clause-same : goal.returns-clause-same
returns-clause-same g c t = same_flash_then _ _ _ _ (g.met.D.Disk.obeys c.read_counts.new.disk t) (c.read_counts.ensures.same t) (c.load_beside.ensures.same t)

pub returns-in_err-pages-clause-same : goal.returns-in_err-pages-clause-same
returns-in_err-pages-clause-same g c t = same_flash_then _ _ _ _ (g.met.D.Disk.obeys c.read_counts.new.disk t) (c.read_counts.ensures.same t) (c.load_beside.ensures.same t)
