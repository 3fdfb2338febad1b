use Rattle.std.proofs.Common.{◌∙◌, ℕ, ap, length, subst}
use Rattle.suit_edge.specs.Flash.{Keeps}
use Rattle.suit_edge.specs.Ranges.{Outside, written}
use Rattle.flash_layout.specs.FrameFacts.{facts}
use Rattle.flash_layout.specs.Frames.{bank_place}
use Rattle.update_proc.proofs.BankBytes.{bank_written}
use Rattle.update_proc.proofs.bank.fill_bank.Goals as goal

pub returns-in-Done-clause-holds : goal.returns-in-Done-clause-holds
returns-in-Done-clause-holds g c t =
    let size = g.D.Disk.extent c.args.disk.now in
    let old = (g.D.Disk.flash c.args.disk.now).reads in
    let place = c.bank.ensures ∙ ap (λ (w : ℕ). bank_place c.args.frame w) c.from.ensures in
    bank_written size c.args.frame (facts size c.args.frame c.requires.frame) old (g.D.Disk.flash c.write_and_sync.new.disk).reads c.args.bytes.now c.args.which
    (g.met.D.Disk.obeys c.args.disk.now t).fits c.requires.which c.requires.fits (c.in-Done.ensures.written t ∙ ap (λ k. written old k c.args.bytes.now) place)

pub returns-in-Done-clause-keeps : goal.returns-in-Done-clause-keeps
returns-in-Done-clause-keeps g c t =
    let place = c.bank.ensures ∙ ap (λ (w : ℕ). bank_place c.args.frame w) c.from.ensures in
    subst (λ (k : ℕ). Keeps (Outside k (length c.args.bytes.now)) (g.D.Disk.flash c.args.disk.now) (g.D.Disk.flash c.write_and_sync.new.disk)) place (c.write_and_sync.ensures.keeps t)

pub returns-in-Failed-clause-keeps : goal.returns-in-Failed-clause-keeps
returns-in-Failed-clause-keeps g c t =
    let place = c.bank.ensures ∙ ap (λ (w : ℕ). bank_place c.args.frame w) c.from.ensures in
    subst (λ (k : ℕ). Keeps (Outside k (length c.args.bytes.now)) (g.D.Disk.flash c.args.disk.now) (g.D.Disk.flash c.write_and_sync.new.disk)) place (c.write_and_sync.ensures.keeps t)
