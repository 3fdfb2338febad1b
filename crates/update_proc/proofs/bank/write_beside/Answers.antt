use Rattle.std.proofs.Common.{◌≡◌, ◌∙◌, refl, sym, subst, length, List, ℕ}
use Rattle.suit_edge.specs.FlashLaws.{keeps_same, keeps_then, same_flash_then}
use Rattle.flash_layout.specs.FrameFacts.{facts}
use Rattle.flash_layout.specs.Frames.{bank_of, head_of}
use Rattle.update_proc.proofs.BankBytes.{kept_chosen, kept_holds, other_chosen, same_bytes}
use Rattle.update_proc.proofs.bank.write_beside.Goals as goal

pub returns-in_err-recorded-clause-keeps : goal.returns-in_err-recorded-clause-keeps
returns-in_err-recorded-clause-keeps g c t = keeps_same _ _ _ (c.is_recorded.ensures.read.same t)

-- ---- the bank is kept

pub returns-then-recorded-clause-chosen : goal.returns-then-recorded-clause-chosen
returns-then-recorded-clause-chosen g c t = kept_chosen _ _ _ _ _ ((c.in_ok-recorded.ensures.exact t).0 c.if-recorded.true) refl

pub returns-then-recorded-clause-holds : goal.returns-then-recorded-clause-holds
returns-then-recorded-clause-holds g c t =
    let old = (g.D.Disk.flash c.args.disk.now).reads in
    let size = g.D.Disk.extent c.args.disk.now in
    let same : (g.D.Disk.flash c.keep_bank.new.disk).reads ≡ old = (c.keep_bank.ensures.same t).reads ∙ (c.is_recorded.ensures.read.same t).reads in
    subst (λ (l : List ℕ). bank_of c.args.frame (head_of c.args.frame l) c.args.held.now.bank (length c.args.bytes.now) ≡ c.args.bytes.now) (sym same)
    (kept_holds size c.args.frame (facts size c.args.frame c.requires.frame) old (g.met.D.Disk.obeys c.args.disk.now t).fits c.args.held.now.bank c.args.held.now.length c.args.bytes.now c.requires.held.bank c.requires.held.size ((c.in_ok-recorded.ensures.exact t).0 c.if-recorded.true))

pub returns-then-recorded-clause-kept : goal.returns-then-recorded-clause-kept
returns-then-recorded-clause-kept g c t is = same_flash_then _ _ _ _ (g.met.D.Disk.obeys c.is_recorded.new.disk t) (c.is_recorded.ensures.read.same t) (c.keep_bank.ensures.same t)

pub returns-then-recorded-clause-keeps : goal.returns-then-recorded-clause-keeps
returns-then-recorded-clause-keeps g c t = keeps_same _ _ _ (same_flash_then _ _ _ _ (g.met.D.Disk.obeys c.is_recorded.new.disk t) (c.is_recorded.ensures.read.same t) (c.keep_bank.ensures.same t))

pub returns-in_err-keep_bank-clause-kept : goal.returns-in_err-keep_bank-clause-kept
returns-in_err-keep_bank-clause-kept g c t is = same_flash_then _ _ _ _ (g.met.D.Disk.obeys c.is_recorded.new.disk t) (c.is_recorded.ensures.read.same t) (c.keep_bank.ensures.same t)

pub returns-in_err-keep_bank-clause-keeps : goal.returns-in_err-keep_bank-clause-keeps
returns-in_err-keep_bank-clause-keeps g c t = keeps_same _ _ _ (same_flash_then _ _ _ _ (g.met.D.Disk.obeys c.is_recorded.new.disk t) (c.is_recorded.ensures.read.same t) (c.keep_bank.ensures.same t))

-- ---- the other bank is filled

pub returns-clause-chosen : goal.returns-clause-chosen
returns-clause-chosen g c t = other_chosen _ _ _ _ _ (λ same. let yes = (c.in_ok-recorded.ensures.exact t).1 same in absurd cc) refl

pub returns-clause-kept : goal.returns-clause-kept
returns-clause-kept g c t is = let yes = (c.in_ok-recorded.ensures.exact t).1 (same_bytes _ _ is) in absurd cc

pub returns-clause-keeps : goal.returns-clause-keeps
returns-clause-keeps g c t = keeps_then _ _ _ _ _ (g.met.D.Disk.obeys c.is_recorded.new.disk t) (keeps_same _ _ _ (c.is_recorded.ensures.read.same t)) (c.fill_bank.ensures.keeps t)

pub returns-in_err-fill_bank-clause-kept : goal.returns-in_err-fill_bank-clause-kept
returns-in_err-fill_bank-clause-kept g c t is = let yes = (c.in_ok-recorded.ensures.exact t).1 (same_bytes _ _ is) in absurd cc

pub returns-in_err-fill_bank-clause-keeps : goal.returns-in_err-fill_bank-clause-keeps
returns-in_err-fill_bank-clause-keeps g c t = keeps_then _ _ _ _ _ (g.met.D.Disk.obeys c.is_recorded.new.disk t) (keeps_same _ _ _ (c.is_recorded.ensures.read.same t)) (c.fill_bank.ensures.keeps t)
