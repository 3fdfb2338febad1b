use Rattle.std.proofs.Common.{◌∙◌, ℕ, length, ap}
use Rattle.flash_layout.specs.FrameFacts.{facts}
use Rattle.flash_layout.specs.Frames.{bank_place}
use Rattle.invoke_proc.proofs.BankRange.{bank_read, if_done}
use Rattle.invoke_proc.proofs.bank.read_into.Goals as goal

pub returns-clause-bytes : goal.returns-clause-bytes
returns-clause-bytes g c t =
    let frame = c.args.frame in
    let size = g.D.Disk.extent c.args.disk.now in
    let at = c.bank.ensures ∙ ap (λ (w : ℕ). bank_place frame w) c.from.ensures in
    if_done c.read_at.result _ _
    (λ same. same ∙ bank_read size frame (facts size frame c.requires.frame) (g.D.Disk.flash c.args.disk.now).reads c.args.installed.now c.bank.result (length c.args.room.now) c.requires.bank c.requires.length at c.requires.room)
    (c.read_at.ensures.bytes t)
