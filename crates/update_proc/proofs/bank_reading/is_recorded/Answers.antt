use Rattle.std.proofs.Common.{◌≡◌, ◌∙◌, ℕ, ap, length, arith}
use Rattle.std.proofs.lemmas.Result.{IfOk-weaker}
use Rattle.flash_layout.specs.FrameFacts.{facts}
use Rattle.flash_layout.specs.Frames.{bank_place}
use Rattle.update_proc.proofs.BankBytes.{recorded_iff, recorded_length}
use Rattle.update_proc.proofs.bank_reading.is_recorded.Goals as goal

pub returns-then-held-bytes-clause-exact : goal.returns-then-held-bytes-clause-exact
returns-then-held-bytes-clause-exact g c t =
    let size = g.D.Disk.extent c.args.disk.now in
    let here = facts size c.args.frame c.requires.frame in
    (λ no. absurd cc, λ is. absurd (let long = recorded_length size c.args.frame here (g.D.Disk.flash c.args.disk.now).reads (g.met.D.Disk.obeys c.args.disk.now t).fits c.args.held.now c.args.bytes.now c.requires.held is in omega (arith, long, c.if-held-bytes.true)))

pub returns-clause-exact : goal.returns-clause-exact
returns-clause-exact g c t =
    let size = g.D.Disk.extent c.args.disk.now in
    let here = facts size c.args.frame c.requires.frame in
    let place = c.bank.ensures ∙ ap (λ (w : ℕ). bank_place c.args.frame w) c.from.ensures in
    let long : c.args.held.now.length ≡ length c.args.bytes.now = omega (arith, c.if-held-bytes.false) in
    IfOk-weaker c.has_bytes.result _ _ (λ same is.
    recorded_iff size c.args.frame here (g.D.Disk.flash c.args.disk.now).reads (g.met.D.Disk.obeys c.args.disk.now t).fits c.args.held.now c.args.bytes.now c.requires.held c.bank.result same place long is) (c.has_bytes.ensures.exact t)
