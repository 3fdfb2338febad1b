use Rattle.std.proofs.Common.{Result, ℕ, Option, option_map, refl, sym, ap, subst, ◌∙◌, arith}
use Rattle.std.specs.Prelude.{IfSome}
use Rattle.path_model.specs.declared.cause.Cause.{Cause}
use Rattle.suit_params.specs.declared.digest.Digest.{Digest}
use Rattle.suit_params.specs.DigestBytes.{digest_bytes, IsLong}
use Rattle.suit_edge.specs.FlashLaws.{grows_then, same_flash_then}
use Rattle.step_machine.specs.Invoking.{InvokeCounts, InvokesAs, result_of}
use Rattle.step_machine.specs.Spots.{content_of}
use Rattle.step_machine.proofs.Launching.{counts_as, invoke_cut, invokes_as}
use Rattle.step_machine.proofs.invoking.invoke.Goals as goal

pub returns-in-Err-clause-counts : goal.returns-in-Err-clause-counts
returns-in-Err-clause-counts g c = (omega arith, c.in-Err.ensures.read.counts)

pub returns-in-Err-clause-invokes : goal.returns-in-Err-clause-invokes
returns-in-Err-clause-invokes g c t u =
    let standing = c.args.standing.now in
    let launches = g.L.Launcher.launches c.args.launcher.now in
    invoke_cut standing.component c.args.params.now (content_of standing.spot c.args.ram.now (g.D.Disk.flash c.args.disk.now).reads) launches launches refl

pub returns-clause-counts : goal.returns-clause-counts
returns-clause-counts g c =
    let old = g.L.Launcher.faults c.args.launcher.now in
    let new = g.L.Launcher.faults c.launch-launched.new.self in
    let last = g.D.Disk.faults c.launch-launched.new.disk in
    subst (λ (r : Result (Unit {0}) Cause). InvokeCounts r old new (g.D.Disk.faults c.args.disk.now) last) (sym c.outcome_of.ensures)
    (subst (λ (n : ℕ). InvokeCounts (result_of c.launch-launched.result) old new n last) c.in-Ok.ensures.read.counts
    (counts_as c.launch-launched.result old new (g.D.Disk.faults c.image_at.new.disk) last c.launch-launched.ensures.counts))

pub returns-clause-invokes : goal.returns-clause-invokes
returns-clause-invokes g c t u =
    let standing = c.args.standing.now in
    let reads = (g.D.Disk.flash c.args.disk.now).reads in
    let content = content_of standing.spot c.args.ram.now reads in
    let old = g.L.Launcher.launches c.args.launcher.now in
    let new = g.L.Launcher.launches c.launch-launched.new.self in
    subst (λ (r : Result (Unit {0}) Cause). InvokesAs standing.component c.args.params.now content old new r) (sym c.outcome_of.ensures)
    (invokes_as standing.component c.args.params.now content reads _ old new c.in-Ok.image g.D.Disk.told _ _ _ c.launch-launched.result
    t (c.image_at.ensures.read.same t).reads (c.in-Ok.ensures.image t) (c.digest_bytes-digest.ensures.is ∙ ap (option_map digest_bytes) c.digest_for-in_force.ensures) (subst (λ (d : Option Digest). IfSome d IsLong) c.digest_for-in_force.ensures c.digest_bytes-digest.ensures.long) c.size_for-size.ensures c.args_for-args.ensures (c.launch-launched.ensures.launches u))

pub returns-clause-same : goal.returns-clause-same
returns-clause-same g c t = same_flash_then _ _ _ _ (g.met.D.Disk.obeys c.image_at.new.disk t) (c.image_at.ensures.read.same t) (c.launch-launched.ensures.same t)

pub returns-clause-grows : goal.returns-clause-grows
returns-clause-grows g c t =
    grows_then (g.D.Disk.flash c.args.disk.now) (g.D.Disk.flash c.image_at.new.disk) (g.D.Disk.flash c.launch-launched.new.disk) (c.image_at.ensures.read.same t).images.later
    (c.image_at.ensures.read.grows t) (c.launch-launched.ensures.grows t)
