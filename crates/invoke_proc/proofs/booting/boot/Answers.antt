use Rattle.std.proofs.Common.{◌≡◌, ℕ, length, sym, subst}
use Rattle.flash_layout.specs.Configs.{ConfigOf, Configured}
use Rattle.flash_layout.specs.ToldFrames.{told_by}
use Rattle.rollback_record.specs.SoundFlash.{Settled}
use Rattle.invoke_proc.specs.Booting.{PlaysBoot}
use Rattle.invoke_proc.proofs.HostNever.{never_host}
use Rattle.invoke_proc.proofs.Played.{unfaulted}
use Rattle.rollback_record.proofs.HeadSince.{follows_since, sound_since}
use Rattle.invoke_proc.proofs.SoundBoot.{gains, head_kept, played_gains, safe_start, settled_end, unrefused}
use Rattle.invoke_proc.proofs.booting.boot.Goals as goal
use Rattle.step_machine.specs.Devices.{device_at}

pub returns-clause-unrefused : goal.returns-clause-unrefused
returns-clause-unrefused g c t sound =
    let d = g.D.Disk in
    let reads = (d.flash c.args.disk.now).reads in
    let config = subst (λ (n : ℕ). ConfigOf n reads (Configured c.args.layout.now c.args.key.now c.args.frame)) (sym (g.met.D.Disk.obeys c.args.disk.now t).fits) (c.requires.held t) in
    unrefused c.config_laws.ensures.answer c.record_laws.ensures.answer c.boot_laws.ensures c.args.frame c.args.layout.now c.args.key.now reads (told_by (length reads) reads c.args.frame config.told) config c.start_installed.result sound
    (c.start_installed.ensures.answers t)

pub returns-clause-host : goal.returns-clause-host
returns-clause-host g c td tl =
    never_host c.play_laws.ensures.faulted_ends c.args.frame c.args.layout.now c.args.key.now (g.H.Host.file c.args.host.now) (g.D.Disk.flash c.args.disk.now).reads
    (g.D.Disk.flash c.start_installed.new.disk).reads (g.L.Launcher.launches c.args.launcher.now) (g.L.Launcher.launches c.start_installed.new.launcher) _ c.start_installed.result
    (c.start_installed.ensures.plays td tl)

pub returns-clause-safe : goal.returns-clause-safe
returns-clause-safe g c td tl sound =
    let layout = c.args.layout.now in
    let key = c.args.key.now in
    let d = g.D.Disk in
    let size = d.extent c.args.disk.now in
    let reads = (d.flash c.args.disk.now).reads in
    let after = (d.flash c.start_installed.new.disk).reads in
    let files = g.H.Host.file c.args.host.now in
    let launched = g.L.Launcher.launches c.args.launcher.now in
    let now = g.L.Launcher.launches c.start_installed.new.launcher in
    let config = subst (λ (n : ℕ). ConfigOf n reads (Configured layout key c.args.frame)) (sym (g.met.D.Disk.obeys c.args.disk.now td).fits) (c.requires.held td) in
    played_gains c.play_laws.ensures.safe c.play_laws.ensures.faulted_safe c.manifest_laws.ensures c.args.frame size layout c.requires.allowed.layout_is c.has_identifiers.ensures key files reads after launched now
    (PlaysBoot c.args.frame layout key files (device_at reads launched) (device_at after now)) (after ≡ reads) c.start_installed.result
    (λ end p. gains c.play_laws.ensures.safe c.play_laws.ensures.faulted_safe c.manifest_laws.ensures c.args.frame size layout c.requires.allowed.layout_is c.has_identifiers.ensures key files reads after launched now end p
    (safe_start c.config_laws.ensures.answer c.record_laws.ensures.answer c.boot_laws.ensures c.args.frame layout key reads (told_by (length reads) reads c.args.frame config.told) config p.installed p.manifest sound p.starts))
    (c.start_installed.ensures.plays td tl)

pub returns-clause-sound : goal.returns-clause-sound
returns-clause-sound g c t settled =
    sound_since c.sound_laws.ensures (g.D.Disk.flash c.args.disk.now) (g.D.Disk.flash c.start_installed.new.disk) (g.D.Disk.extent c.args.disk.now) (g.met.D.Disk.obeys c.args.disk.now t) c.args.frame c.requires.allowed.frame_is (c.requires.held t).told settled
    (head_kept c.manifest_laws.ensures c.args.frame (g.D.Disk.extent c.args.disk.now) c.requires.allowed.frame_is c.args.layout.now c.requires.allowed.layout_is c.requires.allowed.typed.entries c.args.key.now (g.D.Disk.flash c.args.disk.now) (g.D.Disk.flash c.start_installed.new.disk) c.start_installed.result (c.start_installed.ensures.keeps t))

pub returns-clause-follows : goal.returns-clause-follows
returns-clause-follows g c t settled =
    follows_since c.sound_laws.ensures (g.D.Disk.flash c.args.disk.now) (g.D.Disk.flash c.start_installed.new.disk) (g.D.Disk.extent c.args.disk.now) (g.met.D.Disk.obeys c.args.disk.now t) c.args.frame c.requires.allowed.frame_is (c.requires.held t).told settled
    (head_kept c.manifest_laws.ensures c.args.frame (g.D.Disk.extent c.args.disk.now) c.requires.allowed.frame_is c.args.layout.now c.requires.allowed.layout_is c.requires.allowed.typed.entries c.args.key.now (g.D.Disk.flash c.args.disk.now) (g.D.Disk.flash c.start_installed.new.disk) c.start_installed.result (c.start_installed.ensures.keeps t))

pub returns-clause-settled : goal.returns-clause-settled
returns-clause-settled g c t settled =
    let d = g.D.Disk in
    let a = d.flash c.args.disk.now in
    let b = d.flash c.start_installed.new.disk in
    unfaulted _ (Settled b) c.start_installed.result
    (settled_end a b _ (g.met.D.Disk.obeys c.start_installed.new.disk t) settled (returns-clause-sound g c t settled))
    (c.start_installed.ensures.settled t)
