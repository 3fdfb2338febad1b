use Rattle.std.proofs.Common.{◌≡◌, ◌∙◌, ℕ, length, ap, sym, subst}
use Rattle.manifest_view.specs.Views.{manifest_of}
use Rattle.step_machine.specs.Devices.{device_at}
use Rattle.suit_edge.specs.Flash.{IsSame}
use Rattle.suit_edge.specs.FlashLaws.{same_flash_then}
use Rattle.flash_layout.specs.declared.frame.Frame.{Frame}
use Rattle.flash_layout.specs.Frames.{bank_size}
use Rattle.flash_layout.specs.Layouts.{IsLayout}
use Rattle.invoke_proc.specs.declared.boot_end.BootEnd.{BootEnd}
use Rattle.invoke_proc.specs.Buffers.{BootRoom}
use Rattle.invoke_proc.specs.Booting.{Answers, KeepsBoot, KeepsOthers, PlayedSo, PlaysBoot, PlaysOn}
use Rattle.invoke_proc.proofs.Booted as booted
use Rattle.invoke_proc.proofs.Places.{are_distinct}
use Rattle.invoke_proc.proofs.Played.{unfaulted}
use Rattle.invoke_proc.proofs.booting.start_installed.Goals as goal

pub returns-in-Err-startable-clause-answers : goal.returns-in-Err-startable-clause-answers
returns-in-Err-startable-clause-answers g c t =
    booted.refused_answers c.args.frame c.args.layout.now c.args.key.now (g.D.Disk.flash c.args.disk.now).reads c.in-Ok.installed (c.in-Ok.ensures.recorded t) c.key_bytes.result.now
    _ c.in-Err-startable.refusal c.from.result c.key_bytes.ensures (c.in-Ok.ensures.bytes t) c.from.ensures c.in-Err-startable.ensures.refused

pub returns-in-Err-clause-answers : goal.returns-in-Err-clause-answers
returns-in-Err-clause-answers g c t =
    subst (λ (e : BootEnd). Answers c.args.frame c.args.layout.now c.args.key.now (g.D.Disk.flash c.args.disk.now).reads e) (sym c.without_bank.ensures)
    (booted.none_answers c.args.frame c.args.layout.now c.args.key.now (g.D.Disk.flash c.args.disk.now).reads c.in-Err.fault (c.in-Err.ensures.none t))

pub returns-in-Err-clause-plays : goal.returns-in-Err-clause-plays
returns-in-Err-clause-plays g c td tl =
    let launched = g.L.Launcher.launches c.args.launcher.now in
    let reads = (g.D.Disk.flash c.args.disk.now).reads in
    let after = (g.D.Disk.flash c.find_bank.new.disk).reads in
    let Plays = PlaysBoot c.args.frame c.args.layout.now c.args.key.now (g.H.Host.file c.args.host.now) (device_at reads launched) (device_at after launched) in
    subst (λ (e : BootEnd). PlayedSo Plays (after ≡ reads) launched launched e) (sym c.without_bank.ensures) (booted.none_plays Plays (after ≡ reads) launched c.in-Err.fault (c.in-Err.ensures.same td).reads)

pub start-requires-clause-distinct : goal.start-requires-clause-distinct
start-requires-clause-distinct g c =
    let m = manifest_of c.in-Ok-startable.startable.manifest in
    let holds = c.in-Ok-startable.ensures.startable.spell.says in
    let grammar = c.manifest_laws.ensures.grammatical _ holds.item m holds.says_so in
    are_distinct c.args.layout.now m.components c.in-Ok-startable.startable.places grammar.few grammar.apart c.in-Ok-startable.ensures.startable.placed c.in-Ok-startable.ensures.other

pub start-requires-clause-plan : goal.start-requires-clause-plan
start-requires-clause-plan g c =
    let holds = c.in-Ok-startable.ensures.startable.spell.says in
    c.procedure_laws.ensures.invocation _ holds.item (manifest_of c.in-Ok-startable.startable.manifest) holds.says_so

pub returns-clause-answers : goal.returns-clause-answers
returns-clause-answers g c t =
    let reads = (g.D.Disk.flash c.args.disk.now).reads in
    let r = c.in-Ok.installed in
    let recorded = c.in-Ok.ensures.recorded t in
    let m = manifest_of c.in-Ok-startable.startable.manifest in
    booted.start_answers c.args.frame c.args.layout.now c.args.key.now reads r recorded m
    (booted.started_from c.args.frame c.args.layout.now c.args.key.now reads c.key_bytes.result.now _ r c.in-Ok-startable.startable recorded c.key_bytes.ensures
    (c.in-Ok.ensures.bytes t) c.in-Ok-startable.ensures.startable)
    c.start.result c.start.ensures.starts

pub returns-clause-plays : goal.returns-clause-plays
returns-clause-plays g c td tl =
    let d = g.D.Disk in
    let reads = (d.flash c.args.disk.now).reads in
    let before = (d.flash c.find_bank.new.disk).reads in
    let after = (d.flash c.start.new.disk).reads in
    let files = g.H.Host.file c.args.host.now in
    let launched = g.L.Launcher.launches c.args.launcher.now in
    let now = g.L.Launcher.launches c.start.new.launcher in
    let r = c.in-Ok.installed in
    let m = manifest_of c.in-Ok-startable.startable.manifest in
    let same = c.in-Ok.ensures.bytes td in
    let starts = booted.started_from c.args.frame c.args.layout.now c.args.key.now reads c.key_bytes.result.now _ r c.in-Ok-startable.startable (c.in-Ok.ensures.recorded td) c.key_bytes.ensures
    same c.in-Ok-startable.ensures.startable in
    booted.played_as (PlaysOn c.args.layout.now m r.active files (device_at before launched) (device_at after now)) (PlaysBoot c.args.frame c.args.layout.now c.args.key.now files (device_at reads launched) (device_at after now))
    (after ≡ before) (after ≡ reads) launched now c.start.result
    (booted.plays_boot c.args.frame c.args.layout.now c.args.key.now files reads before after launched now r m starts (c.in-Ok.ensures.same td).reads)
    (λ same. same ∙ (c.in-Ok.ensures.same td).reads)
    (c.start.ensures.plays td tl)

pub returns-clause-keeps : goal.returns-clause-keeps
returns-clause-keeps g c t =
    let d = g.D.Disk in
    let a = d.flash c.args.disk.now in
    let b = d.flash c.find_bank.new.disk in
    let e = d.flash c.start.new.disk in
    let r = c.in-Ok.installed in
    let m = manifest_of c.in-Ok-startable.startable.manifest in
    let law = g.met.D.Disk.obeys c.find_bank.new.disk t in
    let starts = booted.started_from c.args.frame c.args.layout.now c.args.key.now a.reads c.key_bytes.result.now _ r c.in-Ok-startable.startable (c.in-Ok.ensures.recorded t) c.key_bytes.ensures
    (c.in-Ok.ensures.bytes t) c.in-Ok-startable.ensures.startable in
    booted.kept_as (KeepsOthers c.args.layout.now m r.active b e) (KeepsBoot c.args.frame c.args.layout.now c.args.key.now a e) (IsSame b e) (IsSame a e) c.start.result
    (booted.keeps_boot c.args.frame c.args.layout.now c.args.key.now r m a b e _ law (c.in-Ok.ensures.same t) starts)
    (same_flash_then a b e _ law (c.in-Ok.ensures.same t)) (c.start.ensures.keeps t)

pub returns-clause-settled : goal.returns-clause-settled
returns-clause-settled g c t =
    unfaulted _ _ c.start.result
    (booted.settled_from (g.D.Disk.flash c.args.disk.now) (g.D.Disk.flash c.find_bank.new.disk) (g.D.Disk.flash c.start.new.disk) _ (g.met.D.Disk.obeys c.find_bank.new.disk t) (c.in-Ok.ensures.same t))
    (c.start.ensures.settled t)

pub find_bank-requires-clause-config : goal.find_bank-requires-clause-config
find_bank-requires-clause-config g c t = (c.args.key.now, c.requires.held t)

pub find_bank-requires-clause-room : goal.find_bank-requires-clause-room
find_bank-requires-clause-room g c =
    ap length c.as_mut_slice-room.ensures.value ∙ c.buffer.invariant.1 ∙ ap (λ (b : BootRoom). bank_size b.frame) (c.buffer.view_is ∙ c.requires.room)

pub start-requires-clause-layout : goal.start-requires-clause-layout
start-requires-clause-layout g c =
    subst (λ (f : Frame). IsLayout f (g.D.Disk.extent c.find_bank.new.disk) c.args.layout.now) (sym (ap (λ (b : BootRoom). b.frame) (c.buffer.view_is ∙ c.requires.room)))
    (subst (λ (n : ℕ). IsLayout c.args.frame n c.args.layout.now) (sym c.find_bank.ensures.size) c.requires.allowed.layout_is)

pub start-requires-clause-ram : goal.start-requires-clause-ram
start-requires-clause-ram g c = ap (λ (b : BootRoom). b.ram) (c.buffer.view_is ∙ c.requires.room)

pub start-requires-clause-uris : goal.start-requires-clause-uris
start-requires-clause-uris g c = c.buffer.invariant.0
