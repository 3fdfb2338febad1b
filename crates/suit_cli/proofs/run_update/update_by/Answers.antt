use Rattle.std.proofs.Common.{ℕ, ◌^◌, inr, ⊎_elim, refl, sym, ap, subst}
use Rattle.suit_edge.specs.FlashLaws.{same_flash}
use Rattle.flash_layout.specs.Configs.{ConfigOf, Configured}
use Rattle.rollback_record.specs.SoundFlash.{Settled}
use Rattle.admission.specs.Admission.{admission_of}
use Rattle.step_machine.specs.Fetching.{asked_at}
use Rattle.update_proc.specs.Updates.{hosted}
use Rattle.suit_cli.specs.Updating.{most_room}
use Rattle.suit_cli.proofs.AcceptedFacts.{facts}
use Rattle.suit_cli.proofs.FilesAsked.{rooms_fit}
use Rattle.suit_cli.proofs.UpdateSound.{distinct, gains_update, sound_update}
use Rattle.suit_cli.proofs.Settling.{order_start, updates_settled}
use Rattle.suit_cli.proofs.run_update.update_by.Goals as goal

pub returns-in-Err-clause-keeps : goal.returns-in-Err-clause-keeps
returns-in-Err-clause-keeps g c told settled = same_flash _

pub update-end-requires-clause-frame : goal.update-end-requires-clause-frame
update-end-requires-clause-frame g c = c.requires.allowed.frame_is

pub update-end-requires-clause-layout : goal.update-end-requires-clause-layout
update-end-requires-clause-layout g c = c.requires.allowed.layout_is

pub update-end-requires-clause-distinct : goal.update-end-requires-clause-distinct
update-end-requires-clause-distinct g c =
    distinct c.manifest_laws.ensures c.args.config.now.2 c.args.config.now.0 c.args.config.now.1 c.args.accepted.now.envelope.whole.now (admission_of c.args.accepted.now) (facts c.args.config.now.2 c.args.config.now.0 c.args.config.now.1 c.args.accepted.now.envelope.whole.now (admission_of c.args.accepted.now) c.requires.accepted) c.requires.other

pub update-end-requires-clause-count : goal.update-end-requires-clause-count
update-end-requires-clause-count g c = sym (facts c.args.config.now.2 c.args.config.now.0 c.args.config.now.1 c.args.accepted.now.envelope.whole.now (admission_of c.args.accepted.now) c.requires.accepted).placed.count

pub update-end-requires-clause-plan : goal.update-end-requires-clause-plan
update-end-requires-clause-plan g c =
    let f = facts c.args.config.now.2 c.args.config.now.0 c.args.config.now.1 c.args.accepted.now.envelope.whole.now (admission_of c.args.accepted.now) c.requires.accepted in
    c.procedure_laws.ensures.update _ f.says.item _ _ _ f.says.says_so f.members

pub update-end-requires-clause-manifest : goal.update-end-requires-clause-manifest
update-end-requires-clause-manifest g c = (facts c.args.config.now.2 c.args.config.now.0 c.args.config.now.1 c.args.accepted.now.envelope.whole.now (admission_of c.args.accepted.now) c.requires.accepted).says

pub update-end-requires-clause-members : goal.update-end-requires-clause-members
update-end-requires-clause-members g c = (facts c.args.config.now.2 c.args.config.now.0 c.args.config.now.1 c.args.accepted.now.envelope.whole.now (admission_of c.args.accepted.now) c.requires.accepted).members

pub update-end-requires-clause-ends : goal.update-end-requires-clause-ends
update-end-requires-clause-ends g c =
    c.envelope_laws.ensures.ends c.args.accepted.now.envelope.whole.now _ (2 ^ 64) (facts c.args.config.now.2 c.args.config.now.0 c.args.config.now.1 c.args.accepted.now.envelope.whole.now (admission_of c.args.accepted.now) c.requires.accepted).envelope c.requires.fits

pub update-end-requires-clause-wrapper : goal.update-end-requires-clause-wrapper
update-end-requires-clause-wrapper g c = c.requires.wrapper

pub update-end-requires-clause-fits : goal.update-end-requires-clause-fits
update-end-requires-clause-fits g c =
    (facts c.args.config.now.2 c.args.config.now.0 c.args.config.now.1 c.args.accepted.now.envelope.whole.now (admission_of c.args.accepted.now) c.requires.accepted).is_short

pub update-end-requires-clause-config : goal.update-end-requires-clause-config
update-end-requires-clause-config g c told = (c.args.config.now.1, c.requires.held told)

pub returns-clause-answer : goal.returns-clause-answer
returns-clause-answer g c =
    let u = c.update-end.ensures in
    let f = facts c.args.config.now.2 c.args.config.now.0 c.args.config.now.1 c.args.accepted.now.envelope.whole.now (admission_of c.args.accepted.now) c.requires.accepted in (
      record {
        alone = record { told = refl; files = u.files; flash_told = refl; size = u.size; launcher_told = refl };
        counts = u.counts;
        asks = λ th. u.asked th (most_room (g.D.Disk.extent c.args.flash.now)) (rooms_fit c.args.config.now.2 (g.D.Disk.extent c.args.flash.now) c.args.config.now.0 c.args.config.now.1 c.requires.allowed);
        unasked = λ which. ap (λ host. asked_at (g.H.Host.asked host) (g.H.Host.pulled host)) (⊎_elim u.unfetched u.unbegun which);
        judged = u.judged;
        plays = u.plays;
        left = u.left;
        safe = λ td tl.
            gains_update c.play_laws.ensures.safe c.play_laws.ensures.faulted_safe c.manifest_laws.ensures (g.D.Disk.extent c.args.flash.now) c.args.config.now.2 c.args.config.now.0 c.args.config.now.1 c.requires.allowed c.has_identifiers.ensures
            c.args.accepted.now.envelope.whole.now (admission_of c.args.accepted.now) f c.requires.other c.args.uris.now (hosted g.H.Host.told (g.H.Host.file c.args.host.now) (g.H.Host.asked c.args.host.now) (g.H.Host.asked c.update-end.new.host)) (g.D.Disk.flash c.args.flash.now).reads
            (g.L.Launcher.launches c.args.launcher.now) (g.L.Launcher.launches c.update-end.new.launcher) (u.launches td tl);
      },
      c.update_line-text.ensures,
    )

pub returns-clause-keeps : goal.returns-clause-keeps
returns-clause-keeps g c told settled = c.update-end.ensures.keeps told settled

pub returns-in-Err-clause-flash : goal.returns-in-Err-clause-flash
returns-in-Err-clause-flash g c told = order_start c.sound_laws.ensures _ _

pub returns-clause-flash : goal.returns-clause-flash
returns-clause-flash g c told =
    let a = g.D.Disk.flash c.args.flash.now in
    let config = subst (λ (n : ℕ). ConfigOf n a.reads (Configured c.args.config.now.0 c.args.config.now.1 c.args.config.now.2)) (sym (g.met.D.Disk.obeys c.args.flash.now told).fits) (c.requires.held told) in
    let sound = λ (settled : Settled a). sound_update c.config_laws.ensures.answer c.args.config.now.2 c.args.config.now.0 c.args.config.now.1 a.reads config c.installation_laws.ensures c.args.accepted.now.envelope.whole.now (admission_of c.args.accepted.now) (facts c.args.config.now.2 c.args.config.now.0 c.args.config.now.1 c.args.accepted.now.envelope.whole.now (admission_of c.args.accepted.now) c.requires.accepted)
    a (g.D.Disk.flash c.update-end.new.disk) settled.sound (c.update-end.ensures.sound told settled) in
    record {
      any_moment = record { later = c.update-end.ensures.later told; each = λ image may. tt; before = λ t image le may. inr tt };
      sound = λ settled. (sound settled, c.update-end.ensures.follows told settled);
      settled = updates_settled c.update-end.result _ _ _ _ _ (g.met.D.Disk.obeys c.update-end.new.disk told) c.update-end.ensures.counts sound (c.update-end.ensures.settled told);
    }
