use Rattle.std.proofs.Common.{List, ℕ, ◌<◌, ◌^◌, length, arith, refl, sym, subst, ◌∙◌}
use Rattle.suit_edge.specs.Flash.{IsFlash}
use Rattle.suit_cli.specs.Launching.{Launching}
use Rattle.suit_cli.specs.Surroundings.{Surroundings}
use Rattle.suit_cli.specs.Coming.{ended_of}
use Rattle.admission.specs.Admission.{admission_of}
use Rattle.step_machine.proofs.Fitting.{few_entries}
use Rattle.suit_cli.proofs.Chains.{anywhere, flash_at, outside_at}
use Rattle.suit_cli.proofs.Sounding.{allowed_after, held_after, settled_later}
use Rattle.suit_cli.proofs.UpdateAnswers.{accepted_as, comes_updated, keeps_as, keeps_since, unaccepted_as, unaccepted_update, unconfigured_update, unread_update, updates_as}
use Rattle.suit_cli.proofs.Settling.{order_looked, order_then}
use Rattle.suit_cli.proofs.run_update.run_update.Goals as goal

pub returns-in-Err-clause-answer : goal.returns-in-Err-clause-answer
returns-in-Err-clause-answer g c named is =
    let h = g.H.Host in
    let here = outside_at h.told (h.file c.args.host.now) (h.pulled c.args.host.now) (h.asked c.args.host.now) (h.faults c.args.host.now) anywhere.flash in
    unconfigured_update c.args.name.now named _ _ _ c.in-Err.stop (c.in-Err.ensures.finds here)

pub returns-in-Err-clause-keeps : goal.returns-in-Err-clause-keeps
returns-in-Err-clause-keeps g c told settled = c.in-Err.ensures.same told

pub returns-in-Err-read-clause-answer : goal.returns-in-Err-read-clause-answer
returns-in-Err-read-clause-answer g c named is =
    let h = g.H.Host in
    let here = outside_at h.told (h.file c.args.host.now) (h.pulled c.args.host.now) (h.asked c.args.host.now) (h.faults c.args.host.now) anywhere.flash in
    unread_update c.args.name.now named _ _ c.in-Ok.config.0 c.in-Ok.config.1 c.in-Ok.config.2 _ (c.in-Ok.ensures.finds here) _ c.in-Err-read.stop (c.in-Err-read.ensures _)

pub returns-in-Err-read-clause-keeps : goal.returns-in-Err-read-clause-keeps
returns-in-Err-read-clause-keeps g c told settled = c.in-Ok.ensures.same told

pub returns-in-Err-accept-clause-answer : goal.returns-in-Err-accept-clause-answer
returns-in-Err-accept-clause-answer g c named is =
    let h = g.H.Host in
    let here = outside_at h.told (h.file c.args.host.now) (h.pulled c.args.host.now) (h.asked c.args.host.now) (h.faults c.args.host.now) anywhere.flash in
    unaccepted_update c.args.name.now named _ _ c.in-Ok.config.0 c.in-Ok.config.1 c.in-Ok.config.2 _ (c.in-Ok.ensures.finds here) c.in-Ok-read.bytes _ (c.in-Ok-read.ensures _) c.in-Err-accept.stop
    (unaccepted_as c.in-Ok.config.2 c.in-Ok.config.0 c.in-Ok.config.1 _ _ c.as_slice.ensures c.in-Err-accept.stop c.in-Err-accept.ensures.finds _)

pub returns-in-Err-accept-clause-keeps : goal.returns-in-Err-accept-clause-keeps
returns-in-Err-accept-clause-keeps g c told settled = c.in-Ok.ensures.same told

pub accept-requires-clause-entries : goal.accept-requires-clause-entries
accept-requires-clause-entries g c =
    few_entries c.in-Ok.config.2 _ c.in-Ok.config.0 c.in-Ok.ensures.allowed.layout_is

pub accept-requires-clause-key : goal.accept-requires-clause-key
accept-requires-clause-key g c = c.in-Ok.ensures.allowed.key_is

pub update_by-requires-clause-allowed : goal.update_by-requires-clause-allowed
update_by-requires-clause-allowed g c = allowed_after c.in-Ok.config.0 c.in-Ok.config.1 c.in-Ok.config.2 _ _ c.in-Ok.ensures.extent c.in-Ok.ensures.allowed

pub update_by-requires-clause-held : goal.update_by-requires-clause-held
update_by-requires-clause-held g c told =
    held_after c.in-Ok.config.0 c.in-Ok.config.1 c.in-Ok.config.2 _ _ _ _ c.in-Ok.ensures.extent (c.in-Ok.ensures.same told).reads ((c.in-Ok.ensures.finds anywhere).1 told)

pub update_by-requires-clause-accepted : goal.update_by-requires-clause-accepted
update_by-requires-clause-accepted g c = accepted_as c.in-Ok.config.2 c.in-Ok.config.0 c.in-Ok.config.1 _ _ (sym c.in-Ok-accept.ensures.whole) (admission_of c.in-Ok-accept.accepted) (c.in-Ok-accept.ensures.finds anywhere).1

pub update_by-requires-clause-wrapper : goal.update_by-requires-clause-wrapper
update_by-requires-clause-wrapper g c = c.in-Ok-accept.ensures.wrapper

pub update_by-requires-clause-other : goal.update_by-requires-clause-other
update_by-requires-clause-other g c = c.in-Ok-accept.ensures.other

pub update_by-requires-clause-fits : goal.update_by-requires-clause-fits
update_by-requires-clause-fits g c =
    let short = (c.in-Ok-read.ensures anywhere.flash).1.fits in
    let fits : length c.in-Ok-read.bytes < 2 ^ 64 = omega arith in
    subst (λ (bytes : List ℕ). length bytes < 2 ^ 64) (sym (c.in-Ok-accept.ensures.whole ∙ c.as_slice.ensures)) fits

pub returns-clause-answer : goal.returns-clause-answer
returns-clause-answer g c named is =
    let h = g.H.Host in
    let here = outside_at h.told (h.file c.args.host.now) (h.pulled c.args.host.now) (h.asked c.args.host.now) (h.faults c.args.host.now) anywhere.flash in
    comes_updated c.args.name.now named _ _ c.in-Ok.config.0 c.in-Ok.config.1 c.in-Ok.config.2 _ (c.in-Ok.ensures.finds here) c.in-Ok-read.bytes _ (c.in-Ok-read.ensures _) _ _ (admission_of c.in-Ok-accept.accepted)
    (accepted_as c.in-Ok.config.2 c.in-Ok.config.0 c.in-Ok.config.1 _ _ c.as_slice.ensures (admission_of c.in-Ok-accept.accepted) (c.in-Ok-accept.ensures.finds anywhere).1) _
    (updates_as c.in-Ok.config.2 c.in-Ok.config.0 c.in-Ok.config.1 _ _ (c.in-Ok-accept.ensures.whole ∙ c.as_slice.ensures) (admission_of c.in-Ok-accept.accepted) _ _ is _ _ _ _ _ c.update_by.ensures.answer)

pub returns-clause-keeps : goal.returns-clause-keeps
returns-clause-keeps g c told settled =
    let same = c.in-Ok.ensures.same told in
    let law = subst (IsFlash (g.D.Disk.flash c.config_in.new.flash)) c.in-Ok.ensures.extent (g.met.D.Disk.obeys c.config_in.new.flash told) in
    let h = g.H.Host in
    let d = g.D.Disk in
    let before = outside_at h.told (h.file c.args.host.now) (h.pulled c.args.host.now) (h.asked c.args.host.now) (h.faults c.args.host.now) (flash_at d.told (d.extent c.args.flash.now) (d.flash c.args.flash.now).reads (d.faults c.args.flash.now)) in
    let middle = outside_at h.told (h.file c.read.new.host) (h.pulled c.read.new.host) (h.asked c.read.new.host) (h.faults c.read.new.host) (flash_at d.told (d.extent c.config_in.new.flash) (d.flash c.config_in.new.flash).reads (d.faults c.config_in.new.flash)) in
    let l : Launching = record { told = g.L.Launcher.told; launches = g.L.Launcher.launches c.args.launcher.now; faults = g.L.Launcher.faults c.args.launcher.now } in
    let since : Surroundings = record { outside = middle; launcher = l; flash = d.flash c.config_in.new.flash } in
    let after : Surroundings = record {
      outside = outside_at h.told (h.file c.update_by.new.host) (h.pulled c.update_by.new.host) (h.asked c.update_by.new.host) (h.faults c.update_by.new.host) (flash_at d.told (d.extent c.update_by.new.flash) (d.flash c.update_by.new.flash).reads (d.faults c.update_by.new.flash));
      launcher = record { told = g.L.Launcher.told; launches = g.L.Launcher.launches c.update_by.new.launcher; faults = g.L.Launcher.faults c.update_by.new.launcher };
      flash = d.flash c.update_by.new.flash;
    } in
    keeps_since c.args.name.now c.args.uris.now l before middle after refl (c.in-Ok-read.ensures anywhere.flash).0.quiet.files (g.D.Disk.extent c.args.flash.now) refl
    (g.D.Disk.flash c.args.flash.now) (g.D.Disk.flash c.config_in.new.flash)
    (g.met.D.Disk.obeys c.args.flash.now told) law same c.in-Ok.config.0 c.in-Ok.config.1 c.in-Ok.config.2 c.in-Ok.ensures.allowed ((c.in-Ok.ensures.finds anywhere).1 told) settled c.in-Ok-read.bytes (c.in-Ok-read.ensures _).1
    (admission_of c.in-Ok-accept.accepted) (accepted_as c.in-Ok.config.2 c.in-Ok.config.0 c.in-Ok.config.1 _ _ c.as_slice.ensures (admission_of c.in-Ok-accept.accepted) (c.in-Ok-accept.ensures.finds anywhere).1)
    c.config_laws.ensures.answer (ended_of c.update_by.result) (keeps_as c.in-Ok.config.2 c.in-Ok.config.0 c.in-Ok.config.1 _ _ (c.in-Ok-accept.ensures.whole ∙ c.as_slice.ensures) (admission_of c.in-Ok-accept.accepted) c.args.uris.now since after (ended_of c.update_by.result)
    (c.update_by.ensures.keeps told (settled_later _ _ _ law same settled)))

pub returns-in-Err-clause-flash : goal.returns-in-Err-clause-flash
returns-in-Err-clause-flash g c told = order_looked c.sound_laws.ensures _ _ _ (g.met.D.Disk.obeys c.config_in.new.flash told) (c.in-Err.ensures.same told) _ _

pub returns-in-Err-read-clause-flash : goal.returns-in-Err-read-clause-flash
returns-in-Err-read-clause-flash g c told = order_looked c.sound_laws.ensures _ _ _ (g.met.D.Disk.obeys c.config_in.new.flash told) (c.in-Ok.ensures.same told) _ _

pub returns-in-Err-accept-clause-flash : goal.returns-in-Err-accept-clause-flash
returns-in-Err-accept-clause-flash g c told = order_looked c.sound_laws.ensures _ _ _ (g.met.D.Disk.obeys c.config_in.new.flash told) (c.in-Ok.ensures.same told) _ _

pub returns-clause-flash : goal.returns-clause-flash
returns-clause-flash g c told =
    order_then c.sound_laws.ensures _ _ _ (g.met.D.Disk.obeys c.config_in.new.flash told) (c.in-Ok.ensures.same told) _ _ _ _ (c.in-Ok.ensures.finds anywhere).0.faults
    (c.update_by.ensures.flash told)
