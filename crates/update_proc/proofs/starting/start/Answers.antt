use Rattle.std.specs.Prelude.{IsTrue}
use Rattle.std.proofs.Common.{◌≡◌, ℕ, List, Bor, Option, Some, inl, inr, option_map, refl, sym, ap, ◌∙◌, subst, arith}
use Rattle.suit_commands.specs.Allowed.{IsPlan}
use Rattle.suit_commands.specs.Plans.{plan_tree}
use Rattle.suit_commands.specs.Tree.{PlanTree}
use Rattle.step_machine.specs.PlanRuns.{OutsideTargets}
use Rattle.step_machine.specs.Programs.{program_tree}
use Rattle.step_machine.specs.UrisSet.{HasFetch}
use Rattle.suit_edge.specs.Flash.{IsFlash, IsSame, IsSettled, Keeps, Now, Passes}
use Rattle.suit_edge.specs.FlashLaws.{grows_start, grows_then, same_flash, starts}
use Rattle.suit_envelope.specs.declared.envelope.Envelope.{Envelope}
use Rattle.flash_layout.specs.declared.slot.Record.{Record}
use Rattle.flash_layout.specs.Frames.{IsFrame, head_of}
use Rattle.rollback_record.specs.Committing.{HasSpare}
use Rattle.rollback_record.specs.HeadRecord.{RecordOf}
use Rattle.rollback_record.proofs.SettledLaws.{each_sound}
use Rattle.rollback_record.specs.SoundFlash.{Follows, Sound}
use Rattle.step_machine.specs.Fetching.{ArePayloads, AsksAmong, asked_at}
use Rattle.step_machine.specs.declared.plan_end.PlanEnd.{PlanEnd}
use Rattle.step_machine.specs.declared.plan_end.PlanEnd.TheVariants as plays
use Rattle.update_proc.specs.declared.update_end.UpdateEnd.{UpdateEnd}
use Rattle.update_proc.specs.Choices.{active_slots}
use Rattle.update_proc.specs.Ends.{IsUnbegun}
use Rattle.update_proc.specs.Records.{new_record}
use Rattle.update_proc.specs.Updates.{KeepsUpdate, KeptSo, LeavesUpdate, PlayedSo, PlaysToEnd, PlaysUpdate, hosted, sources}
use Rattle.update_proc.specs.Moments.{placed_on}
use Rattle.step_machine.specs.Devices.{device_at}
use Rattle.step_machine.proofs.Asking.{asks_none}
use Rattle.update_proc.proofs.Finished.{after, counts_after, held_as, installed_as, no_earlier, not_worn, plays_update, reads_same, starts_after, stopped_at, stopped_by, stopped_or_done, told_at, told_by, told_plays, unfaulted}
use Rattle.update_proc.proofs.InUseSlots.{chosen_as, in_use_as_held}
use Rattle.update_proc.proofs.Installs.{held_or_same}
use Rattle.update_proc.proofs.MomentProofs.{beside}
use Rattle.rollback_record.proofs.HeadSince.{follows_now}
use Rattle.update_proc.proofs.Started.{active_b, contents_made, contents_since, follows_all, head_b, moment_at_end, moments_of, new_as, new_at_end, new_is, old_all, old_at_end, sound_all, told_b, was_b}
use Rattle.update_proc.proofs.starting.start.Goals as goal

abbrev held_of : Option (Bor Record) → Option Record
held_of held = option_map (λ r. r.now) held

pub choose_slots-slots-requires-clause-layout : goal.choose_slots-slots-requires-clause-layout
choose_slots-slots-requires-clause-layout g c =
    (c.args.accepted.now.frame, g.D.Disk.extent c.args.disk.now, c.requires.layout)

pub choose_slots-slots-requires-clause-places : goal.choose_slots-slots-requires-clause-places
choose_slots-slots-requires-clause-places g c = c.requires.distinct.few

pub choose_slots-slots-requires-clause-plan : goal.choose_slots-slots-requires-clause-plan
choose_slots-slots-requires-clause-plan g c = c.requires.plan

pub new-requires-clause-places : goal.new-requires-clause-places
new-requires-clause-places g c = c.requires.distinct

pub new-requires-clause-slots : goal.new-requires-clause-slots
new-requires-clause-slots g c = c.choose_slots-slots.ensures.choice

pub returns-in-Err-clause-size : goal.returns-in-Err-clause-size
returns-in-Err-clause-size g c = refl

pub returns-in-Err-clause-counts : goal.returns-in-Err-clause-counts
returns-in-Err-clause-counts g c = refl

pub returns-in-Err-clause-files : goal.returns-in-Err-clause-files
returns-in-Err-clause-files g c t = refl

pub returns-in-Err-clause-asked : goal.returns-in-Err-clause-asked
returns-in-Err-clause-asked g c t room rooms = asks_none (plan_tree c.args.accepted.now.plan.now) c.args.accepted.now.uris.now room _

pub returns-clause-asked : goal.returns-clause-asked
returns-clause-asked g c t room rooms =
    let h = g.H.Host in
    subst (λ (words : List (List ℕ × List ℕ)). AsksAmong (plan_tree c.args.accepted.now.plan.now) words room (asked_at (h.asked c.args.host.now) (h.pulled c.args.host.now)) (asked_at (h.asked c.run_plan-end.new.host) (h.pulled c.run_plan-end.new.host)))
    c.in-Ok.ensures.uris (subst (λ (x : PlanTree). AsksAmong x c.in-Ok.world.uris.now room (asked_at (h.asked c.args.host.now) (h.pulled c.args.host.now)) (asked_at (h.asked c.run_plan-end.new.host) (h.pulled c.run_plan-end.new.host))) (c.program_of-program.ensures c.requires.said.0 c.requires.said.1 c.requires.said.2 c.requires.said.3 ∙ sym c.requires.said.4) (c.run_plan-end.ensures.asked t room (c.in-Ok.ensures.rooms room rooms)))

pub returns-in-Err-clause-unfetched : goal.returns-in-Err-clause-unfetched
returns-in-Err-clause-unfetched g c none = refl

pub returns-clause-unfetched : goal.returns-clause-unfetched
returns-clause-unfetched g c none = c.run_plan-end.ensures.unfetched (λ has. none (subst HasFetch (c.program_of-program.ensures c.requires.said.0 c.requires.said.1 c.requires.said.2 c.requires.said.3 ∙ sym c.requires.said.4) has))

pub returns-in-Err-clause-unbegun : goal.returns-in-Err-clause-unbegun
returns-in-Err-clause-unbegun g c is = refl

pub returns-clause-unbegun : goal.returns-clause-unbegun
returns-clause-unbegun g c =
    after c.run_plan-end.result c.finish.result _ _ c.finish.ensures.answer (λ answer. IsUnbegun answer → c.run_plan-end.new.host ≡ c.args.host.now)
    (λ r same ended never. absurd never) (λ place same ended never. absurd never) (λ place cause same ended never. absurd never) (λ whole never. absurd never)

pub returns-in-Err-clause-plays : goal.returns-in-Err-clause-plays
returns-in-Err-clause-plays g c td tl payloads has = refl

pub returns-in-Err-clause-follows : goal.returns-in-Err-clause-follows
returns-in-Err-clause-follows g c t settled =
    starts (g.D.Disk.flash c.args.disk.now) (Follows (g.D.Disk.flash c.args.disk.now).reads) (follows_now c.sound_laws.ensures (g.D.Disk.flash c.args.disk.now) settled)

pub returns-in-Err-clause-settled : goal.returns-in-Err-clause-settled
returns-in-Err-clause-settled g c t = inl (same_flash (g.D.Disk.flash c.args.disk.now))

pub returns-in-Err-clause-sound : goal.returns-in-Err-clause-sound
returns-in-Err-clause-sound g c t settled may =
    starts (g.D.Disk.flash c.args.disk.now) Sound (each_sound (g.D.Disk.flash c.args.disk.now) settled)

pub returns-in-Err-clause-keeps : goal.returns-in-Err-clause-keeps
returns-in-Err-clause-keeps g c t settled = same_flash (g.D.Disk.flash c.args.disk.now)

pub returns-in-Err-clause-grows : goal.returns-in-Err-clause-grows
returns-in-Err-clause-grows g c t = grows_start (g.D.Disk.flash c.args.disk.now)

pub program_of-program-requires-clause-manifest : goal.program_of-program-requires-clause-manifest
program_of-program-requires-clause-manifest g c = (c.requires.said.0, c.requires.said.2)

pub run_plan-end-requires-clause-standings : goal.run_plan-end-requires-clause-standings
run_plan-end-requires-clause-standings g c = c.in-Ok.ensures.fit c.args.accepted.now.frame (g.D.Disk.extent c.args.disk.now) c.requires.layout

pub run_plan-end-requires-clause-plan : goal.run_plan-end-requires-clause-plan
run_plan-end-requires-clause-plan g c = subst IsPlan (sym (c.program_of-program.ensures c.requires.said.0 c.requires.said.1 c.requires.said.2 c.requires.said.3 ∙ sym c.requires.said.4)) c.requires.plan

pub run_plan-end-requires-clause-count : goal.run_plan-end-requires-clause-count
run_plan-end-requires-clause-count g c = ap (λ (x : PlanTree). x.count) (c.program_of-program.ensures c.requires.said.0 c.requires.said.1 c.requires.said.2 c.requires.said.3 ∙ sym c.requires.said.4) ∙ c.requires.count ∙ sym c.in-Ok.ensures.stand.count

pub finish-requires-clause-ready : goal.finish-requires-clause-ready
finish-requires-clause-ready g c = record {
  frame_is = subst (λ (n : ℕ). IsFrame n c.args.accepted.now.frame) (sym c.run_plan-end.ensures.size) c.requires.frame;
  loadable = c.requires.loadable;
  worn = not_worn c.args.accepted.now.frame (held_of c.args.accepted.now.held) c.args.accepted.now.sequence c.args.accepted.now.digest c.requires.loadable c.requires.judged;
  fits = c.requires.fits;
}

pub finish-requires-clause-frame : goal.finish-requires-clause-frame
finish-requires-clause-frame g c = subst (λ (n : ℕ). IsFrame n c.args.accepted.now.frame) (sym c.run_plan-end.ensures.size) c.requires.frame

pub finish-requires-clause-held : goal.finish-requires-clause-held
finish-requires-clause-held g c t =
    let chosen = (chosen_as c.args.layout.now c.args.places.now (plan_tree c.args.accepted.now.plan.now) c.choose_slots-slots.ensures.chosen.0 (active_slots (held_of c.args.accepted.now.held)) c.choose_slots-slots.result.number (in_use_as_held c.args.accepted.now.frame (g.D.Disk.extent c.args.disk.now) (g.D.Disk.flash c.args.disk.now).reads c.args.layout.now (c.requires.config t).0 (held_of c.args.accepted.now.held) (c.requires.config t).1 (c.requires.held t) c.requires.loadable c.choose_slots-slots.ensures.chosen.0 c.choose_slots-slots.ensures.chosen.1) c.choose_slots-slots.ensures.chosen.2) in
    let law_b = (subst (λ (n : ℕ). IsFlash (g.D.Disk.flash c.run_plan-end.new.disk) n) c.run_plan-end.ensures.size (g.met.D.Disk.obeys c.run_plan-end.new.disk t)) in
    was_b c.sound_laws.ensures c.moment_laws.ensures c.choice_laws.ensures c.args.accepted.now.frame (g.D.Disk.extent c.args.disk.now) c.requires.frame c.args.layout.now c.requires.layout c.args.places.now (plan_tree c.args.accepted.now.plan.now) (held_of c.args.accepted.now.held) c.requires.loadable c.choose_slots-slots.result.number c.in-Ok.world.standings.items c.requires.distinct c.choose_slots-slots.ensures.choice c.in-Ok.ensures.stand chosen (g.D.Disk.flash c.args.disk.now) (g.D.Disk.flash c.run_plan-end.new.disk) (g.met.D.Disk.obeys c.args.disk.now t) law_b (c.requires.config t).0 (c.requires.config t).1 (c.requires.held t) (subst (λ (x : PlanTree). Keeps (OutsideTargets x c.in-Ok.world.standings.items) (g.D.Disk.flash c.args.disk.now) (g.D.Disk.flash c.run_plan-end.new.disk)) (c.program_of-program.ensures c.requires.said.0 c.requires.said.1 c.requires.said.2 c.requires.said.3 ∙ sym c.requires.said.4) (c.run_plan-end.ensures.keeps t))

pub finish-requires-clause-told : goal.finish-requires-clause-told
finish-requires-clause-told g c t =
    let chosen = (chosen_as c.args.layout.now c.args.places.now (plan_tree c.args.accepted.now.plan.now) c.choose_slots-slots.ensures.chosen.0 (active_slots (held_of c.args.accepted.now.held)) c.choose_slots-slots.result.number (in_use_as_held c.args.accepted.now.frame (g.D.Disk.extent c.args.disk.now) (g.D.Disk.flash c.args.disk.now).reads c.args.layout.now (c.requires.config t).0 (held_of c.args.accepted.now.held) (c.requires.config t).1 (c.requires.held t) c.requires.loadable c.choose_slots-slots.ensures.chosen.0 c.choose_slots-slots.ensures.chosen.1) c.choose_slots-slots.ensures.chosen.2) in
    let law_b = (subst (λ (n : ℕ). IsFlash (g.D.Disk.flash c.run_plan-end.new.disk) n) c.run_plan-end.ensures.size (g.met.D.Disk.obeys c.run_plan-end.new.disk t)) in
    told_b c.sound_laws.ensures c.moment_laws.ensures c.choice_laws.ensures c.args.accepted.now.frame (g.D.Disk.extent c.args.disk.now) c.requires.frame c.args.layout.now c.requires.layout c.args.places.now (plan_tree c.args.accepted.now.plan.now) (held_of c.args.accepted.now.held) c.requires.loadable c.choose_slots-slots.result.number c.in-Ok.world.standings.items c.requires.distinct c.choose_slots-slots.ensures.choice c.in-Ok.ensures.stand chosen (g.D.Disk.flash c.args.disk.now) (g.D.Disk.flash c.run_plan-end.new.disk) (g.met.D.Disk.obeys c.args.disk.now t) law_b (c.requires.config t).0 (c.requires.config t).1 (c.requires.held t) (subst (λ (x : PlanTree). Keeps (OutsideTargets x c.in-Ok.world.standings.items) (g.D.Disk.flash c.args.disk.now) (g.D.Disk.flash c.run_plan-end.new.disk)) (c.program_of-program.ensures c.requires.said.0 c.requires.said.1 c.requires.said.2 c.requires.said.3 ∙ sym c.requires.said.4) (c.run_plan-end.ensures.keeps t))

pub finish-requires-clause-spare : goal.finish-requires-clause-spare
finish-requires-clause-spare g c t =
    let chosen = (chosen_as c.args.layout.now c.args.places.now (plan_tree c.args.accepted.now.plan.now) c.choose_slots-slots.ensures.chosen.0 (active_slots (held_of c.args.accepted.now.held)) c.choose_slots-slots.result.number (in_use_as_held c.args.accepted.now.frame (g.D.Disk.extent c.args.disk.now) (g.D.Disk.flash c.args.disk.now).reads c.args.layout.now (c.requires.config t).0 (held_of c.args.accepted.now.held) (c.requires.config t).1 (c.requires.held t) c.requires.loadable c.choose_slots-slots.ensures.chosen.0 c.choose_slots-slots.ensures.chosen.1) c.choose_slots-slots.ensures.chosen.2) in
    let law_b = (subst (λ (n : ℕ). IsFlash (g.D.Disk.flash c.run_plan-end.new.disk) n) c.run_plan-end.ensures.size (g.met.D.Disk.obeys c.run_plan-end.new.disk t)) in
    subst (λ (h : List ℕ). HasSpare c.args.accepted.now.frame h (held_of c.args.accepted.now.held) c.args.accepted.now.spare) (sym (head_b c.sound_laws.ensures c.moment_laws.ensures c.choice_laws.ensures c.args.accepted.now.frame (g.D.Disk.extent c.args.disk.now) c.requires.frame c.args.layout.now c.requires.layout c.args.places.now (plan_tree c.args.accepted.now.plan.now) (held_of c.args.accepted.now.held) c.requires.loadable c.choose_slots-slots.result.number c.in-Ok.world.standings.items c.requires.distinct c.choose_slots-slots.ensures.choice c.in-Ok.ensures.stand chosen (g.D.Disk.flash c.args.disk.now) (g.D.Disk.flash c.run_plan-end.new.disk) (g.met.D.Disk.obeys c.args.disk.now t) law_b (c.requires.config t).0 (c.requires.config t).1 (c.requires.held t) (subst (λ (x : PlanTree). Keeps (OutsideTargets x c.in-Ok.world.standings.items) (g.D.Disk.flash c.args.disk.now) (g.D.Disk.flash c.run_plan-end.new.disk)) (c.program_of-program.ensures c.requires.said.0 c.requires.said.1 c.requires.said.2 c.requires.said.3 ∙ sym c.requires.said.4) (c.run_plan-end.ensures.keeps t)))) (c.requires.spare t)

pub finish-requires-clause-active : goal.finish-requires-clause-active
finish-requires-clause-active g c t =
    let chosen = (chosen_as c.args.layout.now c.args.places.now (plan_tree c.args.accepted.now.plan.now) c.choose_slots-slots.ensures.chosen.0 (active_slots (held_of c.args.accepted.now.held)) c.choose_slots-slots.result.number (in_use_as_held c.args.accepted.now.frame (g.D.Disk.extent c.args.disk.now) (g.D.Disk.flash c.args.disk.now).reads c.args.layout.now (c.requires.config t).0 (held_of c.args.accepted.now.held) (c.requires.config t).1 (c.requires.held t) c.requires.loadable c.choose_slots-slots.ensures.chosen.0 c.choose_slots-slots.ensures.chosen.1) c.choose_slots-slots.ensures.chosen.2) in
    let law_b = (subst (λ (n : ℕ). IsFlash (g.D.Disk.flash c.run_plan-end.new.disk) n) c.run_plan-end.ensures.size (g.met.D.Disk.obeys c.run_plan-end.new.disk t)) in
    active_b c.sound_laws.ensures c.moment_laws.ensures c.choice_laws.ensures c.args.accepted.now.frame (g.D.Disk.extent c.args.disk.now) c.requires.frame c.args.layout.now c.requires.layout c.args.places.now (plan_tree c.args.accepted.now.plan.now) (held_of c.args.accepted.now.held) c.requires.loadable c.choose_slots-slots.result.number c.in-Ok.world.standings.items c.requires.distinct c.choose_slots-slots.ensures.choice c.in-Ok.ensures.stand chosen (g.D.Disk.flash c.args.disk.now) (g.D.Disk.flash c.run_plan-end.new.disk) (g.met.D.Disk.obeys c.args.disk.now t) law_b (c.requires.config t).0 (c.requires.config t).1 (c.requires.held t) (subst (λ (x : PlanTree). Keeps (OutsideTargets x c.in-Ok.world.standings.items) (g.D.Disk.flash c.args.disk.now) (g.D.Disk.flash c.run_plan-end.new.disk)) (c.program_of-program.ensures c.requires.said.0 c.requires.said.1 c.requires.said.2 c.requires.said.3 ∙ sym c.requires.said.4) (c.run_plan-end.ensures.keeps t))

pub returns-clause-size : goal.returns-clause-size
returns-clause-size g c = c.finish.ensures.size ∙ c.run_plan-end.ensures.size

pub returns-clause-starts : goal.returns-clause-starts
returns-clause-starts g c = starts_after c.run_plan-end.result c.finish.result _ _ c.finish.ensures.answer

pub returns-clause-counts : goal.returns-clause-counts
returns-clause-counts g c =
    counts_after c.run_plan-end.result c.finish.result _ _ c.finish.ensures.answer _ _ _ _ _ c.run_plan-end.ensures.counts

pub returns-clause-files : goal.returns-clause-files
returns-clause-files g c t = c.run_plan-end.ensures.files t

pub returns-in-Err-clause-later : goal.returns-in-Err-clause-later
returns-in-Err-clause-later g c t = omega arith

pub returns-clause-later : goal.returns-clause-later
returns-clause-later g c t = omega (arith, (c.run_plan-end.ensures.keeps t).images.later, (c.finish.ensures.any_moment t).later)

pub returns-clause-sound : goal.returns-clause-sound
returns-clause-sound g c t settled may =
    let chosen = (chosen_as c.args.layout.now c.args.places.now (plan_tree c.args.accepted.now.plan.now) c.choose_slots-slots.ensures.chosen.0 (active_slots (held_of c.args.accepted.now.held)) c.choose_slots-slots.result.number (in_use_as_held c.args.accepted.now.frame (g.D.Disk.extent c.args.disk.now) (g.D.Disk.flash c.args.disk.now).reads c.args.layout.now (c.requires.config t).0 (held_of c.args.accepted.now.held) (c.requires.config t).1 (c.requires.held t) c.requires.loadable c.choose_slots-slots.ensures.chosen.0 c.choose_slots-slots.ensures.chosen.1) c.choose_slots-slots.ensures.chosen.2) in
    let law_b = (subst (λ (n : ℕ). IsFlash (g.D.Disk.flash c.run_plan-end.new.disk) n) c.run_plan-end.ensures.size (g.met.D.Disk.obeys c.run_plan-end.new.disk t)) in
    let law_d = (subst (λ (n : ℕ). IsFlash (g.D.Disk.flash c.finish.new.disk) n) (c.finish.ensures.size ∙ c.run_plan-end.ensures.size) (g.met.D.Disk.obeys c.finish.new.disk t)) in
    sound_all c.sound_laws.ensures c.moment_laws.ensures c.choice_laws.ensures c.args.accepted.now.frame (g.D.Disk.extent c.args.disk.now) c.requires.frame c.args.layout.now c.requires.layout c.args.places.now (plan_tree c.args.accepted.now.plan.now) (held_of c.args.accepted.now.held) c.requires.loadable c.choose_slots-slots.result.number c.in-Ok.world.standings.items c.requires.distinct c.choose_slots-slots.ensures.choice c.in-Ok.ensures.stand chosen (g.D.Disk.flash c.args.disk.now) (g.D.Disk.flash c.run_plan-end.new.disk) (g.met.D.Disk.obeys c.args.disk.now t) law_b (c.requires.config t).0 (c.requires.config t).1 (c.requires.held t) (subst (λ (x : PlanTree). Keeps (OutsideTargets x c.in-Ok.world.standings.items) (g.D.Disk.flash c.args.disk.now) (g.D.Disk.flash c.run_plan-end.new.disk)) (c.program_of-program.ensures c.requires.said.0 c.requires.said.1 c.requires.said.2 c.requires.said.3 ∙ sym c.requires.said.4) (c.run_plan-end.ensures.keeps t)) settled c.args.accepted.now.bytes.now c.args.accepted.now.sequence c.args.accepted.now.digest c.requires.fits (g.D.Disk.flash c.finish.new.disk) law_d (c.finish.ensures.sound t) (may c.choose_slots-slots.result.number chosen)

pub returns-clause-follows : goal.returns-clause-follows
returns-clause-follows g c t settled =
    let chosen = (chosen_as c.args.layout.now c.args.places.now (plan_tree c.args.accepted.now.plan.now) c.choose_slots-slots.ensures.chosen.0 (active_slots (held_of c.args.accepted.now.held)) c.choose_slots-slots.result.number (in_use_as_held c.args.accepted.now.frame (g.D.Disk.extent c.args.disk.now) (g.D.Disk.flash c.args.disk.now).reads c.args.layout.now (c.requires.config t).0 (held_of c.args.accepted.now.held) (c.requires.config t).1 (c.requires.held t) c.requires.loadable c.choose_slots-slots.ensures.chosen.0 c.choose_slots-slots.ensures.chosen.1) c.choose_slots-slots.ensures.chosen.2) in
    let law_b = (subst (λ (n : ℕ). IsFlash (g.D.Disk.flash c.run_plan-end.new.disk) n) c.run_plan-end.ensures.size (g.met.D.Disk.obeys c.run_plan-end.new.disk t)) in
    let law_d = (subst (λ (n : ℕ). IsFlash (g.D.Disk.flash c.finish.new.disk) n) (c.finish.ensures.size ∙ c.run_plan-end.ensures.size) (g.met.D.Disk.obeys c.finish.new.disk t)) in
    follows_all c.sound_laws.ensures c.moment_laws.ensures c.choice_laws.ensures c.args.accepted.now.frame (g.D.Disk.extent c.args.disk.now) c.requires.frame c.args.layout.now c.requires.layout c.args.places.now (plan_tree c.args.accepted.now.plan.now) (held_of c.args.accepted.now.held) c.requires.loadable c.choose_slots-slots.result.number c.in-Ok.world.standings.items c.requires.distinct c.choose_slots-slots.ensures.choice c.in-Ok.ensures.stand chosen (g.D.Disk.flash c.args.disk.now) (g.D.Disk.flash c.run_plan-end.new.disk) (g.met.D.Disk.obeys c.args.disk.now t) law_b (c.requires.config t).0 (c.requires.config t).1 (c.requires.held t) (subst (λ (x : PlanTree). Keeps (OutsideTargets x c.in-Ok.world.standings.items) (g.D.Disk.flash c.args.disk.now) (g.D.Disk.flash c.run_plan-end.new.disk)) (c.program_of-program.ensures c.requires.said.0 c.requires.said.1 c.requires.said.2 c.requires.said.3 ∙ sym c.requires.said.4) (c.run_plan-end.ensures.keeps t)) settled c.args.accepted.now.bytes.now c.args.accepted.now.sequence c.args.accepted.now.digest c.requires.fits (g.D.Disk.flash c.finish.new.disk) law_d (c.finish.ensures.follows t)
    (no_earlier (held_of c.args.accepted.now.held) (new_record c.args.accepted.now.frame (held_of c.args.accepted.now.held) (g.D.Disk.flash c.run_plan-end.new.disk).reads c.args.accepted.now.bytes.now c.args.accepted.now.sequence c.args.accepted.now.digest c.choose_slots-slots.result.number) c.args.accepted.now.sequence c.args.accepted.now.digest refl refl c.requires.judged)

pub returns-clause-settled : goal.returns-clause-settled
returns-clause-settled g c t =
    unfaulted (IsSettled (g.D.Disk.flash c.finish.new.disk)) _ c.finish.result (λ s. inr s) (c.finish.ensures.settled t)

pub returns-clause-grows : goal.returns-clause-grows
returns-clause-grows g c t =
    grows_then (g.D.Disk.flash c.args.disk.now) (g.D.Disk.flash c.run_plan-end.new.disk) (g.D.Disk.flash c.finish.new.disk) (c.run_plan-end.ensures.keeps t).images.later (c.run_plan-end.ensures.grows t) (c.finish.ensures.grows t)

pub returns-clause-keeps : goal.returns-clause-keeps
returns-clause-keeps g c t settled =
    let chosen = (chosen_as c.args.layout.now c.args.places.now (plan_tree c.args.accepted.now.plan.now) c.choose_slots-slots.ensures.chosen.0 (active_slots (held_of c.args.accepted.now.held)) c.choose_slots-slots.result.number (in_use_as_held c.args.accepted.now.frame (g.D.Disk.extent c.args.disk.now) (g.D.Disk.flash c.args.disk.now).reads c.args.layout.now (c.requires.config t).0 (held_of c.args.accepted.now.held) (c.requires.config t).1 (c.requires.held t) c.requires.loadable c.choose_slots-slots.ensures.chosen.0 c.choose_slots-slots.ensures.chosen.1) c.choose_slots-slots.ensures.chosen.2) in
    let law_b = (subst (λ (n : ℕ). IsFlash (g.D.Disk.flash c.run_plan-end.new.disk) n) c.run_plan-end.ensures.size (g.met.D.Disk.obeys c.run_plan-end.new.disk t)) in
    let law_d = (subst (λ (n : ℕ). IsFlash (g.D.Disk.flash c.finish.new.disk) n) (c.finish.ensures.size ∙ c.run_plan-end.ensures.size) (g.met.D.Disk.obeys c.finish.new.disk t)) in
    let moments = moments_of c.sound_laws.ensures c.moment_laws.ensures c.choice_laws.ensures c.args.accepted.now.frame (g.D.Disk.extent c.args.disk.now) c.requires.frame c.args.layout.now c.requires.layout c.args.places.now (plan_tree c.args.accepted.now.plan.now) (held_of c.args.accepted.now.held) c.requires.loadable c.choose_slots-slots.result.number c.in-Ok.world.standings.items c.requires.distinct c.choose_slots-slots.ensures.choice c.in-Ok.ensures.stand chosen (g.D.Disk.flash c.args.disk.now) (g.D.Disk.flash c.run_plan-end.new.disk) (g.met.D.Disk.obeys c.args.disk.now t) law_b (c.requires.config t).0 (c.requires.config t).1 (c.requires.held t) (subst (λ (x : PlanTree). Keeps (OutsideTargets x c.in-Ok.world.standings.items) (g.D.Disk.flash c.args.disk.now) (g.D.Disk.flash c.run_plan-end.new.disk)) (c.program_of-program.ensures c.requires.said.0 c.requires.said.1 c.requires.said.2 c.requires.said.3 ∙ sym c.requires.said.4) (c.run_plan-end.ensures.keeps t)) settled c.args.accepted.now.bytes.now c.args.accepted.now.sequence c.args.accepted.now.digest c.requires.fits (g.D.Disk.flash c.finish.new.disk) law_d (c.finish.ensures.any_moment t) in
    let b = g.D.Disk.flash c.run_plan-end.new.disk in
    let d = g.D.Disk.flash c.finish.new.disk in
    let Done : List ℕ → Type 0 = (λ made. IsTrue g.H.Host.told → IsTrue g.L.Launcher.told → PlaysToEnd (placed_on c.args.accepted.now.frame c.args.layout.now c.args.places.now (plan_tree c.args.accepted.now.plan.now)) (held_of c.args.accepted.now.held) c.args.accepted.now.envelope.now.whole.now c.args.accepted.now.uris.now (g.H.Host.file c.args.host.now) (device_at (g.D.Disk.flash c.args.disk.now).reads (g.L.Launcher.launches c.args.launcher.now)) (device_at made (g.L.Launcher.launches c.run_plan-end.new.launcher))) in
    let did : c.run_plan-end.result ≡ plays.Done → Done b.reads = λ ended th tl payloads has. (
      g.H.Host.asked c.args.host.now,
      g.H.Host.asked c.run_plan-end.new.host,
      told_plays _ _ _ _ _ _ _ _ _ _ _ th (subst (λ (end : PlanEnd). PlaysUpdate (placed_on c.args.accepted.now.frame c.args.layout.now c.args.places.now (plan_tree c.args.accepted.now.plan.now)) (held_of c.args.accepted.now.held) (sources payloads c.args.accepted.now.uris.now (hosted g.H.Host.told (g.H.Host.file c.args.host.now) (g.H.Host.asked c.args.host.now) (g.H.Host.asked c.run_plan-end.new.host))) (device_at (g.D.Disk.flash c.args.disk.now).reads (g.L.Launcher.launches c.args.launcher.now)) (device_at b.reads (g.L.Launcher.launches c.run_plan-end.new.launcher)) end) ended
          (plays_update c.args.accepted.now.frame c.args.layout.now c.args.places.now (plan_tree c.args.accepted.now.plan.now) (held_of c.args.accepted.now.held) payloads c.in-Ok.world.uris.now c.args.accepted.now.uris.now (hosted g.H.Host.told (g.H.Host.file c.args.host.now) (g.H.Host.asked c.args.host.now) (g.H.Host.asked c.run_plan-end.new.host)) (g.D.Disk.flash c.args.disk.now).reads (g.D.Disk.flash c.run_plan-end.new.disk).reads (g.L.Launcher.launches c.args.launcher.now) (g.L.Launcher.launches c.run_plan-end.new.launcher) c.run_plan-end.result c.choose_slots-slots.result.number c.in-Ok.world.standings.items c.in-Ok.world.ram c.run_plan-end.new.world.ram chosen c.choose_slots-slots.ensures.choice c.in-Ok.ensures.stand c.in-Ok.ensures.ram c.in-Ok.ensures.uris
          (program_tree c.program_of-program.result) (c.program_of-program.ensures c.requires.said.0 c.requires.said.1 c.requires.said.2 c.requires.said.3 ∙ sym c.requires.said.4) (c.run_plan-end.ensures.plays refl refl t tl payloads (subst (λ (e : Option (Bor Envelope)). ArePayloads e payloads) (sym c.in-Ok.ensures.envelope) has)))),
    ) in
    let others = contents_made c.sound_laws.ensures c.moment_laws.ensures c.choice_laws.ensures c.args.accepted.now.frame (g.D.Disk.extent c.args.disk.now) c.requires.frame c.args.layout.now c.requires.layout c.args.places.now (plan_tree c.args.accepted.now.plan.now) (held_of c.args.accepted.now.held) c.requires.loadable c.choose_slots-slots.result.number c.in-Ok.world.standings.items c.requires.distinct c.choose_slots-slots.ensures.choice c.in-Ok.ensures.stand chosen (g.D.Disk.flash c.args.disk.now) (g.D.Disk.flash c.run_plan-end.new.disk) (g.met.D.Disk.obeys c.args.disk.now t) law_b (c.requires.config t).0 (c.requires.config t).1 (c.requires.held t) (subst (λ (x : PlanTree). Keeps (OutsideTargets x c.in-Ok.world.standings.items) (g.D.Disk.flash c.args.disk.now) (g.D.Disk.flash c.run_plan-end.new.disk)) (c.program_of-program.ensures c.requires.said.0 c.requires.said.1 c.requires.said.2 c.requires.said.3 ∙ sym c.requires.said.4) (c.run_plan-end.ensures.keeps t)) in
    let stays = old_all c.sound_laws.ensures c.moment_laws.ensures c.choice_laws.ensures c.args.accepted.now.frame (g.D.Disk.extent c.args.disk.now) c.requires.frame c.args.layout.now c.requires.layout c.args.places.now (plan_tree c.args.accepted.now.plan.now) (held_of c.args.accepted.now.held) c.requires.loadable c.choose_slots-slots.result.number c.in-Ok.world.standings.items c.requires.distinct c.choose_slots-slots.ensures.choice c.in-Ok.ensures.stand chosen (g.D.Disk.flash c.args.disk.now) (g.D.Disk.flash c.run_plan-end.new.disk) (g.met.D.Disk.obeys c.args.disk.now t) law_b (c.requires.config t).0 (c.requires.config t).1 (c.requires.held t) (subst (λ (x : PlanTree). Keeps (OutsideTargets x c.in-Ok.world.standings.items) (g.D.Disk.flash c.args.disk.now) (g.D.Disk.flash c.run_plan-end.new.disk)) (c.program_of-program.ensures c.requires.said.0 c.requires.said.1 c.requires.said.2 c.requires.said.3 ∙ sym c.requires.said.4) (c.run_plan-end.ensures.keeps t)) settled c.args.accepted.now.bytes.now c.args.accepted.now.sequence c.args.accepted.now.digest c.requires.fits (g.D.Disk.flash c.finish.new.disk) law_d in
    let old_left = old_at_end c.sound_laws.ensures c.moment_laws.ensures c.choice_laws.ensures c.args.accepted.now.frame (g.D.Disk.extent c.args.disk.now) c.requires.frame c.args.layout.now c.requires.layout c.args.places.now (plan_tree c.args.accepted.now.plan.now) (held_of c.args.accepted.now.held) c.requires.loadable c.choose_slots-slots.result.number c.in-Ok.world.standings.items c.requires.distinct c.choose_slots-slots.ensures.choice c.in-Ok.ensures.stand chosen (g.D.Disk.flash c.args.disk.now) (g.D.Disk.flash c.run_plan-end.new.disk) (g.met.D.Disk.obeys c.args.disk.now t) law_b (c.requires.config t).0 (c.requires.config t).1 (c.requires.held t) (subst (λ (x : PlanTree). Keeps (OutsideTargets x c.in-Ok.world.standings.items) (g.D.Disk.flash c.args.disk.now) (g.D.Disk.flash c.run_plan-end.new.disk)) (c.program_of-program.ensures c.requires.said.0 c.requires.said.1 c.requires.said.2 c.requires.said.3 ∙ sym c.requires.said.4) (c.run_plan-end.ensures.keeps t)) settled c.args.accepted.now.bytes.now c.args.accepted.now.sequence c.args.accepted.now.digest c.requires.fits (g.D.Disk.flash c.finish.new.disk) law_d in
    let Kept : UpdateEnd → Type 0 = KeepsUpdate (placed_on c.args.accepted.now.frame c.args.layout.now c.args.places.now (plan_tree c.args.accepted.now.plan.now)) Done (held_of c.args.accepted.now.held) (λ numbers. new_record c.args.accepted.now.frame (held_of c.args.accepted.now.held) (g.D.Disk.flash c.args.disk.now).reads c.args.accepted.now.bytes.now c.args.accepted.now.sequence c.args.accepted.now.digest numbers) (g.D.Disk.flash c.args.disk.now) d in
    after c.run_plan-end.result c.finish.result _ _ c.finish.ensures.answer (λ answer. KeptSo (Kept answer) (IsSame (g.D.Disk.flash c.args.disk.now) d) answer)
    (λ r same ended. record { numbers = c.choose_slots-slots.result.number; chosen = chosen; accepted = c.requires.judged; made = b.reads; others = others; any_moment = moments; whole = did ended; left = ((installed_as c.finish.result r (λ r. r ≡ new_record c.args.accepted.now.frame (held_of c.args.accepted.now.held) (g.D.Disk.flash c.run_plan-end.new.disk).reads c.args.accepted.now.bytes.now c.args.accepted.now.sequence c.args.accepted.now.digest c.choose_slots-slots.result.number) (c.finish.ensures.new t) same) ∙ new_is c.sound_laws.ensures c.moment_laws.ensures c.choice_laws.ensures c.args.accepted.now.frame (g.D.Disk.extent c.args.disk.now) c.requires.frame c.args.layout.now c.requires.layout c.args.places.now (plan_tree c.args.accepted.now.plan.now) (held_of c.args.accepted.now.held) c.requires.loadable c.choose_slots-slots.result.number c.in-Ok.world.standings.items c.requires.distinct c.choose_slots-slots.ensures.choice c.in-Ok.ensures.stand chosen (g.D.Disk.flash c.args.disk.now) (g.D.Disk.flash c.run_plan-end.new.disk) (g.met.D.Disk.obeys c.args.disk.now t) law_b (c.requires.config t).0 (c.requires.config t).1 (c.requires.held t) (subst (λ (x : PlanTree). Keeps (OutsideTargets x c.in-Ok.world.standings.items) (g.D.Disk.flash c.args.disk.now) (g.D.Disk.flash c.run_plan-end.new.disk)) (c.program_of-program.ensures c.requires.said.0 c.requires.said.1 c.requires.said.2 c.requires.said.3 ∙ sym c.requires.said.4) (c.run_plan-end.ensures.keeps t)) settled c.args.accepted.now.bytes.now c.args.accepted.now.sequence c.args.accepted.now.digest c.requires.fits (g.D.Disk.flash c.finish.new.disk) law_d, new_at_end c.sound_laws.ensures c.moment_laws.ensures c.choice_laws.ensures c.args.accepted.now.frame (g.D.Disk.extent c.args.disk.now) c.requires.frame c.args.layout.now c.requires.layout c.args.places.now (plan_tree c.args.accepted.now.plan.now) (held_of c.args.accepted.now.held) c.requires.loadable c.choose_slots-slots.result.number c.in-Ok.world.standings.items c.requires.distinct c.choose_slots-slots.ensures.choice c.in-Ok.ensures.stand chosen (g.D.Disk.flash c.args.disk.now) (g.D.Disk.flash c.run_plan-end.new.disk) (g.met.D.Disk.obeys c.args.disk.now t) law_b (c.requires.config t).0 (c.requires.config t).1 (c.requires.held t) (subst (λ (x : PlanTree). Keeps (OutsideTargets x c.in-Ok.world.standings.items) (g.D.Disk.flash c.args.disk.now) (g.D.Disk.flash c.run_plan-end.new.disk)) (c.program_of-program.ensures c.requires.said.0 c.requires.said.1 c.requires.said.2 c.requires.said.3 ∙ sym c.requires.said.4) (c.run_plan-end.ensures.keeps t)) settled c.args.accepted.now.bytes.now c.args.accepted.now.sequence c.args.accepted.now.digest c.requires.fits (g.D.Disk.flash c.finish.new.disk) law_d (c.finish.ensures.any_moment t) c.record_laws.ensures.answer r (installed_as c.finish.result r (λ r. r ≡ new_record c.args.accepted.now.frame (held_of c.args.accepted.now.held) (g.D.Disk.flash c.run_plan-end.new.disk).reads c.args.accepted.now.bytes.now c.args.accepted.now.sequence c.args.accepted.now.digest c.choose_slots-slots.result.number) (c.finish.ensures.new t) same) (installed_as c.finish.result r (λ r. RecordOf c.args.accepted.now.frame (head_of c.args.accepted.now.frame (g.D.Disk.flash c.finish.new.disk).reads) (Some r)) (c.finish.ensures.recorded t) same)) })
    (λ place told ended. let still = stopped_at c.run_plan-end.result place (Passes b d (Now b)) (c.finish.ensures.still t) ended in
    record { numbers = c.choose_slots-slots.result.number; chosen = chosen; accepted = c.requires.judged; made = b.reads; others = others; any_moment = moments; whole = stays still; left = old_left (told_at c.finish.result place (d.reads ≡ b.reads) (c.finish.ensures.stays t) told) })
    (λ place cause told ended. let still = stopped_by c.run_plan-end.result place cause (Passes b d (Now b)) (c.finish.ensures.still t) ended in
    record { numbers = c.choose_slots-slots.result.number; chosen = chosen; accepted = c.requires.judged; made = b.reads; others = others; any_moment = moments; whole = stays still; left = old_left (told_by c.finish.result place cause (d.reads ≡ b.reads) (c.finish.ensures.stays t) told) })
    (λ unfaulted. inr (record {
      numbers = c.choose_slots-slots.result.number;
      chosen = chosen;
      accepted = c.requires.judged;
      made = b.reads;
      others = others;
      any_moment = moments;
      whole = stopped_or_done c.run_plan-end.result (Passes b d (Now b)) _ _ (c.finish.ensures.still t) stays did;
      left = moment_at_end c.sound_laws.ensures c.moment_laws.ensures c.choice_laws.ensures c.args.accepted.now.frame (g.D.Disk.extent c.args.disk.now) c.requires.frame c.args.layout.now c.requires.layout c.args.places.now (plan_tree c.args.accepted.now.plan.now) (held_of c.args.accepted.now.held) c.requires.loadable c.choose_slots-slots.result.number c.in-Ok.world.standings.items c.requires.distinct c.choose_slots-slots.ensures.choice c.in-Ok.ensures.stand chosen (g.D.Disk.flash c.args.disk.now) (g.D.Disk.flash c.run_plan-end.new.disk) (g.met.D.Disk.obeys c.args.disk.now t) law_b (c.requires.config t).0 (c.requires.config t).1 (c.requires.held t) (subst (λ (x : PlanTree). Keeps (OutsideTargets x c.in-Ok.world.standings.items) (g.D.Disk.flash c.args.disk.now) (g.D.Disk.flash c.run_plan-end.new.disk)) (c.program_of-program.ensures c.requires.said.0 c.requires.said.1 c.requires.said.2 c.requires.said.3 ∙ sym c.requires.said.4) (c.run_plan-end.ensures.keeps t)) settled c.args.accepted.now.bytes.now c.args.accepted.now.sequence c.args.accepted.now.digest c.requires.fits (g.D.Disk.flash c.finish.new.disk) law_d (c.finish.ensures.any_moment t);
    }))

pub returns-in-Err-clause-left : goal.returns-in-Err-clause-left
returns-in-Err-clause-left g c t = refl

pub returns-clause-left : goal.returns-clause-left
returns-clause-left g c t =
    let chosen = (chosen_as c.args.layout.now c.args.places.now (plan_tree c.args.accepted.now.plan.now) c.choose_slots-slots.ensures.chosen.0 (active_slots (held_of c.args.accepted.now.held)) c.choose_slots-slots.result.number (in_use_as_held c.args.accepted.now.frame (g.D.Disk.extent c.args.disk.now) (g.D.Disk.flash c.args.disk.now).reads c.args.layout.now (c.requires.config t).0 (held_of c.args.accepted.now.held) (c.requires.config t).1 (c.requires.held t) c.requires.loadable c.choose_slots-slots.ensures.chosen.0 c.choose_slots-slots.ensures.chosen.1) c.choose_slots-slots.ensures.chosen.2) in
    let law_b = (subst (λ (n : ℕ). IsFlash (g.D.Disk.flash c.run_plan-end.new.disk) n) c.run_plan-end.ensures.size (g.met.D.Disk.obeys c.run_plan-end.new.disk t)) in
    let numbers = c.choose_slots-slots.result.number in
    let new = λ (numbers : List ℕ). new_record c.args.accepted.now.frame (held_of c.args.accepted.now.held) (g.D.Disk.flash c.args.disk.now).reads c.args.accepted.now.bytes.now c.args.accepted.now.sequence c.args.accepted.now.digest numbers in
    let contents = contents_since c.sound_laws.ensures c.moment_laws.ensures c.choice_laws.ensures c.args.accepted.now.frame (g.D.Disk.extent c.args.disk.now) c.requires.frame c.args.layout.now c.requires.layout c.args.places.now (plan_tree c.args.accepted.now.plan.now) (held_of c.args.accepted.now.held) c.requires.loadable c.choose_slots-slots.result.number c.in-Ok.world.standings.items c.requires.distinct c.choose_slots-slots.ensures.choice c.in-Ok.ensures.stand chosen (g.D.Disk.flash c.args.disk.now) (g.D.Disk.flash c.run_plan-end.new.disk) (g.met.D.Disk.obeys c.args.disk.now t) law_b (c.requires.config t).0 (c.requires.config t).1 (c.requires.held t) (subst (λ (x : PlanTree). Keeps (OutsideTargets x c.in-Ok.world.standings.items) (g.D.Disk.flash c.args.disk.now) (g.D.Disk.flash c.run_plan-end.new.disk)) (c.program_of-program.ensures c.requires.said.0 c.requires.said.1 c.requires.said.2 c.requires.said.3 ∙ sym c.requires.said.4) (c.run_plan-end.ensures.keeps t)) (g.D.Disk.flash c.finish.new.disk).reads (c.finish.ensures.behind t) in
    let same_new = new_as c.sound_laws.ensures c.moment_laws.ensures c.choice_laws.ensures c.args.accepted.now.frame (g.D.Disk.extent c.args.disk.now) c.requires.frame c.args.layout.now c.requires.layout c.args.places.now (plan_tree c.args.accepted.now.plan.now) (held_of c.args.accepted.now.held) c.requires.loadable c.choose_slots-slots.result.number c.in-Ok.world.standings.items c.requires.distinct c.choose_slots-slots.ensures.choice c.in-Ok.ensures.stand chosen (g.D.Disk.flash c.args.disk.now) (g.D.Disk.flash c.run_plan-end.new.disk) (g.met.D.Disk.obeys c.args.disk.now t) law_b (c.requires.config t).0 (c.requires.config t).1 (c.requires.held t) (subst (λ (x : PlanTree). Keeps (OutsideTargets x c.in-Ok.world.standings.items) (g.D.Disk.flash c.args.disk.now) (g.D.Disk.flash c.run_plan-end.new.disk)) (c.program_of-program.ensures c.requires.said.0 c.requires.said.1 c.requires.said.2 c.requires.said.3 ∙ sym c.requires.said.4) (c.run_plan-end.ensures.keeps t)) c.args.accepted.now.bytes.now c.args.accepted.now.sequence c.args.accepted.now.digest in
    let held_at = was_b c.sound_laws.ensures c.moment_laws.ensures c.choice_laws.ensures c.args.accepted.now.frame (g.D.Disk.extent c.args.disk.now) c.requires.frame c.args.layout.now c.requires.layout c.args.places.now (plan_tree c.args.accepted.now.plan.now) (held_of c.args.accepted.now.held) c.requires.loadable c.choose_slots-slots.result.number c.in-Ok.world.standings.items c.requires.distinct c.choose_slots-slots.ensures.choice c.in-Ok.ensures.stand chosen (g.D.Disk.flash c.args.disk.now) (g.D.Disk.flash c.run_plan-end.new.disk) (g.met.D.Disk.obeys c.args.disk.now t) law_b (c.requires.config t).0 (c.requires.config t).1 (c.requires.held t) (subst (λ (x : PlanTree). Keeps (OutsideTargets x c.in-Ok.world.standings.items) (g.D.Disk.flash c.args.disk.now) (g.D.Disk.flash c.run_plan-end.new.disk)) (c.program_of-program.ensures c.requires.said.0 c.requires.said.1 c.requires.said.2 c.requires.said.3 ∙ sym c.requires.said.4) (c.run_plan-end.ensures.keeps t)) in
    let Left : UpdateEnd → Type 0 = LeavesUpdate (placed_on c.args.accepted.now.frame c.args.layout.now c.args.places.now (plan_tree c.args.accepted.now.plan.now)) (held_of c.args.accepted.now.held) new (g.D.Disk.flash c.args.disk.now).reads (g.D.Disk.flash c.finish.new.disk).reads in
    after c.run_plan-end.result c.finish.result _ _ c.finish.ensures.answer (λ answer. KeptSo (Left answer) ((g.D.Disk.flash c.finish.new.disk).reads ≡ (g.D.Disk.flash c.args.disk.now).reads) answer)
    (λ r same ended. let is = installed_as c.finish.result r (λ r. r ≡ new_record c.args.accepted.now.frame (held_of c.args.accepted.now.held) (g.D.Disk.flash c.run_plan-end.new.disk).reads c.args.accepted.now.bytes.now c.args.accepted.now.sequence c.args.accepted.now.digest numbers) (c.finish.ensures.new t) same ∙ same_new in
    record { numbers = numbers; chosen = chosen; accepted = c.requires.judged; contents = contents; left = (is, subst (λ (n : Record). RecordOf c.args.accepted.now.frame (head_of c.args.accepted.now.frame (g.D.Disk.flash c.finish.new.disk).reads) (Some n)) is (installed_as c.finish.result r (λ r. RecordOf c.args.accepted.now.frame (head_of c.args.accepted.now.frame (g.D.Disk.flash c.finish.new.disk).reads) (Some r)) (c.finish.ensures.recorded t) same)) })
    (λ place told ended. record { numbers = numbers; chosen = chosen; accepted = c.requires.judged; contents = contents; left = held_as c.args.accepted.now.frame (held_of c.args.accepted.now.held) _ _ (told_at c.finish.result place ((g.D.Disk.flash c.finish.new.disk).reads ≡ (g.D.Disk.flash c.run_plan-end.new.disk).reads) (c.finish.ensures.stays t) told) held_at })
    (λ place cause told ended. record { numbers = numbers; chosen = chosen; accepted = c.requires.judged; contents = contents; left = held_as c.args.accepted.now.frame (held_of c.args.accepted.now.held) _ _ (told_by c.finish.result place cause ((g.D.Disk.flash c.finish.new.disk).reads ≡ (g.D.Disk.flash c.run_plan-end.new.disk).reads) (c.finish.ensures.stays t) told) held_at })
    (λ unfaulted. inr (record { numbers = numbers; chosen = chosen; accepted = c.requires.judged; contents = contents; left = held_or_same c.args.accepted.now.frame (held_of c.args.accepted.now.held) _ _ (g.D.Disk.flash c.finish.new.disk).reads same_new (c.finish.ensures.reads t) }))

pub returns-clause-plays : goal.returns-clause-plays
returns-clause-plays g c t tl payloads has =
    let chosen = (chosen_as c.args.layout.now c.args.places.now (plan_tree c.args.accepted.now.plan.now) c.choose_slots-slots.ensures.chosen.0 (active_slots (held_of c.args.accepted.now.held)) c.choose_slots-slots.result.number (in_use_as_held c.args.accepted.now.frame (g.D.Disk.extent c.args.disk.now) (g.D.Disk.flash c.args.disk.now).reads c.args.layout.now (c.requires.config t).0 (held_of c.args.accepted.now.held) (c.requires.config t).1 (c.requires.held t) c.requires.loadable c.choose_slots-slots.ensures.chosen.0 c.choose_slots-slots.ensures.chosen.1) c.choose_slots-slots.ensures.chosen.2) in
    let law_b = (subst (λ (n : ℕ). IsFlash (g.D.Disk.flash c.run_plan-end.new.disk) n) c.run_plan-end.ensures.size (g.met.D.Disk.obeys c.run_plan-end.new.disk t)) in
    let law_d = (subst (λ (n : ℕ). IsFlash (g.D.Disk.flash c.finish.new.disk) n) (c.finish.ensures.size ∙ c.run_plan-end.ensures.size) (g.met.D.Disk.obeys c.finish.new.disk t)) in
    let Plays : List ℕ → PlanEnd → Type 0 = λ made end. PlaysUpdate (placed_on c.args.accepted.now.frame c.args.layout.now c.args.places.now (plan_tree c.args.accepted.now.plan.now)) (held_of c.args.accepted.now.held) (sources payloads c.args.accepted.now.uris.now (hosted g.H.Host.told (g.H.Host.file c.args.host.now) (g.H.Host.asked c.args.host.now) (g.H.Host.asked c.run_plan-end.new.host))) (device_at (g.D.Disk.flash c.args.disk.now).reads (g.L.Launcher.launches c.args.launcher.now)) (device_at made (g.L.Launcher.launches c.run_plan-end.new.launcher)) end in
    let play : Plays (g.D.Disk.flash c.run_plan-end.new.disk).reads c.run_plan-end.result = plays_update c.args.accepted.now.frame c.args.layout.now c.args.places.now (plan_tree c.args.accepted.now.plan.now) (held_of c.args.accepted.now.held) payloads c.in-Ok.world.uris.now c.args.accepted.now.uris.now (hosted g.H.Host.told (g.H.Host.file c.args.host.now) (g.H.Host.asked c.args.host.now) (g.H.Host.asked c.run_plan-end.new.host)) (g.D.Disk.flash c.args.disk.now).reads (g.D.Disk.flash c.run_plan-end.new.disk).reads (g.L.Launcher.launches c.args.launcher.now) (g.L.Launcher.launches c.run_plan-end.new.launcher) c.run_plan-end.result c.choose_slots-slots.result.number c.in-Ok.world.standings.items c.in-Ok.world.ram c.run_plan-end.new.world.ram chosen c.choose_slots-slots.ensures.choice c.in-Ok.ensures.stand c.in-Ok.ensures.ram c.in-Ok.ensures.uris
    (program_tree c.program_of-program.result) (c.program_of-program.ensures c.requires.said.0 c.requires.said.1 c.requires.said.2 c.requires.said.3 ∙ sym c.requires.said.4) (c.run_plan-end.ensures.plays refl refl t tl payloads (subst (λ (e : Option (Bor Envelope)). ArePayloads e payloads) (sym c.in-Ok.ensures.envelope) has)) in
    after c.run_plan-end.result c.finish.result _ _ c.finish.ensures.answer
    (λ answer. PlayedSo Plays ((g.D.Disk.flash c.finish.new.disk).reads ≡ (g.D.Disk.flash c.args.disk.now).reads) c.args.layout.now (g.D.Disk.flash c.finish.new.disk).reads (g.L.Launcher.launches c.args.launcher.now) (g.L.Launcher.launches c.run_plan-end.new.launcher) answer)
    (λ r same ended. record { made = (g.D.Disk.flash c.run_plan-end.new.disk).reads; plays = subst (Plays (g.D.Disk.flash c.run_plan-end.new.disk).reads) ended play; left = beside c.args.accepted.now.frame (g.D.Disk.extent c.args.disk.now) c.args.layout.now c.requires.frame c.requires.layout (c.requires.config t).1.typed.entries (g.D.Disk.flash c.run_plan-end.new.disk).reads (g.D.Disk.flash c.finish.new.disk).reads law_b.fits (c.finish.ensures.behind t) })
    (λ place told ended. record { made = (g.D.Disk.flash c.run_plan-end.new.disk).reads; plays = subst (Plays (g.D.Disk.flash c.run_plan-end.new.disk).reads) ended play; left = reads_same c.args.layout.now (g.D.Disk.flash c.run_plan-end.new.disk).reads (g.D.Disk.flash c.finish.new.disk).reads (told_at c.finish.result place ((g.D.Disk.flash c.finish.new.disk).reads ≡ (g.D.Disk.flash c.run_plan-end.new.disk).reads) (c.finish.ensures.stays t) told) })
    (λ place cause told ended. record { made = (g.D.Disk.flash c.run_plan-end.new.disk).reads; plays = subst (Plays (g.D.Disk.flash c.run_plan-end.new.disk).reads) ended play; left = reads_same c.args.layout.now (g.D.Disk.flash c.run_plan-end.new.disk).reads (g.D.Disk.flash c.finish.new.disk).reads (told_by c.finish.result place cause ((g.D.Disk.flash c.finish.new.disk).reads ≡ (g.D.Disk.flash c.run_plan-end.new.disk).reads) (c.finish.ensures.stays t) told) })
    (λ unfaulted. inr ((g.D.Disk.flash c.run_plan-end.new.disk).reads, c.run_plan-end.result, play, unfaulted))
