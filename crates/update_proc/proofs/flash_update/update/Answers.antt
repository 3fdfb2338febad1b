use Rattle.std.specs.Prelude.{IsTrue}
use Rattle.std.proofs.Common.{◌≡◌, ◌≤◌, refl, inl, ◌⊎◌, ℕ, List, Bor, Option, length, option_map, sym, ◌∙◌, ap, subst, arith}
use Rattle.suit_commands.specs.Allowed.{IsPlan}
use Rattle.suit_commands.specs.Plans.{plan_tree}
use Rattle.suit_commands.specs.Tree.{PlanTree}
use Rattle.step_machine.specs.PlanRuns.{Counts, counts_of}
use Rattle.suit_edge.specs.Flash.{IsFlash, IsSame, IsSettled, Now, Passes}
use Rattle.suit_edge.specs.FlashLaws.{grows_then, same_flash_then, weakens}
use Rattle.suit_envelope.specs.Payloads.{HasPayloads}
use Rattle.suit_envelope.specs.Trimmed.{trimmed}
use Rattle.suit_manifest.specs.Procedures.{update_tree}
use Rattle.flash_layout.specs.declared.slot.Record.{Record}
use Rattle.suit_params.specs.declared.digest.Digest.{Digest}
use Rattle.flash_layout.specs.Frames.{bank_size, head_of}
use Rattle.flash_layout.specs.Layouts.{IsLayout}
use Rattle.rollback_record.specs.Committing.{HasSpare}
use Rattle.rollback_record.specs.HeadRecord.{RecordOf}
use Rattle.rollback_record.proofs.SettledLaws.{each_sound, settled_still}
use Rattle.rollback_record.specs.SoundFlash.{Follows, Sound}
use Rattle.update_proc.specs.Choices.{AreChosen, active_slots}
use Rattle.update_proc.specs.Ends.{JudgedSo, UpdateCounts}
use Rattle.update_proc.specs.Installing.{HasLayout, MayBeInstalled}
use Rattle.update_proc.specs.Records.{new_record}
use Rattle.update_proc.specs.Updates.{KeepsUpdate, KeptSo, LeavesUpdate, PlayedSo, PlaysToEnd, PlaysUpdate, hosted, sources}
use Rattle.update_proc.specs.Moments.{placed_on}
use Rattle.step_machine.specs.Devices.{device_at}
use Rattle.step_machine.specs.Fetching.{AsksAmong, asked_at}
use Rattle.step_machine.specs.UrisSet.{HasFetch}
use Rattle.step_machine.proofs.Asking.{asks_none}
use Rattle.update_proc.proofs.Finished.{accepted_judged, launched_by, unbegun_counts, unbegun_kept, unbegun_played, unbegun_settled, unfaulted}
use Rattle.update_proc.proofs.Reread.{follows_from, for_offer, keeps_from, kept_from, loadable_as, recorded_as, settled_from, spare_as, sound_from}
use Rattle.rollback_record.proofs.HeadSince.{follows_now}
use Rattle.update_proc.proofs.flash_update.update.Goals as goal

abbrev held_of : Option (Bor Record) → Option Record
held_of held = option_map (λ r. r.now) held

pub returns-in-Err-clause-sound : goal.returns-in-Err-clause-sound
returns-in-Err-clause-sound g c t settled held digest blocks there said may =
    weakens (g.D.Disk.flash c.args.disk.now) (g.D.Disk.flash c.load_pages_by.new.disk) (Now (g.D.Disk.flash c.args.disk.now)) Sound (each_sound (g.D.Disk.flash c.args.disk.now) settled) (c.in-Err.ensures.same t).images

pub returns-in-Err-clause-follows : goal.returns-in-Err-clause-follows
returns-in-Err-clause-follows g c t settled =
    weakens (g.D.Disk.flash c.args.disk.now) (g.D.Disk.flash c.load_pages_by.new.disk) (Now (g.D.Disk.flash c.args.disk.now)) (Follows (g.D.Disk.flash c.args.disk.now).reads) (follows_now c.sound_laws.ensures (g.D.Disk.flash c.args.disk.now) settled) (c.in-Err.ensures.same t).images

pub start-requires-clause-said : goal.start-requires-clause-said
start-requires-clause-said g c = (c.args.update.now.manifest.now, c.args.update.now.members.now, c.requires.manifest, c.requires.members, c.update_plan-plan.ensures)

pub start-requires-clause-held : goal.start-requires-clause-held
start-requires-clause-held g c t =
    subst (λ (l : List ℕ). RecordOf c.args.frame (head_of c.args.frame l) (held_of c.as_ref-held.result)) (sym (c.in-Ok.ensures.same t).reads) (recorded_as c.args.frame (head_of c.args.frame (g.D.Disk.flash c.args.disk.now).reads) c.as_ref-held.result c.in-Ok.pages.held c.as_ref-held.ensures.value (c.in-Ok.ensures.exact t).held)

pub start-requires-clause-spare : goal.start-requires-clause-spare
start-requires-clause-spare g c t =
    subst (λ (l : List ℕ). HasSpare c.args.frame (head_of c.args.frame l) (held_of c.as_ref-held.result) c.in-Ok.pages.spare) (sym (c.in-Ok.ensures.same t).reads) (spare_as c.args.frame (head_of c.args.frame (g.D.Disk.flash c.args.disk.now).reads) c.as_ref-held.result c.in-Ok.pages c.as_ref-held.ensures.value (c.in-Ok.ensures.exact t))

pub returns-clause-judged : goal.returns-clause-judged
returns-clause-judged g c t =
    for_offer c.record_laws.ensures.answer c.args.frame (g.D.Disk.flash c.args.disk.now).reads c.args.update.now.envelope.now.wrapper.now
    (λ held digest. JudgedSo c.args.update.now.manifest.now.sequence digest held c.start.result)
    (held_of c.as_ref-held.result) c.stated_digest-digest.result (recorded_as c.args.frame (head_of c.args.frame (g.D.Disk.flash c.args.disk.now).reads) c.as_ref-held.result c.in-Ok.pages.held c.as_ref-held.ensures.value (c.in-Ok.ensures.exact t).held) c.stated_digest-digest.ensures
    (accepted_judged c.args.update.now.manifest.now.sequence c.stated_digest-digest.result (held_of c.as_ref-held.result) c.start.result c.start.ensures.starts c.in-Ok-installable.ensures.accepted)

pub returns-clause-plays : goal.returns-clause-plays
returns-clause-plays g c t tl =
    for_offer c.record_laws.ensures.answer c.args.frame (g.D.Disk.flash c.args.disk.now).reads c.args.update.now.envelope.now.wrapper.now
    (λ held digest. (payloads : List (List ℕ × List ℕ)) → HasPayloads c.args.update.now.envelope.now.whole.now payloads → PlayedSo (λ made end. PlaysUpdate (placed_on c.args.frame c.args.layout.now c.args.update.now.places.now (update_tree c.args.update.now.manifest.now c.args.update.now.members.now)) held (sources payloads c.args.update.now.uris.now (hosted g.H.Host.told (g.H.Host.file c.args.host.now) (g.H.Host.asked c.args.host.now) (g.H.Host.asked c.start.new.host))) (device_at (g.D.Disk.flash c.args.disk.now).reads (g.L.Launcher.launches c.args.launcher.now)) (device_at made (g.L.Launcher.launches c.start.new.launcher)) end) ((g.D.Disk.flash c.start.new.disk).reads ≡ (g.D.Disk.flash c.args.disk.now).reads) c.args.layout.now (g.D.Disk.flash c.start.new.disk).reads (g.L.Launcher.launches c.args.launcher.now) (g.L.Launcher.launches c.start.new.launcher) c.start.result)
    (held_of c.as_ref-held.result) c.stated_digest-digest.result (recorded_as c.args.frame (head_of c.args.frame (g.D.Disk.flash c.args.disk.now).reads) c.as_ref-held.result c.in-Ok.pages.held c.as_ref-held.ensures.value (c.in-Ok.ensures.exact t).held) c.stated_digest-digest.ensures
    (λ payloads has. subst (λ (l : List ℕ). PlayedSo (λ made end. PlaysUpdate (placed_on c.args.frame c.args.layout.now c.args.update.now.places.now (update_tree c.args.update.now.manifest.now c.args.update.now.members.now)) (held_of c.as_ref-held.result) (sources payloads c.args.update.now.uris.now (hosted g.H.Host.told (g.H.Host.file c.args.host.now) (g.H.Host.asked c.args.host.now) (g.H.Host.asked c.start.new.host))) (device_at l (g.L.Launcher.launches c.args.launcher.now)) (device_at made (g.L.Launcher.launches c.start.new.launcher)) end) ((g.D.Disk.flash c.start.new.disk).reads ≡ l) c.args.layout.now (g.D.Disk.flash c.start.new.disk).reads (g.L.Launcher.launches c.args.launcher.now) (g.L.Launcher.launches c.start.new.launcher) c.start.result) (c.in-Ok.ensures.same t).reads (subst (λ (tree : PlanTree). PlayedSo (λ made end. PlaysUpdate (placed_on c.args.frame c.args.layout.now c.args.update.now.places.now tree) (held_of c.as_ref-held.result) (sources payloads c.args.update.now.uris.now (hosted g.H.Host.told (g.H.Host.file c.args.host.now) (g.H.Host.asked c.args.host.now) (g.H.Host.asked c.start.new.host))) (device_at (g.D.Disk.flash c.load_pages_by.new.disk).reads (g.L.Launcher.launches c.args.launcher.now)) (device_at made (g.L.Launcher.launches c.start.new.launcher)) end) ((g.D.Disk.flash c.start.new.disk).reads ≡ (g.D.Disk.flash c.load_pages_by.new.disk).reads) c.args.layout.now (g.D.Disk.flash c.start.new.disk).reads (g.L.Launcher.launches c.args.launcher.now) (g.L.Launcher.launches c.start.new.launcher) c.start.result) c.update_plan-plan.ensures (c.start.ensures.plays t tl payloads has)))

pub returns-in-Err-clause-asked : goal.returns-in-Err-clause-asked
returns-in-Err-clause-asked g c t room rooms = asks_none (update_tree c.args.update.now.manifest.now c.args.update.now.members.now) c.args.update.now.uris.now room _

pub returns-in-Err-installable-clause-asked : goal.returns-in-Err-installable-clause-asked
returns-in-Err-installable-clause-asked g c t room rooms = asks_none (update_tree c.args.update.now.manifest.now c.args.update.now.members.now) c.args.update.now.uris.now room _

pub returns-clause-asked : goal.returns-clause-asked
returns-clause-asked g c t room rooms =
    let h = g.H.Host in
    subst (λ (tree : PlanTree). AsksAmong tree c.args.update.now.uris.now room (asked_at (h.asked c.args.host.now) (h.pulled c.args.host.now)) (asked_at (h.asked c.start.new.host) (h.pulled c.start.new.host))) c.update_plan-plan.ensures
    (c.start.ensures.asked t room rooms)

pub returns-in-Err-clause-unfetched : goal.returns-in-Err-clause-unfetched
returns-in-Err-clause-unfetched g c none = refl

pub returns-in-Err-installable-clause-unfetched : goal.returns-in-Err-installable-clause-unfetched
returns-in-Err-installable-clause-unfetched g c none = refl

pub returns-clause-unfetched : goal.returns-clause-unfetched
returns-clause-unfetched g c none =
    c.start.ensures.unfetched (subst (λ (tree : PlanTree). HasFetch tree → ⊥) (sym c.update_plan-plan.ensures) none)

pub returns-in-Err-clause-unbegun : goal.returns-in-Err-clause-unbegun
returns-in-Err-clause-unbegun g c is = refl

pub returns-in-Err-installable-clause-unbegun : goal.returns-in-Err-installable-clause-unbegun
returns-in-Err-installable-clause-unbegun g c is = refl

pub returns-in-Err-clause-launches : goal.returns-in-Err-clause-launches
returns-in-Err-clause-launches g c t tl payloads has = inl refl

pub returns-clause-launches : goal.returns-clause-launches
returns-clause-launches g c t tl payloads has =
    launched_by c.args.frame (λ held made end. PlaysUpdate (placed_on c.args.frame c.args.layout.now c.args.update.now.places.now (update_tree c.args.update.now.manifest.now c.args.update.now.members.now)) held (sources payloads c.args.update.now.uris.now (hosted g.H.Host.told (g.H.Host.file c.args.host.now) (g.H.Host.asked c.args.host.now) (g.H.Host.asked c.start.new.host))) (device_at (g.D.Disk.flash c.args.disk.now).reads (g.L.Launcher.launches c.args.launcher.now)) (device_at made (g.L.Launcher.launches c.start.new.launcher)) end)
    ((g.D.Disk.flash c.start.new.disk).reads ≡ (g.D.Disk.flash c.args.disk.now).reads) c.args.layout.now (g.D.Disk.flash c.args.disk.now).reads (g.D.Disk.flash c.start.new.disk).reads (g.L.Launcher.launches c.args.launcher.now) (g.L.Launcher.launches c.start.new.launcher) c.start.result
    (held_of c.as_ref-held.result) (recorded_as c.args.frame (head_of c.args.frame (g.D.Disk.flash c.args.disk.now).reads) c.as_ref-held.result c.in-Ok.pages.held c.as_ref-held.ensures.value (c.in-Ok.ensures.exact t).held)
    (subst (λ (l : List ℕ). PlayedSo (λ made end. PlaysUpdate (placed_on c.args.frame c.args.layout.now c.args.update.now.places.now (update_tree c.args.update.now.manifest.now c.args.update.now.members.now)) (held_of c.as_ref-held.result) (sources payloads c.args.update.now.uris.now (hosted g.H.Host.told (g.H.Host.file c.args.host.now) (g.H.Host.asked c.args.host.now) (g.H.Host.asked c.start.new.host))) (device_at l (g.L.Launcher.launches c.args.launcher.now)) (device_at made (g.L.Launcher.launches c.start.new.launcher)) end) ((g.D.Disk.flash c.start.new.disk).reads ≡ l) c.args.layout.now (g.D.Disk.flash c.start.new.disk).reads (g.L.Launcher.launches c.args.launcher.now) (g.L.Launcher.launches c.start.new.launcher) c.start.result) (c.in-Ok.ensures.same t).reads (subst (λ (tree : PlanTree). PlayedSo (λ made end. PlaysUpdate (placed_on c.args.frame c.args.layout.now c.args.update.now.places.now tree) (held_of c.as_ref-held.result) (sources payloads c.args.update.now.uris.now (hosted g.H.Host.told (g.H.Host.file c.args.host.now) (g.H.Host.asked c.args.host.now) (g.H.Host.asked c.start.new.host))) (device_at (g.D.Disk.flash c.load_pages_by.new.disk).reads (g.L.Launcher.launches c.args.launcher.now)) (device_at made (g.L.Launcher.launches c.start.new.launcher)) end) ((g.D.Disk.flash c.start.new.disk).reads ≡ (g.D.Disk.flash c.load_pages_by.new.disk).reads) c.args.layout.now (g.D.Disk.flash c.start.new.disk).reads (g.L.Launcher.launches c.args.launcher.now) (g.L.Launcher.launches c.start.new.launcher) c.start.result) c.update_plan-plan.ensures (c.start.ensures.plays t tl payloads has)))

pub returns-clause-keeps : goal.returns-clause-keeps
returns-clause-keeps g c t settled =
    let still = settled_still (g.D.Disk.flash c.args.disk.now) (g.D.Disk.flash c.load_pages_by.new.disk) (g.D.Disk.extent c.args.disk.now) (subst (λ (n : ℕ). IsFlash (g.D.Disk.flash c.load_pages_by.new.disk) n) c.in-Ok.ensures.size (g.met.D.Disk.obeys c.load_pages_by.new.disk t)) (c.in-Ok.ensures.same t) settled in
    for_offer c.record_laws.ensures.answer c.args.frame (g.D.Disk.flash c.args.disk.now).reads c.args.update.now.envelope.now.wrapper.now
    (λ held digest. KeptSo (KeepsUpdate (placed_on c.args.frame c.args.layout.now c.args.update.now.places.now (update_tree c.args.update.now.manifest.now c.args.update.now.members.now)) (λ made. IsTrue g.H.Host.told → IsTrue g.L.Launcher.told → PlaysToEnd (placed_on c.args.frame c.args.layout.now c.args.update.now.places.now (update_tree c.args.update.now.manifest.now c.args.update.now.members.now)) held c.args.update.now.envelope.now.whole.now c.args.update.now.uris.now (g.H.Host.file c.args.host.now) (device_at (g.D.Disk.flash c.args.disk.now).reads (g.L.Launcher.launches c.args.launcher.now)) (device_at made (g.L.Launcher.launches c.start.new.launcher))) held (λ numbers. new_record c.args.frame held (g.D.Disk.flash c.args.disk.now).reads (trimmed c.args.update.now.envelope.now.wrapper.now c.args.update.now.envelope.now.manifest.now) c.args.update.now.manifest.now.sequence digest numbers) (g.D.Disk.flash c.args.disk.now) (g.D.Disk.flash c.start.new.disk) c.start.result) (IsSame (g.D.Disk.flash c.args.disk.now) (g.D.Disk.flash c.start.new.disk)) c.start.result)
    (held_of c.as_ref-held.result) c.stated_digest-digest.result (recorded_as c.args.frame (head_of c.args.frame (g.D.Disk.flash c.args.disk.now).reads) c.as_ref-held.result c.in-Ok.pages.held c.as_ref-held.ensures.value (c.in-Ok.ensures.exact t).held) c.stated_digest-digest.ensures
    (kept_from _ _ _ _ (keeps_from (g.D.Disk.flash c.args.disk.now) (g.D.Disk.flash c.load_pages_by.new.disk) (g.D.Disk.flash c.start.new.disk) (c.in-Ok.ensures.same t) c.args.frame (g.D.Disk.extent c.args.disk.now) (g.met.D.Disk.obeys c.args.disk.now t) c.args.layout.now c.requires.layout c.args.update.now.places.now (update_tree c.args.update.now.manifest.now c.args.update.now.members.now) (held_of c.as_ref-held.result) (c.requires.config t).0 (c.requires.config t).1 settled (recorded_as c.args.frame (head_of c.args.frame (g.D.Disk.flash c.args.disk.now).reads) c.as_ref-held.result c.in-Ok.pages.held c.as_ref-held.ensures.value (c.in-Ok.ensures.exact t).held) (trimmed c.args.update.now.envelope.now.wrapper.now c.args.update.now.envelope.now.manifest.now) c.args.update.now.manifest.now.sequence c.stated_digest-digest.result
    (λ made. IsTrue g.H.Host.told → IsTrue g.L.Launcher.told → PlaysToEnd (placed_on c.args.frame c.args.layout.now c.args.update.now.places.now (update_tree c.args.update.now.manifest.now c.args.update.now.members.now)) (held_of c.as_ref-held.result) c.args.update.now.envelope.now.whole.now c.args.update.now.uris.now (g.H.Host.file c.args.host.now) (device_at (g.D.Disk.flash c.load_pages_by.new.disk).reads (g.L.Launcher.launches c.args.launcher.now)) (device_at made (g.L.Launcher.launches c.start.new.launcher)))
    (λ made. IsTrue g.H.Host.told → IsTrue g.L.Launcher.told → PlaysToEnd (placed_on c.args.frame c.args.layout.now c.args.update.now.places.now (update_tree c.args.update.now.manifest.now c.args.update.now.members.now)) (held_of c.as_ref-held.result) c.args.update.now.envelope.now.whole.now c.args.update.now.uris.now (g.H.Host.file c.args.host.now) (device_at (g.D.Disk.flash c.args.disk.now).reads (g.L.Launcher.launches c.args.launcher.now)) (device_at made (g.L.Launcher.launches c.start.new.launcher)))
    (λ made did th tl. subst (λ (l : List ℕ). PlaysToEnd (placed_on c.args.frame c.args.layout.now c.args.update.now.places.now (update_tree c.args.update.now.manifest.now c.args.update.now.members.now)) (held_of c.as_ref-held.result) c.args.update.now.envelope.now.whole.now c.args.update.now.uris.now (g.H.Host.file c.args.host.now) (device_at l (g.L.Launcher.launches c.args.launcher.now)) (device_at made (g.L.Launcher.launches c.start.new.launcher))) (c.in-Ok.ensures.same t).reads (did th tl))
    c.start.result)
    (same_flash_then (g.D.Disk.flash c.args.disk.now) (g.D.Disk.flash c.load_pages_by.new.disk) (g.D.Disk.flash c.start.new.disk) (g.D.Disk.extent c.args.disk.now) (subst (λ (n : ℕ). IsFlash (g.D.Disk.flash c.load_pages_by.new.disk) n) c.in-Ok.ensures.size (g.met.D.Disk.obeys c.load_pages_by.new.disk t)) (c.in-Ok.ensures.same t)) c.start.result (subst (λ (tree : PlanTree). KeptSo (KeepsUpdate (placed_on c.args.frame c.args.layout.now c.args.update.now.places.now tree) (λ made. IsTrue g.H.Host.told → IsTrue g.L.Launcher.told → PlaysToEnd (placed_on c.args.frame c.args.layout.now c.args.update.now.places.now tree) (held_of c.as_ref-held.result) c.args.update.now.envelope.now.whole.now c.args.update.now.uris.now (g.H.Host.file c.args.host.now) (device_at (g.D.Disk.flash c.load_pages_by.new.disk).reads (g.L.Launcher.launches c.args.launcher.now)) (device_at made (g.L.Launcher.launches c.start.new.launcher))) (held_of c.as_ref-held.result) (λ numbers. new_record c.args.frame (held_of c.as_ref-held.result) (g.D.Disk.flash c.load_pages_by.new.disk).reads (trimmed c.args.update.now.envelope.now.wrapper.now c.args.update.now.envelope.now.manifest.now) c.args.update.now.manifest.now.sequence c.stated_digest-digest.result numbers) (g.D.Disk.flash c.load_pages_by.new.disk) (g.D.Disk.flash c.start.new.disk) c.start.result) (IsSame (g.D.Disk.flash c.load_pages_by.new.disk) (g.D.Disk.flash c.start.new.disk)) c.start.result) c.update_plan-plan.ensures
    (subst (λ (l : List ℕ). KeptSo (KeepsUpdate (placed_on c.args.frame c.args.layout.now c.args.update.now.places.now (plan_tree c.update_plan-plan.result)) (λ made. IsTrue g.H.Host.told → IsTrue g.L.Launcher.told → PlaysToEnd (placed_on c.args.frame c.args.layout.now c.args.update.now.places.now (plan_tree c.update_plan-plan.result)) (held_of c.as_ref-held.result) c.args.update.now.envelope.now.whole.now c.args.update.now.uris.now (g.H.Host.file c.args.host.now) (device_at (g.D.Disk.flash c.load_pages_by.new.disk).reads (g.L.Launcher.launches c.args.launcher.now)) (device_at made (g.L.Launcher.launches c.start.new.launcher))) (held_of c.as_ref-held.result) (λ numbers. new_record c.args.frame (held_of c.as_ref-held.result) (g.D.Disk.flash c.load_pages_by.new.disk).reads l c.args.update.now.manifest.now.sequence c.stated_digest-digest.result numbers) (g.D.Disk.flash c.load_pages_by.new.disk) (g.D.Disk.flash c.start.new.disk) c.start.result) (IsSame (g.D.Disk.flash c.load_pages_by.new.disk) (g.D.Disk.flash c.start.new.disk)) c.start.result) (c.as_slice-whole.ensures ∙ c.in-Ok-installable.ensures.spelling) (c.start.ensures.keeps t still))))

pub returns-in-Err-clause-left : goal.returns-in-Err-clause-left
returns-in-Err-clause-left g c t held digest blocks there said = inl (c.in-Err.ensures.same t).reads

pub returns-clause-left : goal.returns-clause-left
returns-clause-left g c t =
    let after = (g.D.Disk.flash c.start.new.disk).reads in
    let Left : Option Record → Digest → List ℕ → Type 0 = λ held digest before. KeptSo (LeavesUpdate (placed_on c.args.frame c.args.layout.now c.args.update.now.places.now (update_tree c.args.update.now.manifest.now c.args.update.now.members.now)) held (λ numbers. new_record c.args.frame held before (trimmed c.args.update.now.envelope.now.wrapper.now c.args.update.now.envelope.now.manifest.now) c.args.update.now.manifest.now.sequence digest numbers) before after c.start.result) (after ≡ before) c.start.result in
    for_offer c.record_laws.ensures.answer c.args.frame (g.D.Disk.flash c.args.disk.now).reads c.args.update.now.envelope.now.wrapper.now
    (λ held digest. Left held digest (g.D.Disk.flash c.args.disk.now).reads)
    (held_of c.as_ref-held.result) c.stated_digest-digest.result (recorded_as c.args.frame (head_of c.args.frame (g.D.Disk.flash c.args.disk.now).reads) c.as_ref-held.result c.in-Ok.pages.held c.as_ref-held.ensures.value (c.in-Ok.ensures.exact t).held) c.stated_digest-digest.ensures
    (subst (λ (l : List ℕ). Left (held_of c.as_ref-held.result) c.stated_digest-digest.result l) (c.in-Ok.ensures.same t).reads (subst (λ (tree : PlanTree). KeptSo (LeavesUpdate (placed_on c.args.frame c.args.layout.now c.args.update.now.places.now tree) (held_of c.as_ref-held.result) (λ numbers. new_record c.args.frame (held_of c.as_ref-held.result) (g.D.Disk.flash c.load_pages_by.new.disk).reads (trimmed c.args.update.now.envelope.now.wrapper.now c.args.update.now.envelope.now.manifest.now) c.args.update.now.manifest.now.sequence c.stated_digest-digest.result numbers) (g.D.Disk.flash c.load_pages_by.new.disk).reads after c.start.result) (after ≡ (g.D.Disk.flash c.load_pages_by.new.disk).reads) c.start.result) c.update_plan-plan.ensures
    (subst (λ (l : List ℕ). KeptSo (LeavesUpdate (placed_on c.args.frame c.args.layout.now c.args.update.now.places.now (plan_tree c.update_plan-plan.result)) (held_of c.as_ref-held.result) (λ numbers. new_record c.args.frame (held_of c.as_ref-held.result) (g.D.Disk.flash c.load_pages_by.new.disk).reads l c.args.update.now.manifest.now.sequence c.stated_digest-digest.result numbers) (g.D.Disk.flash c.load_pages_by.new.disk).reads after c.start.result) (after ≡ (g.D.Disk.flash c.load_pages_by.new.disk).reads) c.start.result) (c.as_slice-whole.ensures ∙ c.in-Ok-installable.ensures.spelling) (c.start.ensures.left t))))

pub returns-in-Err-clause-later : goal.returns-in-Err-clause-later
returns-in-Err-clause-later g c t = (c.in-Err.ensures.same t).images.later

pub returns-clause-later : goal.returns-clause-later
returns-clause-later g c t = omega (arith, (c.in-Ok.ensures.same t).images.later, c.start.ensures.later t)

pub returns-clause-grows : goal.returns-clause-grows
returns-clause-grows g c t =
    grows_then (g.D.Disk.flash c.args.disk.now) (g.D.Disk.flash c.load_pages_by.new.disk) (g.D.Disk.flash c.start.new.disk) (c.in-Ok.ensures.same t).images.later
    (c.in-Ok.ensures.grows t) (c.start.ensures.grows t)

pub returns-clause-sound : goal.returns-clause-sound
returns-clause-sound g c t settled =
    let still = settled_still (g.D.Disk.flash c.args.disk.now) (g.D.Disk.flash c.load_pages_by.new.disk) (g.D.Disk.extent c.args.disk.now) (subst (λ (n : ℕ). IsFlash (g.D.Disk.flash c.load_pages_by.new.disk) n) c.in-Ok.ensures.size (g.met.D.Disk.obeys c.load_pages_by.new.disk t)) (c.in-Ok.ensures.same t) settled in
    for_offer c.record_laws.ensures.answer c.args.frame (g.D.Disk.flash c.args.disk.now).reads c.args.update.now.envelope.now.wrapper.now
    (λ held digest. ((numbers : List ℕ) → AreChosen c.args.layout.now c.args.update.now.places.now (update_tree c.args.update.now.manifest.now c.args.update.now.members.now) (active_slots held) numbers → MayBeInstalled c.args.frame (g.D.Disk.flash c.args.disk.now).reads (trimmed c.args.update.now.envelope.now.wrapper.now c.args.update.now.envelope.now.manifest.now) (new_record c.args.frame held (g.D.Disk.flash c.args.disk.now).reads (trimmed c.args.update.now.envelope.now.wrapper.now c.args.update.now.envelope.now.manifest.now) c.args.update.now.manifest.now.sequence digest numbers)) → Passes (g.D.Disk.flash c.args.disk.now) (g.D.Disk.flash c.start.new.disk) Sound)
    (held_of c.as_ref-held.result) c.stated_digest-digest.result (recorded_as c.args.frame (head_of c.args.frame (g.D.Disk.flash c.args.disk.now).reads) c.as_ref-held.result c.in-Ok.pages.held c.as_ref-held.ensures.value (c.in-Ok.ensures.exact t).held) c.stated_digest-digest.ensures
    (λ may. sound_from (g.D.Disk.flash c.args.disk.now) (g.D.Disk.flash c.load_pages_by.new.disk) (g.D.Disk.flash c.start.new.disk) (c.in-Ok.ensures.same t) settled (c.start.ensures.sound t still (λ numbers chosen. subst (λ (l : List ℕ). MayBeInstalled c.args.frame (g.D.Disk.flash c.load_pages_by.new.disk).reads l (new_record c.args.frame (held_of c.as_ref-held.result) (g.D.Disk.flash c.load_pages_by.new.disk).reads l c.args.update.now.manifest.now.sequence c.stated_digest-digest.result numbers)) (sym (c.as_slice-whole.ensures ∙ c.in-Ok-installable.ensures.spelling))
    (subst (λ (l : List ℕ). MayBeInstalled c.args.frame l (trimmed c.args.update.now.envelope.now.wrapper.now c.args.update.now.envelope.now.manifest.now) (new_record c.args.frame (held_of c.as_ref-held.result) l (trimmed c.args.update.now.envelope.now.wrapper.now c.args.update.now.envelope.now.manifest.now) c.args.update.now.manifest.now.sequence c.stated_digest-digest.result numbers)) (sym (c.in-Ok.ensures.same t).reads) (may numbers (subst (λ (tree : PlanTree). AreChosen c.args.layout.now c.args.update.now.places.now tree (active_slots (held_of c.as_ref-held.result)) numbers) c.update_plan-plan.ensures chosen))))))

pub returns-clause-follows : goal.returns-clause-follows
returns-clause-follows g c t settled =
    let still = settled_still (g.D.Disk.flash c.args.disk.now) (g.D.Disk.flash c.load_pages_by.new.disk) (g.D.Disk.extent c.args.disk.now) (subst (λ (n : ℕ). IsFlash (g.D.Disk.flash c.load_pages_by.new.disk) n) c.in-Ok.ensures.size (g.met.D.Disk.obeys c.load_pages_by.new.disk t)) (c.in-Ok.ensures.same t) settled in
    follows_from (g.D.Disk.flash c.args.disk.now) (g.D.Disk.flash c.load_pages_by.new.disk) (g.D.Disk.flash c.start.new.disk) (c.in-Ok.ensures.same t) c.sound_laws.ensures settled (c.start.ensures.follows t still)

pub returns-clause-settled : goal.returns-clause-settled
returns-clause-settled g c t =
    unfaulted (IsSame (g.D.Disk.flash c.load_pages_by.new.disk) (g.D.Disk.flash c.start.new.disk) ⊎ IsSettled (g.D.Disk.flash c.start.new.disk)) _ c.start.result (settled_from (g.D.Disk.flash c.args.disk.now) (g.D.Disk.flash c.load_pages_by.new.disk) (g.D.Disk.flash c.start.new.disk) (c.in-Ok.ensures.same t) (g.D.Disk.extent c.args.disk.now) (subst (λ (n : ℕ). IsFlash (g.D.Disk.flash c.load_pages_by.new.disk) n) c.in-Ok.ensures.size (g.met.D.Disk.obeys c.load_pages_by.new.disk t))) (c.start.ensures.settled t)

pub update_plan-plan-requires : goal.update_plan-plan-requires
update_plan-plan-requires g c =
    let few : length c.args.update.now.manifest.now.components ≤ 8 = omega (arith, c.requires.count, c.requires.distinct.few) in omega (arith, few)

pub start-requires-clause-plan : goal.start-requires-clause-plan
start-requires-clause-plan g c =
    subst IsPlan (sym c.update_plan-plan.ensures) c.requires.plan

pub start-requires-clause-count : goal.start-requires-clause-count
start-requires-clause-count g c =
    ap (λ (t : PlanTree). t.count) c.update_plan-plan.ensures ∙ c.requires.count

pub start-requires-clause-judged : goal.start-requires-clause-judged
start-requires-clause-judged g c =
    c.in-Ok-installable.ensures.accepted

pub start-requires-clause-fits : goal.start-requires-clause-fits
start-requires-clause-fits g c =
    subst (λ (l : List ℕ). length l ≤ bank_size c.args.frame) (sym (c.as_slice-whole.ensures ∙ c.in-Ok-installable.ensures.spelling)) c.requires.fits

-- ---- where it ends before anything was launched or written

pub returns-in-Err-installable-clause-judged : goal.returns-in-Err-installable-clause-judged
returns-in-Err-installable-clause-judged g c t =
    for_offer c.record_laws.ensures.answer c.args.frame (g.D.Disk.flash c.args.disk.now).reads c.args.update.now.envelope.now.wrapper.now
    (λ held digest. JudgedSo c.args.update.now.manifest.now.sequence digest held c.in-Err-installable.end)
    (held_of c.as_ref-held.result) c.stated_digest-digest.result (recorded_as c.args.frame (head_of c.args.frame (g.D.Disk.flash c.args.disk.now).reads) c.as_ref-held.result c.in-Ok.pages.held c.as_ref-held.ensures.value (c.in-Ok.ensures.exact t).held) c.stated_digest-digest.ensures
    c.in-Err-installable.ensures.judged

pub returns-in-Err-installable-clause-counts : goal.returns-in-Err-installable-clause-counts
returns-in-Err-installable-clause-counts g c =
    let counts : ℕ → Counts = λ disk. counts_of (g.H.Host.faults c.args.host.now) disk (g.L.Launcher.faults c.args.launcher.now) in
    subst (λ (n : ℕ). UpdateCounts c.in-Err-installable.end (counts (g.D.Disk.faults c.args.disk.now)) (counts n)) (sym c.in-Ok.ensures.counts)
    (unbegun_counts c.in-Err-installable.end (counts (g.D.Disk.faults c.args.disk.now)) c.in-Err-installable.ensures.unbegun)

pub returns-in-Err-installable-clause-plays : goal.returns-in-Err-installable-clause-plays
returns-in-Err-installable-clause-plays g c t tl held digest blocks there said payloads has =
    unbegun_played _ _ c.args.layout.now (g.D.Disk.flash c.load_pages_by.new.disk).reads (g.L.Launcher.launches c.args.launcher.now) c.in-Err-installable.end c.in-Err-installable.ensures.unbegun

pub returns-in-Err-installable-clause-launches : goal.returns-in-Err-installable-clause-launches
returns-in-Err-installable-clause-launches g c t tl payloads has = inl refl

pub returns-in-Err-installable-clause-keeps : goal.returns-in-Err-installable-clause-keeps
returns-in-Err-installable-clause-keeps g c t settled held digest blocks there said =
    unbegun_kept _ (IsSame (g.D.Disk.flash c.args.disk.now) (g.D.Disk.flash c.load_pages_by.new.disk)) c.in-Err-installable.end c.in-Err-installable.ensures.unbegun (c.in-Ok.ensures.same t)

pub returns-in-Err-installable-clause-left : goal.returns-in-Err-installable-clause-left
returns-in-Err-installable-clause-left g c t held digest blocks there said =
    unbegun_kept _ (_ ≡ _) c.in-Err-installable.end c.in-Err-installable.ensures.unbegun (c.in-Ok.ensures.same t).reads

pub returns-in-Err-installable-clause-sound : goal.returns-in-Err-installable-clause-sound
returns-in-Err-installable-clause-sound g c t settled held digest blocks there said may =
    weakens (g.D.Disk.flash c.args.disk.now) (g.D.Disk.flash c.load_pages_by.new.disk) (Now (g.D.Disk.flash c.args.disk.now)) Sound (each_sound (g.D.Disk.flash c.args.disk.now) settled) (c.in-Ok.ensures.same t).images

pub returns-in-Err-installable-clause-follows : goal.returns-in-Err-installable-clause-follows
returns-in-Err-installable-clause-follows g c t settled =
    weakens (g.D.Disk.flash c.args.disk.now) (g.D.Disk.flash c.load_pages_by.new.disk) (Now (g.D.Disk.flash c.args.disk.now)) (Follows (g.D.Disk.flash c.args.disk.now).reads) (follows_now c.sound_laws.ensures (g.D.Disk.flash c.args.disk.now) settled) (c.in-Ok.ensures.same t).images

pub returns-in-Err-installable-clause-settled : goal.returns-in-Err-installable-clause-settled
returns-in-Err-installable-clause-settled g c t =
    unbegun_settled (IsSame (g.D.Disk.flash c.args.disk.now) (g.D.Disk.flash c.load_pages_by.new.disk) ⊎ IsSettled (g.D.Disk.flash c.load_pages_by.new.disk)) c.in-Err-installable.end c.in-Err-installable.ensures.unbegun (inl (c.in-Ok.ensures.same t))

pub returns-in-Err-installable-clause-later : goal.returns-in-Err-installable-clause-later
returns-in-Err-installable-clause-later g c t = (c.in-Ok.ensures.same t).images.later

-- ---- by the frame

pub start-requires-clause-layout : goal.start-requires-clause-layout
start-requires-clause-layout g c =
    subst (λ (n : ℕ). IsLayout c.args.frame n c.args.layout.now) (sym c.in-Ok.ensures.size) c.requires.layout

pub start-requires-clause-config : goal.start-requires-clause-config
start-requires-clause-config g c t =
    let layout = c.args.layout.now in
    subst (λ (n : ℕ). HasLayout c.args.frame n (g.D.Disk.flash c.load_pages_by.new.disk).reads layout) (sym c.in-Ok.ensures.size)
    (subst (λ (l : List ℕ). HasLayout c.args.frame (g.D.Disk.extent c.args.disk.now) l layout) (sym (c.in-Ok.ensures.same t).reads) (c.requires.config t))

pub start-requires-clause-loadable : goal.start-requires-clause-loadable
start-requires-clause-loadable g c =
    loadable_as c.args.frame c.as_ref-held.result c.in-Ok.pages.held c.as_ref-held.ensures.value c.in-Ok.ensures.loadable
