-- A boot of a sound flash: nothing is refused, and each launch has its digest.
use Rattle.std.proofs.Common.{◌≡◌, ◌⊎◌, ⊎_elim, ℕ, List, [], length, map, Option, Some, None, refl, sym, ◌∙◌, subst, arith}
use Rattle.std.specs.List.{All, AllByRecursion}
use Rattle.std.proofs.lemmas.List.{append-nil}
use Rattle.suit_edge.specs.Flash.{Flash, IsFlash, IsSame, IsSettled, Keeps, Passes}
use Rattle.suit_edge.specs.FlashLaws.{each_read, keeps_fewer, keeps_same}
use Rattle.suit_edge.specs.declared.launch.Launch.{Launch}
use Rattle.suit_commands.specs.Tree.{PlanTree}
use Rattle.suit_manifest.specs.declared.manifest.Manifest.{Manifest}
use Rattle.suit_manifest.specs.ManifestLaws.{ManifestLaws}
use Rattle.suit_manifest.specs.Procedures.{invocation_tree}
use Rattle.path_model.specs.declared.cause.Cause.{Cause}
use Rattle.path_model.specs.declared.cause.Cause.TheVariants as causes
use Rattle.path_model.specs.DevicePlays.{Device, first_device, plan_play, played}
use Rattle.path_model.specs.Path.{AreIdentities}
use Rattle.path_model.specs.PlayLaws.{FaultedSafeLaunches, HasItsDigest, SafeLaunches}
use Rattle.path_model.specs.Safe.{Safe}
use Rattle.path_model.specs.Settings.{Setting}
use Rattle.flash_layout.specs.declared.frame.Frame.{Frame}
use Rattle.flash_layout.specs.declared.key.Key.{Key}
use Rattle.flash_layout.specs.declared.layout.Entry.{Entry}
use Rattle.flash_layout.specs.declared.slot.Record.{Record}
use Rattle.flash_layout.specs.ConfigLaws.{OneAnswer as OneConfigAnswer}
use Rattle.flash_layout.specs.Configs.{Blank, ConfigOf, Configured}
use Rattle.flash_layout.specs.FrameFacts.{facts}
use Rattle.flash_layout.specs.Frames.{IsFrame, head_of}
use Rattle.flash_layout.specs.Layouts.{IsLayout, IsTypedEntry}
use Rattle.flash_layout.specs.ToldFrames.{IsTold}
use Rattle.rollback_record.specs.Committing.{InHead}
use Rattle.rollback_record.specs.RecordLaws.{OneAnswer}
use Rattle.rollback_record.proofs.SettledLaws.{settled_still, settles}
use Rattle.rollback_record.specs.SoundFlash.{IsInstalled, Settled, Sound, key_bytes}
use Rattle.rollback_record.proofs.SoundBy.{SoundBy, BlankBy, EmptyBy, InstalledBy, sound_by}
use Rattle.step_machine.specs.declared.plan_end.PlanEnd.{PlanEnd}
use Rattle.step_machine.specs.declared.plan_end.PlanEnd.TheVariants as plays
use Rattle.step_machine.specs.Devices.{contents_of, device_at}
use Rattle.flash_slots.specs.RamContents.{empty_ram}
use Rattle.step_machine.specs.Invoking.{launched_as}
use Rattle.path_model.specs.Settings.{steady}
use Rattle.step_machine.specs.PlanRuns.{EndsAs, OutsideTargets, setting_of}
use Rattle.invoke_proc.specs.declared.boot_end.BootEnd.{BootEnd}
use Rattle.invoke_proc.specs.declared.boot_end.BootEnd.TheVariants as ends
use Rattle.invoke_proc.specs.Banks.{bank_in, record_in}
use Rattle.invoke_proc.specs.BootLaws.{BootLaws}
use Rattle.invoke_proc.specs.Booting.{Answers, GainsSafe, KeepsBoot, KeptSo, PlayedSo, PlaysBoot, Starts}
use Rattle.invoke_proc.specs.Sound.{IsUnrefused}
use Rattle.invoke_proc.specs.Starting.{IsDeclined}
use Rattle.step_machine.specs.Typing.{HasIdentifiers}
use Rattle.invoke_proc.proofs.Places.{head_stays, identities_there}

-- ---- the installed envelope

the_layout : (frame : Frame) (a b : List Entry) (k l : Key) → Configured a k frame ≡ Configured b l frame → (a ≡ b) × (k ≡ l)
the_layout frame a b k l same = grind (arith, same)

not_blank : (frame : Frame) (layout : List Entry) (key : Key) → Blank ≡ Configured layout key frame → ⊥
not_blank frame layout key same = grind (arith, same)

the_record : (a b : Record) → Some a ≡ Some b → a ≡ b
the_record a b same = grind (arith, same)

not_none : (r : Record) → None ≡ Some r → ⊥
not_none r same = grind (arith, same)

module _ (configs : OneConfigAnswer) (records : OneAnswer) (laws : BootLaws) (frame : Frame) (layout : List Entry) (key : Key) (reads : List ℕ)
    (told : IsTold (length reads) reads frame) (config : ConfigOf (length reads) reads (Configured layout key frame)) where
  abbrev head : List ℕ
  head = head_of frame reads

  installed_of : (r : Record) → SoundBy frame reads → record_in frame reads (Some r) → IsInstalled layout key (bank_in frame reads r) r
  installed_of r (BlankBy is) recorded = absurd (not_blank frame layout key (configs (length reads) reads Blank (Configured layout key frame) is config))
  installed_of r (EmptyBy other k is none) recorded = absurd (not_none r (records frame head None (Some r) none recorded))
  installed_of r (InstalledBy other k s is held installed) recorded =
      let same = the_layout frame other layout k key (configs (length reads) reads (Configured other k frame) (Configured layout key frame) is config) in
      let one = the_record s r (records frame head (Some s) (Some r) held recorded) in
      subst (λ (t : Record). IsInstalled layout key (bank_in frame reads t) t) one
      (subst (λ (l : Key). IsInstalled layout l (bank_in frame reads s) s) same.1
      (subst (λ (l : List Entry). IsInstalled l k (bank_in frame reads s) s) same.0 installed))

  -- so its bank is not declined
  declined : (answer : BootEnd) (r : Record) → Sound reads → record_in frame reads (Some r) → IsDeclined layout (key_bytes key) (bank_in frame reads r) answer → IsUnrefused answer
  declined answer r sound recorded is =
      let installed = installed_of r (sound_by frame reads told sound) recorded in
      let start = laws.installed layout key (bank_in frame reads r) r installed in
      absurd (laws.none layout (key_bytes key) (bank_in frame reads r) start.0 installed.said answer installed.are_bytes start.1 is)

  pub unrefused : (answer : BootEnd) → Sound reads → Answers frame layout key reads answer → IsUnrefused answer
  unrefused (ends.BadBank refusal) sound is = declined (ends.BadBank refusal) is.0 sound is.1 is.2
  unrefused (ends.NotAuthentic lacking) sound is = declined (ends.NotAuthentic lacking) is.0 sound is.1 is.2
  unrefused (ends.UnknownComponent component) sound is = declined (ends.UnknownComponent component) is.0 sound is.1 is.2
  unrefused _ sound is = tt

  -- a started manifest is one judged safe
  pub safe_start : (r : Record) (m : Manifest) → Sound reads → Starts frame layout key reads r m → Safe (invocation_tree m)
  safe_start r m sound starts =
      let installed = installed_of r (sound_by frame reads told sound) starts.recorded in
      let start = laws.installed layout key (bank_in frame reads r) r installed in
      let same = laws.same layout (key_bytes key) (bank_in frame reads r) start.0 starts.said installed.said m installed.are_bytes start.1 starts.started in
      subst (λ (n : Manifest). Safe (invocation_tree n)) same.1 installed.safe

-- ---- launches

module _ (safe : SafeLaunches) (faulted : FaultedSafeLaunches) (plan : PlanTree) (setting : Setting) (contents : List (List ℕ)) (is : Safe plan)
    (ids : AreIdentities plan setting.identities) (after : Device) where
  abbrev HaveDigests : Device → Type 0
  HaveDigests device = AllByRecursion HasItsDigest device.launches

  of_play : (played plan setting contents).world ≡ after → HaveDigests after
  of_play same = subst HaveDigests same (safe plan setting contents is ids)

  of_stop : (place : ℕ) (cause : Cause) → EndsAs (plan_play plan setting) (first_device contents) (plays.DirectiveFailed place cause) after → HaveDigests after
  of_stop place causes.Missing end = of_play end.world
  of_stop place causes.SelfCopy end = of_play end.world
  of_stop place causes.TooLarge end = of_play end.world
  of_stop place causes.Absent end = of_play end.world
  of_stop place causes.HostFault end = subst HaveDigests end.stops.world (faulted plan setting contents end.outcome end.cut is ids)
  of_stop place causes.FlashFault end = subst HaveDigests end.stops.world (faulted plan setting contents end.outcome end.cut is ids)
  of_stop place causes.LaunchFault end = subst HaveDigests end.stops.world (faulted plan setting contents end.outcome end.cut is ids)

  pub have_digests : (end : PlanEnd) → EndsAs (plan_play plan setting) (first_device contents) end after → HaveDigests after
  have_digests plays.Done end = of_play end.2
  have_digests (plays.ConditionFailed place) end = of_play end.2
  have_digests (plays.DirectiveFailed place cause) end = of_stop place cause end

module _ (safe : SafeLaunches) (faulted : FaultedSafeLaunches) (manifests : ManifestLaws) (frame : Frame) (size : ℕ) (layout : List Entry) (is : IsLayout frame size layout)
    (typed : All HasIdentifiers layout) (key : Key) (files : List ℕ → Option (List ℕ)) (before after : List ℕ) (launched now : List Launch) where
  pub gains : (end : PlanEnd) → (p : PlaysBoot frame layout key files (device_at before launched) (device_at after now) end) → Safe (invocation_tree p.manifest) → GainsSafe launched now
  gains end p safe_plan =
      let holds = p.starts.started.1.spell.says in
      let grammar = manifests.grammatical p.starts.said.manifest_place holds.item p.manifest holds.says_so in
      record {
        gained = p.on.plays.gained;
        added = p.on.plays.added;
        safe =
            have_digests safe faulted (invocation_tree p.manifest) (setting_of p.on.standings [] [] (steady files)) (contents_of p.on.standings (empty_ram layout) before) safe_plan
            (identities_there frame size layout is p.manifest.components p.installed.active p.on.standings grammar.few grammar.apart p.on.stand (invocation_tree p.manifest) typed refl)
            (record { contents = contents_of p.on.standings p.on.ram after; launches = map launched_as p.on.plays.gained; asked = p.on.plays.asks }) end p.on.plays.ends;
      }

  nothing_gained : now ≡ launched → GainsSafe launched now
  nothing_gained same = record { gained = []; added = same ∙ sym (append-nil launched); safe = tt }

  pub played_gains : (P : PlanEnd → Type 0) (Same : Type 0) (answer : BootEnd) → ((end : PlanEnd) → P end → GainsSafe launched now) → PlayedSo P Same launched now answer → GainsSafe launched now
  played_gains P Same ends.Ended to p = to plays.Done p
  played_gains P Same (ends.Condition place) to p = to (plays.ConditionFailed place) p
  played_gains P Same (ends.Stopped place cause) to p = to (plays.DirectiveFailed place cause) p
  played_gains P Same ends.FlashFault to p = ⊎_elim (λ none. nothing_gained none.0) (λ some. to some.0 some.1) p
  played_gains P Same ends.NothingInstalled to p = nothing_gained p
  played_gains P Same (ends.BadBank r) to p = nothing_gained p
  played_gains P Same (ends.NotAuthentic l) to p = nothing_gained p
  played_gains P Same (ends.UnknownComponent i) to p = nothing_gained p

-- ---- the head

module _ (manifests : ManifestLaws) (frame : Frame) (size : ℕ) (is_frame : IsFrame size frame) (layout : List Entry) (is : IsLayout frame size layout) (typed : All IsTypedEntry layout) (key : Key) (a b : Flash) where
  boot_kept : KeepsBoot frame layout key a b → Keeps (InHead frame) a b
  boot_kept kept =
      let holds = kept.starts.started.1.spell.says in
      let grammar = manifests.grammatical kept.starts.said.manifest_place holds.item kept.manifest holds.says_so in
      let plan = invocation_tree kept.manifest in
      keeps_fewer (InHead frame) (OutsideTargets plan kept.others.standings)
      (head_stays frame size layout is kept.manifest.components kept.installed.active kept.others.standings grammar.few grammar.apart kept.others.stand (facts size frame is_frame) plan typed)
      a b kept.others.keeps

  pub head_kept : (answer : BootEnd) → KeptSo (KeepsBoot frame layout key a b) (IsSame a b) answer → Keeps (InHead frame) a b
  head_kept ends.Ended k = boot_kept k
  head_kept (ends.Condition place) k = boot_kept k
  head_kept (ends.Stopped place cause) k = boot_kept k
  head_kept ends.FlashFault k = ⊎_elim (λ same. keeps_same (InHead frame) a b same) (λ kept. boot_kept kept) k
  head_kept ends.NothingInstalled k = keeps_same (InHead frame) a b k
  head_kept (ends.BadBank r) k = keeps_same (InHead frame) a b k
  head_kept (ends.NotAuthentic l) k = keeps_same (InHead frame) a b k
  head_kept (ends.UnknownComponent i) k = keeps_same (InHead frame) a b k

-- at the end, where nothing is pending, or nothing was started
pub settled_end : (a b : Flash) (size : ℕ) → IsFlash b size → Settled a → Passes a b Sound → IsSame a b ⊎ IsSettled b → Settled b
settled_end a b size law settled sound end =
    ⊎_elim (λ same. settled_still a b size law same settled) (λ none. settles b none (each_read a b size Sound law sound)) end
