-- The launches of a boot of a sound flash.
use Rattle.std.proofs.Common.{◌≡◌, ◌⊎◌, inl, inr, ⊎_elim, ℕ, List, length, Option, sym, ◌∙◌, ap, subst}
use Rattle.std.specs.Prelude.{IsTrue}
use Rattle.step_machine.specs.Devices.{device_at}
use Rattle.suit_edge.specs.declared.launch.Launch.{Launch}
use Rattle.suit_manifest.specs.declared.manifest.Manifest.{Manifest}
use Rattle.flash_layout.specs.declared.frame.Frame.{Frame}
use Rattle.flash_layout.specs.declared.key.Key.{Key}
use Rattle.flash_layout.specs.declared.layout.Entry.{Entry}
use Rattle.flash_layout.specs.ConfigLaws.{OneAnswer as OneConfigAnswer}
use Rattle.flash_layout.specs.Configs.{ConfigOf, Configured}
use Rattle.rollback_record.specs.RecordLaws.{OneAnswer}
use Rattle.rollback_record.specs.SoundFlash.{Sound, key_bytes}
use Rattle.step_machine.specs.declared.plan_end.PlanEnd.{PlanEnd}
use Rattle.step_machine.specs.declared.plan_end.PlanEnd.TheVariants as plays
use Rattle.invoke_proc.specs.declared.boot_end.BootEnd.{BootEnd}
use Rattle.invoke_proc.specs.declared.boot_end.BootEnd.TheVariants as ends
use Rattle.invoke_proc.specs.Banks.{bank_in}
use Rattle.invoke_proc.specs.BootLaws.{BootLaws}
use Rattle.invoke_proc.specs.Booting.{GainsSafe, PlayedSo, PlaysBoot, PlaysOn}
use Rattle.suit_cli.specs.Outside.{Outside}
use Rattle.suit_cli.specs.LifeLaws.{HasRecorded, LifeLaws}
use Rattle.suit_cli.specs.LaunchedLaws.{BootsRecorded, LaunchedLaws, LaunchesRecorded}
use Rattle.suit_cli.proofs.LifeLawProofs.{installed_in}

module _ (configs : OneConfigAnswer) (records : OneAnswer) (laws : BootLaws) where
  -- ---- one play

  module _ (frame : Frame) (layout : List Entry) (key : Key) (files : List ℕ → Option (List ℕ)) (image after : List ℕ) (launched now : List Launch) (sound : Sound image)
      (config : ConfigOf (length image) image (Configured layout key frame)) (gains : GainsSafe launched now) where
    abbrev Plays : PlanEnd → Type 0
    Plays end = PlaysBoot frame layout key files (device_at image launched) (device_at after now) end

    abbrev Launches : Type 0
    Launches = LaunchesRecorded layout key files image after launched now

    of_play : (end : PlanEnd) → Plays end → Launches
    of_play end p =
        let has : HasRecorded frame layout key p.installed image = record { config = config; record_is = p.starts.recorded } in
        let is = installed_in configs records frame layout key p.installed image has sound in
        let start = laws.installed layout key (bank_in frame image p.installed) p.installed is in
        let same = laws.same layout (key_bytes key) (bank_in frame image p.installed) p.starts.said start.0 p.manifest is.said is.are_bytes p.starts.started start.1 in
        record {
          frame = frame;
          installed = p.installed;
          recorded = has;
          is = is;
          end = end;
          plays = subst (λ (m : Manifest). PlaysOn layout m p.installed.active files (device_at image launched) (device_at after now) end) same.1 p.on;
          gains = gains;
        }

    of_end : (Same : Type 0) (end : BootEnd) → PlayedSo Plays Same launched now end → (now ≡ launched) ⊎ Launches
    of_end Same ends.Ended p = inr (of_play plays.Done p)
    of_end Same (ends.Condition place) p = inr (of_play (plays.ConditionFailed place) p)
    of_end Same (ends.Stopped place cause) p = inr (of_play (plays.DirectiveFailed place cause) p)
    of_end Same ends.FlashFault p = ⊎_elim (λ none. inl none.0) (λ some. inr (of_play some.0 some.1)) p
    of_end Same ends.NothingInstalled p = inl p
    of_end Same (ends.BadBank refusal) p = inl p
    of_end Same (ends.NotAuthentic lacking) p = inl p
    of_end Same (ends.UnknownComponent component) p = inl p

  -- ---- a boot

  boots_recorded : (image : List ℕ) → Sound image → BootsRecorded image
  boots_recorded image sound launched now before after end lines holds boots =
      let looks = boots.held.0 in
      let flash_told : IsTrue boots.middle.flash.told = subst IsTrue (sym looks.still.told) holds.flash in
      let files : boots.middle.files ≡ before.files = ap (λ (o : Outside). o.files) looks.beside in
      let reads : boots.middle.flash.reads ≡ image = looks.still.reads holds.flash ∙ holds.reads in
      let config : ConfigOf (length image) image (Configured boots.config.0 boots.config.1 boots.config.2) =
      subst (λ (n : ℕ). ConfigOf n image (Configured boots.config.0 boots.config.1 boots.config.2)) holds.size
      (subst (λ (l : List ℕ). ConfigOf before.flash.size l (Configured boots.config.0 boots.config.1 boots.config.2)) holds.reads (boots.held.1 holds.flash)) in
      let gains = boots.boot.safe flash_told holds.launcher (subst Sound (sym reads) sound) in
      let played = subst (λ (f : List ℕ → Option (List ℕ)). PlayedSo (λ e. PlaysBoot boots.config.2 boots.config.0 boots.config.1 f (device_at image launched.launches) (device_at after.flash.reads now.launches) e) (after.flash.reads ≡ image) launched.launches now.launches end) files
      (subst (λ (l : List ℕ). PlayedSo (λ e. PlaysBoot boots.config.2 boots.config.0 boots.config.1 boots.middle.files (device_at l launched.launches) (device_at after.flash.reads now.launches) e) (after.flash.reads ≡ l) launched.launches now.launches end) reads
      (boots.boot.plays flash_told holds.launcher)) in
      ⊎_elim (λ same. inl same) (λ some. inr (boots.config.0, boots.config.1, some))
      (of_end boots.config.2 boots.config.0 boots.config.1 before.files image after.flash.reads launched.launches now.launches sound config gains (after.flash.reads ≡ image) end played)

  pub launched_laws : LifeLaws → LaunchedLaws
  launched_laws lives = record {
    sound = boots_recorded;
    life = λ images life k d lt. boots_recorded _ (lives.sound images life k d lt);
  }
