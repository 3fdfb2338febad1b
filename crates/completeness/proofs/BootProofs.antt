-- `run boot` is done exactly where it has what it needs.
use Rattle.std.proofs.Common.{◌≡◌, ◌⊎◌, inl, inr, ⊎_elim, ℕ, List, [], length, Option, Some, None, refl, sym, ◌∙◌, ap, subst, arith}
use Rattle.std.proofs.lemmas.Option.{same_Some}
use Rattle.std.specs.Prelude.{IsTrue}
use Rattle.suit_edge.specs.Faults.{Faulted}
use Rattle.suit_manifest.specs.declared.manifest.Manifest.{Manifest}
use Rattle.suit_manifest.specs.Procedures.{invocation_tree}
use Rattle.path_model.specs.declared.cause.Cause.{Cause}
use Rattle.path_model.specs.declared.cause.Cause.TheVariants as causes
use Rattle.flash_layout.specs.declared.frame.Frame.{Frame}
use Rattle.flash_layout.specs.declared.key.Key.{Key}
use Rattle.flash_layout.specs.declared.layout.Entry.{Entry}
use Rattle.flash_layout.specs.declared.slot.Record.{Record}
use Rattle.flash_layout.specs.ConfigLaws.{OneAnswer as OneConfigAnswer}
use Rattle.flash_layout.specs.Configs.{Bad, Blank, ConfigOf, Configured}
use Rattle.flash_layout.specs.Frames.{head_of}
use Rattle.flash_layout.specs.Layouts.{IsLayout}
use Rattle.flash_slots.specs.RamContents.{Held, empty_ram}
use Rattle.rollback_record.specs.HeadRecord.{RecordOf}
use Rattle.rollback_record.specs.RecordLaws.{OneAnswer}
use Rattle.rollback_record.specs.SoundFlash.{IsInstalled, Sound, key_bytes}
use Rattle.step_machine.specs.declared.plan_end.PlanEnd.{PlanEnd}
use Rattle.step_machine.specs.declared.plan_end.PlanEnd.TheVariants as plays
use Rattle.step_machine.specs.declared.spot.Standing.{Standing}
use Rattle.step_machine.specs.Devices.{contents_of, device_at}
use Rattle.path_model.specs.Settings.{steady}
use Rattle.step_machine.specs.PlanRuns.{CountsFor, PlaysPlan, counts_of, setting_of}
use Rattle.invoke_proc.specs.declared.boot_end.BootEnd.{BootEnd}
use Rattle.invoke_proc.specs.declared.boot_end.BootEnd.TheVariants as ends
use Rattle.invoke_proc.specs.Banks.{bank_in}
use Rattle.invoke_proc.specs.BootLaws.{BootLaws}
use Rattle.invoke_proc.specs.Booting.{PlaysBoot, PlaysOn, StandActive}
use Rattle.invoke_proc.specs.Starting.{IsDeclined, IsStarted}
use Rattle.suit_cli.specs.Booting.{Boots, IsBoot, boot_status}
use Rattle.suit_cli.specs.Coming.{Answered, Booted, ByBoot, ByStages, ByUpdate, Ended, ended_status}
use Rattle.suit_cli.specs.Commands.{begins_boot}
use Rattle.suit_cli.specs.Installed.{IsBad, IsBlank}
use Rattle.suit_cli.specs.Launching.{Launching}
use Rattle.suit_cli.specs.LifeLaws.{HasRecorded, SoundnessLaws}
use Rattle.suit_cli.specs.Outside.{Outside}
use Rattle.suit_cli.specs.Program.{ComesTo, answers}
use Rattle.suit_cli.specs.Stages.{Declines, Ending, Ends, FaultOf, Goes, NoMemory, Says}
use Rattle.suit_cli.specs.Statuses.{ending_status}
use Rattle.suit_cli.specs.Words.{RunBoot, RunUpdate, task_of}
use Rattle.suit_cli.proofs.Running.{Declining, holds_none_declines, status_done}
use Rattle.suit_cli.proofs.OneAnswers.{one_config}
use Rattle.suit_cli.proofs.TaskAnswers.{does_of}
use Rattle.suit_cli.proofs.UpdateEnds.{cause_not_low}
use Rattle.completeness.specs.Outcomes.{AreTold, IsFaultless, LeavesFlash}
use Rattle.completeness.specs.Plays.{LeavesPlay}
use Rattle.completeness.specs.Boots.{Activates, BootsWhole, ReadyToBoot, Records, boot_play}
use Rattle.completeness.proofs.Begun.{never_fault, two_faults}
use Rattle.completeness.proofs.Leaving.{completes, leaves, never_condition, never_stops, starved_leaves}
use Rattle.completeness.proofs.SamePlaces.{no_entry, one_standing, same_places, stand_there, turned}
use Rattle.completeness.proofs.UpdatePlayed.{SeesSame}
use Rattle.completeness.proofs.UpdateProofs.{inside_there}

-- ---- the active slots are determined

pub one_active : (frame : Frame) (size : ℕ) (layout : List Entry) → IsLayout frame size layout → (ids : List (List (List ℕ))) (active : List ℕ) (s t : List Standing)
    → StandActive layout ids active s → StandActive layout ids active t → t ≡ s
one_active frame size layout is ids active s t x y =
    let same = same_places frame size layout is ids x.places y.places x.placed y.placed in
    one_standing layout x.places x.slots y.slots s t
    (λ k lt. let inside = inside_there layout ids x.places x.placed k lt in y.chosen.each _ no_entry inside ∙ sym (x.chosen.each _ no_entry inside))
    x.stand (stand_there layout y.places x.places (turned x.places y.places same) y.slots t y.stand)

-- ---- a boot, seen from the start of the run

module _ (l n : Launching) (b a : Outside) (end : BootEnd) (lines : List ℕ) (boots : Boots l n b a end lines) (told : AreTold l b) where
  boot_sees : SeesSame b boots.middle
  boot_sees = record {
    told = ap (λ (o : Outside). o.told) boots.held.0.beside;
    files = ap (λ (o : Outside). o.files) boots.held.0.beside;
    faults = ap (λ (o : Outside). o.faults) boots.held.0.beside;
    flash_told = boots.held.0.still.told;
    reads = boots.held.0.still.reads told.flash;
    flash_faults = boots.held.0.faults;
  }

  boot_files : a.files ≡ b.files
  boot_files = boots.boot.alone.files (subst IsTrue (sym boot_sees.told) told.host) ∙ boot_sees.files

-- ---- stages

-- no reply has status 0
never_done : (b a : Outside) (e : Ending) → begins_boot b a e → ending_status e ≡ 0 → ⊥
never_done b a (Says _) (Declines reply d) zero = subst Declining (status_done reply.outcome zero) (holds_none_declines _ reply d.1)
never_done b a (Says _) (Goes config m _ held (Ends reply same says)) zero = says
never_done b a (FaultOf object) begun zero = ⊎_elim (λ e. omega (arith, e, zero)) (λ e. omega (arith, e, zero)) (two_faults (FaultOf object) tt)
never_done b a NoMemory begun zero = omega (arith, zero)

abbrev Is_reply : Ending → Type 0
Is_reply (Says reply) = Unit {0}
Is_reply _ = ⊥

-- and none comes where there is a configuration
never_reply : OneConfigAnswer → (layout : List Entry) (key : Key) (frame : Frame) (b a : Outside) → IsTrue b.flash.told → ConfigOf b.flash.size b.flash.reads (Configured layout key frame)
    → (e : Ending) → Is_reply e → begins_boot b a e → ⊥
never_reply configs layout key frame b a told held _ is (Declines reply (looks, IsBlank blank says)) =
    let never = configs b.flash.size b.flash.reads (Configured layout key frame) Blank held (blank told) in cc
never_reply configs layout key frame b a told held _ is (Declines reply (looks, IsBad bad says)) =
    let never = configs b.flash.size b.flash.reads (Configured layout key frame) Bad held (bad told) in cc
never_reply configs layout key frame b a told held _ is (Goes config m _ given (Ends reply same says)) = says
never_reply configs layout key frame b a told held (FaultOf object) is begun = is
never_reply configs layout key frame b a told held NoMemory is begun = is

-- ---- done, where it is ready

module _ (configs : OneConfigAnswer) (records : OneAnswer) (laws : BootLaws) where
  module _ (words : List (List ℕ)) (l n : Launching) (b a : Outside) (ready : ReadyToBoot words l b) where
    abbrev R : Records b
    R = ready.records

    abbrev Bank : List ℕ
    Bank = bank_in R.frame b.flash.reads R.installed

    same_record : (r : Record) → RecordOf R.frame (head_of R.frame b.flash.reads) (Some r) → r ≡ R.installed
    same_record r recorded = same_Some r R.installed (records R.frame (head_of R.frame b.flash.reads) (Some r) (Some R.installed) recorded R.recorded)

    -- the play on the active slots
    record Replayed (play : PlanEnd) : Type 0 where
      pub ram : List Held
      pub plays_so : PlaysPlan (invocation_tree R.is.said) (setting_of ready.on.standings [] [] (steady b.files)) play
          (contents_of ready.on.standings (empty_ram R.layout) b.flash.reads) (contents_of ready.on.standings ram a.flash.reads) l.launches n.launches

    replayed : (play : PlanEnd) → PlaysBoot R.frame R.layout R.key b.files (device_at b.flash.reads l.launches) (device_at a.flash.reads n.launches) play → Replayed play
    replayed play p =
        let record_is = same_record p.installed p.starts.recorded in
        let start = laws.installed R.layout R.key Bank R.installed R.is in
        let started = subst (λ (z : Record). IsStarted R.layout (key_bytes R.key) (bank_in R.frame b.flash.reads z) p.starts.said p.manifest) record_is p.starts.started in
        let manifest = (laws.same R.layout (key_bytes R.key) Bank p.starts.said start.0 p.manifest R.is.said R.is.are_bytes started start.1).1 in
        let on = subst (λ (z : Record). PlaysOn R.layout R.is.said z.active b.files (device_at b.flash.reads l.launches) (device_at a.flash.reads n.launches) play) record_is
        (subst (λ (z : Manifest). PlaysOn R.layout z p.installed.active b.files (device_at b.flash.reads l.launches) (device_at a.flash.reads n.launches) play) manifest p.on) in
        let standings = one_active R.frame b.flash.size R.layout (R.configured ready.told.flash).page.allowed R.is.said.components R.installed.active ready.on.standings on.standings
        ready.on.stand on.stand in
        record {
          ram = on.ram;
          plays_so = subst (λ (t : List Standing). PlaysPlan (invocation_tree R.is.said) (setting_of t [] [] (steady b.files)) play
              (contents_of t (empty_ram R.layout) b.flash.reads) (contents_of t on.ram a.flash.reads) l.launches n.launches) standings on.plays;
        }

    never_declined : (r : Record) → RecordOf R.frame (head_of R.frame b.flash.reads) (Some r) → (end : BootEnd) → IsDeclined R.layout (key_bytes R.key) (bank_in R.frame b.flash.reads r) end → ⊥
    never_declined r recorded end declined =
        let start = laws.installed R.layout R.key Bank R.installed R.is in
        laws.none R.layout (key_bytes R.key) Bank start.0 R.is.said end R.is.are_bytes start.1
        (subst (λ (z : Record). IsDeclined R.layout (key_bytes R.key) (bank_in R.frame b.flash.reads z) end) (same_record r recorded) declined)

    module _ (mid : Outside) (sees : SeesSame b mid) (faultless : IsFaultless l n b a) where
      mid_flash_told : IsTrue mid.flash.told
      mid_flash_told = subst IsTrue (sym sees.flash_told) ready.told.flash

      plays_there : (play : PlanEnd) → PlaysBoot R.frame R.layout R.key mid.files (device_at mid.flash.reads l.launches) (device_at a.flash.reads n.launches) play → Replayed play
      plays_there play p = replayed play
          (subst (λ (z : List ℕ → Option (List ℕ)). PlaysBoot R.frame R.layout R.key z (device_at b.flash.reads l.launches) (device_at a.flash.reads n.launches) play) sees.files
          (subst (λ (z : List ℕ). PlaysBoot R.frame R.layout R.key mid.files (device_at z l.launches) (device_at a.flash.reads n.launches) play) sees.reads p))

      recorded_there : (r : Option Record) → RecordOf R.frame (head_of R.frame mid.flash.reads) r → RecordOf R.frame (head_of R.frame b.flash.reads) r
      recorded_there r recorded = subst (λ (z : List ℕ). RecordOf R.frame (head_of R.frame z) r) sees.reads recorded

      declined_there : (r : Record) → RecordOf R.frame (head_of R.frame mid.flash.reads) (Some r) → (end : BootEnd) → IsDeclined R.layout (key_bytes R.key) (bank_in R.frame mid.flash.reads r) end → ⊥
      declined_there r recorded end declined = never_declined r (recorded_there (Some r) recorded) end
          (subst (λ (z : List ℕ). IsDeclined R.layout (key_bytes R.key) (bank_in R.frame z r) end) sees.reads declined)

      never_stopped : (place : ℕ) (cause : Cause) → PlaysBoot R.frame R.layout R.key mid.files (device_at mid.flash.reads l.launches) (device_at a.flash.reads n.launches) (plays.DirectiveFailed place cause)
          → CountsFor cause (counts_of mid.faults mid.flash.faults l.faults) (counts_of a.faults a.flash.faults n.faults) → ⊥
      never_stopped place causes.Missing p c = never_stops _ place causes.Missing _ ready.completes (plays_there (plays.DirectiveFailed place causes.Missing) p).plays_so.ends
      never_stopped place causes.SelfCopy p c = never_stops _ place causes.SelfCopy _ ready.completes (plays_there (plays.DirectiveFailed place causes.SelfCopy) p).plays_so.ends
      never_stopped place causes.TooLarge p c = never_stops _ place causes.TooLarge _ ready.completes (plays_there (plays.DirectiveFailed place causes.TooLarge) p).plays_so.ends
      never_stopped place causes.Absent p c = never_stops _ place causes.Absent _ ready.completes (plays_there (plays.DirectiveFailed place causes.Absent) p).plays_so.ends
      never_stopped place causes.HostFault p c = faultless.host (subst (λ (z : ℕ). Faulted z a.faults) sees.faults c.0)
      never_stopped place causes.FlashFault p c = faultless.flash (subst (λ (z : ℕ). Faulted z a.flash.faults) sees.flash_faults c.1)
      never_stopped place causes.LaunchFault p c = faultless.launcher c.2

      data Way : BootEnd → Type 0 where
        Whole : LeavesPlay ready.on.standings (boot_play R.layout R.is.said R.installed b ready.on) l.launches n.launches a.flash.reads → Way ends.Ended

      way : (end : BootEnd) → IsBoot (R.layout, R.key, R.frame) l n mid a end → Way end
      way ends.Ended u =
          let p = plays_there plays.Done (u.plays mid_flash_told ready.told.launcher) in
          Whole (leaves (invocation_tree R.is.said) _ _ _ _ _ ready.on.standings p.ram a.flash.reads refl p.plays_so)
      way ends.NothingInstalled u =
          let never = records R.frame (head_of R.frame b.flash.reads) None (Some R.installed) (recorded_there None (u.answers mid_flash_told)) R.recorded in absurd cc
      way (ends.BadBank refusal) u = let x = u.answers mid_flash_told in absurd (declined_there x.0 x.1 (ends.BadBank refusal) x.2)
      way (ends.NotAuthentic lacking) u = let x = u.answers mid_flash_told in absurd (declined_there x.0 x.1 (ends.NotAuthentic lacking) x.2)
      way (ends.UnknownComponent component) u = let x = u.answers mid_flash_told in absurd (declined_there x.0 x.1 (ends.UnknownComponent component) x.2)
      way (ends.Condition place) u =
          absurd (never_condition (invocation_tree R.is.said) _ _ _ _ _ place ready.completes
          (plays_there (plays.ConditionFailed place) (u.plays mid_flash_told ready.told.launcher)).plays_so)
      way (ends.Stopped place cause) u = absurd (never_stopped place cause (u.plays mid_flash_told ready.told.launcher) u.counts)
      way ends.FlashFault u = absurd (faultless.flash (subst (λ (z : ℕ). Faulted z a.flash.faults) sees.flash_faults u.counts.1))

    of_way : (end : BootEnd) (lines : List ℕ) (u : Boots l n b a end lines) (faultless : IsFaultless l n b a) → Way u.middle (boot_sees l n b a end lines u ready.told) faultless end
        → BootsWhole words l b ready n a (Booted end lines)
    of_way _ lines u faultless (Whole left) = record { ended_is = ap (λ (z : List ℕ). Booted ends.Ended z) u.lines_are; left = left; files = boot_files l n b a ends.Ended lines u ready.told }

    boot_there : (end : BootEnd) (lines : List ℕ) (u : Boots l n b a end lines) → IsBoot (R.layout, R.key, R.frame) l n u.middle a end
    boot_there end lines u =
        let same = (one_config configs b.flash ready.told.flash).value (R.layout, R.key, R.frame) u.config R.configured u.held.1 in
        subst (λ (config : List Entry × Key × Frame). IsBoot config l n u.middle a end) same u.boot

    of_stages : (e : Ending) → answers words b a e → n ≡ l → IsFaultless l n b a → BootsWhole words l b ready n a (Answered e) ⊎ LeavesFlash l n b a (Answered e)
    of_stages (Says reply) answer same faultless =
        absurd (never_reply configs R.layout R.key R.frame b a ready.told.flash (R.configured ready.told.flash) (Says reply) tt (does_of words b a reply RunBoot ready.asks answer))
    of_stages (FaultOf object) answer same faultless = absurd (never_fault words l n b a (FaultOf object) answer tt faultless)
    of_stages NoMemory answer same faultless = inr (starved_leaves words l n b a ready.told answer same)

    pub boot_completes : (ended : Ended) → IsFaultless l n b a → ComesTo words l n b a ended → BootsWhole words l b ready n a ended ⊎ LeavesFlash l n b a ended
    boot_completes _ faultless (ByStages e answer same) = of_stages e answer same faultless
    boot_completes _ faultless (ByBoot end lines word u) =
        inl (of_way end lines u faultless (way u.middle (boot_sees l n b a end lines u ready.told) faultless end (boot_there end lines u)))
    boot_completes _ faultless (ByUpdate name uris end lines word updates) = let never : Some (RunUpdate name uris) ≡ Some RunBoot = sym word ∙ ready.asks in absurd cc

  -- ---- and only there

  module _ (soundness : SoundnessLaws) (words : List (List ℕ)) (l n : Launching) (b a : Outside) (told : AreTold l b) (word : task_of words ≡ Some RunBoot)
      (size : b.flash.size ≡ length b.flash.reads) (sound : Sound b.flash.reads) where
    module _ (lines : List ℕ) (u : Boots l n b a ends.Ended lines) where
      seen : SeesSame b u.middle
      seen = boot_sees l n b a ends.Ended lines u told

      play : PlaysBoot u.config.2 u.config.0 u.config.1 b.files (device_at b.flash.reads l.launches) (device_at a.flash.reads n.launches) plays.Done
      play =
          subst (λ (z : List ℕ → Option (List ℕ)). PlaysBoot u.config.2 u.config.0 u.config.1 z (device_at b.flash.reads l.launches) (device_at a.flash.reads n.launches) plays.Done) seen.files
          (subst (λ (z : List ℕ). PlaysBoot u.config.2 u.config.0 u.config.1 u.middle.files (device_at z l.launches) (device_at a.flash.reads n.launches) plays.Done) seen.reads
          (u.boot.plays (subst IsTrue (sym seen.flash_told) told.flash) told.launcher))

      has_recorded : HasRecorded u.config.2 u.config.0 u.config.1 play.installed b.flash.reads
      has_recorded = record {
        config = subst (λ (z : ℕ). ConfigOf z b.flash.reads (Configured u.config.0 u.config.1 u.config.2)) size (u.held.1 told.flash);
        record_is = play.starts.recorded;
      }

      is_installed : IsInstalled u.config.0 u.config.1 (bank_in u.config.2 b.flash.reads play.installed) play.installed
      is_installed = soundness.installed u.config.2 u.config.0 u.config.1 play.installed b.flash.reads has_recorded sound

      records_there : Records b
      records_there = record { layout = u.config.0; key = u.config.1; frame = u.config.2; configured = u.held.1; installed = play.installed; recorded = play.starts.recorded; is = is_installed }

      on_there : PlaysOn u.config.0 is_installed.said play.installed.active b.files (device_at b.flash.reads l.launches) (device_at a.flash.reads n.launches) plays.Done
      on_there =
          let start = laws.installed u.config.0 u.config.1 (bank_in u.config.2 b.flash.reads play.installed) play.installed is_installed in
          subst (λ (z : Manifest). PlaysOn u.config.0 z play.installed.active b.files (device_at b.flash.reads l.launches) (device_at a.flash.reads n.launches) plays.Done)
          (laws.same u.config.0 (key_bytes u.config.1) (bank_in u.config.2 b.flash.reads play.installed) play.starts.said start.0 play.manifest is_installed.said is_installed.are_bytes play.starts.started start.1).1
          play.on

      activates : Activates u.config.0 play.installed is_installed.said
      activates = record { standings = on_there.standings; stand = on_there.stand }

      was_ready : ReadyToBoot words l b
      unfolding records_there activates
      was_ready = record {
        asks = word;
        told = told;
        records = records_there;
        on = activates;
        completes = completes (invocation_tree is_installed.said) _ _ _ _ _ on_there.plays;
      }

      was_played : BootsWhole words l b was_ready n a (Booted ends.Ended lines)
      unfolding records_there activates was_ready
      was_played = record {
        ended_is = ap (λ (z : List ℕ). Booted ends.Ended z) u.lines_are;
        left = leaves (invocation_tree is_installed.said) _ _ _ _ _ on_there.standings on_there.ram a.flash.reads refl on_there.plays;
        files = boot_files l n b a ends.Ended lines u told;
      }

    of_end : (end : BootEnd) (lines : List ℕ) → Boots l n b a end lines → boot_status end ≡ 0 → (ready : ReadyToBoot words l b) × BootsWhole words l b ready n a (Booted end lines)
    of_end ends.Ended lines u zero = (was_ready lines u, was_played lines u)
    of_end ends.NothingInstalled lines u zero = absurd (omega (arith, zero))
    of_end (ends.BadBank refusal) lines u zero = absurd (omega (arith, zero))
    of_end (ends.NotAuthentic lacking) lines u zero = absurd (omega (arith, zero))
    of_end (ends.UnknownComponent component) lines u zero = absurd (omega (arith, zero))
    of_end (ends.Condition place) lines u zero = absurd (omega (arith, zero))
    of_end (ends.Stopped place cause) lines u zero = absurd (cause_not_low cause 0 zero (omega arith))
    of_end ends.FlashFault lines u zero = absurd (omega (arith, zero))

    never_stages : (e : Ending) → answers words b a e → ending_status e ≡ 0 → ⊥
    never_stages (Says reply) answer zero = never_done b a (Says reply) (does_of words b a reply RunBoot word answer) zero
    never_stages (FaultOf object) answer zero = ⊎_elim (λ e. omega (arith, e, zero)) (λ e. omega (arith, e, zero)) (two_faults (FaultOf object) tt)
    never_stages NoMemory answer zero = omega (arith, zero)

    pub only_boot : (ended : Ended) → ComesTo words l n b a ended → ended_status ended ≡ 0 → (ready : ReadyToBoot words l b) × BootsWhole words l b ready n a ended
    only_boot _ (ByStages e answer same) zero = absurd (never_stages e answer zero)
    only_boot _ (ByBoot end lines is u) zero = of_end end lines u zero
    only_boot _ (ByUpdate name uris end lines is updates) zero = let never : Some (RunUpdate name uris) ≡ Some RunBoot = sym is ∙ word in absurd cc
