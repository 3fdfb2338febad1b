-- Why `run boot` ends so.
use Rattle.std.proofs.Common.{◌≡◌, ◌⊎◌, inl, inr, ℕ, List, Option, Some, None, refl, sym, ap, subst, ◌∙◌, arith}
use Rattle.std.specs.Prelude.{IsTrue, codes}
use Rattle.std.proofs.lemmas.Option.{same_Some}
use Rattle.flash_layout.specs.declared.frame.Frame.{Frame}
use Rattle.flash_layout.specs.declared.key.Key.{Key}
use Rattle.flash_layout.specs.declared.layout.Entry.{Entry}
use Rattle.flash_layout.specs.declared.slot.Record.{Record}
use Rattle.flash_layout.specs.ConfigLaws.{OneAnswer as OneConfigAnswer}
use Rattle.flash_layout.specs.Frames.{head_of}
use Rattle.rollback_record.specs.RecordLaws.{OneAnswer}
use Rattle.rollback_record.specs.SoundFlash.{key_bytes}
use Rattle.step_machine.specs.Devices.{device_at}
use Rattle.step_machine.specs.declared.plan_end.PlanEnd.{PlanEnd}
use Rattle.step_machine.specs.declared.plan_end.PlanEnd.TheVariants as plays
use Rattle.invoke_proc.specs.declared.boot_end.BootEnd.{BootEnd}
use Rattle.invoke_proc.specs.declared.boot_end.BootEnd.TheVariants as ends
use Rattle.invoke_proc.specs.Banks.{bank_in, record_in}
use Rattle.invoke_proc.specs.BootLaws.{BootLaws as BankLaws}
use Rattle.invoke_proc.specs.Starting.{IsDeclined}
use Rattle.invoke_proc.specs.Booting.{Answers, PlayedSo, PlaysBoot, end_of}
use Rattle.suit_cli.specs.declared.reply.Object.TheVariants as objects
use Rattle.suit_cli.specs.declared.reply.Reply.{Reply}
use Rattle.suit_cli.specs.BootEndLaws.{BootEndLaws, HasBank, HasBytes, HasStart, StartsNothing, AtConfig, AtRecord, AtBank, AtAuthenticity, AtComponents, Played, IsNoAnswer, OnlyLooked}
use Rattle.suit_cli.specs.Booting.{Boots, boot_line}
use Rattle.suit_cli.specs.Coming.{Comes, ByStages, ByBoot, ByUpdate, Ended, Answered, Booted, ended_status}
use Rattle.suit_cli.specs.Commands.{begins_boot}
use Rattle.suit_cli.specs.Installed.{Holds, HoldsNone}
use Rattle.suit_cli.specs.Launching.{Launching}
use Rattle.suit_cli.specs.Outside.{Looks, Outside}
use Rattle.suit_cli.specs.Stages.{Ending, Says, Last, Ends, EndsWithout, Goes, Declines, Faults, Lacks}
use Rattle.suit_cli.specs.Statuses.{ending_status}
use Rattle.suit_cli.specs.Words.{RunBoot}
use Rattle.suit_cli.proofs.OneAnswers.{one_config}
use Rattle.suit_cli.proofs.Running.{not_eleven}
use Rattle.suit_cli.proofs.Starving.{boot_not_eleven}
use Rattle.suit_cli.proofs.OneCause.{Behind, Stops, Passes, HasOne, just_one, passes}

module _ (launched now : Launching) (before after : Outside) where
  abbrev Caused : Ended → Type 0
  Caused ended = StartsNothing before ended ⊎ (Played launched now before after ended ⊎ IsNoAnswer ended)

  no_reply : (middle : Outside) (ending : Ending) → Last (λ reply. ⊥) middle after ending → Caused (Answered ending)
  no_reply middle _ (Ends reply same none) = absurd none
  no_reply middle _ (EndsWithout same) = inr (inr tt)

  by_stages : (ending : Ending) → begins_boot before after ending → Caused (Answered ending)
  by_stages _ (Goes config middle ending gives rest) = no_reply middle ending rest
  by_stages _ (Declines reply d) = inl (AtConfig reply d.1)
  by_stages _ (Faults objects.Flash f) = inr (inr tt)
  by_stages _ (Faults objects.Host f) = absurd f
  by_stages _ (Lacks l) = inr (inr tt)

  module _ (told : IsTrue before.flash.told) (launcher : IsTrue launched.told) where
    module _ (end : BootEnd) (lines : List ℕ) (b : Boots launched now before after end lines) where
      middle_told : IsTrue b.middle.flash.told
      middle_told = subst IsTrue (sym b.held.0.still.told) told

      reads : b.middle.flash.reads ≡ before.flash.reads
      reads = b.held.0.still.reads told

      files : b.middle.files ≡ before.files
      files = ap (λ (o : Outside). o.files) b.held.0.beside

      answers : Answers b.config.2 b.config.0 b.config.1 before.flash.reads end
      answers = subst (λ (l : List ℕ). Answers b.config.2 b.config.0 b.config.1 l end) reads (b.boot.answers middle_told)

      abbrev Plays : PlanEnd → Type 0
      Plays = PlaysBoot b.config.2 b.config.0 b.config.1 before.files (device_at before.flash.reads launched.launches) (device_at after.flash.reads now.launches)

      played : PlayedSo Plays (after.flash.reads ≡ before.flash.reads) launched.launches now.launches end
      played =
          subst (λ (f : List ℕ → Option (List ℕ)). PlayedSo (PlaysBoot b.config.2 b.config.0 b.config.1 f (device_at before.flash.reads launched.launches) (device_at after.flash.reads now.launches)) (after.flash.reads ≡ before.flash.reads) launched.launches now.launches end) files
          (subst (λ (l : List ℕ). PlayedSo (PlaysBoot b.config.2 b.config.0 b.config.1 b.middle.files (device_at l launched.launches) (device_at after.flash.reads now.launches)) (after.flash.reads ≡ l) launched.launches now.launches end) reads
          (b.boot.plays middle_told launcher))

      with_lines : Caused (Booted end (boot_line end)) → Caused (Booted end lines)
      with_lines = subst (λ (l : List ℕ). Caused (Booted end l)) (sym b.lines_are)

      of_play : (play : PlanEnd) → end ≡ end_of play → Plays play → Caused (Booted end (boot_line end))
      of_play play is p =
          inr (inl (record { layout = b.config.0; key = b.config.1; frame = b.config.2; config = b.held.1; end = play; plays = p; ends_so = ap (λ (e : BootEnd). Booted e (boot_line e)) is }))

    of_end : (end : BootEnd) (lines : List ℕ) (b : Boots launched now before after end lines) → Caused (Booted end (boot_line end))
    of_end ends.NothingInstalled lines b = inl (AtRecord b.config b.held.1 (answers ends.NothingInstalled lines b))
    of_end (ends.BadBank refusal) lines b =
        let a = answers (ends.BadBank refusal) lines b in inl (AtBank b.config a.0 refusal (record { held = b.held.1; recorded = a.1 }) a.2)
    of_end (ends.NotAuthentic lacking) lines b =
        let a = answers (ends.NotAuthentic lacking) lines b in inl (AtAuthenticity b.config a.0 lacking (record { held = b.held.1; recorded = a.1 }) a.2)
    of_end (ends.UnknownComponent component) lines b =
        let a = answers (ends.UnknownComponent component) lines b in inl (AtComponents b.config a.0 component (record { held = b.held.1; recorded = a.1 }) a.2)
    of_end ends.Ended lines b = of_play ends.Ended lines b plays.Done refl (played ends.Ended lines b)
    of_end (ends.Condition place) lines b = of_play (ends.Condition place) lines b (plays.ConditionFailed place) refl (played (ends.Condition place) lines b)
    of_end (ends.Stopped place cause) lines b = of_play (ends.Stopped place cause) lines b (plays.DirectiveFailed place cause) refl (played (ends.Stopped place cause) lines b)
    of_end ends.FlashFault lines b = inr (inr tt)

    pub only : (ended : Ended) → Comes begins_boot (λ task. RunBoot ≡ task) launched now before after ended → Caused ended
    only _ (ByStages ending stages same) = by_stages ending stages
    only _ (ByBoot end lines is boots) = with_lines end lines boots (of_end end lines boots)
    only _ (ByUpdate name uris end lines is updates) = absurd cc

-- ---- one cause

-- nothing is started because of its bank, and so it ended
abbrev BankStops : Outside → List Entry × Key × Frame → Record → Ended → Type 0
BankStops before config installed ended =
    (end : BootEnd) × IsDeclined config.0 (key_bytes config.1) (bank_in config.2 before.flash.reads installed) end × (ended ≡ Booted end (boot_line end))

-- the stages, as the start has them: configuration, record and bank
abbrev NothingStarts : Outside → Ended → Type 0
NothingStarts before =
    Behind (Holds before.flash) (λ (ended : Ended). (reply : Reply) × HoldsNone before.flash reply × (ended ≡ Answered (Says reply))) (λ config.
    Behind (λ (installed : Record). record_in config.2 before.flash.reads (Some installed)) (λ (ended : Ended). record_in config.2 before.flash.reads None × (ended ≡ Booted ends.NothingInstalled (codes "nothing installed\n"))) (λ installed.
    BankStops before config installed))

nothing_stages : (before : Outside) (ended : Ended) → StartsNothing before ended → NothingStarts before ended
nothing_stages before _ (AtConfig reply none) = Stops (reply, none, refl)
nothing_stages before _ (AtRecord config holds none) = Passes config holds (Stops (none, refl))
nothing_stages before _ (AtBank config installed refusal bank bad) = Passes config bank.held (Passes installed bank.recorded (ends.BadBank refusal, bad, refl))
nothing_stages before _ (AtAuthenticity config installed lacking bank lacks) =
    Passes config bank.held (Passes installed bank.recorded (ends.NotAuthentic lacking, lacks, refl))
nothing_stages before _ (AtComponents config installed component bank unknown) =
    Passes config bank.held (Passes installed bank.recorded (ends.UnknownComponent component, unknown, refl))

module _ (configs : OneConfigAnswer) (records : OneAnswer) (laws : BankLaws) (before : Outside) (told : IsTrue before.flash.told) (bytes : HasBytes before) where
  one_held : HasOne (Holds before.flash) (λ (ended : Ended). (reply : Reply) × HoldsNone before.flash reply × (ended ≡ Answered (Says reply)))
  one_held = record {
    value = (one_config configs before.flash told).value;
    refusal = λ a b g h. h.2 ∙ ap (λ reply. Answered (Says reply)) ((one_config configs before.flash told).refusal g.0 h.0 g.1 h.1) ∙ sym g.2;
    never = λ config a g h. (one_config configs before.flash told).never config h.0 g h.1;
  }

  module _ (frame : Frame) where
    same_record : (x y : Record) → record_in frame before.flash.reads (Some x) → record_in frame before.flash.reads (Some y) → y ≡ x
    same_record x y first second = same_Some y x (records frame (head_of frame before.flash.reads) (Some y) (Some x) second first)

    record_or_none : (x : Record) → record_in frame before.flash.reads (Some x) → record_in frame before.flash.reads None → ⊥
    record_or_none x some none = let never : None ≡ Some x = records frame (head_of frame before.flash.reads) None (Some x) none some in absurd cc

    one_recorded : HasOne (λ (installed : Record). record_in frame before.flash.reads (Some installed))
        (λ (ended : Ended). record_in frame before.flash.reads None × (ended ≡ Booted ends.NothingInstalled (codes "nothing installed\n")))
    one_recorded = record { value = same_record; refusal = λ a b g h. h.1 ∙ sym g.1; never = λ x a g h. record_or_none x g h.0 }

  one_stop : (config : List Entry × Key × Frame) (installed : Record) → HasBank before config installed → (a b : Ended) → BankStops before config installed a → BankStops before config installed b
      → b ≡ a
  one_stop config installed bank a b x y =
      let same = laws.one config.0 (key_bytes config.1) (bank_in config.2 before.flash.reads installed) x.0 y.0 (bytes config installed bank) x.1 y.1 in
      y.2 ∙ ap (λ (end : BootEnd). Booted end (boot_line end)) (sym same) ∙ sym x.2

  one_cause : (a b : Ended) → StartsNothing before a → StartsNothing before b → b ≡ a
  one_cause a b first second =
      just_one _ _ _ one_held (λ config held. just_one _ _ _ (one_recorded config.2) (λ installed recorded. one_stop config installed (record { held = held; recorded = recorded }))) a b (nothing_stages before a first) (nothing_stages before b second)

  not_started : (a : Ended) → HasStart before → StartsNothing before a → ⊥
  not_started a s nothing =
      let behind = passes _ _ _ one_held (s.layout, s.key, s.frame) a s.config (nothing_stages before a nothing) in
      let stops = passes _ _ _ (one_recorded s.frame) s.installed a s.starts.recorded behind in
      laws.none s.layout (key_bytes s.key) (bank_in s.frame before.flash.reads s.installed) s.starts.said s.manifest stops.0 (bytes (s.layout, s.key, s.frame) s.installed (record { held = s.config; recorded = s.starts.recorded })) s.starts.started stops.1

  start_of : (launched now : Launching) (after : Outside) (ended : Ended) → Played launched now before after ended → HasStart before
  start_of launched now after ended p = record { layout = p.layout; key = p.key; frame = p.frame; config = p.config; installed = p.plays.installed; manifest = p.plays.manifest; starts = p.plays.starts }

  by_cause : (launched now : Launching) (after : Outside) (a b : Ended) → StartsNothing before a → Caused launched now before after b → (b ≡ a) ⊎ IsNoAnswer b
  by_cause launched now after a b here (inl other) = inl (one_cause a b here other)
  by_cause launched now after a b here (inr (inl p)) = absurd (not_started a (start_of launched now after b p) here)
  by_cause launched now after a b here (inr (inr none)) = inr none

  by_start : (launched now : Launching) (after : Outside) (ended : Ended) → HasStart before → Caused launched now before after ended → Played launched now before after ended ⊎ IsNoAnswer ended
  by_start launched now after ended s (inl other) = absurd (not_started ended s other)
  by_start launched now after ended s (inr rest) = rest

-- ---- where memory runs out

module _ (launched now : Launching) (before after : Outside) where
  ran_out_behind : (middle : Outside) (ending : Ending) → Looks before middle → Last (λ reply. ⊥) middle after ending → Looks before after
  ran_out_behind middle _ looks (Ends reply same none) = absurd none
  ran_out_behind middle _ looks (EndsWithout same) = subst (Looks before) (sym same) looks

  ran_out : (ending : Ending) → begins_boot before after ending → ending_status ending ≡ 11 → Looks before after
  ran_out _ (Goes config middle ending gives rest) eleven = ran_out_behind middle ending gives.0 rest
  ran_out _ (Declines reply d) eleven = absurd (not_eleven reply.outcome eleven)
  ran_out _ (Faults objects.Flash f) eleven = absurd (omega (arith, eleven))
  ran_out _ (Faults objects.Host f) eleven = absurd f
  ran_out _ (Lacks looks) eleven = looks

  starved : (ended : Ended) → Comes begins_boot (λ task. RunBoot ≡ task) launched now before after ended → ended_status ended ≡ 11 → OnlyLooked launched now before after
  starved _ (ByStages ending stages same) eleven = (same, ran_out ending stages eleven)
  starved _ (ByBoot end lines is boots) eleven = absurd (boot_not_eleven end eleven)
  starved _ (ByUpdate name uris end lines is updates) eleven = absurd cc

pub boot_end_laws : OneConfigAnswer → OneAnswer → BankLaws → BootEndLaws
boot_end_laws configs records laws = record {
  only = λ launched now before after ended told launcher comes. only launched now before after told launcher ended comes;
  always = λ launched now before after ended other told launcher bytes here comes.
      by_cause configs records laws before told bytes launched now after ended other here (only launched now before after told launcher other comes);
  started = λ launched now before after ended told launcher bytes start comes.
      by_start configs records laws before told bytes launched now after ended start (only launched now before after told launcher ended comes);
  starved = starved;
}
