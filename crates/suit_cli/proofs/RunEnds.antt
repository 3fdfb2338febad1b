-- How a run ends: in stages, by a boot or by an update.
use Rattle.std.proofs.Common.{◌≡◌, ℕ, List, [], append-nil, Option, Some, None, sym, ap, subst, ◌∙◌, ◌≤◌, arith}
use Rattle.std.specs.Prelude.{IsTrue, ◌≢◌}
use Rattle.suit_edge.specs.declared.launch.Launch.{Launch}
use Rattle.suit_commands.specs.Tree.{PlanTree}
use Rattle.suit_envelope.specs.EnvelopeLaws.{EnvelopeLaws}
use Rattle.suit_manifest.specs.ManifestLaws.{ManifestLaws}
use Rattle.suit_manifest.specs.MembersLaws.{MembersLaws}
use Rattle.rollback_record.specs.RecordLaws.{SomeAnswer}
use Rattle.rollback_record.specs.SoundFlash.{Sound}
use Rattle.step_machine.specs.PlanRuns.{Counts, counts_of}
use Rattle.invoke_proc.specs.declared.boot_end.BootEnd.{BootEnd}
use Rattle.invoke_proc.specs.declared.boot_end.BootEnd.TheVariants as ends
use Rattle.invoke_proc.specs.Booting.{GainsSafe}
use Rattle.invoke_proc.specs.Counting.{BootCounts}
use Rattle.suit_cli.specs.Surroundings.{seen}
use Rattle.suit_cli.specs.Words.{Named, Task, Check, RunUpdate, RunBoot, pairs_of, task_of}
use Rattle.suit_cli.specs.Outside.{Outside, Leaves, Sunk}
use Rattle.suit_cli.specs.Judgement.{AreSafe}
use Rattle.suit_cli.specs.Launching.{Launching}
use Rattle.suit_cli.specs.Booting.{Boots, boot_status}
use Rattle.suit_cli.specs.Coming.{Ended, Answered, Booted, Updated, ByStages, ByBoot, ByUpdate, ended_status}
use Rattle.suit_cli.specs.Updating.{Updates, update_status}
use Rattle.update_proc.specs.declared.update_end.UpdateEnd.{UpdateEnd}
use Rattle.suit_cli.specs.Program.{ComesTo, Puts, PutsText, IsPut, IsCut, Performs, EndsIn, IsStatus, ChecksProcedures, IsCheck, ChecksSafe, ChecksUnsafe, IsUsage, IsCutOff, MayLaunch, AreCounted, AsFound, AsksForUpdate, LeavesBy, KeepsLauncher, most_pulled, stored_by, Checks, SaysYes, SaysNo, SaysNeither}
use Rattle.suit_cli.proofs.Running as running
use Rattle.suit_cli.proofs.RunClauses as staged
use Rattle.suit_cli.proofs.RunClauses.{Staged}
use Rattle.suit_cli.proofs.StagesLet.{answers_lets}
use Rattle.suit_cli.proofs.FilesAsked.{stages_ask, update_asks}
use Rattle.suit_cli.proofs.BootHosts.{boots_without, stages_without}
use Rattle.suit_cli.proofs.StatusNumbers.{by_status, of_ended}
use Rattle.suit_cli.proofs.Starving.{boot_not_eleven, starved_near, update_starved}
use Rattle.suit_cli.proofs.UpdateEnds.{ByStatus, by_cause, cause_not_low, cause_not_nine, flash_failed, unfaulted, update_counts, update_files, update_not, update_not_nine, update_safe, update_told}

-- ---- one way or the other

data Way (words : List (List ℕ)) (l m : Launching) (b a : Outside) (sb sa : Sunk) (result : ℕ) : Type 0 where
  InStages : Staged words b a sb sa result → m ≡ l → Way words l m b a sb sa result
  AsBoot : (end : BootEnd) (lines : List ℕ) → task_of words ≡ Some RunBoot → Boots l m b a end lines → PutsText sb sa (boot_status end) lines result
      → Way words l m b a sb sa result
  AsUpdate : (name : List ℕ) (uris : List Named) (end : UpdateEnd) (lines : List ℕ) → task_of words ≡ Some (RunUpdate name uris) → Updates name (pairs_of uris) (seen b l) (seen a m) end lines
      → PutsText sb sa (update_status end) lines result → Way words l m b a sb sa result

-- ---- the status of a boot

boot_not_nine : (end : BootEnd) → boot_status end ≡ 9 → ⊥
boot_not_nine (ends.Stopped place cause) is = cause_not_nine cause is
boot_not_nine _ is = omega (arith, is)

boot_not : (end : BootEnd) (n : ℕ) → boot_status end ≡ n → n ≤ 2 → (n ≡ 0 → ⊥) → ⊥
boot_not ends.Ended n is low some = some (sym is)
boot_not (ends.Stopped place cause) n is low some = cause_not_low cause n is low
boot_not _ n is low some = omega (arith, is, low)

not_nine_ended : (ended : Ended) → ended_status ended ≡ 9 → ⊥
not_nine_ended (Answered ending) is = running.not_nine_ending ending is
not_nine_ended (Booted end lines) is = boot_not_nine end is
not_nine_ended (Updated end lines) is = update_not_nine end is

-- ---- the counts of a boot

by_end : (end : BootEnd) (before now : Counts) → BootCounts end before now → ByStatus (boot_status end) before now
by_end ends.Ended before now c = unfaulted 0 before now (λ e. omega (arith, e)) (λ e. omega (arith, e)) (λ e. omega (arith, e)) c
by_end ends.NothingInstalled before now c = unfaulted 15 before now (λ e. omega (arith, e)) (λ e. omega (arith, e)) (λ e. omega (arith, e)) c
by_end (ends.BadBank refusal) before now c = unfaulted 3 before now (λ e. omega (arith, e)) (λ e. omega (arith, e)) (λ e. omega (arith, e)) c
by_end (ends.NotAuthentic lacking) before now c = unfaulted 4 before now (λ e. omega (arith, e)) (λ e. omega (arith, e)) (λ e. omega (arith, e)) c
by_end (ends.UnknownComponent component) before now c = unfaulted 18 before now (λ e. omega (arith, e)) (λ e. omega (arith, e)) (λ e. omega (arith, e)) c
by_end (ends.Condition place) before now c = unfaulted 6 before now (λ e. omega (arith, e)) (λ e. omega (arith, e)) (λ e. omega (arith, e)) c
by_end (ends.Stopped place cause) before now c = by_cause cause before now c
by_end ends.FlashFault before now c = flash_failed before now c.1

-- ---- a boot, seen from the start of the run

module _ (l m : Launching) (b a : Outside) (end : BootEnd) (lines : List ℕ) (boots : Boots l m b a end lines) where
  same_told : boots.middle.told ≡ b.told
  same_told = ap (λ (o : Outside). o.told) boots.held.0.beside

  same_files : boots.middle.files ≡ b.files
  same_files = ap (λ (o : Outside). o.files) boots.held.0.beside

  same_faults : boots.middle.faults ≡ b.faults
  same_faults = ap (λ (o : Outside). o.faults) boots.held.0.beside

  boot_told : a.told ≡ b.told
  boot_told = boots.boot.alone.told ∙ same_told

  boot_files : IsTrue b.told → a.files ≡ b.files
  boot_files told = boots.boot.alone.files (subst IsTrue (sym same_told) told) ∙ same_files

  pub boot_counts : ByStatus (boot_status end) (counts_of b.faults b.flash.faults l.faults) (counts_of a.faults a.flash.faults m.faults)
  boot_counts = by_end end _ _ (subst (λ (n : ℕ). BootCounts end (counts_of b.faults n l.faults) (counts_of a.faults a.flash.faults m.faults)) boots.held.0.faults
      (subst (λ (n : ℕ). BootCounts end (counts_of n boots.middle.flash.faults l.faults) (counts_of a.faults a.flash.faults m.faults)) same_faults boots.boot.counts))

  pub boot_safe : IsTrue b.flash.told → IsTrue l.told → Sound b.flash.reads → GainsSafe l.launches m.launches
  boot_safe flash_told launcher_told sound =
      boots.boot.safe (subst IsTrue (sym boots.held.0.still.told) flash_told) launcher_told
      (subst Sound (sym (boots.held.0.still.reads flash_told)) sound)

gains_none : (launched now : List Launch) → now ≡ launched → GainsSafe launched now
gains_none launched now same = record { gained = []; added = same ∙ sym (append-nil launched); safe = tt }

leaves_by : (task : Option Task) (b a : Outside) → Leaves (most_pulled task b.files) (stored_by task) b a → LeavesBy task b a
leaves_by (Some (RunUpdate name uris)) b a left = (left.told, left.files)
leaves_by (Some RunBoot) b a left = (left.told, left.files)
leaves_by _ b a left = left

-- ---- the clauses

module _ (words : List (List ℕ)) (l m : Launching) (b a : Outside) (sb sa : Sunk) (result : ℕ) (runs : Performs words (seen b l) (seen a m) sb sa result) where
  way : Way words l m b a sb sa result
  way = of_comes runs.ended runs.comes runs.puts where
    of_comes : (ended : Ended) → ComesTo words l m b a ended → Puts sb sa ended result → Way words l m b a sb sa result
    of_comes _ (ByStages ending answer same) puts = InStages (record { ending = ending; answer = answer; puts = puts }) same
    of_comes _ (ByBoot end lines word boots) puts = AsBoot end lines word boots puts
    of_comes _ (ByUpdate name uris end lines word updates) puts = AsUpdate name uris end lines word updates puts

  pub yes : IsTrue b.told → IsCheck words → result ≡ 0 → ChecksSafe words b
  yes told check zero = of_way way where
    of_way : Way words l m b a sb sa result → ChecksSafe words b
    of_way (InStages run same) = staged.yes words b a sb sa result run told check zero
    of_way (AsBoot end lines word boots puts) = let never : Some (Check check.0) ≡ Some RunBoot = sym check.1 ∙ word in absurd cc
    of_way (AsUpdate name uris end lines word updates puts) = let never : Some (Check check.0) ≡ Some (RunUpdate name uris) = sym check.1 ∙ word in absurd cc

  low_boot : (end : BootEnd) (lines : List ℕ) → PutsText sb sa (boot_status end) lines result → result ≤ 2 → (result ≡ 0 → ⊥) → ⊥
  low_boot end lines (IsPut is still puts) low some = boot_not end result (sym is) low some
  low_boot end lines (IsCut is faulted puts) low some = omega (arith, is, low)

  low_update : (end : UpdateEnd) (lines : List ℕ) → PutsText sb sa (update_status end) lines result → result ≤ 2 → (result ≡ 0 → ⊥) → ⊥
  low_update end lines (IsPut is still puts) low some = update_not end result (sym is) low some
  low_update end lines (IsCut is faulted puts) low some = omega (arith, is, low)

  pub no_path : IsTrue b.told → result ≡ 1 → ChecksUnsafe words b sb sa
  no_path told one = of_way way where
    of_way : Way words l m b a sb sa result → ChecksUnsafe words b sb sa
    of_way (InStages run same) = staged.no_path words b a sb sa result run one
    of_way (AsBoot end lines word boots puts) = absurd (low_boot end lines puts (omega (arith, one)) (λ zero. omega (arith, one, zero)))
    of_way (AsUpdate name uris end lines word updates puts) = absurd (low_update end lines puts (omega (arith, one)) (λ zero. omega (arith, one, zero)))

  module _ (envelopes : EnvelopeLaws) (manifests : ManifestLaws) (members : MembersLaws) (u i : PlanTree) (checks_it : ChecksProcedures words b u i) where
    pub safe_is_yes : AreSafe u i → EndsIn 0 result
    safe_is_yes safe = of_way way where
      of_way : Way words l m b a sb sa result → EndsIn 0 result
      of_way (InStages run same) = staged.safe_is_yes words b a sb sa result run envelopes manifests members u i checks_it safe
      of_way (AsBoot end lines word boots puts) = let never : Some (Check checks_it.name) ≡ Some RunBoot = sym checks_it.word ∙ word in absurd cc
      of_way (AsUpdate name uris end lines word updates puts) = let never : Some (Check checks_it.name) ≡ Some (RunUpdate name uris) = sym checks_it.word ∙ word in absurd cc

    pub unsafe_is_no : (AreSafe u i → ⊥) → EndsIn 1 result
    unsafe_is_no refuted = of_way way where
      of_way : Way words l m b a sb sa result → EndsIn 1 result
      of_way (InStages run same) = staged.unsafe_is_no words b a sb sa result run envelopes manifests members u i checks_it refuted
      of_way (AsBoot end lines word boots puts) = let never : Some (Check checks_it.name) ≡ Some RunBoot = sym checks_it.word ∙ word in absurd cc
      of_way (AsUpdate name uris end lines word updates puts) = let never : Some (Check checks_it.name) ≡ Some (RunUpdate name uris) = sym checks_it.word ∙ word in absurd cc

  -- of `check`, by its status
  pub checks : EnvelopeLaws → ManifestLaws → MembersLaws → IsTrue b.told → IsCheck words → Checks words b sb sa result
  checks envelopes manifests members told check = of_way way where
    of_way : Way words l m b a sb sa result → Checks words b sb sa result
    of_way (InStages run same) =
        by_status result (λ is. SaysYes is (yes told check is)) (λ is. SaysNo is (no_path told is))
        (λ not_yes not_no. SaysNeither not_yes not_no (staged.no_flash words b a sb sa result run check) (staged.no_answer words b a sb sa result run check envelopes manifests members not_yes not_no))
    of_way (AsBoot end lines word boots puts) = let never : Some (Check check.0) ≡ Some RunBoot = sym check.1 ∙ word in absurd cc
    of_way (AsUpdate name uris end lines word updates puts) = let never : Some (Check check.0) ≡ Some (RunUpdate name uris) = sym check.1 ∙ word in absurd cc

  pub usage : result ≡ 2 → IsUsage words sb sa
  usage two = of_way way where
    of_way : Way words l m b a sb sa result → IsUsage words sb sa
    of_way (InStages run same) = staged.usage words b a sb sa result run two
    of_way (AsBoot end lines word boots puts) = absurd (low_boot end lines puts (omega (arith, two)) (λ zero. omega (arith, two, zero)))
    of_way (AsUpdate name uris end lines word updates puts) = absurd (low_update end lines puts (omega (arith, two)) (λ zero. omega (arith, two, zero)))

  pub no_command_is_usage : task_of words ≡ None → EndsIn 2 result
  no_command_is_usage none = of_way way where
    of_way : Way words l m b a sb sa result → EndsIn 2 result
    of_way (InStages run same) = staged.no_command_is_usage words b a sb sa result run none
    of_way (AsBoot end lines word boots puts) = let never : None ≡ Some RunBoot = sym none ∙ word in absurd cc
    of_way (AsUpdate name uris end lines word updates puts) = let never : None ≡ Some (RunUpdate name uris) = sym none ∙ word in absurd cc

  pub stays : LeavesBy (task_of words) b a
  stays = of_way way where
    of_way : Way words l m b a sb sa result → LeavesBy (task_of words) b a
    of_way (InStages run same) = leaves_by (task_of words) b a (answers_lets words b a run.ending run.answer).leaves
    of_way (AsBoot end lines word boots puts) = subst (λ (t : Option Task). LeavesBy t b a) (sym word) (boot_told l m b a end lines boots, boot_files l m b a end lines boots)
    of_way (AsUpdate name uris end lines word updates puts) =
        subst (λ (t : Option Task). LeavesBy t b a) (sym word) (update_told name (pairs_of uris) l m b a end lines updates, update_files name (pairs_of uris) l m b a end lines updates)

  pub asks : (name : List ℕ) (uris : List Named) → task_of words ≡ Some (RunUpdate name uris) → IsTrue b.told → AsksForUpdate name (pairs_of uris) b a
  asks name uris is told = of_way way where
    same_words : (other : List ℕ) (others : List Named) → task_of words ≡ Some (RunUpdate other others) → AsksForUpdate other (pairs_of others) b a → AsksForUpdate name (pairs_of uris) b a
    same_words other others word by =
        let both : Some (RunUpdate other others) ≡ Some (RunUpdate name uris) = sym word ∙ is in
        let one : other ≡ name = cc in
        let all : others ≡ uris = cc in
        subst (λ (n : List ℕ). AsksForUpdate n (pairs_of uris) b a) one (subst (λ (u : List Named). AsksForUpdate other (pairs_of u) b a) all by)

    of_way : Way words l m b a sb sa result → AsksForUpdate name (pairs_of uris) b a
    of_way (InStages run same) = stages_ask words name uris is b a run.ending run.answer told
    of_way (AsBoot end lines word boots puts) = let never : Some RunBoot ≡ Some (RunUpdate name uris) = sym word ∙ is in absurd cc
    of_way (AsUpdate other others end lines word updates puts) = same_words other others word (update_asks other (pairs_of others) l m b a end lines updates told)

  pub only_launching : KeepsLauncher words l m
  only_launching never = of_way way where
    of_way : Way words l m b a sb sa result → m ≡ l
    of_way (InStages run same) = same
    of_way (AsBoot end lines word boots puts) = absurd (never (subst MayLaunch (sym word) tt))
    of_way (AsUpdate name uris end lines word updates puts) = absurd (never (subst MayLaunch (sym word) tt))

  pub launches : IsTrue b.flash.told → IsTrue l.told → (task_of words ≡ Some RunBoot → Sound b.flash.reads) → GainsSafe l.launches m.launches
  launches flash_told launcher_told sound = of_way way where
    of_way : Way words l m b a sb sa result → GainsSafe l.launches m.launches
    of_way (InStages run same) = gains_none l.launches m.launches (ap (λ (x : Launching). x.launches) same)
    of_way (AsBoot end lines word boots puts) = boot_safe l m b a end lines boots flash_told launcher_told (sound word)
    of_way (AsUpdate name uris end lines word updates puts) = update_safe name (pairs_of uris) l m b a end lines updates flash_told launcher_told

  pub is_status : IsStatus result
  is_status = of_puts runs.puts where
    of_puts : Puts sb sa runs.ended result → IsStatus result
    of_puts (IsPut is still puts) = omega (arith, is, of_ended runs.ended)
    of_puts (IsCut is faulted puts) = omega (arith, is)

  -- the count of an object, where the status was put
  put_status : (n : ℕ) (text : List ℕ) → PutsText sb sa n text result → result ≢ 9 → result ≡ n
  put_status n text (IsPut is still puts) never = is
  put_status n text (IsCut is faulted puts) never = absurd (never is)

  only_output_fault : result ≢ 9 → sa.faults ≡ sb.faults
  only_output_fault never = of_puts runs.puts where
    of_puts : Puts sb sa runs.ended result → sa.faults ≡ sb.faults
    of_puts (IsPut is still puts) = still
    of_puts (IsCut is faulted puts) = absurd (never is)

  -- of a boot or an update
  counted_by : (n : ℕ) (text : List ℕ) → MayLaunch (task_of words) → PutsText sb sa n text result
      → ByStatus n (counts_of b.faults b.flash.faults l.faults) (counts_of a.faults a.flash.faults m.faults)
      → AreCounted words (seen b l) (seen a m) sb sa result
  counted_by n text launches puts by = record {
    host = λ is. by.host (sym (put_status n text puts (λ nine. omega (arith, is, nine))) ∙ is);
    only_host = λ never cut hides. by.only_host (λ e. never (put_status n text puts cut ∙ e)) (λ e. hides (launches, put_status n text puts cut ∙ e));
    flash = λ is. by.flash (sym (put_status n text puts (λ nine. omega (arith, is, nine))) ∙ is);
    only_flash = λ never cut other. by.only_flash (λ e. never (put_status n text puts cut ∙ e)) (λ e. other (put_status n text puts cut ∙ e));
    launcher = λ is. by.launcher (sym (put_status n text puts (λ nine. omega (arith, is, nine))) ∙ is);
    only_launcher = λ never cut hides. by.only_launcher (λ e. never (put_status n text puts cut ∙ e)) (λ e. hides (launches, put_status n text puts cut ∙ e));
    only_output = only_output_fault;
  }

  pub counts : AreCounted words (seen b l) (seen a m) sb sa result
  counts = of_way way where
    of_way : Way words l m b a sb sa result → AreCounted words (seen b l) (seen a m) sb sa result
    of_way (InStages run same) =
        let kept = staged.kept words b a sb sa result run in
        let host = staged.host_counts words b a sb sa result run run.ending kept in
        let flash = staged.flash_counts words b a sb sa result run run.ending kept in
        record {
          host = λ is. host.0 (sym (put_status _ _ run.puts (λ nine. omega (arith, is, nine))) ∙ is);
          only_host = λ never cut hides. host.1 (λ e. never (put_status _ _ run.puts cut ∙ e));
          flash = λ is. flash.0 (sym (put_status _ _ run.puts (λ nine. omega (arith, is, nine))) ∙ is);
          only_flash = λ never cut other. flash.1 (λ e. never (put_status _ _ run.puts cut ∙ e));
          launcher = λ is. absurd (staged.not_ten run.ending (sym (put_status _ _ run.puts (λ nine. omega (arith, is, nine))) ∙ is));
          only_launcher = λ never cut hides. ap (λ (x : Launching). x.faults) same;
          only_output = only_output_fault;
        }
    of_way (AsBoot end lines word boots puts) =
        counted_by _ _ (subst MayLaunch (sym word) tt) puts (boot_counts l m b a end lines boots)
    of_way (AsUpdate name uris end lines word updates puts) =
        counted_by _ _ (subst MayLaunch (sym word) tt) puts (update_counts name (pairs_of uris) l m b a end lines updates)

  pub no_host : IsTrue b.flash.told → IsTrue l.told → task_of words ≡ Some RunBoot → result ≡ 7 → ⊥
  no_host flash_told launcher_told is_boot seven = of_way way where
    of_way : Way words l m b a sb sa result → ⊥
    of_way (InStages run same) = stages_without words is_boot b a run.ending run.answer (sym (put_status _ _ run.puts (λ nine. omega (arith, seven, nine))) ∙ seven)
    of_way (AsBoot end lines word boots puts) =
        boots_without l m b a end lines boots flash_told launcher_told (sym (put_status _ _ puts (λ nine. omega (arith, seven, nine))) ∙ seven)
    of_way (AsUpdate name uris end lines word updates puts) = let never : Some (RunUpdate name uris) ≡ Some RunBoot = sym word ∙ is_boot in absurd cc

  pub starved : SomeAnswer → result ≡ 11 → AsFound (seen b l) (seen a m)
  starved records eleven = of_way way where
    of_way : Way words l m b a sb sa result → AsFound (seen b l) (seen a m)
    of_way (InStages run same) =
        let near = starved_near words b a run.ending (sym (put_status _ _ run.puts (λ nine. omega (arith, eleven, nine))) ∙ eleven) run.answer in
        record { files = near.files; reads = near.flash.reads; launches = λ flash launcher. ap (λ (x : Launching). x.launches) same }
    of_way (AsBoot end lines word boots puts) = absurd (boot_not_eleven end (sym (put_status _ _ puts (λ nine. omega (arith, eleven, nine))) ∙ eleven))
    of_way (AsUpdate name uris end lines word updates puts) =
        update_starved name (pairs_of uris) l m b a records end lines updates (sym (put_status _ _ puts (λ nine. omega (arith, eleven, nine))) ∙ eleven)

  pub cut_off : result ≡ 9 → IsCutOff words (seen b l) (seen a m) sb sa
  cut_off nine = of_puts runs.puts where
    of_puts : Puts sb sa runs.ended result → IsCutOff words (seen b l) (seen a m) sb sa
    of_puts (IsPut is still puts) = absurd (not_nine_ended runs.ended (sym is ∙ nine))
    of_puts (IsCut is faulted puts) = record { faulted = faulted; ended = runs.ended; comes = runs.comes; puts = puts }
