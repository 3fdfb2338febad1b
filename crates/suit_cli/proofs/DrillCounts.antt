-- A command of a round that ended whole counted no fault, and one that lost the power counted one of the flash.
use Rattle.std.proofs.Common.{◌≡◌, ℕ, List, true, false, refl, sym, ap, ◌∙◌, arith}
use Rattle.std.specs.Prelude.{◌≢◌, IsTrue}
use Rattle.suit_edge.specs.Faults.{Faulted}
use Rattle.suit_cli.specs.declared.reply.Object.TheVariants as objects
use Rattle.suit_cli.specs.Beginnings.{begins_boot, begins_update}
use Rattle.suit_cli.specs.Coming.{Comes, ByStages, ByBoot, ByUpdate, Ended, ended_status}
use Rattle.suit_cli.specs.DrillRounds.{is_whole}
use Rattle.suit_cli.specs.Launching.{Launching}
use Rattle.suit_cli.specs.Outside.{Outside}
use Rattle.suit_cli.specs.Stages.{Ending, Says, FaultOf, NoMemory}
use Rattle.suit_cli.specs.Statuses.{ending_status}
use Rattle.suit_cli.specs.Words.{Named, RunBoot, RunUpdate, pairs_of}
use Rattle.suit_cli.proofs.Running.{not_eight}
use Rattle.suit_cli.proofs.RunEnds.{boot_counts}
use Rattle.suit_cli.proofs.StagesKeep.{Counts, Unfaulted, begins_keeps}
use Rattle.suit_cli.proofs.StagesLet.{updates_lets}
use Rattle.suit_cli.proofs.UpdateEnds.{update_counts, update_files}

-- no object counted a fault, and memory did not run out
pub record NoFault (l m : Launching) (b a : Outside) (ended : Ended) : Type 0 where
  pub host : a.faults ≡ b.faults
  pub flash : a.flash.faults ≡ b.flash.faults
  pub launcher : m.faults ≡ l.faults
  pub enough : ended_status ended ≢ 11

-- ---- by the status

other_status : (n k : ℕ) → is_whole n ≡ true → is_whole k ≡ false → n ≢ k
other_status n k whole not_whole is = let never : true ≡ false = sym whole ∙ ap is_whole is ∙ not_whole in absurd cc

stage_whole : (e : Ending) (b a : Outside) → is_whole (ending_status e) ≡ true → Counts e b a → Unfaulted b a
stage_whole (Says r) b a whole counts = counts
stage_whole (FaultOf objects.Host) b a whole counts = absurd (other_status 7 7 whole refl refl)
stage_whole (FaultOf objects.Flash) b a whole counts = absurd (other_status 8 8 whole refl refl)
stage_whole NoMemory b a whole counts = absurd (other_status 11 11 whole refl refl)

stage_cut : (e : Ending) (b a : Outside) → ending_status e ≡ 8 → Counts e b a → Faulted b.flash.faults a.flash.faults
stage_cut (Says r) b a eight counts = absurd (not_eight r.outcome eight)
stage_cut (FaultOf objects.Host) b a eight counts = absurd (omega (arith, eight))
stage_cut (FaultOf objects.Flash) b a eight counts = counts.flash refl
stage_cut NoMemory b a eight counts = absurd (omega (arith, eight))

-- ---- an update

module _ (name : List ℕ) (uris : List Named) (l m : Launching) (b a : Outside) where
  pub update_whole : (ended : Ended) → Comes (begins_update name) (λ task. RunUpdate name uris ≡ task) l m b a ended → is_whole (ended_status ended) ≡ true
      → NoFault l m b a ended
  update_whole _ (ByStages e answer same) whole =
      let calm = stage_whole e b a whole (updates_lets name b a e answer).counts in
      record {
        host = calm.host;
        flash = calm.flash;
        launcher = ap (λ (x : Launching). x.faults) same;
        enough = other_status (ending_status e) 11 whole refl;
      }
  update_whole _ (ByBoot end lines is boots) whole = let never : RunUpdate name uris ≡ RunBoot = is in absurd cc
  update_whole _ (ByUpdate n us end lines is updates) whole =
      let by = update_counts n (pairs_of us) l m b a end lines updates in
      record {
        host = by.only_host (other_status _ 7 whole refl) (other_status _ 8 whole refl);
        flash = by.only_flash (other_status _ 8 whole refl) (other_status _ 10 whole refl);
        launcher = by.only_launcher (other_status _ 10 whole refl) (other_status _ 8 whole refl);
        enough = other_status _ 11 whole refl;
      }

  pub update_cut : (ended : Ended) → Comes (begins_update name) (λ task. RunUpdate name uris ≡ task) l m b a ended → ended_status ended ≡ 8
      → Faulted b.flash.faults a.flash.faults
  update_cut _ (ByStages e answer same) eight = stage_cut e b a eight (updates_lets name b a e answer).counts
  update_cut _ (ByBoot end lines is boots) eight = let never : RunUpdate name uris ≡ RunBoot = is in absurd cc
  update_cut _ (ByUpdate n us end lines is updates) eight = (update_counts n (pairs_of us) l m b a end lines updates).flash eight

  -- it stores no file
  pub update_stays : (ended : Ended) → Comes (begins_update name) (λ task. RunUpdate name uris ≡ task) l m b a ended → IsTrue b.told → a.files ≡ b.files
  update_stays _ (ByStages e answer same) told = (updates_lets name b a e answer).leaves.files told
  update_stays _ (ByBoot end lines is boots) told = let never : RunUpdate name uris ≡ RunBoot = is in absurd cc
  update_stays _ (ByUpdate n us end lines is updates) told = update_files n (pairs_of us) l m b a end lines updates told

-- ---- a boot

pub boot_whole : (l m : Launching) (b a : Outside) (ended : Ended) → Comes begins_boot (λ task. RunBoot ≡ task) l m b a ended → is_whole (ended_status ended) ≡ true
    → NoFault l m b a ended
boot_whole l m b a _ (ByStages e answer same) whole =
    let calm = stage_whole e b a whole (begins_keeps b a e answer).counts in
    record {
      host = calm.host;
      flash = calm.flash;
      launcher = ap (λ (x : Launching). x.faults) same;
      enough = other_status (ending_status e) 11 whole refl;
    }
boot_whole l m b a _ (ByBoot end lines is boots) whole =
    let by = boot_counts l m b a end lines boots in
    record {
      host = by.only_host (other_status _ 7 whole refl) (other_status _ 8 whole refl);
      flash = by.only_flash (other_status _ 8 whole refl) (other_status _ 10 whole refl);
      launcher = by.only_launcher (other_status _ 10 whole refl) (other_status _ 8 whole refl);
      enough = other_status _ 11 whole refl;
    }
boot_whole l m b a _ (ByUpdate n us end lines is updates) whole = let never : RunBoot ≡ RunUpdate n us = is in absurd cc
