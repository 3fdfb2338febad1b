-- The status and the counts of an update, seen from the start of the run.
use Rattle.std.proofs.Common.{◌≡◌, ℕ, List, refl, sym, ap, subst, ◌∙◌, ◌≤◌, arith}
use Rattle.std.specs.Prelude.{IsTrue, ◌≢◌}
use Rattle.suit_edge.specs.Faults.{Faulted}
use Rattle.path_model.specs.declared.cause.Cause.{Cause}
use Rattle.path_model.specs.declared.cause.Cause.TheVariants as causes
use Rattle.step_machine.specs.PlanRuns.{Counts, CountsFor, counts_of}
use Rattle.invoke_proc.specs.Booting.{GainsSafe}
use Rattle.update_proc.specs.declared.update_end.UpdateEnd.{UpdateEnd}
use Rattle.update_proc.specs.declared.update_end.UpdateEnd.TheVariants as ends
use Rattle.update_proc.specs.Ends.{UpdateCounts}
use Rattle.suit_cli.specs.Outside.{Outside, Flashed}
use Rattle.suit_cli.specs.Launching.{Launching, cause_status}
use Rattle.suit_cli.specs.Surroundings.{seen}
use Rattle.suit_cli.specs.Updating.{Updates, update_status}

-- ---- the counts, by a status

pub record ByStatus (n : ℕ) (before now : Counts) : Type 0 where
  pub host : n ≡ 7 → Faulted before.host now.host
  pub only_host : n ≢ 7 → n ≢ 8 → now.host ≡ before.host
  pub flash : n ≡ 8 → Faulted before.disk now.disk
  pub only_flash : n ≢ 8 → n ≢ 10 → now.disk ≡ before.disk
  pub launcher : n ≡ 10 → Faulted before.launcher now.launcher
  pub only_launcher : n ≢ 10 → n ≢ 8 → now.launcher ≡ before.launcher

pub unfaulted : (n : ℕ) (before now : Counts) → (n ≡ 7 → ⊥) → (n ≡ 8 → ⊥) → (n ≡ 10 → ⊥) → now ≡ before → ByStatus n before now
unfaulted n before now not_host not_flash not_launcher same = record {
  host = λ is. absurd (not_host is);
  only_host = λ one two. ap (λ (c : Counts). c.host) same;
  flash = λ is. absurd (not_flash is);
  only_flash = λ one two. ap (λ (c : Counts). c.disk) same;
  launcher = λ is. absurd (not_launcher is);
  only_launcher = λ one two. ap (λ (c : Counts). c.launcher) same;
}

pub flash_failed : (before now : Counts) → Faulted before.disk now.disk → ByStatus 8 before now
flash_failed before now faulted = record {
  host = λ is. absurd (omega (arith, is));
  only_host = λ one two. absurd (two refl);
  flash = λ is. faulted;
  only_flash = λ one two. absurd (one refl);
  launcher = λ is. absurd (omega (arith, is));
  only_launcher = λ one two. absurd (two refl);
}

pub by_cause : (cause : Cause) (before now : Counts) → CountsFor cause before now → ByStatus (cause_status cause) before now
by_cause causes.HostFault before now c = record {
  host = λ is. c.0;
  only_host = λ one two. absurd (one refl);
  flash = λ is. absurd (omega (arith, is));
  only_flash = λ one two. c.1;
  launcher = λ is. absurd (omega (arith, is));
  only_launcher = λ one two. c.2;
}
by_cause causes.FlashFault before now c = flash_failed before now c.1
by_cause causes.LaunchFault before now c = record {
  host = λ is. absurd (omega (arith, is));
  only_host = λ one two. c.0;
  flash = λ is. absurd (omega (arith, is));
  only_flash = λ one two. absurd (two refl);
  launcher = λ is. c.2;
  only_launcher = λ one two. absurd (one refl);
}
by_cause _ before now c = unfaulted 6 before now (λ e. omega (arith, e)) (λ e. omega (arith, e)) (λ e. omega (arith, e)) c

-- ---- the status

pub cause_not_nine : (cause : Cause) → cause_status cause ≡ 9 → ⊥
cause_not_nine causes.HostFault is = omega (arith, is)
cause_not_nine _ is = omega (arith, is)

pub cause_not_low : (cause : Cause) (n : ℕ) → cause_status cause ≡ n → n ≤ 2 → ⊥
cause_not_low causes.HostFault n is low = omega (arith, is, low)
cause_not_low _ n is low = omega (arith, is, low)

pub update_not_nine : (end : UpdateEnd) → update_status end ≡ 9 → ⊥
update_not_nine (ends.Stopped place cause) is = cause_not_nine cause is
update_not_nine _ is = omega (arith, is)

pub update_not : (end : UpdateEnd) (n : ℕ) → update_status end ≡ n → n ≤ 2 → (n ≡ 0 → ⊥) → ⊥
update_not (ends.Installed r) n is low some = some (sym is)
update_not (ends.Stopped place cause) n is low some = cause_not_low cause n is low
update_not _ n is low some = omega (arith, is, low)

by_update : (end : UpdateEnd) (before now : Counts) → UpdateCounts end before now → ByStatus (update_status end) before now
by_update (ends.Installed r) before now c = unfaulted 0 before now (λ e. omega (arith, e)) (λ e. omega (arith, e)) (λ e. omega (arith, e)) c
by_update (ends.Lower m o) before now c = unfaulted 5 before now (λ e. omega (arith, e)) (λ e. omega (arith, e)) (λ e. omega (arith, e)) c
by_update (ends.OtherDigest m o) before now c = unfaulted 5 before now (λ e. omega (arith, e)) (λ e. omega (arith, e)) (λ e. omega (arith, e)) c
by_update ends.Worn before now c = unfaulted 19 before now (λ e. omega (arith, e)) (λ e. omega (arith, e)) (λ e. omega (arith, e)) c
by_update (ends.Condition place) before now c = unfaulted 6 before now (λ e. omega (arith, e)) (λ e. omega (arith, e)) (λ e. omega (arith, e)) c
by_update ends.FlashFault before now c = flash_failed before now c.1
by_update ends.NoMemory before now c = unfaulted 11 before now (λ e. omega (arith, e)) (λ e. omega (arith, e)) (λ e. omega (arith, e)) c
by_update (ends.Stopped place cause) before now c = by_cause cause before now c

-- ---- from the start of the run

module _ (name : List ℕ) (uris : List (List ℕ × List ℕ)) (l m : Launching) (b a : Outside) (end : UpdateEnd) (lines : List ℕ) (u : Updates name uris (seen b l) (seen a m) end lines) where
  same_told : u.middle.told ≡ b.told
  same_told = u.read.0.quiet.told ∙ ap (λ (o : Outside). o.told) u.held.0.beside

  same_faults : u.middle.faults ≡ b.faults
  same_faults = u.read.0.faults ∙ ap (λ (o : Outside). o.faults) u.held.0.beside

  flash_told_same : u.middle.flash.told ≡ b.flash.told
  flash_told_same = ap (λ (f : Flashed). f.told) u.read.0.flash ∙ u.held.0.still.told

  same_flash_faults : u.middle.flash.faults ≡ b.flash.faults
  same_flash_faults = ap (λ (f : Flashed). f.faults) u.read.0.flash ∙ u.held.0.faults

  pub update_told : a.told ≡ b.told
  update_told = u.update.alone.told ∙ same_told

  pub update_files : IsTrue b.told → a.files ≡ b.files
  update_files told =
      let configured : IsTrue u.configured.told = subst IsTrue (sym (ap (λ (o : Outside). o.told) u.held.0.beside)) told in
      u.update.alone.files (subst IsTrue (sym same_told) told) ∙ u.read.0.quiet.files configured ∙ ap (λ (o : Outside). o.files) u.held.0.beside

  pub update_counts : ByStatus (update_status end) (counts_of b.faults b.flash.faults l.faults) (counts_of a.faults a.flash.faults m.faults)
  update_counts = by_update end _ _ (subst (λ (n : ℕ). UpdateCounts end (counts_of b.faults n l.faults) (counts_of a.faults a.flash.faults m.faults)) same_flash_faults
      (subst (λ (n : ℕ). UpdateCounts end (counts_of n u.middle.flash.faults l.faults) (counts_of a.faults a.flash.faults m.faults)) same_faults u.update.counts))

  pub update_safe : IsTrue b.flash.told → IsTrue l.told → GainsSafe l.launches m.launches
  update_safe flash_told launcher_told =
      u.update.safe (subst IsTrue (sym flash_told_same) flash_told) launcher_told
