-- `run migrate` is done exactly where it has what it needs.
use Rattle.std.proofs.Common.{◌≡◌, ◌⊎◌, inl, inr, ⊎_elim, ℕ, List, Some, refl, sym, ◌∙◌, ap, subst, arith}
use Rattle.std.specs.Prelude.{codes}
use Rattle.suit_cli.specs.declared.reply.Outcome.TheVariants as outcomes
use Rattle.suit_cli.specs.Coming.{Answered, ByBoot, ByStages, ByUpdate, Ended, ended_status}
use Rattle.suit_cli.specs.Launching.{Launching}
use Rattle.suit_cli.specs.MigrateLaws.{Leaves, MigrateLaws, Moves}
use Rattle.suit_cli.specs.Migrating.{migrates}
use Rattle.suit_cli.specs.Outside.{Outside}
use Rattle.suit_cli.specs.Program.{ComesTo, answers}
use Rattle.suit_cli.specs.Replies.{IsReply}
use Rattle.suit_cli.specs.Stages.{Declines, Ending, FaultOf, Faults, Goes, IsSaid, Lacks, NoMemory, Says}
use Rattle.suit_cli.specs.Statuses.{status_of}
use Rattle.suit_cli.specs.Words.{RunBoot, RunMigrate, RunUpdate, task_of}
use Rattle.suit_cli.proofs.Running.{Declining, left_declines, status_done}
use Rattle.suit_cli.proofs.TaskAnswers.{does_of}
use Rattle.completeness.specs.Migrations.{MigratesWhole, ReadyToMigrate}
use Rattle.completeness.specs.Outcomes.{AreTold, IsFaultless, LeavesFlash}
use Rattle.completeness.proofs.Begun.{never_fault, two_faults}
use Rattle.completeness.proofs.Leaving.{starved_leaves}

-- the line of a migration that is done
abbrev SaysLine : Ending → Type 0
SaysLine (Says r) = IsReply r outcomes.Done (codes "migrated\n")
SaysLine _ = ⊥

migrate_files : (base : ℕ) (b a : Outside) (e : Ending) → SaysLine e → migrates base b a e → a.files ≡ b.files
migrate_files base b a _ line (Declines _ d) = ap (λ (o : Outside). o.files) d.0.beside
migrate_files base b a _ line (Goes u m _ g (IsSaid _ same says)) = ap (λ (o : Outside). o.files) same ∙ ap (λ (o : Outside). o.files) g.beside
migrate_files base b a _ line (Faults object f) = absurd line
migrate_files base b a _ line (Lacks l) = absurd line

module _ (laws : MigrateLaws) (words : List (List ℕ)) (l n : Launching) (b a : Outside) where
  whole : (ready : ReadyToMigrate words l b) (e : Ending) → SaysLine e → migrates ready.base b a e → n ≡ l → MigratesWhole words l b ready n a (Answered e)
  whole ready (Says r) line answer same = record {
    status = ap status_of line.outcome_is;
    line = line.text_is;
    migrated = laws.migrated ready.base b a r ready.told.flash answer line.outcome_is;
    launches = ap (λ (x : Launching). x.launches) same;
    files = migrate_files ready.base b a (Says r) line answer;
  }
  whole ready (FaultOf object) line answer same = absurd line
  whole ready NoMemory line answer same = absurd line

  -- ---- done, where it is ready

  module _ (ready : ReadyToMigrate words l b) (faultless : IsFaultless l n b a) where
    of_stages : (e : Ending) → answers words b a e → n ≡ l → MigratesWhole words l b ready n a (Answered e) ⊎ LeavesFlash l n b a (Answered e)
    of_stages (Says r) answer same =
        let migrating = does_of words b a r (RunMigrate ready.base) ready.asks answer in
        let line =
        laws.always ready.base b a (record { outcome = outcomes.Done; text = codes "migrated\n" }) r ready.told.flash (Moves (λ t. ready.first) (record { outcome_is = refl; text_is = refl })) migrating in
        inl (whole ready (Says r) (record { outcome_is = ap (λ (x : _). x.outcome) line; text_is = ap (λ (x : _). x.text) line }) migrating same)
    of_stages (FaultOf object) answer same = absurd (never_fault words l n b a (FaultOf object) answer tt faultless)
    of_stages NoMemory answer same = inr (starved_leaves words l n b a ready.told answer same)

    pub migrate_completes : (ended : Ended) → ComesTo words l n b a ended → MigratesWhole words l b ready n a ended ⊎ LeavesFlash l n b a ended
    migrate_completes _ (ByStages e answer same) = of_stages e answer same
    migrate_completes _ (ByBoot end lines word boots) = let never : Some (RunMigrate ready.base) ≡ Some RunBoot = sym ready.asks ∙ word in absurd cc
    migrate_completes _ (ByUpdate name uris end lines word updates) = let never : Some (RunMigrate ready.base) ≡ Some (RunUpdate name uris) = sym ready.asks ∙ word in absurd cc

  -- ---- and only there

  module _ (base : ℕ) (asks : task_of words ≡ Some (RunMigrate base)) (told : AreTold l b) where
    only_stages : (e : Ending) → answers words b a e → n ≡ l → ended_status (Answered e) ≡ 0 → (ready : ReadyToMigrate words l b) × MigratesWhole words l b ready n a (Answered e)
    only_stages (Says r) answer same zero =
        let migrating = does_of words b a r (RunMigrate base) asks answer in
        elim (laws.only base b a r migrating) [
          | Leaves left ↦ absurd (subst Declining (status_done r.outcome zero) (left_declines base b.flash r left))
          | Moves may says ↦
              let ready : ReadyToMigrate words l b = record { base = base; asks = asks; told = told; first = may told.flash } in
              (ready, whole ready (Says r) says migrating same)
        ]
    only_stages (FaultOf object) answer same zero = absurd (⊎_elim (λ seven. omega (arith, seven, zero)) (λ eight. omega (arith, eight, zero)) (two_faults (FaultOf object) tt))
    only_stages NoMemory answer same zero = absurd (omega (arith, zero))

    pub only_migrate : (ended : Ended) → ComesTo words l n b a ended → ended_status ended ≡ 0 → (ready : ReadyToMigrate words l b) × MigratesWhole words l b ready n a ended
    only_migrate _ (ByStages e answer same) zero = only_stages e answer same zero
    only_migrate _ (ByBoot end lines word boots) zero = let never : Some (RunMigrate base) ≡ Some RunBoot = sym asks ∙ word in absurd cc
    only_migrate _ (ByUpdate name uris end lines word updates) zero = let never : Some (RunMigrate base) ≡ Some (RunUpdate name uris) = sym asks ∙ word in absurd cc
