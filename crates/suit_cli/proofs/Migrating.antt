-- The answer to a migration, and how it keeps the flash.
use Rattle.std.proofs.Common.{◌≡◌, ◌⊎◌, inl, inr, ℕ, Bool, List, Result, Ok, Err, refl, sym, subst, ◌∙◌}
use Rattle.std.specs.Result.{IsErrAnd}
use Rattle.std.specs.Prelude.{IfOk, IsTrue, String, codes, string_bytes}
use Rattle.std.specs.declared.alloc.AllocError.{AllocError}
use Rattle.std.specs.declared.alloc.Global.{Global}
use Rattle.suit_edge.specs.Flash.{Flash, IsFlash, IsSame, IsSettled, Passes}
use Rattle.suit_edge.specs.FlashLaws.{each_read, weakens}
use Rattle.suit_edge.specs.Ranges.{SameOn}
use Rattle.flash_layout.specs.declared.frame.TheConstants.{VERSION_1}
use Rattle.flash_layout.specs.declared.layout.Entry.{Entry}
use Rattle.flash_layout.specs.declared.layout_fault.LayoutFault.{LayoutFault}
use Rattle.flash_layout.specs.declared.layout_fault.LayoutFault.TheVariants as faults
use Rattle.flash_layout.specs.declared.moving.BaseFault.TheVariants as base_faults
use Rattle.flash_layout.specs.Configs.{ConfigOf, Configured}
use Rattle.rollback_record.specs.declared.migrating.Migrated.{Migrated}
use Rattle.rollback_record.specs.declared.migrating.Migrated.TheVariants as answers
use Rattle.rollback_record.specs.Migrating.{HasFirst, IfLeft, IfMigrated, IsMigrated, IsReady, MigrateCounts, MigratesExactly, OutsideMigration, IsSameInstallation}
use Rattle.rollback_record.specs.MigrationLaws.{MigrationLaws}
use Rattle.rollback_record.proofs.SettledLaws.{settled_still, settles}
use Rattle.rollback_record.specs.SoundFlash.{Follows, Settled, Sound}
use Rattle.rollback_record.specs.SoundLaws.{SoundLaws}
use Rattle.suit_cli.specs.declared.reply.Object.TheVariants as objects
use Rattle.suit_cli.specs.declared.reply.Outcome.{Outcome}
use Rattle.suit_cli.specs.declared.reply.Outcome.TheVariants as outcomes
use Rattle.suit_cli.specs.declared.reply.Reply.{Reply}
use Rattle.suit_cli.specs.declared.reply.Stop.{Stop}
use Rattle.suit_cli.specs.declared.reply.Stop.TheVariants as stops
use Rattle.suit_cli.specs.Coming.{KeepsSound, StaysSound}
use Rattle.suit_cli.specs.Devices.{IsFaultLine, TellsLayout}
use Rattle.suit_cli.specs.Installed.{IsBad, IsBlank}
use Rattle.suit_cli.specs.Migrating.{AtBase, AtConfig, AtVersion, IfDeclined, IsLeft, IsToldAs, KeepsTold, MovedSo, StaysOrTells, TellsOn, migrates}
use Rattle.suit_cli.specs.Outside.{Flashed, Looks, Outside, with_flash}
use Rattle.suit_cli.specs.Replies.{IsReply, Makes, refused_by, stop_of}
use Rattle.suit_cli.specs.Settling.{StaysSettled}
use Rattle.suit_cli.specs.Stages.{Declines, Faults, Goes, IsSaid, Lacks, ending_of}
use Rattle.suit_cli.proofs.Chains.{flash_at}
use Rattle.suit_cli.proofs.Sounding.{stays_now}

-- ---- replies

pub declined_by : (made : Result Reply AllocError) (stop : Stop) (outcome : Outcome) (text : List ℕ) → Makes made outcome text → stop ≡ stop_of made
    → IfDeclined (Err stop) (λ reply. IsReply reply outcome text)
declined_by (Ok reply) stop outcome text says is = subst (λ (s : Stop). IfDeclined (Err s) (λ r. IsReply r outcome text)) (sym is) says
declined_by (Err e) stop outcome text says is = subst (λ (s : Stop). IfDeclined (Err s) (λ r. IsReply r outcome text)) (sym is) tt

pub refused_for : (fault : LayoutFault) (line : Result (String Global) AllocError) (stop : Stop) → IfOk line (λ t. IsFaultLine fault (string_bytes t)) → stop ≡ refused_by line
    → IfDeclined (Err stop) (TellsLayout fault)
refused_for fault (Ok line) stop tells is = subst (λ (s : Stop). IfDeclined (Err s) (TellsLayout fault)) (sym is) (record { outcome_is = refl; line = tells })
refused_for fault (Err e) stop tells is = subst (λ (s : Stop). IfDeclined (Err s) (TellsLayout fault)) (sym is) tt

pub told_as : (x y : Migrated) → x ≡ y → (done : Reply) (result : Result Reply Stop) → IsToldAs y done result → IsToldAs x done result
told_as x y same done result told = subst (λ (m : Migrated). IsToldAs m done result) (sym same) told

-- ---- what is known of an answer

pub record IsAnswer (told : Bool) (base size : ℕ) (answer : Migrated) (a b : Flash) (before now : ℕ) : Type 0 where
  pub counts : MigrateCounts answer before now
  pub exact : IsTrue told → MigratesExactly base size a.reads answer
  pub left : IsTrue told → IfLeft answer (IsSame a b)
  pub migrated : IsTrue told → IfMigrated answer (IsMigrated base a.reads b.reads)
  pub kept : IsTrue told → SameOn (OutsideMigration base) a.reads b.reads

-- ---- the stage

module _ (told : Bool) (base size later : ℕ) (a b : Flash) (before now : ℕ) (same_size : later ≡ size) (here : Outside) where
  abbrev first : Outside
  first = with_flash here (flash_at told size a.reads before)

  abbrev last : Outside
  last = with_flash here (flash_at told later b.reads now)

  looks : now ≡ before → (IsTrue told → IsSame a b) → Looks first last
  looks counts same = record { beside = refl; still = record { told = refl; size = same_size; reads = λ t. (same t).reads }; faults = counts }

  -- nothing was migrated, for this reason
  leaves : (P : Reply → Type 0) (result : Result Reply Stop) → IfDeclined result P → ((reply : Reply) → P reply → IsLeft base (flash_at told size a.reads before) reply) → Looks first last
      → migrates base first last (ending_of result)
  leaves P (Ok reply) declined because seen = absurd declined
  leaves P (Err (stops.Declined reply)) declined because seen = Declines reply (seen, because reply declined)
  leaves P (Err (stops.Fault object)) declined because seen = absurd declined
  leaves P (Err stops.NoMemory) declined because seen = Lacks seen

  by_result : (x y : Result Reply Stop) → x ≡ y → migrates base first last (ending_of y) → migrates base first last (ending_of x)
  by_result x y same answer = subst (λ (r : Result Reply Stop). migrates base first last (ending_of r)) (sym same) answer

  pub answered : (answer : Migrated) (done : Reply) (result : Result Reply Stop) → IsAnswer told base size answer a b before now → IsReply done outcomes.Done (codes "migrated\n") → IsToldAs answer done result
      → migrates base first last (ending_of result)
  answered (answers.Done frame) done result is says so =
      by_result result (Ok done) so
      (Goes tt last _
      (record { beside = refl; told = refl; size = same_size; counts = is.counts; is = ((λ t. (is.exact t).1), is.migrated) })
      (IsSaid done refl says))
  answered answers.Blank done result is says so =
      leaves _ result so (λ reply given. AtConfig (IsBlank is.exact given)) (looks is.counts is.left)
  answered answers.BadConfig done result is says so =
      leaves _ result so (λ reply given. AtConfig (IsBad is.exact given)) (looks is.counts is.left)
  answered answers.Already done result is says so =
      leaves _ result so (λ reply given. AtVersion (record { second = is.exact; says = given })) (looks is.counts is.left)
  answered answers.BaseOutside done result is says so =
      leaves _ result so (λ reply tells. AtBase (record { fault = base_faults.Outside; refuses = is.exact; tells = tells })) (looks is.counts is.left)
  answered (answers.BaseOverlap i) done result is says so =
      leaves _ result so (λ reply tells. AtBase (record { fault = base_faults.Overlap i; refuses = is.exact; tells = tells })) (looks is.counts is.left)
  answered answers.FlashFault done result is says so =
      by_result result (Err (stops.Fault objects.Flash)) so
      (Faults objects.Flash (record { beside = refl; told = refl; size = same_size; counts = is.counts; is = is.kept }))
  answered answers.NoMemory done result is says so = by_result result (Err stops.NoMemory) so (Lacks (looks is.counts is.left))

-- ---- at each moment

-- only what is done moved anything
so_same : (Moved Same : Type 0) (o : Outcome) → (o ≡ outcomes.Done → ⊥) → Same → MovedSo Moved Same o
so_same Moved Same outcomes.Done never same = absurd (never refl)
so_same Moved Same _ never same = same

so_moved : (Moved Same : Type 0) (o : Outcome) → o ≡ outcomes.Done → Moved → MovedSo Moved Same o
so_moved Moved Same o done moved = subst (MovedSo Moved Same) (sym done) moved

module _ (before : Flashed) (a b : Flash) where
  by_ending : (x y : Result Reply Stop) → x ≡ y → KeepsTold before (ending_of y) a b → KeepsTold before (ending_of x) a b
  by_ending x y same keeps = subst (λ (r : Result Reply Stop). KeepsTold before (ending_of r) a b) (sym same) keeps

  -- memory ran out
  pub ends_same : (result : Result Reply Stop) → IsErrAnd result (λ e. e ≡ stops.NoMemory) → IsSame a b → KeepsTold before (ending_of result) a b
  ends_same (Ok reply) is same = absurd is
  ends_same (Err stop) is same = subst (λ (s : Stop). KeepsTold before (ending_of (Err s)) a b) (sym is) same

  -- it was left as it was
  left_same : (P : Reply → Type 0) → ((reply : Reply) → P reply → reply.outcome ≡ outcomes.Done → ⊥) → (result : Result Reply Stop) → IfDeclined result P → IsSame a b
      → KeepsTold before (ending_of result) a b
  left_same P never (Ok reply) declined same = absurd declined
  left_same P never (Err (stops.Declined reply)) declined same = so_same (StaysOrTells before a b) (IsSame a b) reply.outcome (never reply declined) same
  left_same P never (Err (stops.Fault object)) declined same = absurd declined
  left_same P never (Err stops.NoMemory) declined same = same

no_reply : (outcome : Outcome) (text : List ℕ) → (outcome ≡ outcomes.Done → ⊥) → (reply : Reply) → IsReply reply outcome text → reply.outcome ≡ outcomes.Done → ⊥
no_reply outcome text never reply says done = never (sym says.outcome_is ∙ done)

no_line : (fault : LayoutFault) (reply : Reply) → TellsLayout fault reply → reply.outcome ≡ outcomes.Done → ⊥
no_line fault reply tells done = let never : outcomes.Refused ≡ outcomes.Done = sym tells.outcome_is ∙ done in absurd cc

-- settled, with a configuration of version 1
ready : (size : ℕ) (a : Flash) (law : IsFlash a size) (P : List Entry → Type 0) → HasFirst size a.reads P → Settled a → IsReady a
ready size a law P first settled = record {
  settled = settled;
  layout = first.layout;
  key = first.key;
  frame = VERSION_1;
  config = subst (λ (n : ℕ). ConfigOf n a.reads (Configured first.layout first.key VERSION_1)) (sym law.fits) first.config;
}

module _ (size : ℕ) (a b : Flash) (law : IsFlash a size) (any : IsReady a → Passes a b (IsSameInstallation a.reads)) (either : IsSame a b ⊎ HasFirst size a.reads (λ layout. Unit {0})) where
  module _ (laws : SoundLaws) (alikes : MigrationLaws) where
    pub stays_sound : KeepsSound a b
    stays_sound settled = of either where
      of : IsSame a b ⊎ HasFirst size a.reads (λ layout. Unit {0}) → StaysSound a b
      of (inl same) = stays_now laws a settled b same.images
      of (inr first) =
          let run = any (ready size a law (λ layout. Unit {0}) first settled) in (
            weakens a b (IsSameInstallation a.reads) Sound (λ image alike. alikes.sound a.reads image alike settled.sound) run,
            weakens a b (IsSameInstallation a.reads) (Follows a.reads) (λ image alike. alikes.follows a.reads image alike) run,
          )

    pub stays_settled : IsFlash b size → (answer : Migrated) (faulted now : ℕ) → MigrateCounts answer faulted now → IfLeft answer (IsSame a b) → IfMigrated answer (IsSettled b)
        → StaysSettled a b faulted now
    stays_settled later (answers.Done frame) faulted now counts same none settled never = settles b none (each_read a b size Sound later (stays_sound settled).0)
    stays_settled later answers.FlashFault faulted now counts same none settled never = absurd (never counts)
    stays_settled later _ faulted now counts same none settled never = settled_still a b size later same settled

  module _ (told : Bool) (count : ℕ) where
    abbrev seen : Flashed
    seen = flash_at told size a.reads count

    tells_on : (P : List Entry → Type 0) → HasFirst size a.reads P → TellsOn seen a b
    tells_on P first = record {
      first = record { layout = first.layout; key = first.key; config = first.config; holds = tt };
      alike = λ settled. any (ready size a law P first settled);
    }

    failed : StaysOrTells seen a b
    failed = of either where
      of : IsSame a b ⊎ HasFirst size a.reads (λ layout. Unit {0}) → StaysOrTells seen a b
      of (inl same) = inl same
      of (inr first) = inr (tells_on (λ layout. Unit {0}) first)

    module _ (base : ℕ) where
      pub keeps_told : (answer : Migrated) (done : Reply) (result : Result Reply Stop) → MigratesExactly base size a.reads answer → IfLeft answer (IsSame a b)
          → IsReply done outcomes.Done (codes "migrated\n") → IsToldAs answer done result → KeepsTold seen (ending_of result) a b
      keeps_told (answers.Done frame) done result exact same says so =
          by_ending seen a b result (Ok done) so (so_moved (StaysOrTells seen a b) (IsSame a b) done.outcome says.outcome_is (inr (tells_on _ exact.1)))
      keeps_told answers.Blank done result exact same says so = left_same seen a b _ (no_reply outcomes.Unconfigured (codes "blank\n") (λ e. cc)) result so same
      keeps_told answers.BadConfig done result exact same says so = left_same seen a b _ (no_reply outcomes.Unconfigured (codes "bad config\n") (λ e. cc)) result so same
      keeps_told answers.Already done result exact same says so = left_same seen a b _ (no_reply outcomes.SecondLayout (codes "already layout 2\n") (λ e. cc)) result so same
      keeps_told answers.BaseOutside done result exact same says so = left_same seen a b _ (no_line faults.BaseOutside) result so same
      keeps_told (answers.BaseOverlap i) done result exact same says so = left_same seen a b _ (no_line (faults.BaseOverlap i)) result so same
      keeps_told answers.FlashFault done result exact same says so = by_ending seen a b result (Err (stops.Fault objects.Flash)) so failed
      keeps_told answers.NoMemory done result exact same says so = by_ending seen a b result (Err stops.NoMemory) so same
