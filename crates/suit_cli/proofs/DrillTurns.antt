-- The update and the boot of a round, from the disk before to the disk behind.
use Rattle.std.proofs.Common.{◌≡◌, ℕ, Bool, List, [], length, true, false, Some, refl, sym, ap, subst, ◌∙◌}
use Rattle.std.specs.Bool.{OnTrue}
use Rattle.std.specs.Prelude.{IsSome, unwrap_or}
use Rattle.suit_edge.specs.Calls.{CallCounts, uncalled}
use Rattle.suit_edge.specs.Flash.{IsSettled, Now}
use Rattle.suit_edge.specs.FuseDisk.{FuseState}
use Rattle.suit_edge.specs.MemoryDisk.{DiskState, memory_flash, moment_now}
use Rattle.suit_edge.specs.MemoryHost.{HostState, file_in}
use Rattle.suit_edge.specs.MemoryLauncher.{LauncherState}
use Rattle.suit_edge.specs.Moment.{after_steps, lost, moment_of}
use Rattle.conformance.specs.Rounds.{RoundSaid}
use Rattle.rollback_record.specs.SoundFlash.{Settled}
use Rattle.suit_cli.specs.declared.drill.tally.RoundEnd.{RoundEnd}
use Rattle.suit_cli.specs.declared.drill.tally.RoundEnd.TheVariants.{Cut}
use Rattle.suit_cli.specs.Beginnings.{begins_boot, begins_update}
use Rattle.suit_cli.specs.Coming.{Comes, Ended, StaysOrKeeps, ended_status}
use Rattle.suit_cli.specs.DrillRounds.{BootsRound, IsAtRest, IsDrawn, IsNextImage, UpdatesRound, end_of, ends_so, envelope_name, have_starved, is_whole}
use Rattle.suit_cli.specs.Settling.{StaysInOrder}
use Rattle.suit_cli.specs.Words.{Named, RunBoot, RunUpdate, pairs_of, task_of}
use Rattle.suit_cli.proofs.DrillCounts.{boot_whole, update_stays}
use Rattle.suit_cli.proofs.DrillUpdates.{around, boots, launching, lives_cut, lives_on, objects, ready_cut, ready_on, seen, updates_cut, updates_whole, whole}
use Rattle.suit_cli.proofs.DrillWords.{asked}

-- a disk with nothing done on it reads as it began
pub fresh_reads : (disk : DiskState) (first : List ℕ) (calls : CallCounts) → disk ≡ record { first = first; steps = []; calls = calls } → (memory_flash disk).reads ≡ disk.first
unfolding moment_of after_steps
fresh_reads disk first calls is = ap (λ (d : DiskState). (memory_flash d).reads) is ∙ sym (ap (λ (d : DiskState). d.first) is)

pub is_so : (b : Bool) (P : Type 0) → OnTrue b P → b ≡ true → P
is_so b P holds is = subst (λ (x : Bool). OnTrue x P) is holds

-- nothing is pending where the fuse was put
pub begins_settled : (flash : DiskState) (passes : ℕ) (f : FuseState) → f ≡ record { disk = flash; passes = passes; faults = 0 } → IsAtRest flash → Settled (memory_flash f.disk)
begins_settled flash passes f begun ready = subst (λ (d : DiskState). Settled (memory_flash d)) (sym (ap (λ (x : FuseState). x.disk) begun)) ready.settled

-- ---- the flash, round which a fuse was put

module _ (flash : DiskState) (passes : ℕ) (f f' : FuseState) (begun : f ≡ record { disk = flash; passes = passes; faults = 0 }) (ready : IsAtRest flash)
    (extent : length f'.disk.first ≡ length f.disk.first) (order : StaysInOrder (memory_flash f.disk) (memory_flash f'.disk) f.faults f'.faults) (left : DiskState) (is : left ≡ f'.disk) where
  disk_is : f.disk ≡ flash
  disk_is = ap (λ (x : FuseState). x.disk) begun

  none : f.faults ≡ 0
  none = ap (λ (x : FuseState). x.faults) begun

  ready_at : IsAtRest f.disk
  ready_at = subst IsAtRest (sym disk_is) ready

  pub left_lives : IsNextImage (memory_flash flash).reads (memory_flash left).reads
  left_lives =
      subst (λ (d : DiskState). IsNextImage (memory_flash d).reads (memory_flash left).reads) disk_is
      (subst (λ (d : DiskState). IsNextImage (memory_flash f.disk).reads (memory_flash d).reads) (sym is) (lives_on f f' ready_at.size extent ready_at.settled order))

  pub left_ready : f'.faults ≡ f.faults → IsAtRest left
  left_ready same = subst IsAtRest (sym is) (ready_on f f' ready_at.size extent ready_at.settled order none same)

  -- what the loss leaves
  module _ (kept : DiskState) (may : Now (memory_flash left) kept.first) (size : length kept.first ≡ length left.first) (settled : IsSettled (memory_flash kept))
      (reads : (memory_flash kept).reads ≡ kept.first) where
    may_be : Now (memory_flash f'.disk) kept.first
    may_be = subst (λ (d : DiskState). Now (memory_flash d) kept.first) is may

    same_size : length kept.first ≡ length f'.disk.first
    same_size = size ∙ ap (λ (d : DiskState). length d.first) is

    pub loss_lives : IsNextImage (memory_flash flash).reads (memory_flash kept).reads
    loss_lives =
        subst (λ (d : DiskState). IsNextImage (memory_flash d).reads (memory_flash kept).reads) disk_is
        (lives_cut f f' ready_at.size extent ready_at.settled order kept may_be same_size settled reads)

    pub loss_ready : IsAtRest kept
    loss_ready = ready_cut f f' ready_at.size extent ready_at.settled order kept may_be same_size settled reads

-- ---- the update

module _ (said : RoundSaid) (uris : List Named) (words : task_of (asked said.words) ≡ Some (RunUpdate envelope_name uris))
    (flash : DiskState) (passes : ℕ) (h h' : HostState) (f f' : FuseState) (l l' : LauncherState) (ended : Ended) (begun : f ≡ record { disk = flash; passes = passes; faults = 0 })
    (comes : Comes (begins_update envelope_name) (λ task. RunUpdate envelope_name uris ≡ task) (launching l) (launching l') (seen h f) (seen h' f') ended)
    (ready : IsAtRest flash) (left : DiskState) (is : left ≡ f'.disk) where
  disk_was : f.disk ≡ flash
  disk_was = ap (λ (x : FuseState). x.disk) begun

  ready_first : IsAtRest f.disk
  ready_first = subst IsAtRest (sym disk_was) ready

  pub files_stay : file_in h'.files ≡ file_in h.files
  files_stay = update_stays envelope_name uris (launching l) (launching l') (seen h f) (seen h' f') ended comes refl

  pub faults_stay : (end : RoundEnd) → ends_so ended end → f'.faults ≡ f.faults
  faults_stay end so = (whole said uris words h h' f f' l l' ended comes ready_first.size so.0).flash

  -- the fuse is the drawn one
  drawn : passes ≡ unwrap_or said.cut 18446744073709551615 → IsDrawn said f
  drawn given = record { passes = ap (λ (x : FuseState). x.passes) begun ∙ given; whole = ap (λ (x : FuseState). x.faults) begun }

  pub update_ends : passes ≡ unwrap_or said.cut 18446744073709551615 → have_starved (objects h' f' l') ≡ false → (end : RoundEnd) → ends_so ended end
      → UpdatesRound said (file_in h.files) (memory_flash flash).reads (memory_flash left).reads end
  update_ends given enough end so =
      subst (λ (e : RoundEnd). UpdatesRound said (file_in h.files) (memory_flash flash).reads (memory_flash left).reads e) (sym so.1)
      (subst (λ (d : DiskState). UpdatesRound said (file_in h.files) (memory_flash flash).reads (memory_flash d).reads (end_of ended)) (sym is)
      (subst (λ (d : DiskState). UpdatesRound said (file_in h.files) (memory_flash d).reads (memory_flash f'.disk).reads (end_of ended)) disk_was
      (updates_whole said uris words h h' f f' l l' ended comes ready_first.size (drawn given) enough so.0)))

  pub update_lost : passes ≡ unwrap_or said.cut 18446744073709551615 → have_starved (objects h' f' l') ≡ false → IsSome said.cut → ended_status ended ≡ 8
      → StaysOrKeeps envelope_name (pairs_of uris) (around h f l) (around h' f' l') ended
      → (kept : DiskState) → kept ≡ record { first = lost said.choice (moment_now left); steps = []; calls = uncalled [] } → Now (memory_flash left) kept.first
      → UpdatesRound said (file_in h.files) (memory_flash flash).reads (memory_flash kept).reads Cut
  update_lost given enough wanted eight keeps kept loses may =
      subst (λ (image : List ℕ). UpdatesRound said (file_in h.files) (memory_flash flash).reads image Cut) (sym (fresh_reads kept _ _ loses))
      (subst (λ (d : DiskState). UpdatesRound said (file_in h.files) (memory_flash d).reads kept.first Cut) disk_was
      (updates_cut said uris words h h' f f' l l' ended comes ready_first.size (drawn given) enough wanted eight ready_first.settled keeps kept.first
      (ap (λ (d : DiskState). d.first) loses ∙ ap (λ (d : DiskState). lost said.choice (moment_now d)) is)
      (subst (λ (d : DiskState). Now (memory_flash d) kept.first) is may)))

-- ---- the boot

module _ (flash : DiskState) (passes : ℕ) (h h' : HostState) (f f' : FuseState) (l l' : LauncherState) (ended : Ended) (begun : f ≡ record { disk = flash; passes = passes; faults = 0 })
    (comes : Comes begins_boot (λ task. RunBoot ≡ task) (launching l) (launching l') (seen h f) (seen h' f') ended)
    (ready : IsAtRest flash) (left : DiskState) (is : left ≡ f'.disk) (w : is_whole (ended_status ended) ≡ true) where
  disk_before : f.disk ≡ flash
  disk_before = ap (λ (x : FuseState). x.disk) begun

  ready_before : IsAtRest f.disk
  ready_before = subst IsAtRest (sym disk_before) ready

  pub boot_faults : f'.faults ≡ f.faults
  boot_faults = (boot_whole (launching l) (launching l') (seen h f) (seen h' f') ended comes w).flash

  pub boot_ends : BootsRound (file_in h.files) (memory_flash flash).reads (memory_flash left).reads l.launches l'.launches
  boot_ends =
      subst (λ (d : DiskState). BootsRound (file_in h.files) (memory_flash flash).reads (memory_flash d).reads l.launches l'.launches) (sym is)
      (subst (λ (d : DiskState). BootsRound (file_in h.files) (memory_flash d).reads (memory_flash f'.disk).reads l.launches l'.launches) disk_before
      (boots h h' f f' l l' ended comes ready_before.size ready_before.settled.sound w))
