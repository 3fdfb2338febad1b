-- The update and the boot of a round, over objects in memory.
use Rattle.std.proofs.Common.{◌≡◌, inl, inr, ℕ, List, [], ◌++◌, length, true, false, Some, refl, sym, ap, subst, ◌∙◌, arith, append-nil}
use Rattle.std.specs.Prelude.{IsSome}
use Rattle.suit_edge.specs.Faults.{Faulted}
use Rattle.suit_edge.specs.declared.launch.Launch.{Launch}
use Rattle.suit_edge.specs.Flash.{Flash, IsFlash, IsSettled, Now}
use Rattle.suit_edge.specs.FlashLaws.{each_now}
use Rattle.suit_edge.specs.FuseDisk.{FuseState}
use Rattle.suit_edge.specs.MemoryDisk.{DiskState, memory_flash, moment_now}
use Rattle.suit_edge.specs.MemoryHost.{HostState, file_in}
use Rattle.suit_edge.specs.MemoryLauncher.{LauncherState}
use Rattle.suit_edge.specs.MemoryLaws.{memory_obeys}
use Rattle.suit_edge.specs.Moment.{lost}
use Rattle.conformance.specs.Rounds.{RoundSaid}
use Rattle.rollback_record.proofs.SettledLaws.{settles}
use Rattle.rollback_record.specs.SoundFlash.{Settled, Sound}
use Rattle.suit_cli.specs.declared.drill.tally.RoundEnd.TheVariants.{Cut}
use Rattle.suit_cli.specs.Beginnings.{begins_boot, begins_update}
use Rattle.suit_cli.specs.Coming.{Comes, ByStages, ByBoot, ByUpdate, Ended, StaysOrKeeps, ended_status}
use Rattle.suit_cli.specs.DrillDevice.{flash_size}
use Rattle.suit_cli.specs.DrillRounds.{BootsRound, IsAtRest, IsDrawn, IsNextImage, IsWhole, Objects, ObjectsHold, UpdateComes, UpdatesRound, end_of, envelope_name, have_starved, is_whole, surroundings_of}
use Rattle.suit_cli.specs.Launching.{Launching}
use Rattle.suit_cli.specs.Surroundings.{Surroundings}
use Rattle.suit_cli.specs.Outside.{Outside}
use Rattle.suit_cli.specs.Settling.{StaysInOrder}
use Rattle.suit_cli.specs.Words.{Named, RunBoot, RunUpdate, pairs_of, task_of}
use Rattle.suit_cli.proofs.Chains.{flash_at, outside_at}
use Rattle.suit_cli.proofs.DrillCounts.{NoFault, boot_whole, update_cut, update_whole}
use Rattle.suit_cli.proofs.DrillWords.{asked}
use Rattle.suit_cli.proofs.RunEnds.{boot_safe}

-- ---- objects in memory, as contracts see them

abbrev pub objects : HostState → FuseState → LauncherState → Objects
objects h f l = record { host = h; fuse = f; launcher = l }

abbrev pub seen : HostState → FuseState → Outside
seen h f =
    outside_at true (file_in h.files) h.pulled h.asked h.calls.faults (flash_at true (length f.disk.first) (memory_flash f.disk).reads f.faults)

abbrev pub launching : LauncherState → Launching
launching l = record { told = true; launches = l.launches; faults = l.calls.faults }

abbrev pub around : HostState → FuseState → LauncherState → Surroundings
around h f l = surroundings_of (objects h f l)

holds : (h : HostState) (f : FuseState) (l : LauncherState) → length f.disk.first ≡ flash_size → ObjectsHold (file_in h.files) (memory_flash f.disk).reads (objects h f l)
holds h f l size = record { files_are = refl; size = size; reads = refl }

counts : (h h' : HostState) (f f' : FuseState) (l l' : LauncherState) (ended : Ended) → NoFault (launching l) (launching l') (seen h f) (seen h' f') ended → IsWhole (objects h f l) (objects h' f' l') ended
counts h h' f f' l l' ended free = record { host = free.host; flash = free.flash; launcher = free.launcher; enough = free.enough }

never_faulted : (before now : ℕ) → before ≡ 0 → now ≡ before → Faulted before now → ⊥
never_faulted before now none same faulted = let rose = faulted.rose (omega (arith, none, same)) in omega (arith, rose, same)

-- ---- the flash behind a command

module _ (old new : FuseState) (size : length old.disk.first ≡ flash_size) (same_size : length new.disk.first ≡ length old.disk.first) (settled : Settled (memory_flash old.disk))
    (order : StaysInOrder (memory_flash old.disk) (memory_flash new.disk) old.faults new.faults) where
  law : IsFlash (memory_flash new.disk) (length new.disk.first)
  law = memory_obeys new.disk

  abbrev first : Flash
  first = memory_flash old.disk

  abbrev last : Flash
  last = memory_flash new.disk

  -- each image that is left
  lives : (image : List ℕ) → Now last image → IsNextImage first.reads image
  lives image now = record {
    sound = each_now first last (length new.disk.first) Sound law (order.sound settled).0 image now;
    follows = each_now first last (length new.disk.first) _ law (order.sound settled).1 image now;
  }

  pub lives_on : IsNextImage first.reads last.reads
  lives_on = lives last.reads law.reads_may

  pub ready_on : old.faults ≡ 0 → new.faults ≡ old.faults → IsAtRest new.disk
  ready_on none same = record { size = same_size ∙ size; settled = order.settled settled (never_faulted old.faults new.faults none same) }

  -- behind a loss of power
  module _ (left : DiskState) (may : Now last left.first) (kept : length left.first ≡ length new.disk.first) (none : IsSettled (memory_flash left)) (reads : (memory_flash left).reads ≡ left.first) where
    pub lives_cut : IsNextImage first.reads (memory_flash left).reads
    lives_cut = subst (λ (l : List ℕ). IsNextImage first.reads l) (sym reads) (lives left.first may)

    pub ready_cut : IsAtRest left
    ready_cut = record { size = kept ∙ same_size ∙ size; settled = settles (memory_flash left) none lives_cut.sound }

-- ---- the update

module _ (said : RoundSaid) (uris : List Named) (words : task_of (asked said.words) ≡ Some (RunUpdate envelope_name uris))
    (h h' : HostState) (f f' : FuseState) (l l' : LauncherState) (ended : Ended)
    (comes : Comes (begins_update envelope_name) (λ task. RunUpdate envelope_name uris ≡ task) (launching l) (launching l') (seen h f) (seen h' f') ended)
    (size : length f.disk.first ≡ flash_size) where
  pub whole : is_whole (ended_status ended) ≡ true → IsWhole (objects h f l) (objects h' f' l') ended
  whole w = counts h h' f f' l l' ended (update_whole envelope_name uris (launching l) (launching l') (seen h f) (seen h' f') ended comes w)

  -- behind the drawn fuse, where memory sufficed
  module _ (drawn : IsDrawn said f) (enough : have_starved (objects h' f' l') ≡ false) where
    update : UpdateComes said (file_in h.files) (memory_flash f.disk).reads
    update = record {
      uris = uris;
      words = words;
      had = objects h f l;
      has = objects h' f' l';
      ended = ended;
      holds = holds h f l size;
      fuse = drawn;
      comes = comes;
      enough = enough;
    }

    pub updates_whole : is_whole (ended_status ended) ≡ true → UpdatesRound said (file_in h.files) (memory_flash f.disk).reads (memory_flash f'.disk).reads (end_of ended)
    unfolding update
    updates_whole w = record { update = update; ends = inl (record { whole = whole w; reads = refl; end_is = refl }) }

    pub updates_cut : IsSome said.cut → ended_status ended ≡ 8 → Settled (memory_flash f.disk)
        → StaysOrKeeps envelope_name (pairs_of uris) (around h f l) (around h' f' l') ended
        → (image : List ℕ) → image ≡ lost said.choice (moment_now f'.disk) → Now (memory_flash f'.disk) image
        → UpdatesRound said (file_in h.files) (memory_flash f.disk).reads image Cut
    unfolding update
    updates_cut wanted eight settled keeps image loses now = record {
      update = update;
      ends = inr (record {
        wanted = wanted;
        faulted = update_cut envelope_name uris (launching l) (launching l') (seen h f) (seen h' f') ended comes eight;
        settled = settled;
        kept = keeps;
        may = now;
        loses = loses;
        end_is = refl;
      });
    }

-- ---- the boot

module _ (h h' : HostState) (f f' : FuseState) (l l' : LauncherState) (ended : Ended) (comes : Comes begins_boot (λ task. RunBoot ≡ task) (launching l) (launching l') (seen h f) (seen h' f') ended)
    (size : length f.disk.first ≡ flash_size) (sound : Sound (memory_flash f.disk).reads) where
  gained : (launches : List Launch) × (l'.launches ≡ l.launches ++ launches)
  gained = of_comes ended comes where
    of_comes : (e : Ended) → Comes begins_boot (λ task. RunBoot ≡ task) (launching l) (launching l') (seen h f) (seen h' f') e → (launches : List Launch) × (l'.launches ≡ l.launches ++ launches)
    of_comes _ (ByStages e answer same) = ([], ap (λ (x : Launching). x.launches) same ∙ sym (append-nil l.launches))
    of_comes _ (ByBoot end lines is boots) =
        let safe = boot_safe (launching l) (launching l') (seen h f) (seen h' f') end lines boots refl refl sound in
        (safe.gained, safe.added)
    of_comes _ (ByUpdate n us end lines is updates) = let never : RunBoot ≡ RunUpdate n us = is in absurd cc

  pub boots : is_whole (ended_status ended) ≡ true → BootsRound (file_in h.files) (memory_flash f.disk).reads (memory_flash f'.disk).reads l.launches l'.launches
  boots w = (
    gained.0,
    gained.1,
    record {
      had = objects h f l;
      has = objects h' f' l';
      ended = ended;
      holds = holds h f l size;
      comes = comes;
      whole = counts h h' f f' l l' ended (boot_whole (launching l) (launching l') (seen h f) (seen h' f') ended comes w);
      gained = gained.1;
      reads = refl;
    },
  )
