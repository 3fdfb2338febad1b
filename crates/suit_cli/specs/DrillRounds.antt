-- A round of a drill: what its update and its boot make of the image of the flash.
use Rattle.std.specs.Prelude.{◌≡◌, ◌≢◌, ◌⊎◌, ℕ, Bool, true, false, not, ◌||◌, ◌==◌, if◌then◌else◌, IsTrue, unwrap_or, List, [], ◌∷◌, ◌++◌, length, Option, Some, None, IsSome, codes}
use Rattle.author.specs.Files.{bytes_of}
use Rattle.author.specs.MadeEnvelopes.{IsMadeOf}
use Rattle.conformance.specs.declared.shape.Shape.{Shape}
use Rattle.conformance.specs.Rounds.{RoundSaid, round_of}
use Rattle.conformance.specs.Shapes.{got_name, words_of}
use Rattle.suit_edge.specs.declared.launch.Launch.{Launch}
use Rattle.suit_edge.specs.Faults.{Faulted}
use Rattle.suit_edge.specs.Flash.{Now}
use Rattle.suit_edge.specs.MemoryHost.{HostState, file_in}
use Rattle.suit_edge.specs.FuseDisk.{FuseState}
use Rattle.suit_edge.specs.MemoryDisk.{DiskState, memory_flash, moment_now}
use Rattle.suit_edge.specs.MemoryLauncher.{LauncherState}
use Rattle.suit_edge.specs.Moment.{lost}
use Rattle.rollback_record.specs.SoundFlash.{Follows, Settled, Sound}
use Rattle.update_proc.specs.declared.update_end.UpdateEnd.TheVariants as ends
use Rattle.suit_cli.specs.declared.drill.tally.RoundEnd.{RoundEnd}
use Rattle.suit_cli.specs.declared.drill.tally.RoundEnd.TheVariants.{Installed, Stopped, Cut}
use Rattle.suit_cli.specs.Beginnings.{begins_boot, begins_update}
use Rattle.suit_cli.specs.Coming.{Comes, Ended, StaysOrKeeps, Updated, ended_status}
use Rattle.suit_cli.specs.DrillDevice.{flash_size, key_bytes}
use Rattle.suit_cli.specs.Launching.{Launching}
use Rattle.suit_cli.specs.Outside.{Files, Outside}
use Rattle.suit_cli.specs.Surroundings.{Surroundings}
use Rattle.suit_cli.specs.Words.{Named, RunBoot, RunUpdate, Task, pairs_of, task_of}

-- ---- the outside of a round

abbrev pub envelope_name : List ℕ
envelope_name = codes "drill.suit"

-- the host's files: the envelope, and the file that is fetched
abbrev pub named_files : RoundSaid → List ℕ → List (List ℕ × List ℕ)
named_files said envelope =
    (envelope_name, envelope) ∷ (got_name, bytes_of said.files got_name) ∷ []

abbrev pub round_files : RoundSaid → List ℕ → Files
round_files said envelope = file_in (named_files said envelope)

-- ---- the objects of a round

-- objects in memory; a fuse stands before the flash
pub record Objects : Type 0 where
  pub host : HostState
  pub fuse : FuseState
  pub launcher : LauncherState

-- the same as a command sees them
abbrev pub outside_of : Objects → Outside
outside_of o = record {
  told = true;
  files = file_in o.host.files;
  pulled = o.host.pulled;
  asked = o.host.asked;
  faults = o.host.calls.faults;
  flash = record {
    told = true;
    size = length o.fuse.disk.first;
    reads = (memory_flash o.fuse.disk).reads;
    faults = o.fuse.faults;
  };
}

abbrev pub launching_of : Objects → Launching
launching_of o =
    record { told = true; launches = o.launcher.launches; faults = o.launcher.calls.faults }

abbrev pub surroundings_of : Objects → Surroundings
surroundings_of o = record {
  outside = outside_of o;
  launcher = launching_of o;
  flash = memory_flash o.fuse.disk;
}

-- one of them ran out of memory in a call
abbrev pub have_starved : Objects → Bool
have_starved o =
    not (o.host.calls.starved == 0) || not (o.fuse.disk.calls.starved == 0)
    || not (o.launcher.calls.starved == 0)

-- the fuse lets through as many calls as the round drew, or all if it drew none
pub record IsDrawn (said : RoundSaid) (fuse : FuseState) : Type 0 where
  pub passes : fuse.passes ≡ unwrap_or said.cut 18446744073709551615
  pub whole : fuse.faults ≡ 0

-- they hold these files and a flash of that size, which reads this image
pub record ObjectsHold (files : Files) (image : List ℕ) (o : Objects) : Type 0 where
  pub files_are : file_in o.host.files ≡ files
  pub size : length o.fuse.disk.first ≡ flash_size
  pub reads : (memory_flash o.fuse.disk).reads ≡ image

-- no object counted a fault, and memory did not run out
pub record IsWhole (had has : Objects) (ended : Ended) : Type 0 where
  pub host : has.host.calls.faults ≡ had.host.calls.faults
  pub flash : has.fuse.faults ≡ had.fuse.faults
  pub launcher : has.launcher.calls.faults ≡ had.launcher.calls.faults
  pub enough : ended_status ended ≢ 11

-- ---- the update

-- `run update` of the envelope, with the round's words, on this image, behind the drawn fuse; no object ran out of memory
pub record UpdateComes (said : RoundSaid) (files : Files) (image : List ℕ) : Type 0 where
  pub uris : List Named
  pub words :
      task_of (codes "run" ∷ codes "update" ∷ envelope_name ∷ said.words)
      ≡ Some (RunUpdate envelope_name uris)
  pub had : Objects
  pub has : Objects
  pub ended : Ended
  pub holds : ObjectsHold files image had
  pub fuse : IsDrawn said had.fuse
  pub comes :
      Comes (begins_update envelope_name) (λ task. RunUpdate envelope_name uris ≡ task)
      (launching_of had) (launching_of has) (outside_of had) (outside_of has) ended
  pub enough : have_starved has ≡ false

abbrev pub is_installed : Ended → Bool
is_installed (Updated (ends.Installed r) lines) = true
is_installed _ = false

abbrev pub end_of : Ended → RoundEnd
end_of ended = if is_installed ended then Installed else Stopped

-- the update came to its end
pub record EndsWhole (said : RoundSaid) (files : Files) (image : List ℕ)
    (u : UpdateComes said files image) (left : List ℕ) (end : RoundEnd) : Type 0 where
  pub whole : IsWhole u.had u.has u.ended
  pub reads : (memory_flash u.has.fuse.disk).reads ≡ left
  pub end_is : end ≡ end_of u.ended

-- The flash lost its power, as the round wanted: the fuse refused a call. Nothing was pending before, and the update kept the
-- flash as its end says. Of the images that a power loss may leave then, this one has the pending writes that the round drew.
pub record EndsCut (said : RoundSaid) (files : Files) (image : List ℕ)
    (u : UpdateComes said files image) (left : List ℕ) (end : RoundEnd) : Type 0 where
  pub wanted : IsSome said.cut
  pub faulted : Faulted u.had.fuse.faults u.has.fuse.faults
  pub settled : Settled (memory_flash u.had.fuse.disk)
  pub kept :
      StaysOrKeeps envelope_name (pairs_of u.uris) (surroundings_of u.had) (surroundings_of u.has)
      u.ended
  pub may : Now (memory_flash u.has.fuse.disk) left
  pub loses : left ≡ lost said.choice (moment_now u.has.fuse.disk)
  pub end_is : end ≡ Cut

-- the update came to its end, or was cut
pub record UpdatesRound (said : RoundSaid) (files : Files) (image left : List ℕ) (end : RoundEnd)
    : Type 0 where
  pub update : UpdateComes said files image
  pub ends :
      EndsWhole said files image update left end ⊎ EndsCut said files image update left end

-- ---- the boot

-- `run boot` on this image gains these launches, and leaves that image
pub record BootComes (files : Files) (image left : List ℕ) (launches : List Launch) : Type 0 where
  pub had : Objects
  pub has : Objects
  pub ended : Ended
  pub holds : ObjectsHold files image had
  pub comes :
      Comes begins_boot (λ task. RunBoot ≡ task) (launching_of had) (launching_of has)
      (outside_of had) (outside_of has) ended
  pub whole : IsWhole had has ended
  pub gained : has.launcher.launches ≡ had.launcher.launches ++ launches
  pub reads : (memory_flash has.fuse.disk).reads ≡ left

-- ---- the round

-- The images before a round, after its update or the loss of its power, and after its boot; how the update ended; and the
-- launches of the boot.
pub record RoundRun : Type 0 where
  pub before : List ℕ
  pub updated : List ℕ
  pub after : List ℕ
  pub end : RoundEnd
  pub launches : List Launch

-- the next image is sound, and goes on from this one
pub record IsNextImage (image next : List ℕ) : Type 0 where
  pub sound : Sound next
  pub follows : Follows image next

-- a round was run with what was drawn for it
pub record IsRound (said : RoundSaid) (r : RoundRun) : Type 0 where
  pub envelope : List ℕ
  pub made : IsMadeOf said.description said.files key_bytes envelope
  pub update : UpdatesRound said (round_files said envelope) r.before r.updated r.end
  pub boot : BootComes (round_files said envelope) r.updated r.after r.launches
  pub first : IsNextImage r.before r.updated
  pub second : IsNextImage r.updated r.after

-- ---- inside

-- a disk of that size, with nothing pending
pub record IsAtRest (disk : DiskState) : Type 0 where
  pub size : length disk.first ≡ flash_size
  pub settled : Settled (memory_flash disk)

-- the status says that no object failed and memory did not run out
abbrev pub is_whole : ℕ → Bool
is_whole status = not (status == 7 || status == 8 || status == 10 || status == 11)

abbrev pub ends_so : Ended → RoundEnd → Type 0
ends_so ended end = IsTrue (is_whole (ended_status ended)) × (end ≡ end_of ended)

-- a host with the files of a round
pub record HostsRound (said : RoundSaid) (host : HostState) : Type 0 where
  pub envelope : List ℕ
  pub made : IsMadeOf said.description said.files key_bytes envelope
  pub files : host.files ≡ named_files said envelope

-- the file names by URI, if the task is an update
abbrev pub uris_asked : Option Task → Option (List (List ℕ × List ℕ))
uris_asked (Some (RunUpdate name uris)) = Some (pairs_of uris)
uris_asked _ = None

-- these are the file names by URI that `run update` gets with these words
pub record AsksUpdate (words : List (List ℕ)) (uris : List (List ℕ × List ℕ)) : Type 0 where
  pub named : List Named
  pub asks :
      task_of (codes "run" ∷ codes "update" ∷ envelope_name ∷ words)
      ≡ Some (RunUpdate envelope_name named)
  pub uris_are : uris ≡ pairs_of named

-- the words of a shape
abbrev pub AreWords : List (List ℕ) → Type 0
AreWords words = (shape : Shape) × (words ≡ words_of shape)

-- a boot that gains some launches
abbrev pub BootsRound : Files → List ℕ → List ℕ → List Launch → List Launch → Type 0
BootsRound files image left launched now =
    (gained : List Launch) × (now ≡ launched ++ gained) × BootComes files image left gained

-- what one round leaves to the next: the state of the draws, the image of the flash, and all launches
pub record DrillState : Type 0 where
  pub draws : ℕ
  pub image : List ℕ
  pub launches : List Launch

-- a round, from one of these to another
pub record RunsRound (sequence : ℕ) (before after : DrillState) (end : RoundEnd) : Type 0 where
  pub run : RoundRun
  pub is : IsRound (round_of before.draws sequence).0 run
  pub draws_are : after.draws ≡ (round_of before.draws sequence).1
  pub before_is : run.before ≡ before.image
  pub after_is : run.after ≡ after.image
  pub end_is : run.end ≡ end
  pub gained : after.launches ≡ before.launches ++ run.launches
