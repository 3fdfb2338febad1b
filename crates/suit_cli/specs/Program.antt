-- The result of a run of the program.
use Rattle.std.specs.Prelude.{◌≡◌, ◌≢◌, ◌⊎◌, ◌≤◌, ◌+◌, ◌*◌, ℕ, IsTrue, List, ◌∷◌, ◌++◌, length, take, Option, Some, None}
use Rattle.std.specs.List.{AllByRecursion}
use Rattle.suit_edge.specs.Faults.{Faulted}
use Rattle.suit_edge.specs.Flash.{Flash, ImageOn, Now, Passes}
use Rattle.suit_commands.specs.Tree.{PlanTree}
use Rattle.rollback_record.specs.Migrating.{OutsideMigration}
use Rattle.rollback_record.specs.SoundFlash.{Settled}
use Rattle.path_model.specs.Settings.{found_under}
use Rattle.suit_cli.specs.declared.reply.Outcome.TheVariants as outcomes
use Rattle.suit_cli.specs.Texts.{usage_line}
use Rattle.suit_cli.specs.Words.{Task, Make, Describe, Show, Check, RunInit, RunUpdate, RunBoot, RunMigrate, Diagnose, pairs_of, task_of}
use Rattle.suit_cli.specs.Replies.{IsReply}
use Rattle.suit_cli.specs.Outside.{Outside, Files, Sunk, Leaves}
use Rattle.suit_cli.specs.Stages.{Stage, judging, Answers, ◌>>=◌}
use Rattle.suit_cli.specs.Statuses.{sink_fault_status}
use Rattle.suit_cli.specs.Launching.{Launching}
use Rattle.suit_cli.specs.Surroundings.{Seen, Surroundings, seen}
use Rattle.suit_cli.specs.Updating.{most_room}
use Rattle.suit_cli.specs.Coming.{Ended, Comes, BootKeeps, MigrateKeeps, KeepsSound, StaysOrKeeps, ended_status, ended_text}
use Rattle.suit_cli.specs.Inputs.{longest_file, longest_device, longest_key}
use Rattle.suit_cli.specs.Authoring.{longest_description, names_held, most_named}
use Rattle.suit_cli.specs.Judgement.{AreSafe, ShowUnsafe}
use Rattle.suit_cli.specs.Holding.{HasProcedures}
use Rattle.suit_cli.specs.Formatting.{MayLeave}
use Rattle.suit_cli.specs.Settling.{StaysSettled}
use Rattle.suit_cli.specs.Commands.{does}

-- ---- the answer to the words

-- the words are judged first; all but those of a command are usage
abbrev pub task_in : List (List ℕ) → Stage Task
task_in words =
    judging (λ task. task_of words ≡ Some task)
    (λ reply. (task_of words ≡ None) × IsReply reply outcomes.Usage usage_line)

abbrev pub answers : List (List ℕ) → Answers
answers words = task_in words >>= does

-- the stages of the words, or the boot or the update that they ask for
abbrev pub ComesTo : List (List ℕ) → Launching → Launching → Outside → Outside → Ended → Type 0
ComesTo words = Comes (answers words) (λ task. task_of words ≡ Some task)

-- ---- the put

-- lines come whole behind what was put, or up to a fault of the sink, which has its own status
pub data PutsText (before after : Sunk) (status : ℕ) (text : List ℕ) (result : ℕ) : Type 0 where
  IsPut : result ≡ status → after.faults ≡ before.faults
      → (IsTrue before.told → after.put ≡ before.put ++ text)
      → PutsText before after status text result
  IsCut : result ≡ sink_fault_status → Faulted before.faults after.faults
      → (IsTrue before.told → (n : ℕ) × (after.put ≡ before.put ++ take n text))
      → PutsText before after status text result

abbrev pub Puts : Sunk → Sunk → Ended → ℕ → Type 0
Puts before after ended result =
    PutsText before after (ended_status ended) (ended_text ended) result

-- the words had an answer over the outside and the launcher, and it was put
pub record Performs (words : List (List ℕ)) (before after : Seen) (sunk_before sunk_after : Sunk)
    (result : ℕ) : Type 0 where
  pub ended : Ended
  pub comes :
      ComesTo words before.launcher after.launcher before.outside after.outside ended
  pub puts : Puts sunk_before sunk_after ended result

-- ---- statuses

-- The host or the sink failed, or memory ran out. Of the flash this says nothing: neither `check` nor usage looks at it.
abbrev pub IsExcuse : ℕ → Type 0
IsExcuse result = (result ≡ 7) ⊎ (result ≡ 9) ⊎ (result ≡ 11)

-- this status, unless one of these came first
abbrev pub EndsIn : ℕ → ℕ → Type 0
EndsIn status result = (result ≡ status) ⊎ IsExcuse result

-- Each status has its number, 0 to 22: 9 is that of a fault of the sink, and the others are those of an answer, a boot or
-- an update.
abbrev pub IsStatus : ℕ → Type 0
IsStatus result = result ≤ 22

-- ---- the headline

-- the words check a file with these procedures, as the host tells
pub record ChecksProcedures (words : List (List ℕ)) (before : Outside)
    (update invocation : PlanTree) : Type 0 where
  pub told : IsTrue before.told
  pub name : List ℕ
  pub word : task_of words ≡ Some (Check name)
  pub has : HasProcedures name before update invocation

abbrev pub IsCheck : List (List ℕ) → Type 0
IsCheck words = (name : List ℕ) × (task_of words ≡ Some (Check name))

-- the words check a file, and both of its procedures are safe
pub record ChecksSafe (words : List (List ℕ)) (before : Outside) : Type 0 where
  pub update : PlanTree
  pub invocation : PlanTree
  pub checks : ChecksProcedures words before update invocation
  pub are_safe : AreSafe update invocation

-- the file whose procedures a task judges: that of `check`, and that of `run update`
abbrev pub Judges : Option Task → List ℕ → Type 0
Judges (Some (Check file)) name = file ≡ name
Judges (Some (RunUpdate file uris)) name = file ≡ name
Judges _ name = ⊥

-- the words judge a file's procedures, both are not safe, and a path that shows it was put
pub record ChecksUnsafe (words : List (List ℕ)) (before : Outside) (sunk_before sunk_after : Sunk)
    : Type 0 where
  pub update : PlanTree
  pub invocation : PlanTree
  pub name : List ℕ
  pub word : Judges (task_of words) name
  pub has : HasProcedures name before update invocation
  pub not_safe : AreSafe update invocation → ⊥
  pub text : List ℕ
  pub shows_path : ShowUnsafe update invocation text
  pub puts : IsTrue sunk_before.told → sunk_after.put ≡ sunk_before.put ++ text

-- the words check no file whose procedures can be judged
abbrev pub ChecksNone : List (List ℕ) → Outside → Type 0
ChecksNone words before =
    (update invocation : PlanTree) → ChecksProcedures words before update invocation → ⊥

-- Yes, and both procedures are safe; no, with a path that shows that they are not; or neither, because the file has no such
-- procedures, or the host or the sink failed or memory ran out first. The flash is never looked at.
pub data Checks (words : List (List ℕ)) (before : Outside) (sunk_before sunk_after : Sunk)
    (result : ℕ) : Type 0 where
  SaysYes : result ≡ 0 → ChecksSafe words before
      → Checks words before sunk_before sunk_after result
  SaysNo : result ≡ 1 → ChecksUnsafe words before sunk_before sunk_after
      → Checks words before sunk_before sunk_after result
  SaysNeither : result ≢ 0 → result ≢ 1 → result ≢ 8 → ChecksNone words before ⊎ IsExcuse result
      → Checks words before sunk_before sunk_after result

-- ---- usage

-- the words are no command, and the line that says so was put
pub record IsUsage (words : List (List ℕ)) (sunk_before sunk_after : Sunk) : Type 0 where
  pub no_task : task_of words ≡ None
  pub puts : IsTrue sunk_before.told → sunk_after.put ≡ sunk_before.put ++ usage_line

-- ---- output that is cut off

-- the sink counted a fault, and only the beginning of the answer's lines was put
pub record IsCutOff (words : List (List ℕ)) (before after : Seen) (sunk_before sunk_after : Sunk)
    : Type 0 where
  pub faulted : Faulted sunk_before.faults sunk_after.faults
  pub ended : Ended
  pub comes :
      ComesTo words before.launcher after.launcher before.outside after.outside ended
  pub puts : IsTrue sunk_before.told
      → (n : ℕ) × (sunk_after.put ≡ sunk_before.put ++ take n (ended_text ended))

-- ---- the files that are left

-- how much is pulled: of each file at most one byte more than its limit. `make` reads the files that its description names.
abbrev pub most_pulled : Option Task → Files → ℕ
most_pulled (Some (Make description key out)) files =
    (longest_description + 1) + ((longest_key + 1) + most_named (names_held (files description)))
most_pulled (Some (Describe name)) files = longest_file + 1
most_pulled (Some (Show name key)) files = (longest_file + 1) + (longest_key + 1)
most_pulled (Some (Check name)) files = longest_file + 1
most_pulled (Some (RunInit device key)) files = (longest_device + 1) + (longest_key + 1)
most_pulled (Some (RunUpdate name uris)) files = longest_file + 1
most_pulled (Some (Diagnose name)) files = longest_file + 1
most_pulled _ files = 0

-- the file that is stored
abbrev pub stored_by : Option Task → Option (List ℕ)
stored_by (Some (Make description key out)) = Some out
stored_by _ = None

-- a file that some URI of the words names
abbrev pub IsNamed : List (List ℕ × List ℕ) → List ℕ → Type 0
IsNamed uris name = (uri : List ℕ) × (found_under uris uri ≡ Some name)

-- FILE is asked for, and after it only files that these URIs name. In all no more is pulled than one byte more than the limit
-- of FILE and, for each time that another one was asked for, one byte more than a component has room for. Where a fault comes
-- first, nothing is asked for.
pub data AsksForUpdate (name : List ℕ) (uris : List (List ℕ × List ℕ)) (before after : Outside)
    : Type 0 where
  AsksNothing : after.asked ≡ before.asked
      → after.pulled ≤ before.pulled + (longest_file + 1)
      → AsksForUpdate name uris before after
  AsksFile : (fetched : List (List ℕ)) → after.asked ≡ before.asked ++ name ∷ fetched
      → AllByRecursion (IsNamed uris) fetched
      → after.pulled ≤ before.pulled + (longest_file + 1)
      + length fetched * (most_room before.flash.size + 1)
      → AsksForUpdate name uris before after

-- no file changes
abbrev pub KeepsFiles : Outside → Outside → Type 0
KeepsFiles before after =
    (after.told ≡ before.told) × (IsTrue before.told → after.files ≡ before.files)

-- of `run boot` and `run update` only that no file changes
abbrev pub LeavesBy : Option Task → Outside → Outside → Type 0
LeavesBy (Some RunBoot) before after = KeepsFiles before after
LeavesBy (Some (RunUpdate name uris)) before after = KeepsFiles before after
LeavesBy task before after = Leaves (most_pulled task before.files) (stored_by task) before after

-- ---- power losses

-- The images that a power loss at a moment of the run may leave. All commands but `run init`, `run boot`, `run update` and
-- `run migrate` leave those of the start.
abbrev pub MayBeLeft : Option Task → Outside → Flash → List ℕ → Type 0
MayBeLeft (Some (RunInit device key)) before start image = MayLeave device key before start image
MayBeLeft (Some RunBoot) before start image = Unit {0}
MayBeLeft (Some (RunUpdate name uris)) before start image = Unit {0}
MayBeLeft (Some (RunMigrate base)) before start image =
    ImageOn (OutsideMigration base) start image
MayBeLeft _ before start image = Now start image

-- ---- counts of faults

-- the commands that run a procedure
abbrev pub MayLaunch : Option Task → Type 0
MayLaunch (Some RunBoot) = Unit {0}
MayLaunch (Some (RunUpdate name uris)) = Unit {0}
MayLaunch _ = ⊥

-- a fault of the flash that came behind another one in a procedure
abbrev pub MayHide : List (List ℕ) → ℕ → Type 0
MayHide words result = MayLaunch (task_of words) × (result ≡ 8)

-- Each status of a fault comes only where the count of its object rose. Where it does not come, and the sink did not fail
-- either, that count stays, but that in `run boot` and `run update` a fault of the flash may come behind one of another
-- object, and a launcher may fail where the flash did.
pub record AreCounted (words : List (List ℕ)) (before after : Seen) (sunk_before sunk_after : Sunk)
    (result : ℕ) : Type 0 where
  pub host : result ≡ 7 → Faulted before.outside.faults after.outside.faults
  pub only_host : result ≢ 7 → result ≢ 9 → (MayHide words result → ⊥)
      → after.outside.faults ≡ before.outside.faults
  pub flash : result ≡ 8 → Faulted before.outside.flash.faults after.outside.flash.faults
  pub only_flash : result ≢ 8 → result ≢ 9 → result ≢ 10
      → after.outside.flash.faults ≡ before.outside.flash.faults
  pub launcher : result ≡ 10 → Faulted before.launcher.faults after.launcher.faults
  pub only_launcher : result ≢ 10 → result ≢ 9 → (MayHide words result → ⊥)
      → after.launcher.faults ≡ before.launcher.faults
  pub only_output : result ≢ 9 → sunk_after.faults ≡ sunk_before.faults

-- ---- running out of memory

-- Status 11: no file changed, the flash reads as it did, and nothing was launched.
pub record AsFound (before after : Seen) : Type 0 where
  pub files : IsTrue before.outside.told → after.outside.files ≡ before.outside.files
  pub reads : IsTrue before.outside.flash.told
      → after.outside.flash.reads ≡ before.outside.flash.reads
  pub launches : IsTrue before.outside.flash.told → IsTrue before.launcher.told
      → after.launcher.launches ≡ before.launcher.launches

-- ---- launches

-- only `run boot` and `run update` launch, or fail at the launcher
abbrev pub KeepsLauncher : List (List ℕ) → Launching → Launching → Type 0
KeepsLauncher words launched now = (MayLaunch (task_of words) → ⊥) → now ≡ launched

-- ---- soundness

-- inside: a fact that is stated for a boot, an update and a migration alone
abbrev pub IfSaidApart : Option Task → Type 0 → Type 0
IfSaidApart (Some RunBoot) P = P
IfSaidApart (Some (RunUpdate name uris)) P = P
IfSaidApart (Some (RunMigrate base)) P = P
IfSaidApart _ P = Unit {0}

-- inside: a fact that is stated for a boot alone
abbrev pub IfBoots : Option Task → Type 0 → Type 0
IfBoots (Some RunBoot) P = P
IfBoots _ P = Unit {0}

-- ---- at each moment

-- Of a settled flash, an update keeps the old record and the contents of all slots that it may not write, or leaves the new record
-- with the contents that its procedure made, which was done: by the end that it came to. A boot keeps all but slots that its
-- procedure may write, of any flash. A migration keeps what a settled flash of version 1 tells, and any other flash as it is.
abbrev pub KeepsFor : Option Task → Surroundings → Surroundings → Ended → Type 0
KeepsFor (Some (RunUpdate name uris)) before after ended =
    Settled before.flash → StaysOrKeeps name (pairs_of uris) before after ended
KeepsFor (Some RunBoot) before after ended =
    BootKeeps before.outside ended before.flash after.flash
KeepsFor (Some (RunMigrate base)) before after ended =
    MigrateKeeps before.outside ended before.flash after.flash
KeepsFor _ before after ended = Unit {0}

-- inside: what becomes of a flash that tells, at each moment and at the end
pub record FlashPasses (task : Option Task) (before after : Surroundings) (ended : Ended)
    : Type 0 where
  pub any_moment : Passes before.flash after.flash (MayBeLeft task before.outside before.flash)
  pub sound : IfSaidApart task (KeepsSound before.flash after.flash)
  pub settled :
      StaysSettled before.flash after.flash before.outside.flash.faults after.outside.flash.faults
  pub keeps : KeepsFor task before after ended

-- ---- the whole of a run

-- All that a run may change, at a moment: the files beside the flash, the launcher, the sink, and what a power loss may leave of
-- the flash.
pub record World : Type 1 where
  pub outside : Outside
  pub launcher : Launching
  pub sink : Sunk
  pub flash : Flash

-- what there is of it beside the sink
abbrev pub beside_sink : World → Surroundings
beside_sink w = record { outside = w.outside; launcher = w.launcher; flash = w.flash }

-- The words had an answer, which was put. A flash that tells was kept at each moment as that very answer says, and so that a
-- power loss leaves no other image than these.
pub record Runs (words : List (List ℕ)) (before after : World) (result : ℕ) : Type 0 where
  pub performs :
      Performs words (seen before.outside before.launcher) (seen after.outside after.launcher)
      before.sink after.sink result
  pub any_moment : IsTrue before.outside.flash.told
      → Passes before.flash after.flash (MayBeLeft (task_of words) before.outside before.flash)
  pub keeps : IsTrue before.outside.flash.told
      → KeepsFor (task_of words) (beside_sink before) (beside_sink after) performs.ended
