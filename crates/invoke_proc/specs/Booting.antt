-- A boot by what the flash reads: what it starts, how it ends, what it launches and what it leaves.
use Rattle.std.specs.Prelude.{◌≡◌, ◌⊎◌, ℕ, List, [], ◌++◌, Option, Some, None, map}
use Rattle.std.specs.List.{AllByRecursion}
use Rattle.suit_edge.specs.Flash.{Flash, Keeps}
use Rattle.suit_edge.specs.Faults.{Faulted}
use Rattle.suit_edge.specs.declared.launch.Launch.{Launch}
use Rattle.suit_envelope.specs.Envelopes.{EnvelopeSays}
use Rattle.suit_manifest.specs.declared.manifest.Manifest.{Manifest}
use Rattle.suit_manifest.specs.Procedures.{invocation_tree}
use Rattle.path_model.specs.declared.cause.Cause.TheVariants as causes
use Rattle.path_model.specs.PlayLaws.{HasItsDigest}
use Rattle.flash_layout.specs.declared.frame.Frame.{Frame}
use Rattle.flash_layout.specs.declared.key.Key.{Key}
use Rattle.flash_layout.specs.declared.layout.Entry.{Entry}
use Rattle.flash_layout.specs.declared.place.Places.{Places}
use Rattle.flash_layout.specs.declared.slot.Record.{Record}
use Rattle.flash_layout.specs.Placement.{ArePlaces}
use Rattle.flash_slots.specs.RamContents.{Held, empty_ram}
use Rattle.rollback_record.specs.SoundFlash.{key_bytes}
use Rattle.step_machine.specs.declared.plan_end.PlanEnd.{PlanEnd}
use Rattle.step_machine.specs.declared.plan_end.PlanEnd.TheVariants as plays
use Rattle.step_machine.specs.declared.spot.Standing.{Standing}
use Rattle.step_machine.specs.declared.world.SlotChoice.{SlotChoice}
use Rattle.step_machine.specs.Devices.{DeviceAt, contents_of}
use Rattle.step_machine.specs.Invoking.{launched_as}
use Rattle.step_machine.specs.PlanRuns.{IsUnfaulted, OutsideTargets, PlaysPlan, setting_of}
use Rattle.step_machine.specs.Worlds.{StandAs}
use Rattle.invoke_proc.specs.declared.boot_end.BootEnd.{BootEnd}
use Rattle.invoke_proc.specs.declared.boot_end.BootEnd.TheVariants as ends
use Rattle.invoke_proc.specs.Banks.{bank_in, record_in}
use Rattle.step_machine.specs.InUse.{AreInUse}
use Rattle.path_model.specs.Settings.{steady}
use Rattle.invoke_proc.specs.Starting.{IsDeclined, IsStarted}

-- ---- the start

-- each component of a manifest stands for its active slot
pub record StandActive (layout : List Entry) (ids : List (List (List ℕ))) (active : List ℕ)
    (standings : List Standing) : Type 0 where
  pub places : Places
  pub placed : ArePlaces layout ids places
  pub slots : SlotChoice
  pub chosen : AreInUse layout active slots.number
  pub stand : StandAs layout places slots standings

-- the flash has this record, and the envelope in its bank starts this manifest
pub record Starts (frame : Frame) (layout : List Entry) (key : Key) (reads : List ℕ) (r : Record)
    (manifest : Manifest) : Type 0 where
  pub recorded : record_in frame reads (Some r)
  pub said : EnvelopeSays
  pub started : IsStarted layout (key_bytes key) (bank_in frame reads r) said manifest

-- ---- how a boot ends

-- the end fits what the flash reads: it is the reason why nothing is started, or a manifest is started
abbrev pub Answers : Frame → List Entry → Key → List ℕ → BootEnd → Type 0
Answers frame layout key reads ends.NothingInstalled = record_in frame reads None
Answers frame layout key reads (ends.BadBank refusal) =
    (r : Record) × record_in frame reads (Some r)
    × IsDeclined layout (key_bytes key) (bank_in frame reads r) (ends.BadBank refusal)
Answers frame layout key reads (ends.NotAuthentic lacking) =
    (r : Record) × record_in frame reads (Some r)
    × IsDeclined layout (key_bytes key) (bank_in frame reads r) (ends.NotAuthentic lacking)
Answers frame layout key reads (ends.UnknownComponent component) =
    (r : Record) × record_in frame reads (Some r)
    × IsDeclined layout (key_bytes key) (bank_in frame reads r) (ends.UnknownComponent component)
Answers frame layout key reads ends.Ended =
    (r : Record) × (m : Manifest) × Starts frame layout key reads r m
Answers frame layout key reads (ends.Condition place) =
    (r : Record) × (m : Manifest) × Starts frame layout key reads r m
Answers frame layout key reads (ends.Stopped place cause) =
    (r : Record) × (m : Manifest) × Starts frame layout key reads r m
Answers frame layout key reads ends.FlashFault = Unit {0}

-- ---- the play

-- The invocation procedure of the manifest is played on the active slots, with empty working memory, no files for URIs
-- and no payloads. It ends like this, and leaves these contents and launches.
pub record PlaysOn (layout : List Entry) (manifest : Manifest) (active : List ℕ)
    (files : List ℕ → Option (List ℕ)) (before now : DeviceAt) (end : PlanEnd) : Type 0 where
  pub standings : List Standing
  pub stand : StandActive layout manifest.components active standings
  pub ram : List Held
  pub plays : PlaysPlan (invocation_tree manifest) (setting_of standings [] [] (steady files)) end
      (contents_of standings (empty_ram layout) before.reads)
      (contents_of standings ram now.reads) before.launches now.launches

-- the same for the record and the manifest that the flash has
pub record PlaysBoot (frame : Frame) (layout : List Entry) (key : Key)
    (files : List ℕ → Option (List ℕ)) (before now : DeviceAt) (end : PlanEnd) : Type 0 where
  pub installed : Record
  pub manifest : Manifest
  pub starts : Starts frame layout key before.reads installed manifest
  pub on : PlaysOn layout manifest installed.active files before now end

-- If the boot tells how the procedure ended, the procedure was played and ended like that; if not, nothing was
-- launched. A fault that is told as one of the flash came before the procedure, and then the flash reads the same, or
-- after it: one in a directive is told with the directive's place.
abbrev pub PlayedSo : (PlanEnd → Type 0) → Type 0 → List Launch → List Launch → BootEnd → Type 0
PlayedSo P Same launched now ends.Ended = P plays.Done
PlayedSo P Same launched now (ends.Condition place) = P (plays.ConditionFailed place)
PlayedSo P Same launched now (ends.Stopped place cause) = P (plays.DirectiveFailed place cause)
PlayedSo P Same launched now ends.FlashFault =
    ((now ≡ launched) × Same) ⊎ ((end : PlanEnd) × P end × IsUnfaulted end)
PlayedSo P Same launched now _ = now ≡ launched

-- the procedure has no files for URIs, and so is not stopped by a fault of the host
abbrev pub NeverHost : BootEnd → Type 0
NeverHost (ends.Stopped place causes.HostFault) = ⊥
NeverHost _ = Unit {0}

-- how a boot ends if its procedure ended like this
abbrev pub end_of : PlanEnd → BootEnd
end_of plays.Done = ends.Ended
end_of (plays.ConditionFailed place) = ends.Condition place
end_of (plays.DirectiveFailed place cause) = ends.Stopped place cause

-- launches were only added, and each of these has the digest that was in force, and the size if one was
pub record GainsSafe (launched now : List Launch) : Type 0 where
  pub gained : List Launch
  pub added : now ≡ launched ++ gained
  pub safe : AllByRecursion HasItsDigest (map launched_as gained)

-- ---- what is left

-- nothing changed on the flash but slots of components that the procedure may write
pub record KeepsOthers (layout : List Entry) (manifest : Manifest) (active : List ℕ)
    (old new : Flash) : Type 0 where
  pub standings : List Standing
  pub stand : StandActive layout manifest.components active standings
  pub keeps : Keeps (OutsideTargets (invocation_tree manifest) standings) old new

-- the same for the record and the manifest that the flash has
pub record KeepsBoot (frame : Frame) (layout : List Entry) (key : Key) (old new : Flash)
    : Type 0 where
  pub installed : Record
  pub manifest : Manifest
  pub starts : Starts frame layout key old.reads installed manifest
  pub others : KeepsOthers layout manifest installed.active old new

-- what is kept holds if the procedure was played, and otherwise nothing changed
abbrev pub KeptSo : Type 0 → Type 0 → BootEnd → Type 0
KeptSo Kept Same ends.Ended = Kept
KeptSo Kept Same (ends.Condition place) = Kept
KeptSo Kept Same (ends.Stopped place cause) = Kept
KeptSo Kept Same ends.FlashFault = Same ⊎ Kept
KeptSo Kept Same _ = Same

-- the property holds, unless the flash failed
abbrev pub IfUnfaulted : BootEnd → Type 0 → Type 0
IfUnfaulted ends.FlashFault P = Unit {0}
IfUnfaulted (ends.Stopped place causes.FlashFault) P = Unit {0}
IfUnfaulted _ P = P

-- ---- inside

-- an end that may come once something was started
abbrev pub IsStartEnd : BootEnd → Type 0
IsStartEnd ends.NothingInstalled = ⊥
IsStartEnd (ends.BadBank refusal) = ⊥
IsStartEnd (ends.NotAuthentic lacking) = ⊥
IsStartEnd (ends.UnknownComponent component) = ⊥
IsStartEnd _ = Unit {0}

-- the boot tells how the procedure ended, or the flash failed after it
abbrev pub SettledSo : PlanEnd → BootEnd → ℕ → ℕ → Type 0
SettledSo end answer before now =
    ((answer ≡ end_of end) × (now ≡ before))
    ⊎ (IsUnfaulted end × (answer ≡ ends.FlashFault) × Faulted before now)
