-- An update: its procedure, what it leaves on the flash, and the flash at each moment.
use Rattle.std.specs.Prelude.{◌≡◌, ◌⊎◌, ◌++◌, ℕ, Bool, true, IsTrue, List, Option, Some}
use Rattle.suit_edge.specs.Flash.{Flash, Passes}
use Rattle.suit_edge.specs.declared.launch.Launch.{Launch}
use Rattle.suit_envelope.specs.Payloads.{HasPayloads}
use Rattle.flash_layout.specs.declared.layout.Entry.{Entry}
use Rattle.flash_layout.specs.declared.slot.Record.{Record}
use Rattle.flash_layout.specs.declared.frame.Frame.{Frame}
use Rattle.flash_layout.specs.Frames.{head_of}
use Rattle.rollback_record.specs.HeadRecord.{RecordOf}
use Rattle.rollback_record.specs.Judging.{IsAcceptable}
use Rattle.flash_slots.specs.RamContents.{Held, empty_ram}
use Rattle.step_machine.specs.declared.plan_end.PlanEnd.{PlanEnd}
use Rattle.step_machine.specs.declared.plan_end.PlanEnd.TheVariants as plays
use Rattle.step_machine.specs.declared.spot.Standing.{Standing}
use Rattle.step_machine.specs.Devices.{DeviceAt, contents_of}
use Rattle.step_machine.specs.PlanRuns.{GivesAs, IsUnfaulted, PlaysPlan, setting_of}
use Rattle.step_machine.specs.Worlds.{IsChoice, StandAs}
use Rattle.update_proc.specs.declared.update_end.UpdateEnd.{UpdateEnd}
use Rattle.update_proc.specs.declared.update_end.UpdateEnd.TheVariants as ends
use Rattle.update_proc.specs.Choices.{AreChosen, active_slots}
use Rattle.update_proc.specs.Moments.{HasContentsOf, IsNew, IsOld, KeepsContents, Placed}

-- ---- the play

-- whether the host is one that tells, its files by their names, and the names that it was asked for before and up to
-- now
pub record Hosted : Type 0 where
  pub told : Bool
  pub files : List ℕ → Option (List ℕ)
  pub before : List (List ℕ)
  pub now : List (List ℕ)

abbrev pub hosted : Bool → (List ℕ → Option (List ℕ)) → List (List ℕ) → List (List ℕ) → Hosted
hosted told files before now =
    record { told = told; files = files; before = before; now = now }

-- what a procedure fetches from: payloads, the names of files for URIs, and a host
pub record Sources : Type 0 where
  pub payloads : List (List ℕ × List ℕ)
  pub words : List (List ℕ × List ℕ)
  pub host : Hosted

abbrev pub sources : List (List ℕ × List ℕ) → List (List ℕ × List ℕ) → Hosted → Sources
sources payloads words host = record { payloads = payloads; words = words; host = host }

-- The procedure is played on the chosen slots, with empty working memory, from these sources. It ends like this, and
-- leaves these contents and launches. A host that tells was asked for the files of the play's fetches, in order, and
-- gave them each time; any other host gave some file or none for each request.
pub record PlaysUpdate (p : Placed) (held : Option Record) (from : Sources) (before now : DeviceAt)
    (end : PlanEnd) : Type 0 where
  pub numbers : List ℕ
  pub chosen : AreChosen p.layout p.places p.tree (active_slots held) numbers
  pub choice : IsChoice p.layout (record { number = numbers })
  pub standings : List Standing
  pub stand : StandAs p.layout p.places (record { number = numbers }) standings
  pub ram : List Held
  pub given : ℕ → List ℕ → Option (List ℕ)
  pub gives : GivesAs from.host.told from.words from.host.files given
  pub plays : PlaysPlan p.tree (setting_of standings from.payloads from.words given) end
      (contents_of standings (empty_ram p.layout) before.reads)
      (contents_of standings ram now.reads) before.launches now.launches
  pub asks : IsTrue from.host.told → from.host.now ≡ from.host.before ++ plays.asks

-- the procedure was played like this, and the slots have the contents that it made
pub record PlaysAndLeaves (Plays : List ℕ → PlanEnd → Type 0) (layout : List Entry) (after : List ℕ)
    (end : PlanEnd) : Type 0 where
  pub made : List ℕ
  pub plays : Plays made end
  pub left : HasContentsOf layout made after

-- If the update tells how the procedure ended, the procedure was played and ended like that; if not, nothing was
-- launched. A fault that is told as one of the flash came before the procedure, and then the flash reads the same, or
-- after it: one in a directive is told with the directive's place.
abbrev pub PlayedSo : (List ℕ → PlanEnd → Type 0) → Type 0 → List Entry → List ℕ → List Launch
    → List Launch → UpdateEnd → Type 0
PlayedSo Plays Same layout after launched now (ends.Installed r) =
    PlaysAndLeaves Plays layout after plays.Done
PlayedSo Plays Same layout after launched now (ends.Condition place) =
    PlaysAndLeaves Plays layout after (plays.ConditionFailed place)
PlayedSo Plays Same layout after launched now (ends.Stopped place cause) =
    PlaysAndLeaves Plays layout after (plays.DirectiveFailed place cause)
PlayedSo Plays Same layout after launched now ends.FlashFault =
    ((now ≡ launched) × Same)
    ⊎ ((made : List ℕ) × (end : PlanEnd) × Plays made end × IsUnfaulted end)
PlayedSo Plays Same layout after launched now _ = now ≡ launched

-- However the update ended, nothing was launched, or the procedure was played after the record that this image has.
abbrev pub LaunchesBy : Frame → (Option Record → List ℕ → PlanEnd → Type 0) → List ℕ
    → List Launch → List Launch → Type 0
LaunchesBy frame Plays image launched now =
    (now ≡ launched)
    ⊎
    ((held : Option Record) × RecordOf frame (head_of frame image) held
    × (made : List ℕ) × (end : PlanEnd) × Plays held made end)

-- Over a host with these files, the procedure of the envelope of these bytes is played to its end, and leaves these
-- contents and launches.
abbrev pub PlaysToEnd : Placed → Option Record → List ℕ → List (List ℕ × List ℕ)
    → (List ℕ → Option (List ℕ)) → DeviceAt → DeviceAt → Type 0
PlaysToEnd p held bytes uris files before now =
    (payloads : List (List ℕ × List ℕ)) → HasPayloads bytes payloads
    → (since : List (List ℕ)) × (later : List (List ℕ))
    × PlaysUpdate p held (sources payloads uris (hosted true files since later)) before now
    plays.Done

-- ---- what is left

-- what is left: the new record and contents if the envelope was installed, the old record if not, and one of them if
-- the flash failed
abbrev pub LeftSo : (Record → Type 0) → Type 0 → Type 0 → UpdateEnd → Type 0
LeftSo Is Old New (ends.Installed r) = Is r × New
LeftSo Is Old New ends.FlashFault = Old ⊎ New
LeftSo Is Old New _ = Old

-- When the update has ended, no contents have changed but those of slots that may be written, and the record is the new
-- one if it was installed. The new record may follow the old one.
pub record LeavesUpdate (p : Placed) (held : Option Record) (new : List ℕ → Record)
    (before after : List ℕ) (answer : UpdateEnd) : Type 0 where
  pub numbers : List ℕ
  pub chosen : AreChosen p.layout p.places p.tree (active_slots held) numbers
  pub accepted : IsAcceptable (new numbers).sequence (new numbers).digest held
  pub contents : KeepsContents p.layout p.places p.tree numbers before after
  pub left :
      LeftSo (λ r. r ≡ new numbers) (RecordOf p.frame (head_of p.frame after) held)
      (RecordOf p.frame (head_of p.frame after) (Some (new numbers))) answer

-- The procedure was done if the envelope was installed, and if the procedure was stopped the old record stays. If the
-- flash failed, it is one of the two.
abbrev pub WholeSo : Type 0 → Type 0 → UpdateEnd → Type 0
WholeSo Stays Done (ends.Installed r) = Done
WholeSo Stays Done ends.FlashFault = Stays ⊎ Done
WholeSo Stays Done _ = Stays

-- At each moment the flash has the old record, and no contents changed but those of slots that may be written; or it
-- has the new record, and the contents that the procedure made. If the procedure was not done, the flash has the old
-- record at each moment.
pub record KeepsUpdate (p : Placed) (Done : List ℕ → Type 0) (held : Option Record)
    (new : List ℕ → Record) (old now : Flash) (answer : UpdateEnd) : Type 0 where
  pub numbers : List ℕ
  pub chosen : AreChosen p.layout p.places p.tree (active_slots held) numbers
  pub accepted : IsAcceptable (new numbers).sequence (new numbers).digest held
  pub made : List ℕ
  pub others : KeepsContents p.layout p.places p.tree numbers old.reads made
  pub any_moment :
      Passes old now
      (λ image. IsOld p numbers held old.reads image
      ⊎ IsNew p.frame p.layout (new numbers) made image)
  pub whole : WholeSo (Passes old now (IsOld p numbers held old.reads)) (Done made) answer
  pub left :
      LeftSo (λ r. r ≡ new numbers) (IsOld p numbers held old.reads now.reads)
      (IsNew p.frame p.layout (new numbers) made now.reads) answer

-- what is kept holds if the procedure was run, and otherwise nothing changed
abbrev pub KeptSo : Type 0 → Type 0 → UpdateEnd → Type 0
KeptSo Kept Same (ends.Installed r) = Kept
KeptSo Kept Same (ends.Condition place) = Kept
KeptSo Kept Same (ends.Stopped place cause) = Kept
KeptSo Kept Same ends.FlashFault = Same ⊎ Kept
KeptSo Kept Same _ = Same
