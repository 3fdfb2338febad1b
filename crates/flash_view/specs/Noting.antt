-- Noting the image to be started.
use Rattle.std.specs.Prelude.{◌≡◌, ◌≢◌, ◌⊎◌, ◌<◌, ◌+◌, ℕ, Bool, IsTrue, List, [], ◌∷◌, Option, Some, None, IsSome, length, slice_range}
use Rattle.std.specs.Option.{option_copied}
use Rattle.arrayvec.specs.ArrayVec.{ArrayVec}
use Rattle.suit_edge.specs.Faults.{counted}
use Rattle.suit_edge.specs.declared.launch.Launch.{Launch}
use Rattle.suit_edge.specs.declared.launcher.Image.{Image}
use Rattle.suit_edge.specs.declared.launcher.Image.TheVariants as image
use Rattle.suit_edge.specs.declared.launcher.Label.{Label}
use Rattle.suit_edge.specs.declared.launcher.Launched.{Launched}
use Rattle.suit_edge.specs.declared.launcher.Launched.TheVariants as launched
use Rattle.flash_view.specs.declared.noted_image.NotedImage.{NotedImage}
use Rattle.flash_view.specs.declared.noted_image.TheConstants.{LONGEST_ARGUMENTS, LONGEST_DIGEST}

-- the bytes of a copy, if there is one
abbrev pub items_in : Option (ArrayVec ℕ) → Option (List ℕ)
items_in (Some copy) = Some copy.items
items_in None = None

-- there are bytes, and more than `most` of them
abbrev pub IsLonger : ℕ → Option (List ℕ) → Type 0
IsLonger most (Some bytes) = most < length bytes
IsLonger most None = ⊥

-- the label names a digest or arguments that are too long for a note
abbrev pub IsTooLong : Label → Type 0
IsTooLong label =
    IsLonger LONGEST_DIGEST (option_copied label.digest)
    ⊎ IsLonger LONGEST_ARGUMENTS (option_copied label.args)

-- the note of `count` bytes from `from` on, under this label
pub record IsNoteOf (label : Label) (from count : ℕ) (note : NotedImage) : Type 0 where
  pub component : note.component ≡ label.component
  pub place : note.place ≡ from
  pub length : note.length ≡ count
  pub digest : items_in note.digest ≡ option_copied label.digest
  pub size : note.size ≡ label.size
  pub args : items_in note.args ≡ option_copied label.args

-- the bytes of the flash that are noted
abbrev pub noted_bytes : List ℕ → NotedImage → List ℕ
noted_bytes flash note = slice_range flash note.place (note.place + note.length)

-- the launch of the noted bytes
abbrev pub noted_launch : List ℕ → NotedImage → Launch
noted_launch flash note = record {
  component = note.component;
  bytes = noted_bytes flash note;
  digest = items_in note.digest;
  size = note.size;
  args = items_in note.args;
}

-- ---- the launcher

-- the flash, what is noted, and how often a call has failed
pub record ViewLaunches : Type 0 where
  pub flash : List ℕ
  pub noted : Option NotedImage
  pub faults : ℕ

abbrev pub launches_in : List ℕ → Option NotedImage → List Launch
launches_in flash (Some note) = noted_launch flash note ∷ []
launches_in flash None = []

-- the launches so far: at most one, of the noted image
abbrev pub launches_of : ViewLaunches → List Launch
launches_of l = launches_in l.flash l.noted

-- the image lies in the flash
abbrev pub LiesIn : List ℕ → Image → Type 0
LiesIn flash (image.Flash place size) = place + size < length flash + 1
LiesIn flash (image.Ram bytes) = ⊥

-- at the image's place, the disk reads other bytes than the flash holds
abbrev pub ReadsOther : List ℕ → List ℕ → Image → Type 0
ReadsOther flash reads (image.Flash place size) =
    slice_range reads place (place + size) ≢ slice_range flash place (place + size)
ReadsOther flash reads (image.Ram bytes) = ⊥

-- the image cannot be noted: there is a note already, it is not inside the flash, its label names too much,
-- or the disk reads other bytes
abbrev pub IsUnfit : Image → Label → ViewLaunches → List ℕ → Type 0
IsUnfit what label before reads =
    IsSome before.noted ⊎ (LiesIn before.flash what → ⊥) ⊎ IsTooLong label
    ⊎ ReadsOther before.flash reads what

-- the same, without looking at the disk
abbrev pub IsUnnoted : Image → Label → ViewLaunches → Type 0
IsUnnoted (image.Flash place size) label before = IsSome before.noted ⊎ IsTooLong label
IsUnnoted (image.Ram bytes) label before = Unit {0}

-- the first note, of an image in the flash
abbrev pub IsFirstNote : Image → Label → ViewLaunches → NotedImage → Type 0
IsFirstNote (image.Flash place size) label before note =
    (before.noted ≡ None) × IsNoteOf label place size note × (IsTooLong label → ⊥)
IsFirstNote (image.Ram bytes) label before note = ⊥

-- one more failed call
abbrev pub failed_once : ViewLaunches → ViewLaunches
failed_once l = record { flash = l.flash; noted = l.noted; faults = counted l.faults }

-- A launch that is done notes the image, one that fails is counted, and one in which the disk fails changes
-- nothing.
abbrev pub Notes : Launched → Image → Label → ViewLaunches → ViewLaunches → Type 0
Notes launched.Done (image.Flash place size) label before now =
    (note : NotedImage) × IsNoteOf label place size note
    × (now ≡ record { flash = before.flash; noted = Some note; faults = before.faults })
Notes launched.Done (image.Ram bytes) label before now = ⊥
Notes launched.DiskFailed what label before now = now ≡ before
Notes launched.Failed what label before now =
    now ≡ failed_once before

-- the launch fails if P holds, and is done if it does not; nothing is said if the disk fails
abbrev pub FailsWhere : Launched → Type 0 → Type 0
FailsWhere launched.Done P = P → ⊥
FailsWhere launched.DiskFailed P = Unit {0}
FailsWhere launched.Failed P = P
