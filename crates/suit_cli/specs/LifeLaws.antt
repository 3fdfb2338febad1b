-- The life of a flash that this program alone writes: the images that stand on it, one after another.
use Rattle.std.specs.Prelude.{◌≡◌, ◌⊎◌, ℕ, List, [], ◌∷◌, length, Some, All, AllPairs}
use Rattle.flash_layout.specs.declared.frame.Frame.{Frame}
use Rattle.flash_layout.specs.declared.key.Key.{Key}
use Rattle.flash_layout.specs.declared.layout.Entry.{Entry}
use Rattle.flash_layout.specs.declared.slot.Record.{Record}
use Rattle.flash_layout.specs.Configs.{ConfigOf, Configured}
use Rattle.flash_layout.specs.Formats.{IsFormatted}
use Rattle.flash_layout.specs.Frames.{head_of}
use Rattle.suit_params.specs.declared.refusal.Refusal.{Refusal}
use Rattle.suit_envelope.specs.Said.{RefusesBytes}
use Rattle.rollback_record.specs.HeadRecord.{RecordOf}
use Rattle.rollback_record.specs.SoundFlash.{Follows, IsInstalled, IsNoEarlier, Sound, recorded_bank}

-- ---- lives

abbrev pub AreZeros : List ℕ → Type 0
AreZeros image = All (λ byte. byte ≡ 0) image

-- a life begins with zero bytes alone, or with a sound image
abbrev pub Begins : List ℕ → Type 0
Begins image = AreZeros image ⊎ Sound image

-- each later image is sound, and goes on from the one before it
abbrev pub LivesOn : List ℕ → List (List ℕ) → Type 0
LivesOn image [] = Unit {0}
LivesOn image (next ∷ later) = Sound next × Follows image next × LivesOn next later

abbrev pub IsLife : List (List ℕ) → Type 0
IsLife [] = Unit {0}
IsLife (first ∷ later) = Begins first × LivesOn first later

-- ---- the record

-- the image has this layout, key and record, and its parts stand by this frame
pub record HasRecorded (frame : Frame) (layout : List Entry) (key : Key) (r : Record)
    (image : List ℕ) : Type 0 where
  pub config : ConfigOf (length image) image (Configured layout key frame)
  pub record_is : RecordOf frame (head_of frame image) (Some r)

-- if the first image has a record, the second has the same layout and key, and a record whose number is not lower
abbrev pub NeverLower : List ℕ → List ℕ → Type 0
NeverLower a b =
    (frame : Frame) (layout : List Entry) (key : Key) (r : Record)
    → HasRecorded frame layout key r a
    → (now : Frame) × (s : Record) × HasRecorded now layout key s b × IsNoEarlier r s

pub record LifeLaws : Type 0 where
  -- each image of a life is sound,
  pub sound : (images : List (List ℕ)) → IsLife images → All Sound images
  -- goes on from each earlier one,
  pub follows : (images : List (List ℕ)) → IsLife images → AllPairs Follows images
  -- and so never records a lower number
  pub numbers : (images : List (List ℕ)) → IsLife images → AllPairs NeverLower images

-- ---- sound and unsound images

pub record SoundnessLaws : Type 0 where
  -- zero bytes alone are
  pub zeros : (image : List ℕ) → AreZeros image → Sound image
  -- so is what formatting leaves
  pub formatted : (frame : Frame) (layout : List Entry) (key : Key) (image : List ℕ)
      → IsFormatted frame (length image) layout key image → Sound image
  -- a sound image records an installed envelope: authentic under its key, with the record's number and digest, and safe
  pub installed : (frame : Frame) (layout : List Entry) (key : Key) (r : Record) (image : List ℕ)
      → HasRecorded frame layout key r image → Sound image
      → IsInstalled layout key (recorded_bank frame (head_of frame image) r) r
  -- an image is not, whose record's bank spells no envelope
  pub no_envelope : (frame : Frame) (layout : List Entry) (key : Key) (r : Record) (image : List ℕ)
      (why : Refusal)
      → HasRecorded frame layout key r image
      → RefusesBytes (recorded_bank frame (head_of frame image) r) why → Sound image → ⊥
