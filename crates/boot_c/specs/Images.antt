-- The image that a boot starts (draft-ietf-suit-manifest-25, section 6.2; what is noted of it is this project's own).
use Rattle.std.specs.Prelude.{◌≡◌, ◌≤◌, ◌+◌, ◌∷◌, ℕ, List, [], Some, None, length, take, slice_range}
use Rattle.boot_c.specs.BootAnswers.{HasConfig}
use Rattle.boot_c.specs.declared.image.SuitImage.{SuitImage}
use Rattle.flash_view.specs.Noting.{items_in}
use Rattle.flash_view.specs.declared.noted_image.NotedImage.{NotedImage}
use Rattle.invoke_proc.specs.Booting.{PlaysBoot}
use Rattle.path_model.specs.PlayLaws.{HasItsDigest}
use Rattle.rollback_record.specs.SoundFlash.{Sound}
use Rattle.step_machine.specs.Devices.{device_at}
use Rattle.step_machine.specs.Invoking.{launched_as}
use Rattle.step_machine.specs.declared.plan_end.PlanEnd.TheVariants as plays
use Rattle.suit_edge.specs.declared.launch.Launch.{Launch}

-- the bytes of an image's digest
abbrev pub image_digest : SuitImage → List ℕ
image_digest image = take image.digest_length image.digest

-- an image as it was noted
pub record IsNoted (note : NotedImage) (image : SuitImage) : Type 0 where
  pub place : image.place ≡ note.place
  pub length : image.length ≡ note.length
  pub component : image.component ≡ note.component
  pub digest : items_in note.digest ≡ Some (image_digest image)

-- the bytes of a flash that an image is of
abbrev pub image_bytes : List ℕ → SuitImage → List ℕ
image_bytes flash image = slice_range flash image.place (image.place + image.length)

-- the image's bytes lie in the flash
abbrev pub ImageLiesIn : List ℕ → SuitImage → Type 0
ImageLiesIn flash image = image.place + image.length ≤ length flash

-- the image is the one of this launch
pub record IsLaunched (flash : List ℕ) (image : SuitImage) (launch : Launch) : Type 0 where
  pub component : launch.component ≡ image.component
  pub bytes : launch.bytes ≡ image_bytes flash image
  pub digest : launch.digest ≡ Some (image_digest image)

-- The invocation procedure of the manifest that is installed, authentic under the flash's key, was played to its end without
-- files, and launched this image alone. On a sound flash it has its digest, and its size where one is in force.
pub record Starts (flash : List ℕ) (image : SuitImage) : Type 0 where
  pub config : HasConfig flash
  pub launch : Launch
  pub launched : IsLaunched flash image launch
  pub after : List ℕ
  pub plays :
      PlaysBoot config.frame config.layout config.key (λ _. None) (device_at flash [])
      (device_at after (launch ∷ []))
      plays.Done
  pub safe : Sound flash → HasItsDigest (launched_as launch)

-- the procedure was played to its end, and launched nothing
pub record StartsNone (flash : List ℕ) : Type 0 where
  pub config : HasConfig flash
  pub after : List ℕ
  pub plays :
      PlaysBoot config.frame config.layout config.key (λ _. None) (device_at flash [])
      (device_at after []) plays.Done
