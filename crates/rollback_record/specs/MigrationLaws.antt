-- Laws of images that hold the same, each by its own frame.
use Rattle.std.specs.Prelude.{ℕ, List}
use Rattle.rollback_record.specs.Migrating.{IsSameInstallation}
use Rattle.rollback_record.specs.SoundFlash.{Follows, Sound}

pub record MigrationLaws : Type 0 where
  -- an image that holds the same as a sound one is sound
  pub sound : (image other : List ℕ) → IsSameInstallation image other → Sound image → Sound other
  -- an image follows one that holds the same
  pub follows : (image other : List ℕ) → IsSameInstallation image other → Follows image other
