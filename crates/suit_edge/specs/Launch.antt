-- A launch, and the list of launches.
use Rattle.std.specs.Prelude.{◌≡◌, ◌+◌, ◌≤◌, ℕ, Bool, IsTrue, List, [], ◌∷◌, ◌++◌, length, slice_range, Option}
use Rattle.suit_edge.specs.declared.launch.Launch.{Launch}
use Rattle.suit_edge.specs.declared.launcher.Image.{Image}
use Rattle.suit_edge.specs.declared.launcher.Image.TheVariants as image
use Rattle.suit_edge.specs.declared.launcher.Launched.{Launched}
use Rattle.suit_edge.specs.declared.launcher.Launched.TheVariants as launched
use Rattle.suit_edge.specs.Faults.{Faulted}

-- an image on the disk lies within it
abbrev pub LiesWithin : ℕ → Image → Type 0
LiesWithin size (image.Flash place n) = place + n ≤ size
LiesWithin size (image.Ram bytes) = Unit {0}

-- The bytes of an image: what the disk reads at its place, if the disk says what it reads, or those in
-- memory.
abbrev pub AreImage : Image → Bool → List ℕ → List ℕ → Type 0
AreImage (image.Flash place n) told reads bytes =
    (length bytes ≡ n) × (IsTrue told → bytes ≡ slice_range reads place (place + n))
AreImage (image.Ram held) told reads bytes = bytes ≡ held.now

-- the launch of this image, under this component and with what its parameters name
pub record IsLaunch (what : Image) (told : Bool) (reads : List ℕ) (index : ℕ)
    (named_digest : Option (List ℕ)) (named_size : Option ℕ) (named_args : Option (List ℕ))
    (launch : Launch) : Type 0 where
  pub component : launch.component ≡ index
  pub bytes : AreImage what told reads launch.bytes
  pub digest : launch.digest ≡ named_digest
  pub size : launch.size ≡ named_size
  pub args : launch.args ≡ named_args

-- a launch that is done is added to the list, and one that fails leaves the list
abbrev pub AddsLaunch : Launched → List Launch → List Launch → (Launch → Type 0) → Type 0
AddsLaunch launched.Done before now IsAsked =
    (launch : Launch) × (now ≡ before ++ launch ∷ []) × IsAsked launch
AddsLaunch launched.DiskFailed before now IsAsked = now ≡ before
AddsLaunch launched.Failed before now IsAsked = now ≡ before

-- The launcher's count before and now, and the disk's. Failed means that the launcher's rose, DiskFailed that
-- the disk's rose, and a launch that is done leaves both.
abbrev pub LaunchCounts : Launched → ℕ → ℕ → ℕ → ℕ → Type 0
LaunchCounts launched.Done before now disk_before disk_now =
    (now ≡ before) × (disk_now ≡ disk_before)
LaunchCounts launched.DiskFailed before now disk_before disk_now =
    (before ≤ now) × Faulted disk_before disk_now
LaunchCounts launched.Failed before now disk_before disk_now =
    Faulted before now × (disk_before ≤ disk_now)
