-- The launcher at a moment, and how a procedure that was stopped is told.
use Rattle.std.specs.Prelude.{◌≡◌, ℕ, Bool, IsTrue, ◌∷◌, [], List, codes}
use Rattle.std.specs.Fmt.{decimal}
use Rattle.path_model.specs.declared.cause.Cause.{Cause}
use Rattle.path_model.specs.declared.cause.Cause.TheVariants as causes
use Rattle.suit_edge.specs.declared.launch.Launch.{Launch}
use Rattle.suit_cli.specs.Lines.{joined}
use Rattle.suit_cli.specs.Outside.{Outside}

-- The launcher at a moment: its launches where it tells of them, and its count of faults.
pub record Launching : Type 0 where
  pub told : Bool
  pub launches : List Launch
  pub faults : ℕ

-- a procedure leaves the files as they are, the flash its size, and each object tells as before
pub record LeavesAlone (launched now : Launching) (before after : Outside) : Type 0 where
  pub told : after.told ≡ before.told
  pub files : IsTrue before.told → after.files ≡ before.files
  pub flash_told : after.flash.told ≡ before.flash.told
  pub size : after.flash.size ≡ before.flash.size
  pub launcher_told : now.told ≡ launched.told

-- ---- a procedure that was stopped

abbrev pub cause_text : Cause → List ℕ
cause_text causes.Missing = codes "missing"
cause_text causes.SelfCopy = codes "same component"
cause_text causes.TooLarge = codes "too large"
cause_text causes.Absent = codes "absent"
cause_text causes.HostFault = codes "host fault"
cause_text causes.FlashFault = codes "flash fault"
cause_text causes.LaunchFault = codes "launch fault"

-- the place in the envelope, and why it stopped there
abbrev pub stopped_line : ℕ → List ℕ → List ℕ
stopped_line place why =
    joined (codes "stopped at " ∷ decimal place ∷ codes ": " ∷ why ∷ codes "\n" ∷ [])

abbrev pub cause_status : Cause → ℕ
cause_status causes.HostFault = 7
cause_status causes.FlashFault = 8
cause_status causes.LaunchFault = 10
cause_status _ = 6
