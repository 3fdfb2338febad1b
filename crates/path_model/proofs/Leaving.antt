-- Why a fault cuts a directive that writes, and what it leaves: a fault of the flash, or in a fetch one of the host.
use Rattle.std.proofs.Common.{◌≡◌, ◌⊎◌, ℕ, List, []}
use Rattle.path_model.specs.declared.cause.Cause.{Cause}
use Rattle.path_model.specs.declared.cause.Cause.TheVariants as causes
use Rattle.path_model.specs.Settings.{Setting, NamesFile}
use Rattle.path_model.specs.DevicePlays.{Device, with_content, asking, HoldsAny, WriteLeaves, FetchLeaves, SwapLeaves}

module _ (setting : Setting) (c : ℕ) (w v : Device) (P : Cause → Type 0) where
  pub write_cut : (cause : Cause) → WriteLeaves setting c cause w v → (HoldsAny setting c w v → P causes.FlashFault) → P cause
  write_cut causes.FlashFault h flash = flash h
  write_cut causes.HostFault h flash = absurd h
  write_cut causes.Missing h flash = absurd h
  write_cut causes.SelfCopy h flash = absurd h
  write_cut causes.TooLarge h flash = absurd h
  write_cut causes.Absent h flash = absurd h
  write_cut causes.LaunchFault h flash = absurd h

  pub fetch_cut : (uri : List ℕ) (cause : Cause) → FetchLeaves setting uri c cause w v → (HoldsAny setting c (asking setting uri w) v → P causes.FlashFault)
      → (NamesFile setting.words uri → (v ≡ w) ⊎ (v ≡ asking setting uri w) ⊎ (v ≡ with_content (asking setting uri w) c []) → P causes.HostFault) → P cause
  fetch_cut uri causes.FlashFault h flash host = flash h
  fetch_cut uri causes.HostFault h flash host = host h.0 h.1
  fetch_cut uri causes.Missing h flash host = absurd h
  fetch_cut uri causes.SelfCopy h flash host = absurd h
  fetch_cut uri causes.TooLarge h flash host = absurd h
  fetch_cut uri causes.Absent h flash host = absurd h
  fetch_cut uri causes.LaunchFault h flash host = absurd h

  pub swap_cut : (source : ℕ) (cause : Cause) → SwapLeaves setting c source cause w v
      → ((middle : Device) → HoldsAny setting c w middle → HoldsAny setting source middle v → P causes.FlashFault) → P cause
  swap_cut source causes.FlashFault h flash = flash h.0 h.1 h.2
  swap_cut source causes.HostFault h flash = absurd h
  swap_cut source causes.Missing h flash = absurd h
  swap_cut source causes.SelfCopy h flash = absurd h
  swap_cut source causes.TooLarge h flash = absurd h
  swap_cut source causes.Absent h flash = absurd h
  swap_cut source causes.LaunchFault h flash = absurd h
