-- A boot has no names of files, so that no fault of the host stops its procedure.
use Rattle.std.proofs.Common.{◌≡◌, ℕ, List, [], Option, Some, None, refl, sym, subst}
use Rattle.step_machine.specs.Devices.{device_at}
use Rattle.suit_edge.specs.declared.launch.Launch.{Launch}
use Rattle.suit_commands.specs.Tree.{PlanTree}
use Rattle.path_model.specs.declared.cause.Cause.{Cause}
use Rattle.path_model.specs.declared.cause.Cause.TheVariants as causes
use Rattle.path_model.specs.PlayLaws.{FaultedEnds, IsFaultIn}
use Rattle.path_model.specs.Settings.{NamesFile, Setting}
use Rattle.flash_layout.specs.declared.frame.Frame.{Frame}
use Rattle.flash_layout.specs.declared.key.Key.{Key}
use Rattle.flash_layout.specs.declared.layout.Entry.{Entry}
use Rattle.step_machine.specs.declared.plan_end.PlanEnd.TheVariants as plays
use Rattle.step_machine.specs.PlanRuns.{PlaysPlan}
use Rattle.invoke_proc.specs.declared.boot_end.BootEnd.{BootEnd}
use Rattle.invoke_proc.specs.declared.boot_end.BootEnd.TheVariants as ends
use Rattle.invoke_proc.specs.Booting.{NeverHost, PlayedSo, PlaysBoot}

none_named : (uri : List ℕ) → NamesFile [] uri → ⊥
none_named uri (other, name, found) = let never : None ≡ Some name = found in cc

-- the cause of what a fault cut short
CausedIn : Setting → Option Cause → Type 0
CausedIn setting None = Unit {0}
CausedIn setting (Some cause) = IsFaultIn setting cause

caused : (setting : Setting) (why : Cause) (named : Option Cause) → IsFaultIn setting why → named ≡ Some why → named ≡ Some causes.HostFault → IsFaultIn setting causes.HostFault
unfolding CausedIn
caused setting why named fault is host = subst (CausedIn setting) host (subst (CausedIn setting) (sym is) fault)

-- no procedure without names of files ends so
never_stopped : FaultedEnds → (plan : PlanTree) (setting : Setting) (place : ℕ) (before after : List (List ℕ)) (launched now : List Launch) → setting.words ≡ []
    → PlaysPlan plan setting (plays.DirectiveFailed place causes.HostFault) before after launched now → ⊥
never_stopped laws plan setting place before after launched now empty played =
    let cut = played.ends in
    let by = laws plan setting before cut.outcome cut.cut in
    let named = caused setting by.why cut.outcome.cause by.fault by.named cut.stops.named in
    none_named named.0 (subst (λ (words : List (List ℕ × List ℕ)). NamesFile words named.0) empty named.1)

module _ (laws : FaultedEnds) (frame : Frame) (layout : List Entry) (key : Key) (files : List ℕ → Option (List ℕ)) (before after : List ℕ) (launched now : List Launch) where
  pub never_host : (Same : Type 0) (answer : BootEnd) → PlayedSo (PlaysBoot frame layout key files (device_at before launched) (device_at after now)) Same launched now answer → NeverHost answer
  never_host Same (ends.Stopped place causes.HostFault) p = never_stopped laws _ _ place _ _ launched now refl p.on.plays
  never_host Same (ends.Stopped place causes.Missing) p = tt
  never_host Same (ends.Stopped place causes.SelfCopy) p = tt
  never_host Same (ends.Stopped place causes.TooLarge) p = tt
  never_host Same (ends.Stopped place causes.Absent) p = tt
  never_host Same (ends.Stopped place causes.FlashFault) p = tt
  never_host Same (ends.Stopped place causes.LaunchFault) p = tt
  never_host Same ends.Ended p = tt
  never_host Same ends.NothingInstalled p = tt
  never_host Same (ends.BadBank r) p = tt
  never_host Same (ends.NotAuthentic l) p = tt
  never_host Same (ends.UnknownComponent i) p = tt
  never_host Same (ends.Condition place) p = tt
  never_host Same ends.FlashFault p = tt
