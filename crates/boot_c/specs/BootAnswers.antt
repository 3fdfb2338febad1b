-- What a boot answers.
use Rattle.std.specs.Prelude.{◌≡◌, ◌⊎◌, ◌∷◌, ℕ, List, [], None, length}
use Rattle.flash_layout.specs.declared.frame.Frame.{Frame}
use Rattle.flash_layout.specs.Configs.{Bad, Blank, ConfigOf, Configured}
use Rattle.flash_layout.specs.declared.key.Key.{Key}
use Rattle.flash_layout.specs.declared.layout.Entry.{Entry}
use Rattle.invoke_proc.specs.Booting.{Answers, NeverHost, PlayedSo, PlaysBoot}
use Rattle.invoke_proc.specs.declared.boot_end.BootEnd.{BootEnd}
use Rattle.invoke_proc.specs.declared.boot_end.BootEnd.TheVariants as ends
use Rattle.path_model.specs.declared.cause.Cause.{Cause}
use Rattle.path_model.specs.declared.cause.Cause.TheVariants as causes
use Rattle.step_machine.specs.Devices.{device_at}
use Rattle.suit_answers.specs.declared.answer.Answer.{Answer}
use Rattle.suit_answers.specs.declared.answer.Answer.TheVariants as answers
use Rattle.suit_edge.specs.declared.launch.Launch.{Launch}

abbrev pub cause_answer : Cause → Answer
cause_answer causes.HostFault = answers.HostFault
cause_answer causes.FlashFault = answers.FlashFault
cause_answer causes.LaunchFault = answers.LaunchFault
cause_answer _ = answers.Stopped

-- the answer of a boot that ended so
abbrev pub boot_answer : BootEnd → Answer
boot_answer ends.Ended = answers.Done
boot_answer ends.NothingInstalled = answers.NothingInstalled
boot_answer (ends.BadBank refusal) = answers.Refused
boot_answer (ends.NotAuthentic lacking) = answers.NotAuthentic
boot_answer (ends.UnknownComponent component) = answers.UnknownComponent
boot_answer (ends.Condition place) = answers.Stopped
boot_answer (ends.Stopped place cause) = cause_answer cause
boot_answer ends.FlashFault = answers.FlashFault

-- the flash has a layout and a key, and its parts stand by the frame
pub record HasConfig (flash : List ℕ) : Type 0 where
  pub layout : List Entry
  pub key : Key
  pub frame : Frame
  pub is : ConfigOf (length flash) flash (Configured layout key frame)

abbrev pub HasNoConfig : List ℕ → Type 0
HasNoConfig flash =
    ConfigOf (length flash) flash Blank
    ⊎ ConfigOf (length flash) flash Bad

-- The invocation procedure of what is installed was played without files: it ended so, and launched these. Without files it is
-- not stopped by a fault of the host.
pub record IsPlayed {flash : List ℕ} (config : HasConfig flash) (end : BootEnd)
    (launches : List Launch) : Type 0 where
  pub after : List ℕ
  pub plays :
      PlayedSo
      (PlaysBoot config.frame config.layout config.key (λ _. None) (device_at flash [])
      (device_at after launches))
      (after ≡ flash) [] launches end
  pub never : NeverHost end

-- the boot ended, but the one image that it launched cannot be told
abbrev pub IsUntold : Answer → BootEnd → List Launch → Type 0
IsUntold answer end launches =
    (answer ≡ answers.LaunchFault) × (end ≡ ends.Ended)
    × ((launch : Launch) × (launches ≡ launch ∷ []))

-- a boot by the configuration of the flash ended so, and so did the play; an image without a digest is no image
pub record Ends (flash : List ℕ) (answer : Answer) : Type 0 where
  pub config : HasConfig flash
  pub end : BootEnd
  pub ended : Answers config.frame config.layout config.key flash end
  pub launches : List Launch
  pub played : IsPlayed config end launches
  pub told : (answer ≡ boot_answer end) ⊎ IsUntold answer end launches

-- the flash has no configuration, a read failed, memory ran out, or a boot ended so
abbrev pub IsAnswer : List ℕ → Answer → Type 0
IsAnswer flash answer =
    ((answer ≡ answers.Unconfigured) × HasNoConfig flash)
    ⊎ (answer ≡ answers.FlashFault) ⊎ (answer ≡ answers.NoMemory)
    ⊎ Ends flash answer
