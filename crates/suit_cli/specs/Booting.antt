-- The result of `run boot`.
use Rattle.std.specs.Prelude.{◌≡◌, ℕ, IsTrue, List, codes}
use Rattle.step_machine.specs.Devices.{device_at}
use Rattle.suit_edge.specs.Flash.{Flash}
use Rattle.flash_layout.specs.declared.frame.Frame.{Frame}
use Rattle.flash_layout.specs.declared.key.Key.{Key}
use Rattle.flash_layout.specs.declared.layout.Entry.{Entry}
use Rattle.flash_layout.specs.Configs.{ConfigOf, Configured}
use Rattle.rollback_record.specs.SoundFlash.{Sound}
use Rattle.step_machine.specs.PlanRuns.{counts_of}
use Rattle.invoke_proc.specs.declared.boot_end.BootEnd.{BootEnd}
use Rattle.invoke_proc.specs.declared.boot_end.BootEnd.TheVariants as ends
use Rattle.invoke_proc.specs.declared.boot_end.Lacking.{Lacking}
use Rattle.invoke_proc.specs.declared.boot_end.Lacking.TheVariants as lacks
use Rattle.invoke_proc.specs.Booting.{GainsSafe, KeepsBoot, NeverHost, PlayedSo, PlaysBoot}
use Rattle.invoke_proc.specs.Booting as booting
use Rattle.invoke_proc.specs.Counting.{BootCounts}
use Rattle.invoke_proc.specs.Sound.{IsUnrefused}
use Rattle.suit_cli.specs.Lines.{number_line}
use Rattle.suit_cli.specs.Launching.{Launching, LeavesAlone, cause_status, cause_text, stopped_line}
use Rattle.suit_cli.specs.Texts.{refusal_line, flash_fault_line}
use Rattle.suit_cli.specs.Outside.{Outside}
use Rattle.suit_cli.specs.Installed.{config_in}

-- ---- the lines

abbrev pub lacking_line : Lacking → List ℕ
lacking_line lacks.DigestDiffers = codes "not authentic: digest differs\n"
lacking_line lacks.NoMac = codes "not authentic: no mac\n"
lacking_line lacks.MacDiffers = codes "not authentic: mac differs\n"

abbrev pub boot_line : BootEnd → List ℕ
boot_line ends.Ended = codes "ended\n"
boot_line ends.NothingInstalled = codes "nothing installed\n"
boot_line (ends.BadBank refusal) = refusal_line refusal
boot_line (ends.NotAuthentic lacking) = lacking_line lacking
boot_line (ends.UnknownComponent component) = number_line (codes "unknown component") component
boot_line (ends.Condition place) = stopped_line place (codes "condition failed")
boot_line (ends.Stopped place cause) = stopped_line place (cause_text cause)
boot_line ends.FlashFault = flash_fault_line

-- ---- the statuses

abbrev pub boot_status : BootEnd → ℕ
boot_status ends.Ended = 0
boot_status ends.NothingInstalled = 15
boot_status (ends.BadBank refusal) = 3
boot_status (ends.NotAuthentic lacking) = 4
boot_status (ends.UnknownComponent component) = 18
boot_status (ends.Condition place) = 6
boot_status (ends.Stopped place cause) = cause_status cause
boot_status ends.FlashFault = 8

-- ---- the boot

-- A boot by this configuration ended so: how the end follows from the record and its bank, how the procedure was played,
-- and whose fault was counted. It never ends with a fault of the host, and where nothing was started the flash reads as
-- before. What is launched on a sound flash has its digest, and its size where one is in force.
pub record IsBoot (config : List Entry × Key × Frame) (launched now : Launching)
    (before after : Outside) (end : BootEnd) : Type 0 where
  pub alone : LeavesAlone launched now before after
  pub counts :
      BootCounts end (counts_of before.faults before.flash.faults launched.faults)
      (counts_of after.faults after.flash.faults now.faults)
  pub answers : IsTrue before.flash.told
      → booting.Answers config.2 config.0 config.1 before.flash.reads end
  pub unrefused : IsTrue before.flash.told → Sound before.flash.reads → IsUnrefused end
  pub no_host : IsTrue before.flash.told → IsTrue launched.told → NeverHost end
  pub left : IsTrue before.flash.told
      → booting.KeptSo (Unit {0}) (after.flash.reads ≡ before.flash.reads) end
  pub plays : IsTrue before.flash.told → IsTrue launched.told
      → PlayedSo
      (PlaysBoot config.2 config.0 config.1 before.files
      (device_at before.flash.reads launched.launches)
      (device_at after.flash.reads now.launches))
      (after.flash.reads ≡ before.flash.reads) launched.launches now.launches end
  pub safe : IsTrue before.flash.told → IsTrue launched.told
      → Sound before.flash.reads
      → GainsSafe launched.launches now.launches

-- the flash holds a configuration, a boot was made by it, and these lines tell how that ended
pub record Boots (launched now : Launching) (before after : Outside) (end : BootEnd)
    (lines : List ℕ) : Type 0 where
  pub config : List Entry × Key × Frame
  pub middle : Outside
  pub held : config_in.gives before middle config
  pub boot : IsBoot config launched now middle after end
  pub lines_are : lines ≡ boot_line end

-- ---- at each moment

-- The flash holds a configuration, and a record whose bank starts a manifest. At each moment nothing had changed but the
-- slots of components that its invocation procedure may write.
pub record KeepsBooted (before : Outside) (old now : Flash) : Type 0 where
  pub config : List Entry × Key × Frame
  pub held : ConfigOf before.flash.size old.reads (Configured config.0 config.1 config.2)
  pub kept : KeepsBoot config.2 config.0 config.1 old now
