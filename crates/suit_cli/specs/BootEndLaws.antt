-- Why `run boot` ends so: the cause of each status, over a flash that tells what it holds.
use Rattle.std.specs.Prelude.{◌≡◌, ◌⊎◌, ℕ, IsTrue, List, Some, None, codes}
use Rattle.step_machine.specs.Devices.{device_at}
use Rattle.suit_params.specs.declared.refusal.Refusal.{Refusal}
use Rattle.suit_manifest.specs.declared.manifest.Manifest.{Manifest}
use Rattle.flash_layout.specs.declared.frame.Frame.{Frame}
use Rattle.flash_layout.specs.declared.key.Key.{Key}
use Rattle.flash_layout.specs.declared.layout.Entry.{Entry}
use Rattle.flash_layout.specs.declared.slot.Record.{Record}
use Rattle.rollback_record.specs.SoundFlash.{key_bytes}
use Rattle.step_machine.specs.declared.plan_end.PlanEnd.{PlanEnd}
use Rattle.invoke_proc.specs.declared.boot_end.BootEnd.TheVariants as ends
use Rattle.invoke_proc.specs.declared.boot_end.Lacking.{Lacking}
use Rattle.invoke_proc.specs.Banks.{bank_in, record_in}
use Rattle.invoke_proc.specs.Booting.{PlaysBoot, Starts, end_of}
use Rattle.invoke_proc.specs.Starting.{IsBad, IsUnauthentic, IsUnknown}
use Rattle.suit_cli.specs.declared.reply.Object.TheVariants as objects
use Rattle.suit_cli.specs.declared.reply.Reply.{Reply}
use Rattle.suit_cli.specs.Booting.{boot_line, lacking_line}
use Rattle.suit_cli.specs.Coming.{Comes, Ended, Answered, Booted, ended_status}
use Rattle.suit_cli.specs.Commands.{begins_boot}
use Rattle.suit_cli.specs.Envelopes.{AreBytes}
use Rattle.suit_cli.specs.Installed.{Holds, HoldsNone}
use Rattle.suit_cli.specs.Launching.{Launching}
use Rattle.suit_cli.specs.Lines.{number_line}
use Rattle.suit_cli.specs.Outside.{Looks, Outside}
use Rattle.suit_cli.specs.Stages.{Says, FaultOf, NoMemory}
use Rattle.suit_cli.specs.Texts.{refusal_line}
use Rattle.suit_cli.specs.Words.{RunBoot}

-- the flash holds this configuration, and this record
pub record HasBank (before : Outside) (config : List Entry × Key × Frame) (installed : Record)
    : Type 0 where
  pub held : Holds before.flash config
  pub recorded : record_in config.2 before.flash.reads (Some installed)

-- the bank of its record, if it has one, has bytes
abbrev pub HasBytes : Outside → Type 0
HasBytes before =
    (config : List Entry × Key × Frame) (installed : Record) → HasBank before config installed
    → AreBytes (bank_in config.2 before.flash.reads installed)

-- the bank of its record starts a manifest
pub record HasStart (before : Outside) : Type 0 where
  pub layout : List Entry
  pub key : Key
  pub frame : Frame
  pub config : Holds before.flash (layout, key, frame)
  pub installed : Record
  pub manifest : Manifest
  pub starts : Starts frame layout key before.flash.reads installed manifest

-- why nothing is started: the first of these
pub data StartsNothing (before : Outside) : Ended → Type 0 where
  -- status 13, `blank` or `bad config`
  AtConfig : (reply : Reply) → HoldsNone before.flash reply
      → StartsNothing before (Answered (Says reply))
  -- status 15, `nothing installed`
  AtRecord : (config : List Entry × Key × Frame) → Holds before.flash config
      → record_in config.2 before.flash.reads None
      → StartsNothing before (Booted ends.NothingInstalled (codes "nothing installed\n"))
  -- status 3, `refused at P: WHY`
  AtBank : (config : List Entry × Key × Frame) (installed : Record) (refusal : Refusal)
      → HasBank before config installed
      → IsBad (bank_in config.2 before.flash.reads installed) refusal
      → StartsNothing before (Booted (ends.BadBank refusal) (refusal_line refusal))
  -- status 4, `not authentic: WHY`
  AtAuthenticity : (config : List Entry × Key × Frame) (installed : Record) (lacking : Lacking)
      → HasBank before config installed
      → IsUnauthentic (key_bytes config.1) (bank_in config.2 before.flash.reads installed) lacking
      → StartsNothing before (Booted (ends.NotAuthentic lacking) (lacking_line lacking))
  -- status 18, `unknown component I`
  AtComponents : (config : List Entry × Key × Frame) (installed : Record) (component : ℕ)
      → HasBank before config installed
      → IsUnknown config.0 (key_bytes config.1) (bank_in config.2 before.flash.reads installed)
      component
      → StartsNothing before
      (Booted (ends.UnknownComponent component) (number_line (codes "unknown component") component))

-- The invocation procedure of the recorded manifest was played to this end. Status 0, `ended`; 6, `stopped at P: WHY`, where a
-- condition failed or a directive could not be done; and 7, 8 or 10 where an object failed in a directive.
pub record Played (launched now : Launching) (before after : Outside) (ended : Ended)
    : Type 0 where
  pub layout : List Entry
  pub key : Key
  pub frame : Frame
  pub config : Holds before.flash (layout, key, frame)
  pub end : PlanEnd
  pub plays :
      PlaysBoot frame layout key before.files
      (device_at before.flash.reads launched.launches) (device_at after.flash.reads now.launches)
      end
  pub ends_so : ended ≡ Booted (end_of end) (boot_line (end_of end))

-- the flash failed outside of the procedure, status 8, or memory ran out, 11
abbrev pub IsNoAnswer : Ended → Type 0
IsNoAnswer (Answered (FaultOf objects.Flash)) = Unit {0}
IsNoAnswer (Answered NoMemory) = Unit {0}
IsNoAnswer (Booted ends.FlashFault lines) = Unit {0}
IsNoAnswer _ = ⊥

-- nothing was done but a look at the flash
abbrev pub OnlyLooked : Launching → Launching → Outside → Outside → Type 0
OnlyLooked launched now before after = (now ≡ launched) × Looks before after

pub record BootEndLaws : Type 0 where
  -- each end has its cause
  pub only : (launched now : Launching) (before after : Outside) (ended : Ended)
      → IsTrue before.flash.told → IsTrue launched.told
      → Comes begins_boot (λ task. RunBoot ≡ task) launched now before after ended
      → StartsNothing before ended ⊎ (Played launched now before after ended ⊎ IsNoAnswer ended)
  -- where a cause to start nothing stands, each end is that one, unless the flash failed or memory ran out
  pub always : (launched now : Launching) (before after : Outside) (ended other : Ended)
      → IsTrue before.flash.told → IsTrue launched.told → HasBytes before
      → StartsNothing before ended
      → Comes begins_boot (λ task. RunBoot ≡ task) launched now before after other
      → (other ≡ ended) ⊎ IsNoAnswer other
  -- and where a manifest is started, each end is that of its play
  pub started : (launched now : Launching) (before after : Outside) (ended : Ended)
      → IsTrue before.flash.told → IsTrue launched.told → HasBytes before → HasStart before
      → Comes begins_boot (λ task. RunBoot ≡ task) launched now before after ended
      → Played launched now before after ended ⊎ IsNoAnswer ended
  -- status 11 comes before anything is launched or written alone
  pub starved : (launched now : Launching) (before after : Outside) (ended : Ended)
      → Comes begins_boot (λ task. RunBoot ≡ task) launched now before after ended
      → ended_status ended ≡ 11 → OnlyLooked launched now before after
