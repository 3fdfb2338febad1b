-- Where `run init` and `run status` stop, and with which reply: what follows from their stages.
use Rattle.std.specs.Prelude.{◌≡◌, ◌⊎◌, ℕ, IsTrue, List, [], ◌∷◌, ◌++◌, codes}
use Rattle.flash_layout.specs.declared.frame.Frame.{Frame}
use Rattle.flash_layout.specs.declared.key.Key.{Key}
use Rattle.flash_layout.specs.declared.layout.Entry.{Entry}
use Rattle.flash_layout.specs.declared.slot.Record.{Record}
use Rattle.flash_layout.specs.Formats.{IsFormatted}
use Rattle.suit_cli.specs.declared.reply.Reply.{Reply}
use Rattle.suit_cli.specs.declared.reply.Object.TheVariants as objects
use Rattle.suit_cli.specs.declared.reply.Outcome.TheVariants as outcomes
use Rattle.suit_cli.specs.Replies.{IsReply}
use Rattle.suit_cli.specs.Outside.{Outside, Asks, AsksFirst, IsStill}
use Rattle.suit_cli.specs.Stages.{Ending, Says, FaultOf, NoMemory}
use Rattle.suit_cli.specs.Inputs.{longest_device, IsRead, IsUnread, IsKey, IsNoKey}
use Rattle.suit_cli.specs.Devices.{IsDevice, IsNoDevice, key_of}
use Rattle.suit_cli.specs.Formatting.{IsShut, IsInUse}
use Rattle.suit_cli.specs.Installed.{Holds, HoldsNone, IsInstalled, IsNothing, component_lines, record_lines}
use Rattle.suit_cli.specs.Commands.{inits, tells_status}

-- ---- `run init DEVICE KEY`

-- the first of these stops it
pub data InitSays (device key_name : List ℕ) (before : Outside) (reply : Reply) : Type 0 where
  -- status 14, `not blank`
  AtGate : IsInUse before.flash reply → InitSays device key_name before reply
  -- status 20, `absent NAME`, or 21, `too long NAME`
  AtDevice : IsShut before.flash → IsUnread longest_device device before reply
      → InitSays device key_name before reply
  -- status 3, `bad json` or what is wrong in it
  AtDescription : (bytes : List ℕ) → IsShut before.flash → IsRead longest_device device before bytes
      → IsNoDevice before.flash.size bytes reply
      → InitSays device key_name before reply
  -- status 20, 21, or 3, `empty key`
  AtKey : (bytes : List ℕ) (layout : List Entry) (frame : Frame) → IsShut before.flash
      → IsRead longest_device device before bytes → IsDevice before.flash.size bytes layout frame
      → IsNoKey key_name before reply → InitSays device key_name before reply
  -- status 0, `ready`
  AtFormat : (bytes : List ℕ) (layout : List Entry) (frame : Frame) (key : List ℕ)
      → IsShut before.flash → IsRead longest_device device before bytes
      → IsDevice before.flash.size bytes layout frame → IsKey key_name before key
      → IsReply reply outcomes.Done (codes "ready\n") → InitSays device key_name before reply

-- the described layout and the key stand in the flash, no record, and each slot is empty
pub record IsReady (device key_name : List ℕ) (before after : Outside) : Type 0 where
  pub bytes : List ℕ
  pub layout : List Entry
  pub frame : Frame
  pub key : List ℕ
  pub holds : IsRead longest_device device before bytes
  pub describes : IsDevice before.flash.size bytes layout frame
  pub has_key : IsKey key_name before key
  pub formatted : IsFormatted frame before.flash.size layout (key_of key) after.flash.reads

pub record InitLaws : Type 0 where
  -- each reply has its cause
  pub only : (device key_name : List ℕ) (before after : Outside) (reply : Reply)
      → inits device key_name before after (Says reply) → InitSays device key_name before reply
  -- and where a cause stands, each answer that is neither a fault nor running out of memory is its reply
  pub always : (device key_name : List ℕ) (before after : Outside) (reply other : Reply)
      → IsTrue before.told → IsTrue before.flash.told
      → InitSays device key_name before reply
      → inits device key_name before after (Says other) → other ≡ reply
  -- where it is done, the flash is ready
  pub ready : (device key_name : List ℕ) (before after : Outside) (reply : Reply)
      → IsTrue before.flash.told → inits device key_name before after (Says reply)
      → reply.outcome ≡ outcomes.Done → IsReady device key_name before after
  -- otherwise, and after memory ran out, it is as it was
  pub still : (device key_name : List ℕ) (before after : Outside) (reply : Reply)
      → inits device key_name before after (Says reply)
      → (reply.outcome ≡ outcomes.Done → ⊥) → IsStill before.flash after.flash
  pub starved : (device key_name : List ℕ) (before after : Outside)
      → inits device key_name before after NoMemory → IsStill before.flash after.flash
  -- the description and then the key alone are asked for, and both where it is done
  pub asks : (device key_name : List ℕ) (before after : Outside) (ending : Ending)
      → inits device key_name before after ending
      → AsksFirst (device ∷ key_name ∷ []) before after
  pub asks_both : (device key_name : List ℕ) (before after : Outside) (reply : Reply)
      → inits device key_name before after (Says reply) → reply.outcome ≡ outcomes.Done
      → Asks (device ∷ key_name ∷ []) before after
  -- a fault of the flash comes before both or behind both
  pub faults : (device key_name : List ℕ) (before after : Outside)
      → inits device key_name before after (FaultOf objects.Flash)
      → Asks [] before after ⊎ Asks (device ∷ key_name ∷ []) before after

-- ---- `run status`

pub data StatusSays (before : Outside) (reply : Reply) : Type 0 where
  -- status 13, `blank` or `bad config`
  AtConfig : HoldsNone before.flash reply → StatusSays before reply
  -- status 15, `nothing installed`
  AtRecord : (config : List Entry × Key × Frame) → Holds before.flash config
      → IsNothing config.2 before.flash reply → StatusSays before reply
  -- status 0, and the lines
  AtLines : (config : List Entry × Key × Frame) (installed : Record) (lines : List ℕ)
      → Holds before.flash config → IsInstalled config.2 before.flash installed
      → (IsTrue before.flash.told
      → lines ≡ component_lines 0 config.0 installed.active before.flash.reads)
      → IsReply reply outcomes.Done (record_lines installed ++ lines) → StatusSays before reply

pub record StatusLaws : Type 0 where
  pub only : (before after : Outside) (reply : Reply) → tells_status before after (Says reply)
      → StatusSays before reply
  pub always : (before after : Outside) (reply other : Reply) → IsTrue before.flash.told
      → StatusSays before reply → tells_status before after (Says other)
      → other ≡ reply
  pub still : (before after : Outside) (reply : Reply) → tells_status before after (Says reply)
      → IsStill before.flash after.flash
