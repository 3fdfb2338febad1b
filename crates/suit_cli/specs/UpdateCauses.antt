-- Where `run update` stops before it begins, and with which reply.
use Rattle.std.specs.Prelude.{ℕ, List}
use Rattle.flash_layout.specs.declared.frame.Frame.{Frame}
use Rattle.flash_layout.specs.declared.key.Key.{Key}
use Rattle.flash_layout.specs.declared.layout.Entry.{Entry}
use Rattle.suit_cli.specs.declared.reply.Reply.{Reply}
use Rattle.suit_cli.specs.Outside.{Outside}
use Rattle.suit_cli.specs.Inputs.{longest_file, IsRead, IsUnread}
use Rattle.suit_cli.specs.Installed.{Holds, HoldsNone}
use Rattle.suit_cli.specs.Acceptance.{IsDeclined}

pub data UpdateSays (name : List ℕ) (before : Outside) (reply : Reply) : Type 0 where
  -- status 13, `blank` or `bad config`
  AtConfig : HoldsNone before.flash reply → UpdateSays name before reply
  -- status 20, `absent NAME`, or 21, `too long NAME`
  AtFile : (config : List Entry × Key × Frame) → Holds before.flash config
      → IsUnread longest_file name before reply → UpdateSays name before reply
  AtBytes : (config : List Entry × Key × Frame) (bytes : List ℕ) → Holds before.flash config
      → IsRead longest_file name before bytes
      → IsDeclined config.2 config.0 config.1 bytes reply → UpdateSays name before reply
