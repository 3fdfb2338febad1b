-- Laws of `run update` before it begins: what follows from its stages over a host and a flash that tell.
use Rattle.std.specs.Prelude.{ℕ, IsTrue, List}
use Rattle.flash_layout.specs.declared.frame.Frame.{Frame}
use Rattle.flash_layout.specs.declared.key.Key.{Key}
use Rattle.flash_layout.specs.declared.layout.Entry.{Entry}
use Rattle.suit_cli.specs.declared.reply.Reply.{Reply}
use Rattle.suit_cli.specs.Outside.{Outside}
use Rattle.suit_cli.specs.Stages.{Says}
use Rattle.suit_cli.specs.Inputs.{longest_file, IsRead}
use Rattle.suit_cli.specs.Installed.{Holds}
use Rattle.suit_cli.specs.Acceptance.{Accepted, IsAccepted}
use Rattle.suit_cli.specs.CommandCauses.{SameButPath}
use Rattle.suit_cli.specs.Commands.{begins_update}
use Rattle.suit_cli.specs.UpdateCauses.{UpdateSays}

pub record UpdateLaws : Type 0 where
  -- each reply has its cause
  pub only : (name : List ℕ) (before after : Outside) (reply : Reply)
      → begins_update name before after (Says reply) → UpdateSays name before reply
  -- where a cause stands, each answer that is neither a fault nor running out of memory is its reply
  pub always : (name : List ℕ) (before after : Outside) (reply other : Reply) → IsTrue before.told
      → IsTrue before.flash.told → UpdateSays name before reply
      → begins_update name before after (Says other) → SameButPath reply other
  -- and none is a reply where the bytes of the file are accepted
  pub accepted : (name : List ℕ) (before after : Outside) (config : List Entry × Key × Frame)
      (bytes : List ℕ) (a : Accepted) (reply : Reply)
      → IsTrue before.told
      → IsTrue before.flash.told → Holds before.flash config
      → IsRead longest_file name before bytes
      → IsAccepted config.2 config.0 config.1 bytes a
      → begins_update name before after (Says reply) → ⊥
