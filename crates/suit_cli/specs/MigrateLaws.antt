-- Where `run migrate` stops, and with which reply: what follows from its stage.
use Rattle.std.specs.Prelude.{◌≡◌, ℕ, IsTrue, codes}
use Rattle.rollback_record.specs.Migrating.{IsMigrated}
use Rattle.suit_cli.specs.declared.reply.Reply.{Reply}
use Rattle.suit_cli.specs.declared.reply.Outcome.TheVariants as outcomes
use Rattle.suit_cli.specs.Replies.{IsReply}
use Rattle.suit_cli.specs.Outside.{Outside, IsStill}
use Rattle.suit_cli.specs.Stages.{Says, NoMemory}
use Rattle.suit_cli.specs.Migrating.{IsLeft, MayMigrate, migrates}

pub data MigrateSays (base : ℕ) (before : Outside) (reply : Reply) : Type 0 where
  -- status 13, `blank` or `bad config`; status 22, `already layout 2`; or status 3, `base is outside` or `base overlaps slot
  -- of I`
  Leaves : IsLeft base before.flash reply → MigrateSays base before reply
  -- status 0, `migrated`
  Moves : MayMigrate base before.flash → IsReply reply outcomes.Done (codes "migrated\n")
      → MigrateSays base before reply

pub record MigrateLaws : Type 0 where
  -- each reply has its cause
  pub only : (base : ℕ) (before after : Outside) (reply : Reply)
      → migrates base before after (Says reply) → MigrateSays base before reply
  -- and where a cause stands, each answer that is neither a fault nor running out of memory is its reply
  pub always : (base : ℕ) (before after : Outside) (reply other : Reply) → IsTrue before.flash.told
      → MigrateSays base before reply → migrates base before after (Says other) → other ≡ reply
  -- where it is done, the flash has version 2 with that base, and tells what it told
  pub migrated : (base : ℕ) (before after : Outside) (reply : Reply)
      → IsTrue before.flash.told → migrates base before after (Says reply)
      → reply.outcome ≡ outcomes.Done → IsMigrated base before.flash.reads after.flash.reads
  -- otherwise, and after memory ran out, it is as it was
  pub still : (base : ℕ) (before after : Outside) (reply : Reply)
      → migrates base before after (Says reply)
      → (reply.outcome ≡ outcomes.Done → ⊥) → IsStill before.flash after.flash
  pub starved : (base : ℕ) (before after : Outside)
      → migrates base before after NoMemory → IsStill before.flash after.flash
