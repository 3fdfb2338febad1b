-- Laws of `show FILE`: what follows from its stages over a host that tells.
use Rattle.std.specs.Prelude.{◌≡◌, ℕ, IsTrue, List, [], ◌∷◌}
use Rattle.suit_cli.specs.declared.reply.Object.{Object}
use Rattle.suit_cli.specs.declared.reply.Reply.{Reply}
use Rattle.suit_cli.specs.Outside.{Outside, Asks, MayAsk}
use Rattle.suit_cli.specs.Stages.{Says, FaultOf, at_host}
use Rattle.suit_cli.specs.Commands.{describes}
use Rattle.suit_cli.specs.DescribingCauses.{DescribingSays}

pub record DescribingLaws : Type 0 where
  -- each reply has its cause
  pub only : (name : List ℕ) (before after : Outside) (reply : Reply)
      → describes name before after (Says reply) → DescribingSays name before reply
  -- and where a cause stands, each answer that is neither a fault nor running out of memory is its reply
  pub always : (name : List ℕ) (before after : Outside) (reply other : Reply) → IsTrue before.told
      → DescribingSays name before reply
      → describes name before after (Says other) → other ≡ reply
  -- the file alone is asked for; and only the host faults, at the file
  pub asks : (name : List ℕ) (before after : Outside) (reply : Reply)
      → describes name before after (Says reply) → Asks (name ∷ []) before after
  pub faults : (name : List ℕ) (before after : Outside) (object : Object)
      → describes name before after (FaultOf object) → at_host (MayAsk name) object before after
