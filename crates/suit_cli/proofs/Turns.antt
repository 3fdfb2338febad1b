-- How the code's steps make one stage of several in turn.
use Rattle.std.proofs.Common.{inl, inr, Result, Ok, Err}
use Rattle.suit_cli.specs.declared.reply.Reply.{Reply}
use Rattle.suit_cli.specs.declared.reply.Stop.{Stop}
use Rattle.suit_cli.specs.declared.reply.Stop.TheVariants as stops
use Rattle.suit_cli.specs.Outside.{Outside}
use Rattle.suit_cli.specs.Stages.{Stage, Does, in_turn}

module _ {A B : Type 0} (first : Stage A) (next : A → Stage B) where
  -- it ends at the first
  pub stops_there : (before after : Outside) (stop : Stop) → Does first before after (Err stop) → Does (in_turn first next) before after (Err stop)
  stops_there before after (stops.Declined reply) d = inl d
  stops_there before after (stops.Fault object) f = inl f
  stops_there before after stops.NoMemory l = inr (inl l)

  -- or goes on to the next
  pub goes_on : (a : A) (before middle after : Outside) → first.gives before middle a → (result : Result B Stop) → Does (next a) middle after result
      → Does (in_turn first next) before after result
  goes_on a before middle after g (Ok b) d = record { value = a; middle = middle; given = g; later = d }
  goes_on a before middle after g (Err (stops.Declined reply)) d = inr (record { value = a; middle = middle; given = g; later = d })
  goes_on a before middle after g (Err (stops.Fault object)) d = inr (record { value = a; middle = middle; given = g; later = d })
  goes_on a before middle after g (Err stops.NoMemory) d = inr (inr (record { value = a; middle = middle; given = g; later = d }))

  -- which of them declined
  pub declined_by : (P : Type 0) (before after : Outside) (reply : Reply) → (first.declines before after reply → P)
      → ((a : A) (middle : Outside) → first.gives before middle a → (next a).declines middle after reply → P) → (in_turn first next).declines before after reply → P
  declined_by P before after reply here later (inl d) = here d
  declined_by P before after reply here later (inr d) = later d.value d.middle d.given d.later
