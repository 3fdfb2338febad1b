-- Where `diag FILE` stops, and with which reply: what follows from its stages over a host that tells.
use Rattle.std.specs.Prelude.{◌≡◌, ℕ, IsTrue, List, [], ◌∷◌}
use Rattle.det_cbor.specs.DataItem.{DataItem, Spells}
use Rattle.suit_cli.specs.declared.reply.Object.{Object}
use Rattle.suit_cli.specs.declared.reply.Outcome.TheVariants as outcomes
use Rattle.suit_cli.specs.declared.reply.Reply.{Reply}
use Rattle.suit_cli.specs.Outside.{Outside, Asks, MayAsk}
use Rattle.suit_cli.specs.Stages.{Says, FaultOf, at_host}
use Rattle.suit_cli.specs.Inputs.{longest_file, IsRead, IsUnread}
use Rattle.suit_cli.specs.Envelopes.{AreBytes, IsRefused}
use Rattle.suit_cli.specs.Diagnosing.{RefusesItem, IsNotated}
use Rattle.suit_cli.specs.Commands.{checks, diagnoses}

-- the first of these stops it
pub data DiagSays (name : List ℕ) (before : Outside) (reply : Reply) : Type 0 where
  -- status 20, `absent NAME`, or 21, `too long NAME`
  BeforeItem : IsUnread longest_file name before reply → DiagSays name before reply
  -- status 3, `refused at P: WHY`
  AtItem : (bytes : List ℕ) → IsRead longest_file name before bytes → AreBytes bytes
      → IsRefused (RefusesItem bytes) reply → DiagSays name before reply
  -- status 0, and the notation
  AtNotation : (bytes : List ℕ) (x : DataItem) → IsRead longest_file name before bytes
      → Spells x bytes → IsNotated x reply → DiagSays name before reply

pub record DiagLaws : Type 0 where
  -- each reply has its cause
  pub only : (name : List ℕ) (before after : Outside) (reply : Reply)
      → diagnoses name before after (Says reply) → DiagSays name before reply
  -- and where a cause stands, each answer that is neither a fault nor running out of memory is its reply
  pub always : (name : List ℕ) (before after : Outside) (reply other : Reply) → IsTrue before.told
      → DiagSays name before reply
      → diagnoses name before after (Says other) → other ≡ reply
  -- where it prints no item, `check` says the same of the file
  pub as_check : (name : List ℕ) (before after checked : Outside) (reply other : Reply)
      → IsTrue before.told
      → diagnoses name before after (Says reply) → (reply.outcome ≡ outcomes.Done → ⊥)
      → checks name before checked (Says other) → other ≡ reply
  -- a notation tells the whole file: files that are printed alike are alike
  pub tells : (name other : List ℕ) (before after others_before others_after : Outside)
      (reply : Reply)
      → IsTrue before.told → IsTrue others_before.told
      → diagnoses name before after (Says reply)
      → diagnoses other others_before others_after (Says reply)
      → reply.outcome ≡ outcomes.Done → before.files name ≡ others_before.files other
  -- the file alone is asked for; and only the host faults, at the file
  pub asks : (name : List ℕ) (before after : Outside) (reply : Reply)
      → diagnoses name before after (Says reply) → Asks (name ∷ []) before after
  pub faults : (name : List ℕ) (before after : Outside) (object : Object)
      → diagnoses name before after (FaultOf object) → at_host (MayAsk name) object before after
