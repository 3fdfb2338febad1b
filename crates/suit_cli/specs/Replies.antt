-- Replies: an outcome, and the lines that are put for it.
use Rattle.std.specs.Prelude.{◌≡◌, ℕ, List, Result, Ok, Err, IfOk, String, string_bytes}
use Rattle.std.specs.declared.alloc.AllocError.{AllocError}
use Rattle.std.specs.declared.alloc.Global.{Global}
use Rattle.suit_cli.specs.declared.reply.Reply.{Reply}
use Rattle.suit_cli.specs.declared.reply.Outcome.{Outcome}
use Rattle.suit_cli.specs.declared.reply.Outcome.TheVariants.{Refused}
use Rattle.suit_cli.specs.declared.reply.Stop.{Stop}
use Rattle.suit_cli.specs.declared.reply.Stop.TheVariants.{Declined, NoMemory}

pub record IsReply (reply : Reply) (outcome : Outcome) (text : List ℕ) : Type 0 where
  pub outcome_is : reply.outcome ≡ outcome
  pub text_is : reply.text ≡ text

-- the result is a reply of this outcome and these lines, unless memory ran out
abbrev pub Makes : Result Reply AllocError → Outcome → List ℕ → Type 0
Makes result outcome text = IfOk result (λ reply. IsReply reply outcome text)

-- the stop with a reply, if there was memory for it
abbrev pub stop_of : Result Reply AllocError → Stop
stop_of (Ok reply) = Declined reply
stop_of (Err e) = NoMemory

-- the stop that refuses the input by a line, if there was memory for it
abbrev pub refused_by : Result (String Global) AllocError → Stop
refused_by (Ok line) = Declined (record { outcome = Refused; text = string_bytes line })
refused_by (Err e) = NoMemory
