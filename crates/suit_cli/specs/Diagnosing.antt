-- The stages of `diag FILE`: the one item that the file spells (RFC 8949, section 4.2.1), and its notation (section 8).
use Rattle.std.specs.Prelude.{ℕ, List, ◌++◌, codes}
use Rattle.cbor_diag.specs.Notation.{notation_of}
use Rattle.det_cbor.specs.DataItem.{DataItem, Spells}
use Rattle.suit_params.specs.declared.refusal.Refusal.{Refusal}
use Rattle.suit_params.specs.Refusing.{Refuses, RefusesWhole}
use Rattle.suit_cli.specs.declared.reply.Reply.{Reply}
use Rattle.suit_cli.specs.declared.reply.Outcome.TheVariants as outcomes
use Rattle.suit_cli.specs.Envelopes.{AreBytes, IsRefused}
use Rattle.suit_cli.specs.Replies.{IsReply}
use Rattle.suit_cli.specs.Stages.{Stage, judging}

-- an item of any form will do
abbrev pub RefusesNone : Refuses
RefusesNone place x refusal = ⊥

-- the bytes are refused as one item: they do not begin with one, or more bytes follow it
abbrev pub RefusesItem : List ℕ → Refusal → Type 0
RefusesItem bytes refusal = RefusesWhole RefusesNone 0 bytes refusal

abbrev pub item_in : List ℕ → Stage DataItem
item_in bytes =
    judging (λ x. Spells x bytes) (λ reply. AreBytes bytes × IsRefused (RefusesItem bytes) reply)

-- the notation and a line feed
abbrev pub IsNotated : DataItem → Reply → Type 0
IsNotated x reply = IsReply reply outcomes.Done (notation_of x ++ codes "\n")
